use Rattle.std.proofs.Common.{◌≡◌, ◌≤◌, ◌++◌, List, ℕ, length, take, slice_range, ap, ◌∙◌, arith, length-take-le}
use Rattle.byte_streams.proofs.WindowLemmas.{refilled}
use Rattle.byte_streams.proofs.window.Window.take_from.Goals as goal

pub returns-in-Ok-clause-ok : goal.returns-in-Ok-clause-ok
returns-in-Ok-clause-ok g c =
    let bytes = c.self.inside.bytes in
    let moved = c.move_to_front-self-inside.new.bytes in
    let end = c.move_to_front-self-inside.result in
    let out = c.take.new.out in
    let count = c.in-Ok.count in
    let fits : count ≤ length out = omega (arith, c.in-Ok.ensures.within, c.take.auto.out) in
    let full : length moved ≡ length bytes.items = omega (arith, c.move_to_front-self-inside.auto.bytes, ap (λ (xs : List ℕ). length xs) c.as_mut_slice.ensures.value) in
    let within : end ≤ length moved = omega (arith, full, c.move_to_front-self-inside.ensures.value, c.self.invariant) in (
      take count out,
      length-take-le count out fits,
      refilled bytes moved c.as_mut_slice-2.result.now out end _ count full c.as_mut_slice-2.ensures.value c.take.auto.out within fits
          ∙ ap (λ (held : List ℕ). held ++ take count out) (c.move_to_front-self-inside.ensures.moved ∙ ap (λ (xs : List ℕ). slice_range xs c.self.inside.start c.self.inside.end) c.as_mut_slice.ensures.value ∙ c.self.view_is),
      c.in-Ok.ensures.ok,
    )

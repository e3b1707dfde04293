use Rattle.std.proofs.Common.{◌≡◌, ◌≤◌, ◌<◌, ◌+◌, false, true, ap, sym, ◌∙◌, length, arith}
use Rattle.std.proofs.lemmas.List.{length-map}
use Rattle.frame_store.specs.Model.{bytes_in}
use Rattle.event_dispatch.specs.Frames.{trigger_in}
use Rattle.event_dispatch.proofs.FramesLemmas.{few_bytes}
use Rattle.event_dispatch.proofs.late.Late.push.Goals as goal

pub unreachable-requires : goal.unreachable-requires
unreachable-requires c =
    let old = c.self.inside.frames in
    let count : length old.parts ≡ length c.args.self.now = sym (length-map old.parts trigger_in) ∙ ap length c.self.view_is in
    let fewer : length old.parts < old.most = omega (arith, count, c.requires, c.self.invariant.0) in
    let fits : bytes_in old.parts + length c.as_slice.result.now ≤ old.room = omega (arith, few_bytes old.parts c.self.invariant.2, count, c.requires, c.as_slice.ensures.fits, c.self.invariant.1) in
    let bad : false ≡ true = c.in-Err.ensures.room.1 (fewer, fits) in
    grind (arith, bad)

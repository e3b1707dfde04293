use Rattle.std.proofs.Common.{◌≡◌, ◌+◌, ℕ, true, false, Bool, List, [], sym, ap, ◌∙◌, arith, drop, ◌==◌, ◌||◌, slice_index_or}
use Rattle.std.specs.List.{list_any}
use Rattle.event_dispatch.proofs.FramesLemmas.{any_from, any_past}
use Rattle.event_dispatch.proofs.waiting.some_begins.Goals as goal

abbrev begins : ℕ → List ℕ → Bool
begins shelf part = slice_index_or part 0 0 == shelf

pub returns-then-get-shelf : goal.returns-then-get-shelf
returns-then-get-shelf c =
    let parts = c.args.frames.now.parts in let at = c.loop-at.at in let shelf = c.args.shelf.0 in
    let here : begins shelf (slice_index_or parts at []) ≡ true = grind (arith, c.get.ensures, c.if-get-shelf.true) in
    sym (sym c.loop-at.invariant ∙ any_from (begins shelf) parts at (omega (arith, c.loop-at-test.true, c.len-at-end.ensures)) ∙ ap (λ b. b || list_any (begins shelf) (drop (at + 1) parts)) here)

pub loop-at-preserved : goal.loop-at-preserved
loop-at-preserved c =
    let parts = c.args.frames.now.parts in let at = c.loop-at.at in let shelf = c.args.shelf.0 in
    let here : begins shelf (slice_index_or parts at []) ≡ false = grind (arith, c.get.ensures, c.if-get-shelf.false) in
    sym (any_from (begins shelf) parts at (omega (arith, c.loop-at-test.true, c.len-at-end.ensures)) ∙ ap (λ b. b || list_any (begins shelf) (drop (at + 1) parts)) here) ∙ c.loop-at.invariant

pub returns : goal.returns
returns c =
    sym (any_past (begins c.args.shelf.0) c.args.frames.now.parts c.loop-at.at (omega (arith, c.loop-at-test.false, c.len-at-end.ensures))) ∙ c.loop-at.invariant

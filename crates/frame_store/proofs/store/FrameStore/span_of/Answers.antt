-- The walk stands at each frame's place in the line, and the length that is read there is the frame's own, so no sum is too great.
use Rattle.std.proofs.Common.{arith, subst, sym, ap, ◌∙◌, ◌≡◌, ◌+◌, ◌^◌, ◌≤◌, ◌<◌, [], length, take, drop, get_or, ℕ, List}
use Rattle.frame_store.specs.Model.{Frames, AreKept, length_in, laid, in_line}
use Rattle.frame_store.proofs.InLineLemmas.{in_line-none}
use Rattle.frame_store.proofs.KeptLemmas.{fits_at, length_read, next_place}
use Rattle.frame_store.proofs.store.FrameStore.span_of.Goals as goal
use Rattle.frame_store.proofs.store.FrameStore.span_of.Goals.{After-as_slice-block}

-- the frame at a place lies in the block
fits : (c : After-as_slice-block) (i : ℕ) → i < length c.args.self.now.parts
    → (length (in_line (take i c.args.self.now.parts)) + length (laid (get_or c.args.self.now.parts i [])) ≤ length c.as_slice-block.result.now)
    × (8 ≤ length (laid (get_or c.args.self.now.parts i []))) × (length c.as_slice-block.result.now < 2 ^ 63)
fits c i inside =
    let s = c.self.inside in let kept = subst (λ (frames : Frames). AreKept frames s.used s.block.items) c.self.view_is c.self.invariant.0 in
    let fit = fits_at c.args.self.now s.used s.block.items kept i inside in let long = ap length c.as_slice-block.ensures.value in
    (omega (arith, fit, long), omega (arith, fit), omega (arith, long, s.block.ok, s.block.small))

-- the length that is read at its place is its own
reads : (c : After-as_slice-block) (i start : ℕ) → i < length c.args.self.now.parts → start ≡ length (in_line (take i c.args.self.now.parts))
    → 8 + length_in (drop start c.as_slice-block.result.now) ≡ length (laid (get_or c.args.self.now.parts i []))
reads c i start inside place =
    let s = c.self.inside in let kept = subst (λ (frames : Frames). AreKept frames s.used s.block.items) c.self.view_is c.self.invariant.0 in
    ap (λ (bytes : List ℕ). 8 + length_in (drop start bytes)) c.as_slice-block.ensures.value ∙ ap (λ (k : ℕ). 8 + length_in (drop k s.block.items)) place
    ∙ length_read c.args.self.now.parts i s.used s.block.items kept.in_place kept.inside (omega (arith, s.block.ok, s.block.small)) inside

pub loop-passed-init : goal.loop-passed-init
loop-passed-init c = sym (ap length in_line-none)

pub length_at-requires : goal.length_at-requires
length_at-requires c =
    let fit = fits (goal.at.length_at-requires c).After-as_slice-block c.loop-passed._passed (omega arith) in record { in_bounds = omega (arith, fit, c.loop-passed.invariant) }

pub overflow_add-start : goal.overflow_add-start
overflow_add-start c =
    let i = c.loop-passed._passed in let now = (goal.at.overflow_add-start c).After-as_slice-block in
    let fit = fits now i (omega arith) in let read = reads now i c.loop-passed.start (omega arith) c.loop-passed.invariant in
    omega (arith, fit, read, c.length_at.ensures)

pub overflow_add-start-in-loop-passed : goal.overflow_add-start-in-loop-passed
overflow_add-start-in-loop-passed c =
    let i = c.loop-passed._passed in let now = (goal.at.overflow_add-start-in-loop-passed c).After-as_slice-block in
    let fit = fits now i (omega arith) in let read = reads now i c.loop-passed.start (omega arith) c.loop-passed.invariant in
    omega (arith, fit, read, c.length_at.ensures, c.loop-passed.invariant)

pub loop-passed-preserved : goal.loop-passed-preserved
loop-passed-preserved c =
    let i = c.loop-passed._passed in let now = (goal.at.loop-passed-preserved c).After-as_slice-block in
    let read = reads now i c.loop-passed.start (omega arith) c.loop-passed.invariant in
    omega (arith, read, c.length_at.ensures, c.loop-passed.invariant, next_place c.args.self.now.parts i (omega arith))

-- where the walk ends
ends : (parts : List (List ℕ)) (passed at start : ℕ) → start ≡ length (in_line (take passed parts)) → passed ≡ at → start ≡ length (in_line (take at parts))
ends parts passed at start place last = place ∙ ap (λ (i : ℕ). length (in_line (take i parts))) last

pub overflow_add-result : goal.overflow_add-result
overflow_add-result c =
    let fit = fits (goal.at.overflow_add-result c).After-as_slice-block c.args.at c.requires in
    let place = ends c.args.self.now.parts c.loop-passed._passed c.args.at c.loop-passed.start c.loop-passed.invariant (omega arith) in
    omega (arith, fit, place)

pub length_at-requires-2 : goal.length_at-requires-2
length_at-requires-2 c =
    let fit = fits (goal.at.length_at-requires-2 c).After-as_slice-block c.args.at c.requires in
    let place = ends c.args.self.now.parts c.loop-passed._passed c.args.at c.loop-passed.start c.loop-passed.invariant (omega arith) in
    record { in_bounds = omega (arith, fit, place) }

pub overflow_add-result-2 : goal.overflow_add-result-2
overflow_add-result-2 c =
    let now = (goal.at.overflow_add-result-2 c).After-as_slice-block in
    let place = ends c.args.self.now.parts c.loop-passed._passed c.args.at c.loop-passed.start c.loop-passed.invariant (omega arith) in
    let fit = fits now c.args.at c.requires in let read = reads now c.args.at c.loop-passed.start c.requires place in
    omega (arith, fit, read, c.length_at-2.ensures, place)

pub returns-clause-end : goal.returns-clause-end
returns-clause-end c =
    let place = ends c.args.self.now.parts c.loop-passed._passed c.args.at c.loop-passed.start c.loop-passed.invariant (omega arith) in
    let read = reads (goal.at.returns-clause-end c).After-as_slice-block c.args.at c.loop-passed.start c.requires place in
    omega (arith, read, c.length_at-2.ensures)

use Rattle.std.proofs.Common.{rules, arith, subst, ap, ◌∙◌, ◌+◌, ◌-◌, ◌≤◌, length, take, drop, List, ℕ}
use Rattle.frame_store.specs.Model.{Frames, AreKept}
use Rattle.frame_store.proofs.KeptLemmas.{fits_at, got}
use Rattle.frame_store.proofs.store.FrameStore.get.Goals as goal
use Rattle.frame_store.proofs.store.FrameStore.get.Goals.{After-as_slice}

bounds : (c : After-as_slice) → (c.span_of-start.result.0 + 8 ≤ c.span_of-start.result.1) × (c.span_of-start.result.1 ≤ length c.as_slice.result.now)
bounds c =
    let s = c.self.inside in let kept = subst (λ (frames : Frames). AreKept frames s.used s.block.items) c.self.view_is c.self.invariant.0 in
    let fits = fits_at c.args.self.now s.used s.block.items kept c.args.at c.requires in
    (omega (arith, fits, c.span_of-start.ensures), omega (arith, fits, c.span_of-start.ensures, ap length c.as_slice.ensures.value))

pub overflow_add-result : goal.overflow_add-result
overflow_add-result c = let b = bounds (goal.at.overflow_add-result c).After-as_slice in omega (arith, b)

pub slice_bounds-result-count : goal.slice_bounds-result-count
slice_bounds-result-count c = let b = bounds (goal.at.slice_bounds-result-count c).After-as_slice in omega (arith, b)

pub slice_bounds-result-start : goal.slice_bounds-result-start
slice_bounds-result-start c = let b = bounds (goal.at.slice_bounds-result-start c).After-as_slice in search (rules, b)

pub slice_bounds-result-end : goal.slice_bounds-result-end
slice_bounds-result-end c = let b = bounds (goal.at.slice_bounds-result-end c).After-as_slice in search (rules, b)

pub returns : goal.returns
returns c =
    let s = c.self.inside in let kept = subst (λ (frames : Frames). AreKept frames s.used s.block.items) c.self.view_is c.self.invariant.0 in
    let span = c.span_of-start.result in let says = c.span_of-start.ensures in
    ap (λ (bytes : List ℕ). take (span.1 - (span.0 + 8)) (drop (span.0 + 8) bytes)) c.as_slice.ensures.value
    ∙ got c.args.self.now.parts c.args.at s.used span.0 span.1 s.block.items kept.in_place c.requires says.start says.end

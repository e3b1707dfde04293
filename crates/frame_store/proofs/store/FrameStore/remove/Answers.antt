use Rattle.std.proofs.Common.{rules, arith, subst, ap, ◌∙◌, sym, ◌≡◌, ◌-◌, ◌≤◌, length, remove, ℕ}
use Rattle.frame_store.specs.Model.{Frames, with_parts, AreKept}
use Rattle.frame_store.proofs.InLineLemmas.{count_of}
use Rattle.frame_store.proofs.KeptLemmas.{held, kept, fits_at, removed, bytes_in_removed, length_removed}
use Rattle.frame_store.proofs.store.FrameStore.remove.Goals as goal
use Rattle.frame_store.proofs.store.FrameStore.remove.Goals.{After-span_of-start, After-close_gap}

bounds : (c : After-span_of-start) → (c.span_of-start.result.0 ≤ c.span_of-start.result.1) × (c.span_of-start.result.1 ≤ c.self.inside.used)
bounds c =
    let s = c.self.inside in let before = subst (λ (frames : Frames). AreKept frames s.used s.block.items) c.self.view_is c.self.invariant.0 in
    let fits = fits_at c.args.self.now s.used s.block.items before c.args.at c.requires in
    (omega (arith, fits, c.span_of-start.ensures), omega (arith, fits, c.span_of-start.ensures))

-- the others are what the store holds afterwards
others : (c : After-close_gap)
    → (let s = c.self.inside in let span = c.span_of-start.result in let next = c.close_gap.new.block.items in let now = held (s.count - 1) next s.most s.room in
    (now ≡ record { parts = remove c.args.self.now.parts c.args.at; most = s.most; room = s.room }) × AreKept now (s.used - (span.1 - span.0)) next)
others c =
    let s = c.self.inside in let old = c.args.self.now in let span = c.span_of-start.result in let says = c.span_of-start.ensures in let next = c.close_gap.new.block.items in
    let before = subst (λ (frames : Frames). AreKept frames s.used s.block.items) c.self.view_is c.self.invariant.0 in
    let fits = fits_at old s.used s.block.items before c.args.at c.requires in
    let counted : length old.parts ≡ s.count = sym (ap (λ (frames : Frames). length frames.parts) c.self.view_is) ∙ count_of s.count s.block.items in
    let most = ap (λ (frames : Frames). frames.most) c.self.view_is in let room = ap (λ (frames : Frames). frames.room) c.self.view_is in
    kept (remove old.parts c.args.at) (s.count - 1) (s.used - (span.1 - span.0)) s.most s.room next
    (removed old.parts c.args.at s.used span.0 span.1 s.block.items next before.in_place c.requires says.start says.end (omega (arith, fits, says)) before.inside c.close_gap.ensures.closed)
    (omega (arith, before.inside, c.close_gap.ensures.len))
    (length_removed old.parts c.args.at c.requires ∙ ap (λ (n : ℕ). n - 1) counted)
    (omega (arith, counted, before.few, most))
    (omega (arith, bytes_in_removed old.parts c.args.at c.requires, before.small, room))
    (omega (arith, c.self.invariant.0.roomy, c.close_gap.ensures.len))
    (omega (arith, c.close_gap.ensures.len, s.block.ok, s.block.small))

pub close_gap-requires-clause-in_order : goal.close_gap-requires-clause-in_order
close_gap-requires-clause-in_order c = bounds (goal.at.close_gap-requires-clause-in_order c).After-span_of-start

pub overflow_sub-self-2 : goal.overflow_sub-self-2
overflow_sub-self-2 c = let b = bounds (goal.at.overflow_sub-self-2 c).After-span_of-start in omega (arith, b)

pub overflow_sub-self-3 : goal.overflow_sub-self-3
overflow_sub-self-3 c =
    let s = c.self.inside in
    let counted : length c.args.self.now.parts ≡ s.count = sym (ap (λ (frames : Frames). length frames.parts) c.self.view_is) ∙ count_of s.count s.block.items in
    omega (arith, counted, c.requires)

pub invariant_of-self : goal.invariant_of-self
invariant_of-self c = let now = others (goal.at.invariant_of-self c).After-close_gap in (now.1, search rules, search rules, search rules)

pub returns : goal.returns
returns c =
    let now = others (goal.at.returns c).After-close_gap in
    now.0 ∙ ap (λ (frames : Frames). with_parts (remove c.args.self.now.parts c.args.at) frames) c.self.view_is

use Rattle.std.proofs.Common.{rules, arith, refl, subst, ap, ◌∙◌, sym, ◌≡◌, ◌+◌, ◌*◌, ◌≤◌, length, [], ◌∷◌, ◌++◌, List, ℕ}
use Rattle.frame_store.specs.Model.{Frames, with_parts, AreKept, bytes_in, length_bytes}
use Rattle.frame_store.proofs.InLineLemmas.{count_of, length-length_bytes}
use Rattle.frame_store.proofs.KeptLemmas.{held, kept, used_is, pushed, bytes_in_pushed, length_pushed}
use Rattle.frame_store.proofs.store.FrameStore.push.Goals as goal
use Rattle.frame_store.proofs.store.FrameStore.push.Goals.{then-self-via-then-self, then-self-via-else-self+then-part-self, After-write-2}

-- what stands there already, of the store as it is held
facts : (old : Frames) (count used most room : ℕ) (block : List ℕ) → held count block most room ≡ old → AreKept (held count block most room) used block
    → (length old.parts ≡ count) × (old.most ≡ most) × (old.room ≡ room) × (used ≡ count * 8 + bytes_in old.parts) × AreKept old used block
facts old count used most room block same before =
    let now = subst (λ (frames : Frames). AreKept frames used block) same before in
    let counted : length old.parts ≡ count = sym (ap (λ (frames : Frames). length frames.parts) same) ∙ count_of count block in (
      counted,
      sym (ap (λ (frames : Frames). frames.most) same),
      sym (ap (λ (frames : Frames). frames.room) same),
      used_is old used block now ∙ ap (λ (n : ℕ). n * 8 + bytes_in old.parts) counted,
      now,
    )

pub overflow_mul-bytes : goal.overflow_mul-bytes
overflow_mul-bytes c =
    let s = c.self.inside in let f = facts c.args.self.now s.count s.used s.most s.room s.block.items c.self.view_is c.self.invariant.0 in
    omega (arith, f.3, f.4.inside, s.block.ok, s.block.small)

pub overflow_sub-bytes : goal.overflow_sub-bytes
overflow_sub-bytes c =
    let s = c.self.inside in let f = facts c.args.self.now s.count s.used s.most s.room s.block.items c.self.view_is c.self.invariant.0 in
    omega (arith, f.3)

pub overflow_sub-self-inside : goal.overflow_sub-self-inside
overflow_sub-self-inside c =
    let s = c.self.inside in let f = facts c.args.self.now s.count s.used s.most s.room s.block.items c.self.view_is c.self.invariant.0 in
    omega (arith, f.2, f.3, f.4.small)

pub returns-then-self-clause-room : goal.returns-then-self-clause-room
returns-then-self-clause-room c =
    let s = c.self.inside in let f = facts c.args.self.now s.count s.used s.most s.room s.block.items c.self.view_is c.self.invariant.0 in
    elim c.then-self.branch [
      | then-self-via-then-self w ↦ grind (arith, f.0, f.1, f.2, f.3, w.if-self)
      | then-self-via-else-self+then-part-self w ↦ grind (arith, f.0, f.1, f.2, f.3, w.if-part-self)
    ]

pub write-requires : goal.write-requires
unfolding length_bytes
write-requires c =
    let s = c.self.inside in let f = facts c.args.self.now s.count s.used s.most s.room s.block.items c.self.view_is c.self.invariant.0 in
    let spelled : c.to_le_bytes.result ≡ length_bytes (length c.args.part.now) = c.to_le_bytes.ensures in
    record { in_bounds = omega (arith, ap length spelled, length-length_bytes (length c.args.part.now), f.1, f.2, f.3, f.4.roomy, c.if-self.false, c.if-part-self.false) }

-- the frames and the new one are what the store holds afterwards
longer : (c : After-write-2)
    → (let s = c.self.inside in let next = c.write-2.new.block.items in let now = held (s.count + 1) next s.most s.room in
    (now ≡ record { parts = c.args.self.now.parts ++ c.args.part.now ∷ []; most = s.most; room = s.room }) × AreKept now (s.used + 8 + length c.args.part.now) next)
unfolding length_bytes
longer c =
    let s = c.self.inside in let old = c.args.self.now in let part = c.args.part.now in let first = c.write.new.block.items in let next = c.write-2.new.block.items in
    let f = facts old s.count s.used s.most s.room s.block.items c.self.view_is c.self.invariant.0 in
    let spelled : c.to_le_bytes.result ≡ length_bytes (length part) = c.to_le_bytes.ensures in
    let fits : s.used + 8 + length part ≤ length s.block.items = omega (arith, f.1, f.2, f.3, f.4.roomy, c.if-self.false, c.if-part-self.false) in
    let long : length next ≡ length s.block.items = c.write-2.ensures.len ∙ c.write.ensures.len in
    kept (old.parts ++ part ∷ []) (s.count + 1) (s.used + 8 + length part) s.most s.room next
    (pushed old.parts part s.block.items first next c.to_le_bytes.result s.used f.4.in_place fits spelled c.write.ensures.written c.write-2.ensures.written c.write.ensures.len)
    (omega (arith, long, fits))
    (length_pushed old.parts part ∙ ap (λ (n : ℕ). n + 1) f.0)
    (omega (arith, c.if-self.false))
    (omega (arith, bytes_in_pushed old.parts part, f.3, c.if-part-self.false))
    (omega (arith, f.1, f.2, f.4.roomy, long))
    (omega (arith, long, s.block.ok, s.block.small))

pub invariant_of-self : goal.invariant_of-self
invariant_of-self c = let now = longer (goal.at.invariant_of-self c).After-write-2 in (now.1, search rules, search rules, search rules)

pub returns-clause-room : goal.returns-clause-room
returns-clause-room c =
    let s = c.self.inside in let f = facts c.args.self.now s.count s.used s.most s.room s.block.items c.self.view_is c.self.invariant.0 in
    (λ _. (omega (arith, f.0, f.1, c.if-self.false), omega (arith, f.2, f.3, c.if-part-self.false)), λ _. refl)

pub returns-clause-ok : goal.returns-clause-ok
returns-clause-ok c =
    let now = longer (goal.at.returns-clause-ok c).After-write-2 in
    now.0 ∙ ap (λ (frames : Frames). with_parts (c.args.self.now.parts ++ c.args.part.now ∷ []) frames) c.self.view_is

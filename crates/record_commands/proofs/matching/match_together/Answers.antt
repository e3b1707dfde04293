-- The bytes that were read say which of the records match; where the first byte that is wanted isn't among them, none does.
use Rattle.std.proofs.Common.{length, take_all, length-drop, ◌≡◌, ◌-◌, ◌*◌, ◌++◌, ◌∷◌, [], ℕ, Bool, List, All, cond, take, drop, filter, sym, ap, subst, ◌∙◌, arith}
use Rattle.list_laws.proofs.IfSomeLemmas.{if_some, if_some_at}
use Rattle.card_state.specs.Memory.{held_by}
use Rattle.file_model.specs.Records.{has_within}
use Rattle.record_commands.specs.Searching.{is_match, numbers_left, IsRecord}
use Rattle.record_commands.proofs.NumbersLeftLemmas.{among_more, matches_there, none_found, none_there, one_looked_at}
use Rattle.record_commands.proofs.SettledFileLemmas.{reads_held}
use Rattle.record_commands.proofs.matching.match_together.Goals as goal

pub returns-then-not-may_match-clause-found : goal.returns-then-not-may_match-clause-found
returns-then-not-may_match-clause-found g c =
    if_some (held_by g.S.Store c.args.store.now) _ (λ state is.
    none_found (is_match state c.args.file.now c.args.wanted.now) c.args.first c.args.count
    (none_there state c.args.file.now c.args.wanted.now c.read_together.new.out c.args.first c.args.count (if_some_at (held_by g.S.Store c.args.store.now) _ state c.in_ok-read_together.ensures.read is)
    (c.may_match.ensures c.if-not-may_match.true))
    c.args.is_forward c.args.found.now)

pub loop-left-preserved : goal.loop-left-preserved
loop-left-preserved g c =
    let now = c.loop-left.invariant in
    let held : List ℕ = c.read_together.new.out in
    let wanted : List ℕ = c.args.wanted.now in
    let number : ℕ = c.number_left-number.result in
    record {
      bound = omega (arith, now.bound);
      room = omega (arith, now.room, c.push_if_match.ensures.few, c.loop-left-test.true);
      among =
          subst (All (IsRecord c.args.file.now)) (sym c.push_if_match.ensures.found)
          (among_more (IsRecord c.args.file.now) _ c.loop-left.found number now.among
          (omega (arith, c.requires.target.of.from, c.number_left-number.ensures.from), omega (arith, c.requires.target.to, c.number_left-number.ensures.to)));
      seen = if_some (held_by g.S.Store c.read_together.new.store) _ (λ state is.
          let p : ℕ → Bool = is_match state c.args.file.now wanted in
          let known = if_some_at (held_by g.S.Store c.args.store.now) _ state c.in_ok-read_together.ensures.read (sym (reads_held _ _ _ c.read_together.ensures.reads) ∙ is) in
          let at : ℕ = c.from-in-loop-left.result * c.from-width.result in
          let there : has_within wanted (take c.from-width.result (take (length held - at) (drop at held))) ≡ p number =
          ap (λ (l : List ℕ). has_within wanted (take c.from-width.result l)) (take_all (length held - at) (drop at held) (omega (arith, length-drop at held)))
          ∙ ap (λ (w : ℕ). has_within wanted (take w (drop (c.from-in-loop-left.result * w) held))) c.from-width.ensures
          ∙ ap (λ (n : ℕ). has_within wanted (take c.args.file.now.width (drop (n * c.args.file.now.width) held))) c.from-in-loop-left.ensures
          ∙ matches_there state c.args.file.now wanted held c.args.first c.args.count number known c.number_left-number.ensures.from c.number_left-number.ensures.to in
          ap (λ (found : List ℕ). found ++ filter p (numbers_left c.args.is_forward c.args.first c.args.count (c.loop-left.left - 1)))
          (c.push_if_match.ensures.found
          ∙ ap (λ (b : Bool). c.loop-left.found ++ cond b (number ∷ []) []) there
          ∙ ap (λ (n : ℕ). c.loop-left.found ++ cond (p n) (n ∷ []) []) c.number_left-number.ensures.value)
          ∙ one_looked_at p c.loop-left.found c.args.is_forward c.args.first c.args.count c.loop-left.left (omega (arith, c.loop-left-test.true)) now.bound
          ∙ if_some_at (held_by g.S.Store c.read_together.new.store) _ state now.seen is);
    }

use Rattle.std.proofs.Common.{◌≡◌, ◌-◌, ◌++◌, ℕ, Bool, Option, List, sym, ap, ◌∙◌, arith, rules, filter}
use Rattle.list_laws.proofs.IfSomeLemmas.{if_some, if_some_at}
use Rattle.card_state.specs.Persistent.{Persistent}
use Rattle.card_state.specs.Memory.{held_by}
use Rattle.record_commands.specs.Searching.{is_match, numbers_left}
use Rattle.record_commands.proofs.NumbersLeftLemmas.{some_looked_at, none_left}
use Rattle.record_commands.proofs.SettledFileLemmas.{reads_held}
use Rattle.record_commands.proofs.matching.matches_of.Goals as goal

pub loop-left-preserved : goal.loop-left-preserved
loop-left-preserved g c =
    let now = c.loop-left.invariant in
    let before : Option Persistent = held_by g.S.Store c.args.store.now in
    record {
      bound = omega (arith, now.bound);
      room = omega (arith, now.room, c.match_together.ensures.few, c.loop-left-test.true);
      among = c.match_together.ensures.among;
      seen = if_some before _ (λ state is.
          let still : held_by g.S.Store c.loop-left.store ≡ before = reads_held _ _ _ now.reads in
          let p : ℕ → Bool = is_match state c.args.file.now c.args.wanted.now in
          let step = if_some_at (held_by g.S.Store c.loop-left.store) _ state c.in_ok-match_together.ensures.found (still ∙ is) in
          ap (λ (found : List ℕ). found ++ filter p (numbers_left c.args.is_forward 1 c.args.file.now.count (c.loop-left.left - c.min-size.result)))
          (step ∙ ap (λ (n : ℕ). c.loop-left.found ++ filter p (numbers_left c.args.is_forward n c.min-size.result c.min-size.result)) c.first_left-first.ensures.value)
          ∙ some_looked_at p c.loop-left.found c.args.is_forward c.args.file.now.count c.loop-left.left c.min-size.result now.bound (omega (arith, c.min-size.ensures))
          ∙ if_some_at before _ state now.seen is);
      reads = search rules;
    }

pub returns-clause-found : goal.returns-clause-found
returns-clause-found g c =
    let before : Option Persistent = held_by g.S.Store c.args.store.now in
    if_some before _ (λ state is.
    sym (none_left (is_match state c.args.file.now c.args.wanted.now) c.loop-left.found c.args.is_forward 1 c.args.file.now.count c.loop-left.left (omega (arith, c.loop-left-test.false)))
    ∙ if_some_at before _ state c.loop-left.invariant.seen is)

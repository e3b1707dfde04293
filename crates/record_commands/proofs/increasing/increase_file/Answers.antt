-- The sum was read from the state the store still has; it passes one state, that with the sum as newest record, and a fault leaves either.
use Rattle.std.proofs.Common.{◌≡◌, Option, Some, sym, ◌∙◌, true, [], ◌∷◌, Ok}
use Rattle.list_laws.proofs.IfSomeLemmas.{on_err, if_some, if_some_at}
use Rattle.card_state.specs.Persistent.{Persistent}
use Rattle.card_state.specs.Changing.{with_newest_record}
use Rattle.card_state.specs.Memory.{held_by}
use Rattle.card_state.specs.Changes.{PutNewest}
use Rattle.access_rules.specs.declared.rules.Op.TheVariants.{Increase}
use Rattle.file_model.specs.Access.{may}
use Rattle.file_model.specs.Outcomes.{settled_file}
use Rattle.file_model.specs.Records.{sum_to_write, increase_in}
use Rattle.card_commits.proofs.WritesAllLemmas.{put_after, put_or_not}
use Rattle.binary_commands.proofs.GivesLemmas.{left_by}
use Rattle.binary_commands.proofs.WritesLemmas.{puts_stopped, puts_nothing}
use Rattle.record_commands.proofs.SettledFileLemmas.{one_passes, one_changes, reads_held, increase_passed}
use Rattle.record_commands.proofs.increasing.increase_file.Given.{Over}
use Rattle.record_commands.proofs.increasing.increase_file.Goals.{In-Ok}
use Rattle.record_commands.proofs.increasing.increase_file.Goals as goal

passed : (g : Over) (c : In-Ok g) (state : Persistent) → held_by g.S.Store c.args.store.now ≡ Some state
    → (settled_file c.args.selection.now (increase_in state c.args.seen.now c.args.selection.now c.args.command.now c.args.file.now)).passed ≡ with_newest_record c.args.file.now.number c.in-Ok.sum state ∷ []
passed g c state is =
    let tested : Option Persistent = held_by g.S.Store c.is_allowed.new.store in
    let granted : true ≡ may state Increase c.args.seen.now c.args.file.now = sym c.if-not-branch.false ∙ if_some_at (held_by g.S.Store c.args.store.now) _ state c.in_ok-is_allowed.ensures.value is in
    let is_sum : sum_to_write state c.args.command.now c.args.file.now ≡ Ok c.in-Ok.sum = sym (if_some_at tested _ state c.in_ok-sum.ensures.value (reads_held _ _ _ c.is_allowed.ensures.reads ∙ is)) ∙ c.in-Ok.is in
    increase_passed state c.args.seen.now c.args.selection.now c.args.command.now c.args.file.now c.in-Ok.sum granted is_sum

pub returns-in_err-write_first-in-Ok-clause-passes : goal.returns-in_err-write_first-in-Ok-clause-passes
returns-in_err-write_first-in-Ok-clause-passes g c =
    let one = passed g (goal.at.returns-in_err-write_first-in-Ok-clause-passes g c).In-Ok in
    record {
      stopped = on_err c.from_residual-in_err-write_first-in-Ok.result (record {
        passes = if_some (held_by g.S.Store c.args.store.now) _ (λ state is.
            one_passes state (with_newest_record c.args.file.now.number c.in-Ok.sum state) _ _ (one state is)
            (left_by (held_by g.S.Store c.sum_to_write.new.store) _ state (with_newest_record c.args.file.now.number c.as_slice.result.now) (with_newest_record c.args.file.now.number c.in-Ok.sum)
            (reads_held _ _ _ c.sum_to_write.ensures.reads ∙ reads_held _ _ _ c.is_allowed.ensures.reads ∙ is)
            (λ i. with_newest_record c.args.file.now.number (c.as_slice.ensures.value i)) c.in_err-write_first-in-Ok.ensures.committed.whole));
        commits = c.in_err-write_first-in-Ok.ensures.committed.commits ∙ c.sum_to_write.ensures.reads.commits ∙ c.is_allowed.ensures.reads.commits;
      });
      still = if_some (held_by g.S.Store c.args.store.now) _ (λ state is none. absurd (one_changes _ _ (one state is) none));
    }

pub returns-in_ok-write_first-in-Ok-clause-passes : goal.returns-in_ok-write_first-in-Ok-clause-passes
returns-in_ok-write_first-in-Ok-clause-passes g c =
    let one = passed g (goal.at.returns-in_ok-write_first-in-Ok-clause-passes g c).In-Ok in
    record { stopped = tt; still = if_some (held_by g.S.Store c.args.store.now) _ (λ state is none. absurd (one_changes _ _ (one state is) none)) }

-- the sum is that of the clause
summed : (g : Over) (c : In-Ok g) (state : Persistent) → held_by g.S.Store c.args.store.now ≡ Some state → sum_to_write state c.args.command.now c.args.file.now ≡ Ok c.in-Ok.sum
summed g c state is = sym (if_some_at (held_by g.S.Store c.is_allowed.new.store) _ state c.in_ok-sum.ensures.value (reads_held _ _ _ c.is_allowed.ensures.reads ∙ is)) ∙ c.in-Ok.is

pub returns-in_err-is_allowed-clause-puts : goal.returns-in_err-is_allowed-clause-puts
returns-in_err-is_allowed-clause-puts g c = puts_nothing c.from_residual.result _ _ _ c.from_residual.ensures.0 c.in_err-is_allowed.ensures.reads.stable

pub returns-in_err-sum-clause-puts : goal.returns-in_err-sum-clause-puts
returns-in_err-sum-clause-puts g c = puts_nothing c.from_residual-in_err-sum.result _ _ _ c.from_residual-in_err-sum.ensures.0 (c.in_err-sum.ensures.reads.stable ∙ c.is_allowed.ensures.reads.stable)

pub returns-in_err-write_first-in-Ok-clause-puts : goal.returns-in_err-write_first-in-Ok-clause-puts
returns-in_err-write_first-in-Ok-clause-puts g c =
    puts_stopped c.from_residual-in_err-write_first-in-Ok.result _ _ _ c.from_residual-in_err-write_first-in-Ok.ensures.0
    (if_some (held_by g.S.Store c.args.store.now) _ (λ state is. rw (summed g (goal.at.returns-in_err-write_first-in-Ok-clause-puts g c).In-Ok state is)
    (put_or_not (PutNewest c.args.file.now.number c.in-Ok.sum) _ _ _ (c.sum_to_write.ensures.reads.stable ∙ c.is_allowed.ensures.reads.stable)
    (rw (sym c.as_slice.ensures.value) c.in_err-write_first-in-Ok.ensures.writes.whole))))

pub returns-in_ok-write_first-in-Ok-clause-puts : goal.returns-in_ok-write_first-in-Ok-clause-puts
returns-in_ok-write_first-in-Ok-clause-puts g c =
    if_some (held_by g.S.Store c.args.store.now) _ (λ state is. rw (summed g (goal.at.returns-in_ok-write_first-in-Ok-clause-puts g c).In-Ok state is)
    (put_after (PutNewest c.args.file.now.number c.in-Ok.sum) _ _ _ (c.sum_to_write.ensures.reads.stable ∙ c.is_allowed.ensures.reads.stable)
    (rw (sym c.as_slice.ensures.value) c.in_ok-write_first-in-Ok.ensures.writes.ok)))

-- The number found is that of the command's rules, so its record is the one state passed; a fault of the write leaves either state.
use Rattle.std.proofs.Common.{◌≡◌, Some, sym, ◌∙◌, true, [], ◌∷◌, Ok}
use Rattle.list_laws.proofs.IfSomeLemmas.{on_err, if_some, if_some_at}
use Rattle.card_state.specs.Persistent.{Persistent}
use Rattle.card_state.specs.Memory.{held_by}
use Rattle.access_rules.specs.declared.rules.Op.TheVariants.{UpdateRecord}
use Rattle.file_model.specs.Access.{may}
use Rattle.file_model.specs.Outcomes.{settled_file}
use Rattle.file_model.specs.Records.{number_to_update, record_update_in}
use Rattle.card_commits.proofs.WritesAllLemmas.{put_after, put_or_not}
use Rattle.binary_commands.proofs.GivesLemmas.{left_by}
use Rattle.binary_commands.proofs.WritesLemmas.{puts_stopped, puts_nothing}
use Rattle.record_commands.specs.Updating.{record_written, put_record}
use Rattle.record_commands.proofs.SettledFileLemmas.{one_passes, one_changes, reads_held, update_passed}
use Rattle.record_commands.proofs.updating.update_file.Given.{Over}
use Rattle.record_commands.proofs.updating.update_file.Goals.{In-Ok}
use Rattle.record_commands.proofs.updating.update_file.Goals as goal

passed : (g : Over) (c : In-Ok g) (state : Persistent) → held_by g.S.Store c.args.store.now ≡ Some state
    → (settled_file c.args.selection.now (record_update_in state c.args.seen.now c.args.selection.now c.args.command.now c.args.file.now)).passed ≡ record_written c.args.file.now c.in-Ok.number c.args.command.now.body state ∷ []
passed g c state is =
    let granted : true ≡ may state UpdateRecord c.args.seen.now c.args.file.now = sym c.if-not-branch.false ∙ if_some_at (held_by g.S.Store c.args.store.now) _ state c.in_ok-is_allowed.ensures.value is in
    update_passed state c.args.seen.now c.args.selection.now c.args.command.now c.args.file.now c.in-Ok.number granted (sym c.number_to_update.ensures.value ∙ c.in-Ok.is)

pub returns-in_err-write_one-in-Ok-clause-passes : goal.returns-in_err-write_one-in-Ok-clause-passes
returns-in_err-write_one-in-Ok-clause-passes g c =
    let one = passed g (goal.at.returns-in_err-write_one-in-Ok-clause-passes g c).In-Ok in
    record {
      stopped = on_err c.from_residual-in_err-write_one-in-Ok.result (record {
        passes = if_some (held_by g.S.Store c.args.store.now) _ (λ state is.
            one_passes state (record_written c.args.file.now c.in-Ok.number c.args.command.now.body state) _ _ (one state is)
            (left_by (held_by g.S.Store c.is_allowed.new.store) _ state
            (record_written c.args.file.now c.in-Ok.number c.command.inside.body.now)
            (record_written c.args.file.now c.in-Ok.number c.args.command.now.body)
            (reads_held _ _ _ c.is_allowed.ensures.reads ∙ is) (λ i. record_written c.args.file.now c.in-Ok.number (c.command.view_is i).body) c.in_err-write_one-in-Ok.ensures.committed.whole));
        commits = c.in_err-write_one-in-Ok.ensures.committed.commits ∙ c.is_allowed.ensures.reads.commits;
      });
      still = if_some (held_by g.S.Store c.args.store.now) _ (λ state is none. absurd (one_changes _ _ (one state is) none));
    }

pub returns-in_ok-write_one-in-Ok-clause-passes : goal.returns-in_ok-write_one-in-Ok-clause-passes
returns-in_ok-write_one-in-Ok-clause-passes g c =
    let one = passed g (goal.at.returns-in_ok-write_one-in-Ok-clause-passes g c).In-Ok in
    record { stopped = tt; still = if_some (held_by g.S.Store c.args.store.now) _ (λ state is none. absurd (one_changes _ _ (one state is) none)) }

-- the number found is that which the clause has
named : (g : Over) (c : In-Ok g) → number_to_update c.args.file.now c.args.selection.now c.args.command.now ≡ Ok c.in-Ok.number
named g c = sym c.number_to_update.ensures.value ∙ c.in-Ok.is

pub returns-in_err-is_allowed-clause-puts : goal.returns-in_err-is_allowed-clause-puts
returns-in_err-is_allowed-clause-puts g c = puts_nothing c.from_residual.result _ _ _ c.from_residual.ensures.0 c.in_err-is_allowed.ensures.reads.stable

pub returns-in_err-write_one-in-Ok-clause-puts : goal.returns-in_err-write_one-in-Ok-clause-puts
returns-in_err-write_one-in-Ok-clause-puts g c =
    puts_stopped c.from_residual-in_err-write_one-in-Ok.result _ _ _ c.from_residual-in_err-write_one-in-Ok.ensures.0
    (if_some (held_by g.S.Store c.args.store.now) _ (λ state is. rw (named g (goal.at.returns-in_err-write_one-in-Ok-clause-puts g c).In-Ok)
    (put_or_not (put_record c.args.file.now c.in-Ok.number c.args.command.now.body) _ _ _ c.is_allowed.ensures.reads.stable
    (rw (sym c.command.view_is) c.in_err-write_one-in-Ok.ensures.writes.whole))))

pub returns-in_ok-write_one-in-Ok-clause-puts : goal.returns-in_ok-write_one-in-Ok-clause-puts
returns-in_ok-write_one-in-Ok-clause-puts g c =
    if_some (held_by g.S.Store c.args.store.now) _ (λ state is. rw (named g (goal.at.returns-in_ok-write_one-in-Ok-clause-puts g c).In-Ok)
    (put_after (put_record c.args.file.now c.in-Ok.number c.args.command.now.body) _ _ _ c.is_allowed.ensures.reads.stable
    (rw (sym c.command.view_is) c.in_ok-write_one-in-Ok.ensures.writes.ok)))

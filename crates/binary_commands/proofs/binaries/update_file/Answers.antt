use Rattle.std.proofs.Common.{◌≡◌, ◌≤◌, ◌+◌, Option, Some, length, sym, ◌∙◌, true, arith}
use Rattle.std.proofs.lemmas.Grind.{common_steps}
use Rattle.list_laws.proofs.IfSomeLemmas.{on_err, if_some, if_some_at}
use Rattle.card_state.specs.Persistent.{Persistent}
use Rattle.card_state.specs.Changing.{with_bytes}
use Rattle.card_state.specs.Memory.{held_by}
use Rattle.card_state.specs.Standing.{standing}
use Rattle.card_state.specs.Changes.{PutBytes}
use Rattle.access_rules.specs.declared.rules.Op.TheVariants.{UpdateBinary}
use Rattle.file_model.specs.Access.{may}
use Rattle.file_model.specs.Binaries.{offset_of}
use Rattle.card_commits.specs.Writing.{written}
use Rattle.card_commits.proofs.WritesAllLemmas.{put_after, put_or_not}
use Rattle.binary_commands.proofs.GivesLemmas.{left_by}
use Rattle.binary_commands.proofs.UpdateInLemmas.{update_changes, update_passes}
use Rattle.binary_commands.proofs.WritesLemmas.{puts_stopped, puts_nothing}
use Rattle.binary_commands.proofs.binaries.update_file.Goals as goal

pub returns-in_err-write_bytes-clause-passes : goal.returns-in_err-write_bytes-clause-passes
returns-in_err-write_bytes-clause-passes g c =
    let before : Option Persistent = held_by g.S.Store c.args.store.now in
    let near : offset_of c.args.command.now + length c.args.command.now.body ≤ c.args.file.now.size = grind (arith, common_steps) in
    record {
      stopped = on_err c.from_residual-in_err-write_bytes.result (record {
        passes = if_some before _ (λ state is.
            let granted : true ≡ may state UpdateBinary c.args.seen.now c.args.file.now = sym c.if-not-branch.false ∙ if_some_at before _ state c.in_ok-is_allowed.ensures.value is in
            let still : held_by g.S.Store c.is_allowed.new.store ≡ Some state = (λ i. standing (c.is_allowed.ensures.reads.keeps.mark i) (c.is_allowed.ensures.reads.stable i)) ∙ is in
            update_passes state c.args.seen.now c.args.selection.now c.args.command.now c.args.file.now _ granted near
            (left_by (held_by g.S.Store c.is_allowed.new.store) _ state
            (with_bytes c.args.file.now.number c.offset_in-offset.result c.command.inside.body.now)
            (with_bytes c.args.file.now.number (offset_of c.args.command.now) c.args.command.now.body)
            still (λ i. with_bytes c.args.file.now.number (c.offset_in-offset.ensures i) (c.command.view_is i).body) c.in_err-write_bytes.ensures.committed.whole));
        commits = c.in_err-write_bytes.ensures.committed.commits ∙ c.is_allowed.ensures.reads.commits;
      });
      still = if_some before _ (λ state is none.
          let granted : true ≡ may state UpdateBinary c.args.seen.now c.args.file.now = sym c.if-not-branch.false ∙ if_some_at before _ state c.in_ok-is_allowed.ensures.value is in
          absurd (update_changes state c.args.seen.now c.args.selection.now c.args.command.now c.args.file.now granted near none));
    }

pub returns-in_err-is_allowed-clause-puts : goal.returns-in_err-is_allowed-clause-puts
returns-in_err-is_allowed-clause-puts g c = puts_nothing c.from_residual.result _ _ _ c.from_residual.ensures.0 c.in_err-is_allowed.ensures.reads.stable

pub returns-in_err-write_bytes-clause-puts : goal.returns-in_err-write_bytes-clause-puts
returns-in_err-write_bytes-clause-puts g c =
    puts_stopped c.from_residual-in_err-write_bytes.result _ _ _ c.from_residual-in_err-write_bytes.ensures.0
    (if_some (held_by g.S.Store c.args.store.now) _ (λ state is.
    put_or_not (PutBytes c.args.file.now.number (offset_of c.args.command.now) c.args.command.now.body) _ _ _ c.is_allowed.ensures.reads.stable
    (rw (sym c.offset_in-offset.ensures, sym c.command.view_is) c.in_err-write_bytes.ensures.writes.whole)))

pub returns-clause-puts : goal.returns-clause-puts
returns-clause-puts g c =
    if_some (held_by g.S.Store c.args.store.now) _ (λ state is.
    put_after (PutBytes c.args.file.now.number (offset_of c.args.command.now) c.args.command.now.body) _ _ _ c.is_allowed.ensures.reads.stable
    (rw (sym c.offset_in-offset.ensures, sym c.command.view_is) c.in_ok-write_bytes.ensures.writes.ok))

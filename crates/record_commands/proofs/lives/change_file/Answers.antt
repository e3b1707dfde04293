-- A life cycle status that is new passes one state: a fault leaves that or the one before, and all other files are as they were.
use Rattle.std.proofs.Common.{◌≡◌, Option, Some, [], ◌∷◌, refl, sym, ◌∙◌, true, rules, ne_eqb, eq-eqb}
use Rattle.list_laws.proofs.IfSomeLemmas.{on_err, if_some, if_some_at}
use Rattle.card_state.specs.Persistent.{Persistent}
use Rattle.card_state.specs.Changing.{with_life}
use Rattle.card_state.specs.Memory.{held_by}
use Rattle.card_state.specs.Changes.{PutLife}
use Rattle.file_model.specs.Access.{may}
use Rattle.file_model.specs.Files.{descriptors_of}
use Rattle.file_model.specs.Outcomes.{settled_file}
use Rattle.file_model.specs.LifeCycles.{life_in}
use Rattle.card_commits.proofs.WritesAllLemmas.{none_written, put_after, put_or_not}
use Rattle.binary_commands.proofs.GivesLemmas.{left_by}
use Rattle.binary_commands.proofs.WritesLemmas.{puts_stopped, puts_nothing}
use Rattle.record_commands.proofs.KeepsSelectionsLemmas.{told_keeps}
use Rattle.record_commands.proofs.SettledFileLemmas.{one_passes, one_changes, reads_held, life_passed}
use Rattle.record_commands.proofs.lives.change_file.Goals as goal

pub returns-in_err-write_life-clause-passes : goal.returns-in_err-write_life-clause-passes
returns-in_err-write_life-clause-passes g c =
    let before : Option Persistent = held_by g.S.Store c.args.store.now in
    let passed : (state : Persistent) → before ≡ Some state
    → (settled_file c.args.selection.now (life_in c.args.change.op c.args.change.life state c.args.seen.now c.args.selection.now c.args.file.now)).passed ≡ with_life c.args.file.now.number c.args.change.life state ∷ [] =
    λ state is.
    let granted : true ≡ may state c.args.change.op c.args.seen.now c.args.file.now = sym c.if-not-branch.false ∙ if_some_at before _ state c.in_ok-is_allowed.ensures.value is in
    life_passed c.args.change.op c.args.change.life state c.args.seen.now c.args.selection.now c.args.file.now granted (ne_eqb _ _ c.if-file-change.false) in
    record {
      stopped = on_err c.from_residual-in_err-write_life.result (record {
        passes = if_some before _ (λ state is.
            one_passes state (with_life c.args.file.now.number c.args.change.life state) _ _ (passed state is)
            (left_by (held_by g.S.Store c.is_allowed.new.store) _ state _ (with_life c.args.file.now.number c.args.change.life) (reads_held _ _ _ c.is_allowed.ensures.reads ∙ is) refl c.in_err-write_life.ensures.committed.whole));
        commits = c.in_err-write_life.ensures.committed.commits ∙ c.is_allowed.ensures.reads.commits;
      });
      still = if_some before _ (λ state is none. absurd (one_changes _ _ (passed state is) none));
    }

pub returns-clause-files : goal.returns-clause-files
returns-clause-files g c = record { files = search rules; others = told_keeps c.args.file.now.number c.args.change.life (descriptors_of c.args.loaded.now) _ c.in_ok-write_life.ensures.files }

pub returns-clause-ends : goal.returns-clause-ends
returns-clause-ends g c = record {
  lawful = (told_keeps c.args.file.now.number c.args.change.life (descriptors_of c.args.loaded.now) _ c.in_ok-write_life.ensures.files c.args.selection.now c.requires.place.selected, search rules);
  body = tt;
  table = tt;
  keeps = search rules;
}

pub returns-in_err-is_allowed-clause-puts : goal.returns-in_err-is_allowed-clause-puts
returns-in_err-is_allowed-clause-puts g c = puts_nothing c.from_residual.result _ _ _ c.from_residual.ensures.0 c.in_err-is_allowed.ensures.reads.stable

pub returns-in_err-write_life-clause-puts : goal.returns-in_err-write_life-clause-puts
returns-in_err-write_life-clause-puts g c =
    puts_stopped c.from_residual-in_err-write_life.result _ _ _ c.from_residual-in_err-write_life.ensures.0
    (if_some (held_by g.S.Store c.args.store.now) _ (λ state is. rw (ne_eqb c.args.file.now.life c.args.change.life c.if-file-change.false)
    (put_or_not (PutLife c.args.file.now.number c.args.change.life) _ _ _ c.is_allowed.ensures.reads.stable c.in_err-write_life.ensures.writes.whole)))

pub returns-clause-puts : goal.returns-clause-puts
returns-clause-puts g c =
    if_some (held_by g.S.Store c.args.store.now) _ (λ state is. rw (ne_eqb c.args.file.now.life c.args.change.life c.if-file-change.false)
    (put_after (PutLife c.args.file.now.number c.args.change.life) _ _ _ c.is_allowed.ensures.reads.stable c.in_ok-write_life.ensures.writes.ok))

pub returns-then-file-change-clause-puts : goal.returns-then-file-change-clause-puts
returns-then-file-change-clause-puts g c =
    if_some (held_by g.S.Store c.args.store.now) _ (λ state is. rw (eq-eqb c.args.file.now.life c.args.change.life c.if-file-change.true)
    (c.is_allowed.ensures.reads.stable ∙ none_written (g.S.Store.stable c.args.store.now)))

-- The applet is idle, so nothing that is out or late is its own; its row's one commit, where it fails, leaves the row there or gone.
use Rattle.std.proofs.Common.{sym, ap, subst, refl, ℕ}
use Rattle.card_state.specs.Blank.{unused_row}
use Rattle.card_state.specs.declared.entries.Loaded.{Loaded}
use Rattle.card_state.specs.Memory.{memory}
use Rattle.card_state.specs.States.{rows_of}
use Rattle.card_commits.specs.Entries.{HasRowOn}
use Rattle.card_commits.proofs.KeepsLemmas.{keeps_done, fault_keeps}
use Rattle.applet_trait.specs.Minds.{minds_of}
use Rattle.toolkit_model.specs.Sessions.{SessionState}
use Rattle.event_dispatch.specs.Indexes.{StandsFor}
use Rattle.proactive_handler.proofs.MovedLemmas.{has_rows}
use Rattle.proactive_handler.specs.Steps.{scene}
use Rattle.proactive_handler.proofs.StandsForLemmas.{rows_alone_differ}
use Rattle.cat_commands.proofs.KeepsBesidesLemmas.{besides_stopped, others_without}
use Rattle.cat_commands.proofs.DeletingLemmas.{stays_registered, goes, rows_without}
use Rattle.cat_commands.proofs.HasRowOnLemmas.{has_beside, served_without}
use Rattle.cat_commands.proofs.deleting.unregister.Goals as goal

pub returns-in_err-remove_row-clause-moves : goal.returns-in_err-remove_row-clause-moves
returns-in_err-remove_row-clause-moves g c =
    stays_registered c.args.shelf.0 (scene (memory g.S.Store c.args.store.now c.args.loaded.now) c.args.index.now c.args.session.now (minds_of g.B.Applet.mind c.args.cast.now)) c.requires.rests.order.rows.shelves (has_rows c.tables_tell_states.ensures _ _ c.args.loaded.now c.requires.rests.mounted.agrees)
    (scene (memory g.S.Store c.remove_row.new.store c.remove_row.new.loaded) c.args.index.now c.args.session.now (minds_of g.B.Applet.mind c.args.cast.now)) c.from_residual.result c.from_residual.ensures.0 (ap rows_of c.in_err-remove_row.ensures.kept) c.in_err-remove_row.ensures.committed.whole c.in_err-remove_row.ensures.committed.commits c.in_err-remove_row.ensures.writes.whole

pub returns-in_err-remove_row-clause-keeps : goal.returns-in_err-remove_row-clause-keeps
returns-in_err-remove_row-clause-keeps g c =
    let old = (scene (memory g.S.Store c.args.store.now c.args.loaded.now) c.args.index.now c.args.session.now (minds_of g.B.Applet.mind c.args.cast.now)) in
    let new = (scene (memory g.S.Store c.remove_row.new.store c.remove_row.new.loaded) c.args.index.now c.args.session.now (minds_of g.B.Applet.mind c.args.cast.now)) in
    besides_stopped c.args.shelf.0 old new c.from_residual.result c.from_residual.ensures.0 c.requires.rests.mounted refl c.in_err-remove_row.ensures.kept
    (fault_keeps old.memory new.memory _ c.from_residual.result c.from_residual.ensures.0 c.from_residual.ensures.1 c.in_err-remove_row.ensures.committed.keeps)

pub returns-clause-moves : goal.returns-clause-moves
returns-clause-moves g c =
    goes c.args.shelf.0 (scene (memory g.S.Store c.args.store.now c.args.loaded.now) c.args.index.now c.args.session.now (minds_of g.B.Applet.mind c.args.cast.now)) c.requires.rests.order.rows.shelves (has_rows c.tables_tell_states.ensures _ _ c.args.loaded.now c.requires.rests.mounted.agrees)
    (scene (memory g.S.Store c.remove_row.new.store c.remove_row.new.loaded) c.gone.new.self c.released.new.self (minds_of g.B.Applet.mind c.take_out.new.cast)) (rows_without c.args.loaded.now c.remove_row.new.loaded c.args.shelf.0 c.requires.rests.order.rows.shelves c.in_ok-remove_row.ensures.rows) c.released.ensures c.take_out.ensures.minds c.in_ok-remove_row.ensures.committed.ok c.in_ok-remove_row.ensures.committed.commits c.in_ok-remove_row.ensures.writes.ok

pub returns-clause-keeps : goal.returns-clause-keeps
returns-clause-keeps g c =
    let old = (scene (memory g.S.Store c.args.store.now c.args.loaded.now) c.args.index.now c.args.session.now (minds_of g.B.Applet.mind c.args.cast.now)) in
    let new = (scene (memory g.S.Store c.remove_row.new.store c.remove_row.new.loaded) c.gone.new.self c.released.new.self (minds_of g.B.Applet.mind c.take_out.new.cast)) in
    record {
      kinds = tt;
      others = λ other was is.
          others_without c.args.shelf.0 other old.minds new.minds (λ same. was (subst (λ (at : ℕ). HasRowOn c.args.loaded.now at) (sym same) c.requires.may_go.row)) c.take_out.ensures.minds;
      served = served_without c.args.loaded.now c.remove_row.new.loaded c.args.session.now c.released.new.self c.args.shelf.0 (λ other apart there. has_beside c.args.loaded.now c.remove_row.new.loaded c.args.shelf.0 unused_row other (ap (λ (t : Loaded). t.rows) c.in_ok-remove_row.ensures.table) apart there)
          c.requires.may_go.idle c.requires.rests.order.session.late (ap (λ (s : SessionState). s.out) c.released.ensures) (ap (λ (s : SessionState). s.waiting) c.released.ensures) (ap (λ (s : SessionState). s.late) c.released.ensures)
          (c.sessions_are_served.ensures c.args.loaded.now c.args.session.now c.requires.rests.order.session.underway);
      rows_stay = λ other apart there. has_beside c.args.loaded.now c.remove_row.new.loaded c.args.shelf.0 unused_row other (ap (λ (t : Loaded). t.rows) c.in_ok-remove_row.ensures.table) apart there;
      indexed = subst (StandsFor c.gone.new.self) (sym (rows_without c.args.loaded.now c.remove_row.new.loaded c.args.shelf.0 c.requires.rests.order.rows.shelves c.in_ok-remove_row.ensures.rows)) (c.gone.ensures (rows_of c.args.loaded.now) c.requires.rests.order.rows c.requires.rests.indexed);
      table = rows_alone_differ c.args.loaded.now c.remove_row.new.loaded _ c.in_ok-remove_row.ensures.table;
      kept = tt;
      keeps = keeps_done old.memory new.memory _ _ c.in_ok-remove_row.ensures.committed.keeps;
    }

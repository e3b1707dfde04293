-- The late triggers are as many as their free places tell, so all are caught up with before it settles; a fault stops it before that.
use Rattle.std.proofs.Common.{refl, sym, ap, subst, arith, rules}
use Rattle.card_state.specs.States.{rows_of}
use Rattle.card_state.specs.Memory.{memory}
use Rattle.applet_trait.specs.Minds.{minds_of}
use Rattle.toolkit_model.specs.Sessions.{SessionState}
use Rattle.proactive_handler.specs.Serving.{IsSessionServed}
use Rattle.proactive_handler.specs.Steps.{toolkit, scene}
use Rattle.proactive_handler.proofs.MovedLemmas.{has_rows}
use Rattle.proactive_handler.proofs.CaughtUpLemmas.{driven_stops, driven_done, driven_leaves, driven_left}
use Rattle.proactive_handler.proofs.IsSessionServedLemmas.{settled_served}
use Rattle.proactive_handler.proofs.RowsAreListedLemmas.{rows_listed}
use Rattle.proactive_handler.proofs.driving.drive_in_place.Goals as goal

pub returns-in_err-catch_up-clause-moves : goal.returns-in_err-catch_up-clause-moves
returns-in_err-catch_up-clause-moves g c =
    driven_stops _ (scene (memory g.S.Store c.args.store.now c.args.loaded.now) c.args.index.now c.args.session.now (minds_of g.B.Applet.mind c.args.cast.now))
    (scene (memory g.S.Store c.catch_up.new.store c.catch_up.new.loaded) c.catch_up.new.index c.catch_up.new.session (minds_of g.B.Applet.mind c.catch_up.new.cast))
    (omega (arith, c.late_free-late.ensures.value, c.late_free-late.ensures.few)) c.from_residual.result c.from_residual.ensures.0 c.in_err-catch_up.ensures.moves

pub settle-requires-clause-few : goal.settle-requires-clause-few
settle-requires-clause-few g c = (rows_listed _ _ c.catch_up.new.loaded c.in_ok-catch_up.ensures.keeps.keeps.mounted.agrees).rows_are.few_texts

pub settle-requires-clause-texts : goal.settle-requires-clause-texts
settle-requires-clause-texts g c = (rows_listed _ _ c.catch_up.new.loaded c.in_ok-catch_up.ensures.keeps.keeps.mounted.agrees).rows_are.texts

pub returns-clause-moves : goal.returns-clause-moves
returns-clause-moves g c =
    driven_done _ (scene (memory g.S.Store c.args.store.now c.args.loaded.now) c.args.index.now c.args.session.now (minds_of g.B.Applet.mind c.args.cast.now))
    (scene (memory g.S.Store c.catch_up.new.store c.catch_up.new.loaded) c.catch_up.new.index c.catch_up.new.session (minds_of g.B.Applet.mind c.catch_up.new.cast))
    (omega (arith, c.late_free-late.ensures.value, c.late_free-late.ensures.few)) _ c.in_ok-catch_up.ensures.moves
    (has_rows c.tables_tell_states.ensures _ _ c.catch_up.new.loaded c.in_ok-catch_up.ensures.keeps.keeps.mounted.agrees)
    (ap (λ (s : SessionState). toolkit (record (scene (memory g.S.Store c.catch_up.new.store c.catch_up.new.loaded) c.catch_up.new.index c.catch_up.new.session (minds_of g.B.Applet.mind c.catch_up.new.cast)) { session = s })) c.settle.ensures) refl

pub returns-clause-keeps : goal.returns-clause-keeps
returns-clause-keeps g c = record {
  kinds = search rules;
  others = search rules;
  served = subst (IsSessionServed c.catch_up.new.loaded) (sym c.settle.ensures) (settled_served c.catch_up.new.loaded (rows_of c.catch_up.new.loaded) c.catch_up.new.session c.in_ok-catch_up.ensures.keeps.served);
  rows_stay = search rules;
  indexed = search rules;
  table = search rules;
  kept = search rules;
  keeps = search rules;
}

pub returns-in_err-catch_up-clause-turns : goal.returns-in_err-catch_up-clause-turns
returns-in_err-catch_up-clause-turns g c =
    driven_leaves _ (scene (memory g.S.Store c.args.store.now c.args.loaded.now) c.args.index.now c.args.session.now (minds_of g.B.Applet.mind c.args.cast.now))
    (scene (memory g.S.Store c.catch_up.new.store c.catch_up.new.loaded) c.catch_up.new.index c.catch_up.new.session (minds_of g.B.Applet.mind c.catch_up.new.cast))
    (omega (arith, c.late_free-late.ensures.value, c.late_free-late.ensures.few)) c.args.cast.now c.catch_up.new.cast c.from_residual.result c.from_residual.ensures.0 c.in_err-catch_up.ensures.turns

pub returns-clause-turns : goal.returns-clause-turns
returns-clause-turns g c =
    driven_left _ (scene (memory g.S.Store c.args.store.now c.args.loaded.now) c.args.index.now c.args.session.now (minds_of g.B.Applet.mind c.args.cast.now))
    (scene (memory g.S.Store c.catch_up.new.store c.catch_up.new.loaded) c.catch_up.new.index c.catch_up.new.session (minds_of g.B.Applet.mind c.catch_up.new.cast))
    (omega (arith, c.late_free-late.ensures.value, c.late_free-late.ensures.few)) (scene (memory g.S.Store c.catch_up.new.store c.catch_up.new.loaded) c.catch_up.new.index c.catch_up.new.session (minds_of g.B.Applet.mind c.catch_up.new.cast)) c.args.cast.now c.catch_up.new.cast c.in_ok-catch_up.ensures.moves c.in_ok-catch_up.ensures.turns

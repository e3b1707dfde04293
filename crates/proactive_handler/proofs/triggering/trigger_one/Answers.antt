-- An idle applet runs, a waiting one has the event kept or misses it; in each case the shelves after it still have their places.
use Rattle.std.proofs.Common.{refl, sym, ap, ◌∙◌, subst, Bool, false, rules}
use Rattle.std.proofs.lemmas.Result.{IfOk-weaker}
use Rattle.card_state.specs.Memory.{memory}
use Rattle.applet_trait.specs.declared.stimuli.Stimulus.{Stimulus}
use Rattle.applet_trait.specs.Minds.{minds_of}
use Rattle.toolkit_model.specs.Sessions.{SessionState}
use Rattle.toolkit_model.specs.Passing.{ToolkitState}
use Rattle.toolkit_model.specs.Commands.{last_answer}
use Rattle.toolkit_model.specs.Running.{run_of_row}
use Rattle.toolkit_model.specs.Driving.{trigger_for, with_session}
use Rattle.proactive_handler.specs.Serving.{IsSessionServed, HasPlaces}
use Rattle.proactive_handler.specs.Steps.{toolkit, scene, Moves}
use Rattle.proactive_handler.specs.Reached.{TurnsOnly}
use Rattle.proactive_handler.proofs.MovedLemmas.{on_done, has_rows}
use Rattle.proactive_handler.proofs.HasPlacesLemmas.{run_places, kept_places}
use Rattle.proactive_handler.proofs.IsSessionServedLemmas.{late_served}
use Rattle.proactive_handler.proofs.InTurnLemmas.{idle_moves, idle_answers, missed, busy_done, busy_answers, idle_turns}
use Rattle.proactive_handler.proofs.triggering.trigger_one.Goals as goal

pub returns-then-idle-clause-tells : goal.returns-then-idle-clause-tells
returns-then-idle-clause-tells g c =
    let old = (scene (memory g.S.Store c.args.store.now c.args.loaded.now) c.args.index.now c.args.session.now (minds_of g.B.Applet.mind c.args.cast.now)) in
    let new = (scene (memory g.S.Store c.run_one.new.store c.run_one.new.loaded) c.run_one.new.index c.run_one.new.session (minds_of g.B.Applet.mind c.run_one.new.cast)) in record {
      moves = idle_moves c.args.code c.args.body.now c.args.shelf.0 (toolkit old) c.args.kept old new c.run_one.result (sym c.idle.ensures ∙ c.if-idle.true)
          (subst (λ (event : Stimulus). Moves (run_of_row c.args.shelf.0 event false) old new c.run_one.result) c.requires.event c.run_one.ensures.tells.moves);
      answer = IfOk-weaker c.run_one.result _ _
          (λ answer is. idle_answers c.args.code c.args.body.now c.args.shelf.0 (toolkit old) c.args.kept answer (sym c.idle.ensures ∙ c.if-idle.true) (is ∙ ap (λ (event : Stimulus). last_answer (run_of_row c.args.shelf.0 event false (toolkit old)).log) c.requires.event))
          c.run_one.ensures.tells.answer;
      turns = idle_turns c.args.code c.args.body.now c.args.shelf.0 (toolkit old) c.args.kept old new c.args.cast.now c.run_one.new.cast c.run_one.result (sym c.idle.ensures ∙ c.if-idle.true)
          (subst (λ (event : Stimulus). TurnsOnly (run_of_row c.args.shelf.0 event false) old new c.args.cast.now c.run_one.new.cast c.run_one.result) c.requires.event c.run_one.ensures.tells.turns);
    }

pub returns-then-idle-clause-places : goal.returns-then-idle-clause-places
returns-then-idle-clause-places g c = λ others apart.
    on_done _ _ _ c.run_one.result _ c.run_one.ensures.tells.moves
    (λ done places. run_places c.run_one.new.session c.args.shelf.0 c.args.event.now (toolkit (scene (memory g.S.Store c.args.store.now c.args.loaded.now) c.args.index.now c.args.session.now (minds_of g.B.Applet.mind c.args.cast.now))) others (ap (λ (s : ToolkitState). s.session) done.state_is) (sym c.idle.ensures ∙ c.if-idle.true) apart places)

pub returns-then-kept-clause-tells : goal.returns-then-kept-clause-tells
returns-then-kept-clause-tells g c =
    let old = (scene (memory g.S.Store c.args.store.now c.args.loaded.now) c.args.index.now c.args.session.now (minds_of g.B.Applet.mind c.args.cast.now)) in record {
      moves = busy_done c.args.code c.args.body.now c.args.shelf.0 (toolkit old) c.args.kept old _ (has_rows c.tables_tell_states.ensures _ _ c.args.loaded.now c.requires.service.mounted.agrees) refl (sym c.idle.ensures ∙ c.if-idle.false)
          (ap (λ (s : SessionState). toolkit (record old { session = s })) c.keep_late.ensures ∙ sym (ap (λ (b : Bool). with_session (toolkit old) (missed c.args.code c.args.body.now c.args.shelf.0 (toolkit old) b)) c.if-kept.true)) refl;
      answer = busy_answers c.args.code c.args.body.now c.args.shelf.0 (toolkit old) c.args.kept (sym c.idle.ensures ∙ c.if-idle.false);
      turns = λ other none. refl;
    }

pub returns-then-kept-clause-places : goal.returns-then-kept-clause-places
returns-then-kept-clause-places g c = λ others apart places.
    subst (λ (s : SessionState). HasPlaces s others) (sym c.keep_late.ensures) (kept_places c.args.session.now (trigger_for c.args.code c.args.body.now c.args.shelf.0) others (sym c.idle.ensures ∙ c.if-idle.false) places)

pub returns-then-kept-clause-keeps : goal.returns-then-kept-clause-keeps
returns-then-kept-clause-keeps g c = record {
  kinds = search rules;
  others = search rules;
  served = subst (IsSessionServed c.args.loaded.now) (sym c.keep_late.ensures) (late_served c.args.loaded.now c.args.session.now (trigger_for c.args.code c.args.body.now c.args.shelf.0) c.requires.row c.requires.service.served);
  rows_stay = search rules;
  indexed = search rules;
  table = search rules;
  kept = search rules;
  keeps = search rules;
}

pub returns-else-kept-clause-tells : goal.returns-else-kept-clause-tells
returns-else-kept-clause-tells g c =
    let old = (scene (memory g.S.Store c.args.store.now c.args.loaded.now) c.args.index.now c.args.session.now (minds_of g.B.Applet.mind c.args.cast.now)) in record {
      moves = busy_done c.args.code c.args.body.now c.args.shelf.0 (toolkit old) c.args.kept old _ (has_rows c.tables_tell_states.ensures _ _ c.args.loaded.now c.requires.service.mounted.agrees) refl (sym c.idle.ensures ∙ c.if-idle.false)
          (sym (ap (λ (b : Bool). with_session (toolkit old) (missed c.args.code c.args.body.now c.args.shelf.0 (toolkit old) b)) c.if-kept.false)) refl;
      answer = busy_answers c.args.code c.args.body.now c.args.shelf.0 (toolkit old) c.args.kept (sym c.idle.ensures ∙ c.if-idle.false);
      turns = λ other none. refl;
    }

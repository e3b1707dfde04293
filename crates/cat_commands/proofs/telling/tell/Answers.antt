-- A fault stops the telling or what ends the command; what was kept late is for those told alone, so in both the other boxes stay.
use Rattle.std.proofs.Common.{sym, ap, ◌∙◌, subst, List}
use Rattle.card_state.specs.Memory.{memory}
use Rattle.applet_trait.specs.Minds.{minds_of}
use Rattle.toolkit_model.specs.Driving.{driven}
use Rattle.toolkit_model.specs.Passing.{ToolkitState, in_turn}
use Rattle.toolkit_model.specs.Sessions.{LateTrigger}
use Rattle.proactive_handler.specs.Boxes.{AreForOthers}
use Rattle.proactive_handler.proofs.StopsAtLemmas.{both_done}
use Rattle.proactive_handler.proofs.AreForOthersLemmas.{turns_apart}
use Rattle.proactive_handler.proofs.ScenesLemmas.{scene_then, scene_done, scene_fault}
use Rattle.proactive_handler.specs.Serving.{triggered_one}
use Rattle.proactive_handler.specs.Steps.{scene, toolkit}
use Rattle.cat_commands.proofs.StopsAtLemmas.{step_stops, end_stops}
use Rattle.cat_commands.proofs.telling.tell.Goals as goal

pub returns-in_err-answer-clause-moves : goal.returns-in_err-answer-clause-moves
returns-in_err-answer-clause-moves g c =
    let old = (scene (memory g.S.Store c.args.store.now c.args.loaded.now) c.args.index.now c.args.session.now (minds_of g.B.Applet.mind c.args.cast.now)) in
    step_stops (in_turn (triggered_one c.args.kept c.args.code c.args.body.now) c.args.to.now (toolkit old)) driven old (scene (memory g.S.Store c.trigger_in_place.new.store c.trigger_in_place.new.loaded) c.trigger_in_place.new.index c.trigger_in_place.new.session (minds_of g.B.Applet.mind c.trigger_in_place.new.cast))
    c.from_residual.result c.from_residual.ensures.0 c.in_err-answer.ensures.tells.moves

pub returns-in_err-drive_in_place-clause-moves : goal.returns-in_err-drive_in_place-clause-moves
returns-in_err-drive_in_place-clause-moves g c =
    let old = (scene (memory g.S.Store c.args.store.now c.args.loaded.now) c.args.index.now c.args.session.now (minds_of g.B.Applet.mind c.args.cast.now)) in
    end_stops (in_turn (triggered_one c.args.kept c.args.code c.args.body.now) c.args.to.now (toolkit old)) driven old (scene (memory g.S.Store c.trigger_in_place.new.store c.trigger_in_place.new.loaded) c.trigger_in_place.new.index c.trigger_in_place.new.session (minds_of g.B.Applet.mind c.trigger_in_place.new.cast)) (scene (memory g.S.Store c.drive_in_place.new.store c.drive_in_place.new.loaded) c.drive_in_place.new.index c.drive_in_place.new.session (minds_of g.B.Applet.mind c.drive_in_place.new.cast))
    c.from_residual-in_err-drive_in_place.result c.from_residual-in_err-drive_in_place.ensures.0 c.in_ok-answer.ensures.tells.moves c.in_err-drive_in_place.ensures.moves

pub returns-clause-moves : goal.returns-clause-moves
returns-clause-moves g c =
    let old = (scene (memory g.S.Store c.args.store.now c.args.loaded.now) c.args.index.now c.args.session.now (minds_of g.B.Applet.mind c.args.cast.now)) in
    both_done (in_turn (triggered_one c.args.kept c.args.code c.args.body.now) c.args.to.now (toolkit old)) driven old (scene (memory g.S.Store c.trigger_in_place.new.store c.trigger_in_place.new.loaded) c.trigger_in_place.new.index c.trigger_in_place.new.session (minds_of g.B.Applet.mind c.trigger_in_place.new.cast)) (scene (memory g.S.Store c.drive_in_place.new.store c.drive_in_place.new.loaded) c.drive_in_place.new.index c.drive_in_place.new.session (minds_of g.B.Applet.mind c.drive_in_place.new.cast))
    c.in_ok-answer.ensures.tells.moves c.in_ok-drive_in_place.ensures.moves

pub returns-in_err-drive_in_place-clause-untold : goal.returns-in_err-drive_in_place-clause-untold
returns-in_err-drive_in_place-clause-untold g c =
    λ other differ apart.
    c.drive_in_place.ensures.untold other
    (subst (λ (late : List LateTrigger). AreForOthers other late) (sym (ap (λ (s : ToolkitState). s.session.late) c.in_ok-answer.ensures.tells.moves.state_is))
    (turns_apart c.args.code c.args.body.now other c.args.kept c.args.to.now (toolkit (scene (memory g.S.Store c.args.store.now c.args.loaded.now) c.args.index.now c.args.session.now (minds_of g.B.Applet.mind c.args.cast.now))) differ apart))
    ∙ c.trigger_in_place.ensures.untold other differ

pub returns-clause-untold : goal.returns-clause-untold
returns-clause-untold g c =
    λ other differ apart.
    c.drive_in_place.ensures.untold other
    (subst (λ (late : List LateTrigger). AreForOthers other late) (sym (ap (λ (s : ToolkitState). s.session.late) c.in_ok-answer.ensures.tells.moves.state_is))
    (turns_apart c.args.code c.args.body.now other c.args.kept c.args.to.now (toolkit (scene (memory g.S.Store c.args.store.now c.args.loaded.now) c.args.index.now c.args.session.now (minds_of g.B.Applet.mind c.args.cast.now))) differ apart))
    ∙ c.trigger_in_place.ensures.untold other differ

pub returns-clause-keeps : goal.returns-clause-keeps
returns-clause-keeps g c =
    let mid = (scene (memory g.S.Store c.trigger_in_place.new.store c.trigger_in_place.new.loaded) c.trigger_in_place.new.index c.trigger_in_place.new.session (minds_of g.B.Applet.mind c.trigger_in_place.new.cast)) in
    let new = (scene (memory g.S.Store c.drive_in_place.new.store c.drive_in_place.new.loaded) c.drive_in_place.new.index c.drive_in_place.new.session (minds_of g.B.Applet.mind c.drive_in_place.new.cast)) in
    scene_then (scene (memory g.S.Store c.args.store.now c.args.loaded.now) c.args.index.now c.args.session.now (minds_of g.B.Applet.mind c.args.cast.now)) mid new c.in_ok-answer.answer _ c.in_ok-answer.ensures.keeps (scene_done mid new _ _ c.in_ok-drive_in_place.ensures.keeps)

pub returns-in_err-drive_in_place-clause-keeps : goal.returns-in_err-drive_in_place-clause-keeps
returns-in_err-drive_in_place-clause-keeps g c =
    let mid = (scene (memory g.S.Store c.trigger_in_place.new.store c.trigger_in_place.new.loaded) c.trigger_in_place.new.index c.trigger_in_place.new.session (minds_of g.B.Applet.mind c.trigger_in_place.new.cast)) in
    let new = (scene (memory g.S.Store c.drive_in_place.new.store c.drive_in_place.new.loaded) c.drive_in_place.new.index c.drive_in_place.new.session (minds_of g.B.Applet.mind c.drive_in_place.new.cast)) in
    scene_then (scene (memory g.S.Store c.args.store.now c.args.loaded.now) c.args.index.now c.args.session.now (minds_of g.B.Applet.mind c.args.cast.now)) mid new c.in_ok-answer.answer _ c.in_ok-answer.ensures.keeps
    (scene_fault mid new _ c.from_residual-in_err-drive_in_place.result c.from_residual-in_err-drive_in_place.ensures.0 c.from_residual-in_err-drive_in_place.ensures.1 c.in_err-drive_in_place.ensures.keeps)

-- The shelves differ, so after the first one's turn the others still have rows and places for late events; the turns make one.
use Rattle.std.proofs.Common.{ap, ◌∙◌, map, arith}
use Rattle.uicc_types.specs.declared.identifiers.Shelf.{Shelf}
use Rattle.card_state.specs.Memory.{memory}
use Rattle.applet_trait.specs.Minds.{minds_of}
use Rattle.toolkit_model.specs.Passing.{in_turn}
use Rattle.proactive_handler.specs.Serving.{triggered_one}
use Rattle.proactive_handler.specs.Scenes.{IsInService}
use Rattle.proactive_handler.proofs.ScenesLemmas.{scene_then, scene_done, scene_fault}
use Rattle.proactive_handler.specs.Steps.{scene}
use Rattle.proactive_handler.proofs.MovedLemmas.{has_rows}
use Rattle.proactive_handler.proofs.InTurnLemmas.{stopped_tells, turn_stops, turns_stop, turns_done, turns_answer, nobody_done, nobody_answers, none_of, rows_later, apart_later, first_apart, room_later, not_first, not_later, turn_leaves, turns_leave, turns_left, nobody_leaves}
use Rattle.proactive_handler.proofs.triggering.+trigger_each.Goals as goal

pub returns-in_err-answer-in-Some-clause-tells : goal.returns-in_err-answer-in-Some-clause-tells
returns-in_err-answer-in-Some-clause-tells g t c =
    let old = (scene (memory g.S.Store c.args.store.now c.args.loaded.now) c.args.index.now c.args.session.now (minds_of g.B.Applet.mind c.args.cast.now)) in
    let mid = (scene (memory g.S.Store c.trigger_one.new.store c.trigger_one.new.loaded) c.trigger_one.new.index c.trigger_one.new.session (minds_of g.B.Applet.mind c.trigger_one.new.cast)) in
    stopped_tells (in_turn (triggered_one c.args.kept c.args.code c.args.body.now) (map (λ (s : Shelf). s.0) c.args.to.now)) old mid c.args.cast.now c.trigger_one.new.cast c.from_residual.result c.from_residual.ensures.0
    (turn_stops (triggered_one c.args.kept c.args.code c.args.body.now) c.in-Some.shelf.now.0 (map (λ (s : Shelf). s.0) c.in-Some.others.now) _ (ap (map (λ (s : Shelf). s.0)) c.in-Some.ensures.cases.0) old mid c.from_residual.result c.from_residual.ensures.0 c.in_err-answer-in-Some.ensures.tells.moves)
    (turn_leaves (triggered_one c.args.kept c.args.code c.args.body.now) c.in-Some.shelf.now.0 (map (λ (s : Shelf). s.0) c.in-Some.others.now) _ (ap (map (λ (s : Shelf). s.0)) c.in-Some.ensures.cases.0) (scene (memory g.S.Store c.args.store.now c.args.loaded.now) c.args.index.now c.args.session.now (minds_of g.B.Applet.mind c.args.cast.now))
    (scene (memory g.S.Store c.trigger_one.new.store c.trigger_one.new.loaded) c.trigger_one.new.index c.trigger_one.new.session (minds_of g.B.Applet.mind c.trigger_one.new.cast))
    c.args.cast.now c.trigger_one.new.cast c.from_residual.result c.from_residual.ensures.0 c.in_err-answer-in-Some.ensures.tells.turns)

pub trigger_each-requires : goal.trigger_each-requires
trigger_each-requires g t c κs within =
    let is = c.in-Some.ensures.cases.0 in
    let kept = c.in_ok-answer-in-Some.ensures.keeps in
    let service : IsInService (scene (memory g.S.Store c.trigger_one.new.store c.trigger_one.new.loaded) c.trigger_one.new.index c.trigger_one.new.session (minds_of g.B.Applet.mind c.trigger_one.new.cast)) c.trigger_one.new.cast = record { mounted = kept.keeps.mounted; indexed = kept.indexed; shelves = omega (arith, c.trigger_one.auto.cast, c.requires.service.shelves); served = kept.served } in
    let rows = rows_later c.args.to.now c.in-Some.others.now c.in-Some.shelf.now is c.args.loaded.now c.trigger_one.new.loaded kept.rows_stay c.requires.rows in
    let apart = apart_later c.args.to.now c.in-Some.others.now c.in-Some.shelf.now is c.requires.apart in
    let room =
    room_later c.args.to.now c.in-Some.others.now c.in-Some.shelf.now is c.args.kept c.args.session.now c.trigger_one.new.session c.requires.room
    (c.in_ok-answer-in-Some.ensures.places (map (λ (s : Shelf). s.0) c.in-Some.others.now) (first_apart c.args.to.now c.in-Some.others.now c.in-Some.shelf.now is c.requires.apart)) in (
      omega (arith, c.decreases, c.in-Some.ensures.cases.1),
      (within.0, (within.1, (service, (rows, (apart, (c.requires.event, (c.requires.short, room))))))),
    )

pub returns-in_err-later-in-Some-clause-tells : goal.returns-in_err-later-in-Some-clause-tells
returns-in_err-later-in-Some-clause-tells g t c =
    let old = (scene (memory g.S.Store c.args.store.now c.args.loaded.now) c.args.index.now c.args.session.now (minds_of g.B.Applet.mind c.args.cast.now)) in
    let mid = (scene (memory g.S.Store c.trigger_one.new.store c.trigger_one.new.loaded) c.trigger_one.new.index c.trigger_one.new.session (minds_of g.B.Applet.mind c.trigger_one.new.cast)) in
    let new = (scene (memory g.S.Store c.trigger_each.new.store c.trigger_each.new.loaded) c.trigger_each.new.index c.trigger_each.new.session (minds_of g.B.Applet.mind c.trigger_each.new.cast)) in
    stopped_tells (in_turn (triggered_one c.args.kept c.args.code c.args.body.now) (map (λ (s : Shelf). s.0) c.args.to.now)) old new c.args.cast.now c.trigger_each.new.cast c.from_residual-in_err-later-in-Some.result c.from_residual-in_err-later-in-Some.ensures.0
    (turns_stop (triggered_one c.args.kept c.args.code c.args.body.now) c.in-Some.shelf.now.0 (map (λ (s : Shelf). s.0) c.in-Some.others.now) _ (ap (map (λ (s : Shelf). s.0)) c.in-Some.ensures.cases.0) old mid new c.from_residual-in_err-later-in-Some.result c.from_residual-in_err-later-in-Some.ensures.0 c.in_ok-answer-in-Some.ensures.tells.moves c.in_err-later-in-Some.ensures.tells.moves)
    (turns_leave (triggered_one c.args.kept c.args.code c.args.body.now) c.in-Some.shelf.now.0 (map (λ (s : Shelf). s.0) c.in-Some.others.now) _ (ap (map (λ (s : Shelf). s.0)) c.in-Some.ensures.cases.0) (scene (memory g.S.Store c.args.store.now c.args.loaded.now) c.args.index.now c.args.session.now (minds_of g.B.Applet.mind c.args.cast.now))
    (scene (memory g.S.Store c.trigger_one.new.store c.trigger_one.new.loaded) c.trigger_one.new.index c.trigger_one.new.session (minds_of g.B.Applet.mind c.trigger_one.new.cast))
    c.args.cast.now c.trigger_one.new.cast (scene (memory g.S.Store c.trigger_each.new.store c.trigger_each.new.loaded) c.trigger_each.new.index c.trigger_each.new.session (minds_of g.B.Applet.mind c.trigger_each.new.cast)) c.trigger_each.new.cast c.in_ok-answer-in-Some.ensures.tells.moves c.in_ok-answer-in-Some.ensures.tells.turns
    c.from_residual-in_err-later-in-Some.result c.from_residual-in_err-later-in-Some.ensures.0 c.in_err-later-in-Some.ensures.tells.turns)

pub returns-in_ok-later-in-Some-clause-tells : goal.returns-in_ok-later-in-Some-clause-tells
returns-in_ok-later-in-Some-clause-tells g t c =
    let old = (scene (memory g.S.Store c.args.store.now c.args.loaded.now) c.args.index.now c.args.session.now (minds_of g.B.Applet.mind c.args.cast.now)) in
    let mid = (scene (memory g.S.Store c.trigger_one.new.store c.trigger_one.new.loaded) c.trigger_one.new.index c.trigger_one.new.session (minds_of g.B.Applet.mind c.trigger_one.new.cast)) in
    let new = (scene (memory g.S.Store c.trigger_each.new.store c.trigger_each.new.loaded) c.trigger_each.new.index c.trigger_each.new.session (minds_of g.B.Applet.mind c.trigger_each.new.cast)) in record {
      moves = turns_done (triggered_one c.args.kept c.args.code c.args.body.now) c.in-Some.shelf.now.0 (map (λ (s : Shelf). s.0) c.in-Some.others.now) _ (ap (map (λ (s : Shelf). s.0)) c.in-Some.ensures.cases.0) old mid new c.in_ok-answer-in-Some.ensures.tells.moves c.in_ok-later-in-Some.ensures.tells.moves;
      answer = turns_answer (triggered_one c.args.kept c.args.code c.args.body.now) c.in-Some.shelf.now.0 (map (λ (s : Shelf). s.0) c.in-Some.others.now) _ (ap (map (λ (s : Shelf). s.0)) c.in-Some.ensures.cases.0) old mid c.in_ok-answer-in-Some.answer c.in_ok-later-in-Some.later _ c.or.ensures c.in_ok-answer-in-Some.ensures.tells.moves c.in_ok-answer-in-Some.ensures.tells.answer c.in_ok-later-in-Some.ensures.tells.answer;
      turns = turns_left (triggered_one c.args.kept c.args.code c.args.body.now) c.in-Some.shelf.now.0 (map (λ (s : Shelf). s.0) c.in-Some.others.now) _ (ap (map (λ (s : Shelf). s.0)) c.in-Some.ensures.cases.0) (scene (memory g.S.Store c.args.store.now c.args.loaded.now) c.args.index.now c.args.session.now (minds_of g.B.Applet.mind c.args.cast.now))
          (scene (memory g.S.Store c.trigger_one.new.store c.trigger_one.new.loaded) c.trigger_one.new.index c.trigger_one.new.session (minds_of g.B.Applet.mind c.trigger_one.new.cast))
          c.args.cast.now c.trigger_one.new.cast (scene (memory g.S.Store c.trigger_each.new.store c.trigger_each.new.loaded) c.trigger_each.new.index c.trigger_each.new.session (minds_of g.B.Applet.mind c.trigger_each.new.cast)) c.trigger_each.new.cast c.in_ok-answer-in-Some.ensures.tells.moves c.in_ok-answer-in-Some.ensures.tells.turns c.in_ok-later-in-Some.ensures.tells.turns;
    }

pub returns-in-None-clause-tells : goal.returns-in-None-clause-tells
returns-in-None-clause-tells g t c =
    let nobody = none_of (λ (s : Shelf). s.0) c.args.to.now c.in-None.ensures.cases in record {
      moves = nobody_done (triggered_one c.args.kept c.args.code c.args.body.now) _ (scene (memory g.S.Store c.args.store.now c.args.loaded.now) c.args.index.now c.args.session.now (minds_of g.B.Applet.mind c.args.cast.now)) nobody (has_rows c.tables_tell_states.ensures _ _ c.args.loaded.now c.requires.service.mounted.agrees);
      turns = nobody_leaves (triggered_one c.args.kept c.args.code c.args.body.now) _ (scene (memory g.S.Store c.args.store.now c.args.loaded.now) c.args.index.now c.args.session.now (minds_of g.B.Applet.mind c.args.cast.now)) nobody c.args.cast.now;
      answer = nobody_answers (triggered_one c.args.kept c.args.code c.args.body.now) _ (scene (memory g.S.Store c.args.store.now c.args.loaded.now) c.args.index.now c.args.session.now (minds_of g.B.Applet.mind c.args.cast.now)) nobody;
    }

pub returns-in_err-later-in-Some-clause-keeps : goal.returns-in_err-later-in-Some-clause-keeps
returns-in_err-later-in-Some-clause-keeps g t c =
    scene_then (scene (memory g.S.Store c.args.store.now c.args.loaded.now) c.args.index.now c.args.session.now (minds_of g.B.Applet.mind c.args.cast.now)) (scene (memory g.S.Store c.trigger_one.new.store c.trigger_one.new.loaded) c.trigger_one.new.index c.trigger_one.new.session (minds_of g.B.Applet.mind c.trigger_one.new.cast)) (scene (memory g.S.Store c.trigger_each.new.store c.trigger_each.new.loaded) c.trigger_each.new.index c.trigger_each.new.session (minds_of g.B.Applet.mind c.trigger_each.new.cast)) c.in_ok-answer-in-Some.answer c.from_residual-in_err-later-in-Some.result c.in_ok-answer-in-Some.ensures.keeps
    (scene_fault (scene (memory g.S.Store c.trigger_one.new.store c.trigger_one.new.loaded) c.trigger_one.new.index c.trigger_one.new.session (minds_of g.B.Applet.mind c.trigger_one.new.cast)) (scene (memory g.S.Store c.trigger_each.new.store c.trigger_each.new.loaded) c.trigger_each.new.index c.trigger_each.new.session (minds_of g.B.Applet.mind c.trigger_each.new.cast)) c.in_err-later-in-Some.field-0.0 c.from_residual-in_err-later-in-Some.result c.from_residual-in_err-later-in-Some.ensures.0 c.from_residual-in_err-later-in-Some.ensures.1 c.in_err-later-in-Some.ensures.keeps)

pub returns-in_ok-later-in-Some-clause-keeps : goal.returns-in_ok-later-in-Some-clause-keeps
returns-in_ok-later-in-Some-clause-keeps g t c = scene_then (scene (memory g.S.Store c.args.store.now c.args.loaded.now) c.args.index.now c.args.session.now (minds_of g.B.Applet.mind c.args.cast.now)) (scene (memory g.S.Store c.trigger_one.new.store c.trigger_one.new.loaded) c.trigger_one.new.index c.trigger_one.new.session (minds_of g.B.Applet.mind c.trigger_one.new.cast)) (scene (memory g.S.Store c.trigger_each.new.store c.trigger_each.new.loaded) c.trigger_each.new.index c.trigger_each.new.session (minds_of g.B.Applet.mind c.trigger_each.new.cast)) c.in_ok-answer-in-Some.answer _ c.in_ok-answer-in-Some.ensures.keeps
    (scene_done (scene (memory g.S.Store c.trigger_one.new.store c.trigger_one.new.loaded) c.trigger_one.new.index c.trigger_one.new.session (minds_of g.B.Applet.mind c.trigger_one.new.cast)) (scene (memory g.S.Store c.trigger_each.new.store c.trigger_each.new.loaded) c.trigger_each.new.index c.trigger_each.new.session (minds_of g.B.Applet.mind c.trigger_each.new.cast)) c.in_ok-later-in-Some.later _ c.in_ok-later-in-Some.ensures.keeps)

pub returns-in_err-answer-in-Some-clause-untold : goal.returns-in_err-answer-in-Some-clause-untold
returns-in_err-answer-in-Some-clause-untold g t c = λ other apart.
    c.trigger_one.ensures.untold other (not_first c.args.to.now c.in-Some.others.now c.in-Some.shelf.now c.in-Some.ensures.cases.0 other apart)

pub returns-in_err-later-in-Some-clause-untold : goal.returns-in_err-later-in-Some-clause-untold
returns-in_err-later-in-Some-clause-untold g t c = λ other apart.
    c.trigger_each.ensures.untold other (not_later c.args.to.now c.in-Some.others.now c.in-Some.shelf.now c.in-Some.ensures.cases.0 other apart)
    ∙ c.trigger_one.ensures.untold other (not_first c.args.to.now c.in-Some.others.now c.in-Some.shelf.now c.in-Some.ensures.cases.0 other apart)

pub returns-in_ok-later-in-Some-clause-untold : goal.returns-in_ok-later-in-Some-clause-untold
returns-in_ok-later-in-Some-clause-untold g t c = λ other apart.
    c.trigger_each.ensures.untold other (not_later c.args.to.now c.in-Some.others.now c.in-Some.shelf.now c.in-Some.ensures.cases.0 other apart)
    ∙ c.trigger_one.ensures.untold other (not_first c.args.to.now c.in-Some.others.now c.in-Some.shelf.now c.in-Some.ensures.cases.0 other apart)

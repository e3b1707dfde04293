-- The late trigger taken out is of an idle applet with a row, whose run leaves the other late ones; so the rest is caught up from there.
use Rattle.std.proofs.Common.{◌-◌, sym, ap, ◌∙◌, subst, false, List, arith, refl}
use Rattle.card_state.specs.Memory.{memory}
use Rattle.applet_trait.specs.Minds.{minds_of}
use Rattle.applet_trait.specs.declared.stimuli.Stimulus.TheVariants.{Event}
use Rattle.toolkit_model.specs.Sessions.{SessionState, LateTrigger}
use Rattle.toolkit_model.specs.Driving.{caught_up}
use Rattle.toolkit_model.specs.Passing.{ToolkitState}
use Rattle.toolkit_model.proofs.AsksLemmas.{run_late}
use Rattle.event_dispatch.specs.Frames.{kept}
use Rattle.proactive_handler.specs.Boxes.{AreForOthers}
use Rattle.proactive_handler.specs.Steps.{scene, IsDone, toolkit}
use Rattle.proactive_handler.proofs.ScenesLemmas.{scene_then, scene_since}
use Rattle.proactive_handler.proofs.MovedLemmas.{has_rows}
use Rattle.proactive_handler.proofs.CaughtUpLemmas.{caught_row, caught_idle, caught_served, caught_apart, zero_done, none_done, one_stops, more_moves, one_leaves, more_leaves}
use Rattle.proactive_handler.proofs.driving.+catch_each.Goals as goal

pub returns-then-count-eq0-clause-moves : goal.returns-then-count-eq0-clause-moves
returns-then-count-eq0-clause-moves g t c =
    zero_done c.args.count (scene (memory g.S.Store c.args.store.now c.args.loaded.now) c.args.index.now c.args.session.now (minds_of g.B.Applet.mind c.args.cast.now))
    (has_rows c.tables_tell_states.ensures _ _ c.args.loaded.now c.requires.service.mounted.agrees) (omega (arith, c.if-count-eq0.true))

pub run_alone-requires-clause-row : goal.run_alone-requires-clause-row
run_alone-requires-clause-row g t c = caught_row c.args.loaded.now c.args.session.now c.take_late.new.self (kept c.in-Some.trigger) c.requires.service.served c.in-Some.ensures.0 c.in-Some.ensures.1

pub run_alone-requires-clause-service : goal.run_alone-requires-clause-service
run_alone-requires-clause-service g t c = record {
  mounted = c.requires.service.mounted;
  indexed = c.requires.service.indexed;
  shelves = c.requires.service.shelves;
  served = caught_served c.args.loaded.now c.args.session.now c.take_late.new.self (kept c.in-Some.trigger) c.requires.service.served c.in-Some.ensures.0 c.in-Some.ensures.1;
}

pub run_alone-requires-clause-idle : goal.run_alone-requires-clause-idle
run_alone-requires-clause-idle g t c = caught_idle c.args.loaded.now c.args.session.now c.take_late.new.self (kept c.in-Some.trigger) c.requires.service.served c.in-Some.ensures.0 c.in-Some.ensures.1

pub returns-in_err-run_alone-in-Some-clause-moves : goal.returns-in_err-run_alone-in-Some-clause-moves
returns-in_err-run_alone-in-Some-clause-moves g t c =
    one_stops c.args.count (c.args.count - 1) (scene (memory g.S.Store c.args.store.now c.args.loaded.now) c.args.index.now c.args.session.now (minds_of g.B.Applet.mind c.args.cast.now)) c.take_late.new.self (kept c.in-Some.trigger)
    (scene (memory g.S.Store c.run_alone.new.store c.run_alone.new.loaded) c.run_alone.new.index c.run_alone.new.session (minds_of g.B.Applet.mind c.run_alone.new.cast))
    (omega (arith, c.if-count-eq0.false)) c.in-Some.ensures.0 c.in-Some.ensures.1 c.from_residual.result c.from_residual.ensures.0 c.in_err-run_alone-in-Some.ensures.tells.moves

pub returns-in_ok-run_alone-in-Some-clause-moves : goal.returns-in_ok-run_alone-in-Some-clause-moves
returns-in_ok-run_alone-in-Some-clause-moves g t c =
    more_moves c.args.count (c.args.count - 1) (scene (memory g.S.Store c.args.store.now c.args.loaded.now) c.args.index.now c.args.session.now (minds_of g.B.Applet.mind c.args.cast.now)) c.take_late.new.self (kept c.in-Some.trigger)
    (scene (memory g.S.Store c.run_alone.new.store c.run_alone.new.loaded) c.run_alone.new.index c.run_alone.new.session (minds_of g.B.Applet.mind c.run_alone.new.cast))
    (omega (arith, c.if-count-eq0.false)) c.in-Some.ensures.0 c.in-Some.ensures.1 _ c.catch_each.result c.in_ok-run_alone-in-Some.ensures.tells.moves c.catch_each.ensures.moves

pub returns-in-None-clause-moves : goal.returns-in-None-clause-moves
returns-in-None-clause-moves g t c =
    let old = scene (memory g.S.Store c.args.store.now c.args.loaded.now) c.args.index.now c.args.session.now (minds_of g.B.Applet.mind c.args.cast.now) in
    subst (λ (s : SessionState). IsDone (caught_up c.args.count (toolkit old)) old (record old { session = s })) (sym c.in-None.ensures.1)
    (none_done c.args.count (c.args.count - 1) old (has_rows c.tables_tell_states.ensures _ _ c.args.loaded.now c.requires.service.mounted.agrees) (omega (arith, c.if-count-eq0.false)) c.in-None.ensures.0)

pub returns-in_ok-run_alone-in-Some-clause-keeps : goal.returns-in_ok-run_alone-in-Some-clause-keeps
returns-in_ok-run_alone-in-Some-clause-keeps g t c =
    let old = (scene (memory g.S.Store c.args.store.now c.args.loaded.now) c.args.index.now c.args.session.now (minds_of g.B.Applet.mind c.args.cast.now)) in
    let mid = (scene (memory g.S.Store c.run_alone.new.store c.run_alone.new.loaded) c.run_alone.new.index c.run_alone.new.session (minds_of g.B.Applet.mind c.run_alone.new.cast)) in
    scene_then old mid
    (scene (memory g.S.Store c.catch_each.new.store c.catch_each.new.loaded) c.catch_each.new.index c.catch_each.new.session (minds_of g.B.Applet.mind c.catch_each.new.cast)) _ c.catch_each.result
    (scene_since old (record old { session = c.take_late.new.self }) mid _ refl refl c.in_ok-run_alone-in-Some.ensures.keeps) c.catch_each.ensures.keeps

pub returns-in_err-run_alone-in-Some-clause-untold : goal.returns-in_err-run_alone-in-Some-clause-untold
returns-in_err-run_alone-in-Some-clause-untold g t c = λ other apart.
    c.run_alone.ensures.untold other (caught_apart other c.args.session.now c.take_late.new.self (kept c.in-Some.trigger) c.in-Some.ensures.0 apart).0

pub returns-in_ok-run_alone-in-Some-clause-untold : goal.returns-in_ok-run_alone-in-Some-clause-untold
returns-in_ok-run_alone-in-Some-clause-untold g t c = λ other apart.
    let two = caught_apart other c.args.session.now c.take_late.new.self (kept c.in-Some.trigger) c.in-Some.ensures.0 apart in
    let late =
    ap (λ (s : ToolkitState). s.session.late) c.in_ok-run_alone-in-Some.ensures.tells.moves.state_is
    ∙ run_late c.in-Some.trigger.shelf.0 (Event c.in-Some.trigger.code c.in-Some.trigger.body) false (toolkit (scene (memory g.S.Store c.args.store.now c.args.loaded.now) c.args.index.now c.take_late.new.self (minds_of g.B.Applet.mind c.args.cast.now))) in
    c.catch_each.ensures.untold other (subst (λ (l : List LateTrigger). AreForOthers other l) (sym late) two.1) ∙ c.run_alone.ensures.untold other two.0

pub returns-then-count-eq0-clause-turns : goal.returns-then-count-eq0-clause-turns
returns-then-count-eq0-clause-turns g t c = λ shelf none. refl

pub returns-in_err-run_alone-in-Some-clause-turns : goal.returns-in_err-run_alone-in-Some-clause-turns
returns-in_err-run_alone-in-Some-clause-turns g t c =
    one_leaves c.args.count (c.args.count - 1) (scene (memory g.S.Store c.args.store.now c.args.loaded.now) c.args.index.now c.args.session.now (minds_of g.B.Applet.mind c.args.cast.now)) c.take_late.new.self (kept c.in-Some.trigger)
    (scene (memory g.S.Store c.run_alone.new.store c.run_alone.new.loaded) c.run_alone.new.index c.run_alone.new.session (minds_of g.B.Applet.mind c.run_alone.new.cast))
    (omega (arith, c.if-count-eq0.false)) c.in-Some.ensures.0 c.in-Some.ensures.1
    c.args.cast.now c.run_alone.new.cast c.from_residual.result c.from_residual.ensures.0 c.in_err-run_alone-in-Some.ensures.tells.turns

pub returns-in_ok-run_alone-in-Some-clause-turns : goal.returns-in_ok-run_alone-in-Some-clause-turns
returns-in_ok-run_alone-in-Some-clause-turns g t c =
    more_leaves c.args.count (c.args.count - 1) (scene (memory g.S.Store c.args.store.now c.args.loaded.now) c.args.index.now c.args.session.now (minds_of g.B.Applet.mind c.args.cast.now)) c.take_late.new.self (kept c.in-Some.trigger)
    (scene (memory g.S.Store c.run_alone.new.store c.run_alone.new.loaded) c.run_alone.new.index c.run_alone.new.session (minds_of g.B.Applet.mind c.run_alone.new.cast))
    (omega (arith, c.if-count-eq0.false)) c.in-Some.ensures.0 c.in-Some.ensures.1
    (scene (memory g.S.Store c.catch_each.new.store c.catch_each.new.loaded) c.catch_each.new.index c.catch_each.new.session (minds_of g.B.Applet.mind c.catch_each.new.cast)) c.args.cast.now c.run_alone.new.cast c.catch_each.new.cast c.catch_each.result c.in_ok-run_alone-in-Some.ensures.tells.moves c.in_ok-run_alone-in-Some.ensures.tells.turns c.catch_each.ensures.turns

pub returns-in-None-clause-turns : goal.returns-in-None-clause-turns
returns-in-None-clause-turns g t c = λ shelf none. refl

-- The response leaves what is late as it was, so answering it and ending the command are one step that leaves the others' boxes alone.
use Rattle.std.proofs.Common.{sym, ap, ◌∙◌, subst, List}
use Rattle.card_state.specs.Memory.{memory}
use Rattle.toolkit_commands.specs.Replies.{replied}
use Rattle.applet_trait.specs.Minds.{minds_of}
use Rattle.toolkit_model.specs.Sessions.{LateTrigger}
use Rattle.toolkit_model.specs.Passing.{ToolkitState}
use Rattle.proactive_handler.specs.Boxes.{AreForOthers}
use Rattle.proactive_handler.proofs.ScenesLemmas.{scene_then}
use Rattle.proactive_handler.specs.Steps.{scene, toolkit}
use Rattle.proactive_handler.proofs.IsSessionServedLemmas.{awaited}
use Rattle.proactive_handler.proofs.AnsweredLemmas.{of_awaited, awaited_of, answered_late, responded_stops, responded_moves, responded_leaves, responded_turns}
use Rattle.proactive_handler.proofs.responding.respond_and_drive.Goals as goal

pub returns-in_err-respond_in_place-clause-moves : goal.returns-in_err-respond_in_place-clause-moves
returns-in_err-respond_in_place-clause-moves g c =
    let waits = awaited c.args.session.now c.requires.fetched in
    of_awaited c.args.session.now waits _
    (responded_stops waits.out (replied c.args.response.now) (scene (memory g.S.Store c.args.store.now c.args.loaded.now) c.args.index.now c.args.session.now (minds_of g.B.Applet.mind c.args.cast.now))
    (scene (memory g.S.Store c.respond_in_place.new.store c.respond_in_place.new.loaded) c.respond_in_place.new.index c.respond_in_place.new.session (minds_of g.B.Applet.mind c.respond_in_place.new.cast))
    c.from_residual.result c.from_residual.ensures.0 (awaited_of c.args.session.now waits _ c.in_err-respond_in_place.ensures.moves))

pub returns-clause-moves : goal.returns-clause-moves
returns-clause-moves g c =
    let waits = awaited c.args.session.now c.requires.fetched in
    of_awaited c.args.session.now waits _
    (responded_moves waits.out (replied c.args.response.now) (scene (memory g.S.Store c.args.store.now c.args.loaded.now) c.args.index.now c.args.session.now (minds_of g.B.Applet.mind c.args.cast.now))
    (scene (memory g.S.Store c.respond_in_place.new.store c.respond_in_place.new.loaded) c.respond_in_place.new.index c.respond_in_place.new.session (minds_of g.B.Applet.mind c.respond_in_place.new.cast))
    _ c.drive_in_place.result (awaited_of c.args.session.now waits _ c.in_ok-respond_in_place.ensures.moves) c.drive_in_place.ensures.moves)

pub returns-clause-keeps : goal.returns-clause-keeps
returns-clause-keeps g c =
    scene_then (scene (memory g.S.Store c.args.store.now c.args.loaded.now) c.args.index.now c.args.session.now (minds_of g.B.Applet.mind c.args.cast.now))
    (scene (memory g.S.Store c.respond_in_place.new.store c.respond_in_place.new.loaded) c.respond_in_place.new.index c.respond_in_place.new.session (minds_of g.B.Applet.mind c.respond_in_place.new.cast))
    (scene (memory g.S.Store c.drive_in_place.new.store c.drive_in_place.new.loaded) c.drive_in_place.new.index c.drive_in_place.new.session (minds_of g.B.Applet.mind c.drive_in_place.new.cast)) _ c.drive_in_place.result c.in_ok-respond_in_place.ensures.keeps c.drive_in_place.ensures.keeps

pub returns-clause-untold : goal.returns-clause-untold
returns-clause-untold g c = λ other owner apart.
    let waits = awaited c.args.session.now c.requires.fetched in
    let late =
    ap (λ (s : ToolkitState). s.session.late) (awaited_of c.args.session.now waits _ c.in_ok-respond_in_place.ensures.moves).state_is
    ∙ answered_late waits.out (replied c.args.response.now) (toolkit (scene (memory g.S.Store c.args.store.now c.args.loaded.now) c.args.index.now c.args.session.now (minds_of g.B.Applet.mind c.args.cast.now))) in
    c.drive_in_place.ensures.untold other (subst (λ (l : List LateTrigger). AreForOthers other l) (sym late) apart) ∙ c.respond_in_place.ensures.untold other owner

pub returns-in_err-respond_in_place-clause-turns : goal.returns-in_err-respond_in_place-clause-turns
returns-in_err-respond_in_place-clause-turns g c =
    let waits = awaited c.args.session.now c.requires.fetched in
    of_awaited c.args.session.now waits _
    (responded_leaves waits.out (replied c.args.response.now) (scene (memory g.S.Store c.args.store.now c.args.loaded.now) c.args.index.now c.args.session.now (minds_of g.B.Applet.mind c.args.cast.now))
    (scene (memory g.S.Store c.respond_in_place.new.store c.respond_in_place.new.loaded) c.respond_in_place.new.index c.respond_in_place.new.session (minds_of g.B.Applet.mind c.respond_in_place.new.cast))
    c.args.cast.now c.respond_in_place.new.cast c.from_residual.result c.from_residual.ensures.0 (awaited_of c.args.session.now waits _ c.in_err-respond_in_place.ensures.turns))

pub returns-clause-turns : goal.returns-clause-turns
returns-clause-turns g c =
    let waits = awaited c.args.session.now c.requires.fetched in
    of_awaited c.args.session.now waits _
    (responded_turns waits.out (replied c.args.response.now) (scene (memory g.S.Store c.args.store.now c.args.loaded.now) c.args.index.now c.args.session.now (minds_of g.B.Applet.mind c.args.cast.now))
    (scene (memory g.S.Store c.respond_in_place.new.store c.respond_in_place.new.loaded) c.respond_in_place.new.index c.respond_in_place.new.session (minds_of g.B.Applet.mind c.respond_in_place.new.cast))
    (scene (memory g.S.Store c.drive_in_place.new.store c.drive_in_place.new.loaded) c.drive_in_place.new.index c.drive_in_place.new.session (minds_of g.B.Applet.mind c.drive_in_place.new.cast)) c.args.cast.now c.respond_in_place.new.cast c.drive_in_place.new.cast c.drive_in_place.result (awaited_of c.args.session.now waits _ c.in_ok-respond_in_place.ensures.moves) (awaited_of c.args.session.now waits _ c.in_ok-respond_in_place.ensures.turns) c.drive_in_place.ensures.turns)

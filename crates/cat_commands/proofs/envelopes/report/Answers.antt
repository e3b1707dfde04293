-- What is noted of the event first leaves what is late and who is asked, so the shelves that are told of it have the tested places.
use Rattle.std.proofs.Common.{◌≡◌, refl, sym, subst, List}
use Rattle.std.proofs.lemmas.Result.{IfOk-weaker}
use Rattle.card_state.specs.Memory.{memory}
use Rattle.card_state.specs.States.{rows_of}
use Rattle.toolkit_commands.specs.Reports.{reported}
use Rattle.applet_trait.specs.Minds.{minds_of}
use Rattle.toolkit_model.specs.Sessions.{LateTrigger}
use Rattle.toolkit_model.specs.Commands.{triggered, last_answer}
use Rattle.proactive_handler.specs.Boxes.{AreForOthers}
use Rattle.proactive_handler.proofs.ScenesLemmas.{scene_since}
use Rattle.proactive_handler.specs.Steps.{scene, toolkit}
use Rattle.cat_commands.proofs.TellsOfLemmas.{report_late, report_served, report_places, report_moves, report_answers}
use Rattle.cat_commands.proofs.envelopes.report.Goals as goal

pub tell-requires-clause-service : goal.tell-requires-clause-service
tell-requires-clause-service g c =
    record {
      mounted = c.requires.rests.mounted;
      indexed = c.requires.rests.indexed;
      shelves = c.requires.rests.shelves;
      served = report_served c.args.loaded.now (reported c.args.envelope.now) c.args.session.now c.note_reported.new.session c.note_reported.ensures (c.sessions_are_served.ensures c.args.loaded.now c.args.session.now c.requires.rests.order.session.underway);
    }

pub tell-requires-clause-room : goal.tell-requires-clause-room
tell-requires-clause-room g c =
    λ kept.
    report_places c.args.loaded.now (reported c.args.envelope.now) c.args.session.now c.note_reported.new.session c.note_reported.ensures (rows_of c.args.loaded.now) (toolkit (scene (memory g.S.Store c.args.store.now c.args.loaded.now) c.args.index.now c.args.session.now (minds_of g.B.Applet.mind c.args.cast.now)))
    c.args.trigger.now.shelves refl c.requires.rests.order.session.underway.few_late c.requires.trigger.shelves c.requires.room

pub returns-clause-moves : goal.returns-clause-moves
returns-clause-moves g c =
    report_moves (reported c.args.envelope.now) c.args.trigger.now.code c.args.trigger.now.shelves c.args.trigger.now.body.now (scene (memory g.S.Store c.args.store.now c.args.loaded.now) c.args.index.now c.args.session.now (minds_of g.B.Applet.mind c.args.cast.now)) (scene (memory g.S.Store c.args.store.now c.args.loaded.now) c.args.index.now c.note_reported.new.session (minds_of g.B.Applet.mind c.args.cast.now)) (scene (memory g.S.Store c.tell.new.store c.tell.new.loaded) c.tell.new.index c.tell.new.session (minds_of g.B.Applet.mind c.tell.new.cast))
    c.note_reported.new.session c.requires.trigger.code c.requires.trigger.body c.requires.trigger.shelves c.note_reported.ensures refl refl c.tell.result c.tell.ensures.moves

pub returns-clause-answer : goal.returns-clause-answer
returns-clause-answer g c =
    IfOk-weaker c.tell.result _ (λ answer. answer ≡ last_answer (triggered (reported c.args.envelope.now) (toolkit (scene (memory g.S.Store c.args.store.now c.args.loaded.now) c.args.index.now c.args.session.now (minds_of g.B.Applet.mind c.args.cast.now)))).log)
    (λ answer is. report_answers (reported c.args.envelope.now) c.args.trigger.now.code c.args.trigger.now.shelves c.args.trigger.now.body.now (scene (memory g.S.Store c.args.store.now c.args.loaded.now) c.args.index.now c.args.session.now (minds_of g.B.Applet.mind c.args.cast.now)) (scene (memory g.S.Store c.args.store.now c.args.loaded.now) c.args.index.now c.note_reported.new.session (minds_of g.B.Applet.mind c.args.cast.now)) (scene (memory g.S.Store c.tell.new.store c.tell.new.loaded) c.tell.new.index c.tell.new.session (minds_of g.B.Applet.mind c.tell.new.cast))
    c.note_reported.new.session c.requires.trigger.code c.requires.trigger.body c.requires.trigger.shelves c.note_reported.ensures refl refl answer is)
    c.tell.ensures.answer

pub returns-clause-untold : goal.returns-clause-untold
returns-clause-untold g c =
    λ other differ apart.
    c.tell.ensures.untold other differ
    (subst (λ (late : List LateTrigger). AreForOthers other late) (sym (report_late c.args.loaded.now (reported c.args.envelope.now) c.args.session.now c.note_reported.new.session c.note_reported.ensures)) apart)

pub returns-clause-keeps : goal.returns-clause-keeps
returns-clause-keeps g c =
    scene_since (scene (memory g.S.Store c.args.store.now c.args.loaded.now) c.args.index.now c.args.session.now (minds_of g.B.Applet.mind c.args.cast.now)) (scene (memory g.S.Store c.args.store.now c.args.loaded.now) c.args.index.now c.note_reported.new.session (minds_of g.B.Applet.mind c.args.cast.now)) (scene (memory g.S.Store c.tell.new.store c.tell.new.loaded) c.tell.new.index c.tell.new.session (minds_of g.B.Applet.mind c.tell.new.cast)) c.tell.result refl refl c.tell.ensures.keeps

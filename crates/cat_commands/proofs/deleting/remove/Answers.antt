-- Where a fault stops what follows the row's commit, the box that was taken out is on its shelf again, with the mind that it had.
use Rattle.std.proofs.Common.{sym, subst, List, ◌∙◌}
use Rattle.card_state.specs.Memory.{memory}
use Rattle.applet_trait.specs.Minds.{minds_of}
use Rattle.toolkit_model.specs.Sessions.{LateTrigger}
use Rattle.proactive_handler.specs.Boxes.{AreForOthers}
use Rattle.proactive_handler.specs.Steps.{scene}
use Rattle.cat_commands.proofs.KeepsBesidesLemmas.{besides_then, besides_again}
use Rattle.cat_commands.proofs.DeletingLemmas.{removed_stops, removed_done, removed_then_stops, has_lost}
use Rattle.cat_commands.proofs.deleting.remove.Goals as goal

pub returns-in_err-applet-clause-moves : goal.returns-in_err-applet-clause-moves
returns-in_err-applet-clause-moves g c =
    removed_stops c.args.shelf.0 (scene (memory g.S.Store c.args.store.now c.args.loaded.now) c.args.index.now c.args.session.now (minds_of g.B.Applet.mind c.args.cast.now)) (scene (memory g.S.Store c.unregister.new.store c.unregister.new.loaded) c.unregister.new.index c.unregister.new.session (minds_of g.B.Applet.mind c.unregister.new.cast)) c.from_residual.result c.from_residual.ensures.0 c.in_err-applet.ensures.moves

pub returns-in-Ok-clause-moves : goal.returns-in-Ok-clause-moves
returns-in-Ok-clause-moves g c =
    removed_done c.args.shelf.0 (scene (memory g.S.Store c.args.store.now c.args.loaded.now) c.args.index.now c.args.session.now (minds_of g.B.Applet.mind c.args.cast.now)) (scene (memory g.S.Store c.unregister.new.store c.unregister.new.loaded) c.unregister.new.index c.unregister.new.session (minds_of g.B.Applet.mind c.unregister.new.cast)) (scene (memory g.S.Store c.drive_in_place.new.store c.drive_in_place.new.loaded) c.drive_in_place.new.index c.drive_in_place.new.session (minds_of g.B.Applet.mind c.drive_in_place.new.cast)) c.in_ok-applet.ensures.moves c.in-Ok.ensures.moves

pub returns-in-Ok-clause-lost : goal.returns-in-Ok-clause-lost
returns-in-Ok-clause-lost g c =
    has_lost c.args.shelf.0 (scene (memory g.S.Store c.args.store.now c.args.loaded.now) c.args.index.now c.args.session.now (minds_of g.B.Applet.mind c.args.cast.now)) (scene (memory g.S.Store c.unregister.new.store c.unregister.new.loaded) c.unregister.new.index c.unregister.new.session (minds_of g.B.Applet.mind c.unregister.new.cast)) (scene (memory g.S.Store c.drive_in_place.new.store c.drive_in_place.new.loaded) c.drive_in_place.new.index c.drive_in_place.new.session (minds_of g.B.Applet.mind c.drive_in_place.new.cast)) c.in_ok-applet.ensures.moves c.in-Ok.ensures.moves c.drive_in_place.ensures.keeps.kinds

pub returns-in-Ok-clause-keeps : goal.returns-in-Ok-clause-keeps
returns-in-Ok-clause-keeps g c =
    besides_then c.args.shelf.0 (scene (memory g.S.Store c.args.store.now c.args.loaded.now) c.args.index.now c.args.session.now (minds_of g.B.Applet.mind c.args.cast.now)) (scene (memory g.S.Store c.unregister.new.store c.unregister.new.loaded) c.unregister.new.index c.unregister.new.session (minds_of g.B.Applet.mind c.unregister.new.cast)) (scene (memory g.S.Store c.drive_in_place.new.store c.drive_in_place.new.loaded) c.drive_in_place.new.index c.drive_in_place.new.session (minds_of g.B.Applet.mind c.drive_in_place.new.cast)) _ _ c.in_ok-applet.ensures.keeps c.in-Ok.ensures.keeps

pub returns-in-Err-clause-moves : goal.returns-in-Err-clause-moves
returns-in-Err-clause-moves g c =
    removed_then_stops c.args.shelf.0 (scene (memory g.S.Store c.args.store.now c.args.loaded.now) c.args.index.now c.args.session.now (minds_of g.B.Applet.mind c.args.cast.now)) (scene (memory g.S.Store c.unregister.new.store c.unregister.new.loaded) c.unregister.new.index c.unregister.new.session (minds_of g.B.Applet.mind c.unregister.new.cast)) (scene (memory g.S.Store c.drive_in_place.new.store c.drive_in_place.new.loaded) c.drive_in_place.new.index c.drive_in_place.new.session (minds_of g.B.Applet.mind c.put_back.new.cast)) c.in_ok-applet.ensures.moves c.in-Err.ensures.moves

pub returns-in-Err-clause-keeps : goal.returns-in-Err-clause-keeps
returns-in-Err-clause-keeps g c =
    besides_again c.args.shelf.0 (scene (memory g.S.Store c.args.store.now c.args.loaded.now) c.args.index.now c.args.session.now (minds_of g.B.Applet.mind c.args.cast.now)) (scene (memory g.S.Store c.unregister.new.store c.unregister.new.loaded) c.unregister.new.index c.unregister.new.session (minds_of g.B.Applet.mind c.unregister.new.cast)) (scene (memory g.S.Store c.drive_in_place.new.store c.drive_in_place.new.loaded) c.drive_in_place.new.index c.drive_in_place.new.session (minds_of g.B.Applet.mind c.drive_in_place.new.cast)) _ c.in-Err.fault (minds_of g.B.Applet.mind c.put_back.new.cast) _ c.requires.may_go.row
    c.in_ok-applet.ensures.taken.gone c.in_ok-applet.ensures.taken.taken c.put_back.ensures.minds c.in_ok-applet.ensures.keeps c.in-Err.ensures.keeps

pub returns-in_err-applet-clause-untold : goal.returns-in_err-applet-clause-untold
returns-in_err-applet-clause-untold g c =
    λ other differs apart. c.unregister.ensures.taken.others other differs

pub returns-in-Ok-clause-untold : goal.returns-in-Ok-clause-untold
returns-in-Ok-clause-untold g c =
    λ other differs apart.
    c.drive_in_place.ensures.untold other (subst (λ (late : List LateTrigger). AreForOthers other late) (sym c.in_ok-applet.ensures.late) apart) ∙ c.unregister.ensures.taken.others other differs

pub returns-in-Err-clause-untold : goal.returns-in-Err-clause-untold
returns-in-Err-clause-untold g c =
    λ other differs apart.
    c.put_back.ensures.others other differs
    ∙ c.drive_in_place.ensures.untold other (subst (λ (late : List LateTrigger). AreForOthers other late) (sym c.in_ok-applet.ensures.late) apart) ∙ c.unregister.ensures.taken.others other differs

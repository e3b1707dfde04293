-- The slice that the vector lends holds its boxes.
use Rattle.std.proofs.Common.{ℕ, List, length, Option, sym, ap, ◌∙◌, subst}
use Rattle.std.proofs.lemmas.List.{with_items_is}
use Rattle.card_state.specs.Memory.{memory}
use Rattle.applet_trait.specs.Minds.{minds_of}
use Rattle.toolkit_model.specs.Driving.{driven}
use Rattle.proactive_handler.specs.Boxes.{IsSameBox, AreForOthers}
use Rattle.proactive_handler.specs.Steps.{scene, Moves}
use Rattle.proactive_handler.specs.Reached.{TurnsOnly}
use Rattle.proactive_handler.specs.Scenes.{IsInService, KeepsScene}
use Rattle.proactive_handler.proofs.LentLemmas.{lent}
use Rattle.proactive_handler.proofs.ScenesLemmas.{service_again}
use Rattle.proactive_handler.proofs.session.Session.drive.Goals as goal

pub drive_in_place-requires : goal.drive_in_place-requires
drive_in_place-requires g c = record {
  service = subst (λ (was : List (Option g.row.B.Denot)). IsInService (scene (memory g.S.Store c.args.store.now c.args.loaded.now) c.args.index.now c.args.self.now (minds_of g.B.Applet.mind was)) was) (sym c.deref_mut.ensures.value) c.requires.service;
}

pub returns-clause-moves : goal.returns-clause-moves
returns-clause-moves g c =
    lent (λ (was now : List (Option g.row.B.Denot)). Moves driven (scene (memory g.S.Store c.args.store.now c.args.loaded.now) c.args.index.now c.args.self.now (minds_of g.B.Applet.mind was)) (scene (memory g.S.Store c.drive_in_place.new.store c.drive_in_place.new.loaded) c.drive_in_place.new.index c.drive_in_place.new.session (minds_of g.B.Applet.mind now)) c.drive_in_place.result)
    c.deref_mut.result.now c.args.cast.now.items c.drive_in_place.new.cast _ c.deref_mut.ensures.value
    (with_items_is c.args.cast.now c.drive_in_place.new.cast (c.drive_in_place.auto.cast ∙ c.deref_mut.ensures.len))
    c.drive_in_place.ensures.moves

pub returns-clause-turns : goal.returns-clause-turns
returns-clause-turns g c =
    lent (λ (was now : List (Option g.row.B.Denot)). TurnsOnly driven (scene (memory g.S.Store c.args.store.now c.args.loaded.now) c.args.index.now c.args.self.now (minds_of g.B.Applet.mind was)) (scene (memory g.S.Store c.drive_in_place.new.store c.drive_in_place.new.loaded) c.drive_in_place.new.index c.drive_in_place.new.session (minds_of g.B.Applet.mind now)) was now c.drive_in_place.result)
    c.deref_mut.result.now c.args.cast.now.items c.drive_in_place.new.cast _ c.deref_mut.ensures.value
    (with_items_is c.args.cast.now c.drive_in_place.new.cast (c.drive_in_place.auto.cast ∙ c.deref_mut.ensures.len))
    c.drive_in_place.ensures.turns

pub returns-clause-untold : goal.returns-clause-untold
returns-clause-untold g c =
    lent (λ (was now : List (Option g.row.B.Denot)). (other : ℕ) → AreForOthers other c.args.self.now.late → IsSameBox other was now)
    c.deref_mut.result.now c.args.cast.now.items c.drive_in_place.new.cast _ c.deref_mut.ensures.value
    (with_items_is c.args.cast.now c.drive_in_place.new.cast (c.drive_in_place.auto.cast ∙ c.deref_mut.ensures.len))
    c.drive_in_place.ensures.untold

pub returns-clause-keeps : goal.returns-clause-keeps
returns-clause-keeps g c =
    lent (λ (was now : List (Option g.row.B.Denot)). KeepsScene (scene (memory g.S.Store c.args.store.now c.args.loaded.now) c.args.index.now c.args.self.now (minds_of g.B.Applet.mind was)) (scene (memory g.S.Store c.drive_in_place.new.store c.drive_in_place.new.loaded) c.drive_in_place.new.index c.drive_in_place.new.session (minds_of g.B.Applet.mind now)) c.drive_in_place.result)
    c.deref_mut.result.now c.args.cast.now.items c.drive_in_place.new.cast _ c.deref_mut.ensures.value
    (with_items_is c.args.cast.now c.drive_in_place.new.cast (c.drive_in_place.auto.cast ∙ c.deref_mut.ensures.len))
    c.drive_in_place.ensures.keeps

pub returns-clause-ready : goal.returns-clause-ready
returns-clause-ready g c =
    service_again (scene (memory g.S.Store c.args.store.now c.args.loaded.now) c.args.index.now c.args.self.now (minds_of g.B.Applet.mind c.args.cast.now.items))
    (scene (memory g.S.Store c.drive_in_place.new.store c.drive_in_place.new.loaded) c.drive_in_place.new.index c.drive_in_place.new.session (minds_of g.B.Applet.mind _)) c.args.cast.now.items _ c.drive_in_place.result c.requires.service
    (ap length (with_items_is c.args.cast.now c.drive_in_place.new.cast (c.drive_in_place.auto.cast ∙ c.deref_mut.ensures.len)) ∙ c.drive_in_place.auto.cast ∙ ap length c.deref_mut.ensures.value) (returns-clause-keeps g c)

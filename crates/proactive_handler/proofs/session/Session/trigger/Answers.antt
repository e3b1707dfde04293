-- The slice that the vector lends holds its boxes, and the event is told by its bytes.
use Rattle.std.proofs.Common.{◌≢◌, ℕ, List, length, All, Option, sym, ap, ◌∙◌, subst}
use Rattle.std.proofs.lemmas.List.{with_items_is}
use Rattle.card_state.specs.Memory.{memory}
use Rattle.applet_trait.specs.Minds.{minds_of}
use Rattle.toolkit_model.specs.Passing.{in_turn}
use Rattle.proactive_handler.specs.Boxes.{IsSameBox}
use Rattle.proactive_handler.specs.Serving.{triggered_one}
use Rattle.proactive_handler.specs.Steps.{scene}
use Rattle.proactive_handler.specs.Reached.{Tells}
use Rattle.proactive_handler.specs.Scenes.{IsInService, KeepsScene}
use Rattle.proactive_handler.proofs.LentLemmas.{lent}
use Rattle.proactive_handler.proofs.ScenesLemmas.{service_again}
use Rattle.proactive_handler.proofs.session.Session.trigger.Goals as goal

pub trigger_in_place-requires-clause-service : goal.trigger_in_place-requires-clause-service
trigger_in_place-requires-clause-service g c =
    subst (λ (was : List (Option g.row.B.Denot)). IsInService (scene (memory g.S.Store c.args.store.now c.args.loaded.now) c.args.index.now c.args.self.now (minds_of g.B.Applet.mind was)) was) (sym c.deref_mut.ensures.value) c.requires.service

pub returns-clause-tells : goal.returns-clause-tells
returns-clause-tells g c =
    lent (λ (was now : List (Option g.row.B.Denot)). Tells (in_turn (triggered_one c.args.kept c.args.code c.args.body.now) c.args.to.now) (scene (memory g.S.Store c.args.store.now c.args.loaded.now) c.args.index.now c.args.self.now (minds_of g.B.Applet.mind was)) (scene (memory g.S.Store c.trigger_in_place.new.store c.trigger_in_place.new.loaded) c.trigger_in_place.new.index c.trigger_in_place.new.session (minds_of g.B.Applet.mind now)) was now c.trigger_in_place.result)
    c.deref_mut.result.now c.args.cast.now.items c.trigger_in_place.new.cast _ c.deref_mut.ensures.value
    (with_items_is c.args.cast.now c.trigger_in_place.new.cast (c.trigger_in_place.auto.cast ∙ c.deref_mut.ensures.len))
    (subst (λ (bytes : List ℕ). Tells (in_turn (triggered_one c.args.kept c.args.code bytes) c.args.to.now) (scene (memory g.S.Store c.args.store.now c.args.loaded.now) c.args.index.now c.args.self.now (minds_of g.B.Applet.mind c.deref_mut.result.now)) (scene (memory g.S.Store c.trigger_in_place.new.store c.trigger_in_place.new.loaded) c.trigger_in_place.new.index c.trigger_in_place.new.session (minds_of g.B.Applet.mind c.trigger_in_place.new.cast)) c.deref_mut.result.now c.trigger_in_place.new.cast c.trigger_in_place.result)
    c.as_slice.ensures.value c.trigger_in_place.ensures.tells)

pub returns-clause-untold : goal.returns-clause-untold
returns-clause-untold g c =
    lent (λ (was now : List (Option g.row.B.Denot)). (other : ℕ) → All (λ (shelf : ℕ). shelf ≢ other) c.args.to.now → IsSameBox other was now)
    c.deref_mut.result.now c.args.cast.now.items c.trigger_in_place.new.cast _ c.deref_mut.ensures.value
    (with_items_is c.args.cast.now c.trigger_in_place.new.cast (c.trigger_in_place.auto.cast ∙ c.deref_mut.ensures.len))
    c.trigger_in_place.ensures.untold

pub returns-clause-keeps : goal.returns-clause-keeps
returns-clause-keeps g c =
    lent (λ (was now : List (Option g.row.B.Denot)). KeepsScene (scene (memory g.S.Store c.args.store.now c.args.loaded.now) c.args.index.now c.args.self.now (minds_of g.B.Applet.mind was)) (scene (memory g.S.Store c.trigger_in_place.new.store c.trigger_in_place.new.loaded) c.trigger_in_place.new.index c.trigger_in_place.new.session (minds_of g.B.Applet.mind now)) c.trigger_in_place.result)
    c.deref_mut.result.now c.args.cast.now.items c.trigger_in_place.new.cast _ c.deref_mut.ensures.value
    (with_items_is c.args.cast.now c.trigger_in_place.new.cast (c.trigger_in_place.auto.cast ∙ c.deref_mut.ensures.len))
    c.trigger_in_place.ensures.keeps

pub returns-clause-ready : goal.returns-clause-ready
returns-clause-ready g c =
    service_again (scene (memory g.S.Store c.args.store.now c.args.loaded.now) c.args.index.now c.args.self.now (minds_of g.B.Applet.mind c.args.cast.now.items))
    (scene (memory g.S.Store c.trigger_in_place.new.store c.trigger_in_place.new.loaded) c.trigger_in_place.new.index c.trigger_in_place.new.session (minds_of g.B.Applet.mind _)) c.args.cast.now.items _ c.trigger_in_place.result c.requires.service
    (ap length (with_items_is c.args.cast.now c.trigger_in_place.new.cast (c.trigger_in_place.auto.cast ∙ c.deref_mut.ensures.len)) ∙ c.trigger_in_place.auto.cast ∙ ap length c.deref_mut.ensures.value) (returns-clause-keeps g c)

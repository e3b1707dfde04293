-- The slice that the vector lends holds its boxes, and the response is told where it stands.
use Rattle.std.proofs.Common.{◌≢◌, ℕ, List, length, Option, Some, IfSome, sym, ap, ◌∙◌, subst}
use Rattle.std.proofs.lemmas.List.{with_items_is}
use Rattle.card_state.specs.Memory.{memory}
use Rattle.toolkit_commands.specs.declared.responses.Response.{Response}
use Rattle.applet_trait.specs.Minds.{minds_of}
use Rattle.toolkit_model.specs.Commands.{unanswered, answered}
use Rattle.proactive_handler.specs.Boxes.{IsSameBox}
use Rattle.proactive_handler.specs.Steps.{scene, Moves}
use Rattle.proactive_handler.specs.Reached.{TurnsOnly}
use Rattle.proactive_handler.specs.Scenes.{IsInService, KeepsScene}
use Rattle.proactive_handler.proofs.LentLemmas.{lent}
use Rattle.proactive_handler.proofs.ScenesLemmas.{service_again}
use Rattle.proactive_handler.proofs.session.Session.respond.Goals as goal

pub respond_in_place-requires-clause-service : goal.respond_in_place-requires-clause-service
respond_in_place-requires-clause-service g c =
    subst (λ (was : List (Option g.row.B.Denot)). IsInService (scene (memory g.S.Store c.args.store.now c.args.loaded.now) c.args.index.now c.args.self.now (minds_of g.B.Applet.mind was)) was) (sym c.deref_mut.ensures.value) c.requires.service

pub returns-clause-moves : goal.returns-clause-moves
returns-clause-moves g c =
    lent (λ (was now : List (Option g.row.B.Denot)). IfSome (unanswered c.args.self.now) (λ out. Moves (answered out c.args.response.now) (scene (memory g.S.Store c.args.store.now c.args.loaded.now) c.args.index.now c.args.self.now (minds_of g.B.Applet.mind was)) (scene (memory g.S.Store c.respond_in_place.new.store c.respond_in_place.new.loaded) c.respond_in_place.new.index c.respond_in_place.new.session (minds_of g.B.Applet.mind now)) c.respond_in_place.result))
    c.deref_mut.result.now c.args.cast.now.items c.respond_in_place.new.cast _ c.deref_mut.ensures.value
    (with_items_is c.args.cast.now c.respond_in_place.new.cast (c.respond_in_place.auto.cast ∙ c.deref_mut.ensures.len))
    (subst (λ (reply : Response). IfSome (unanswered c.args.self.now) (λ out. Moves (answered out reply) (scene (memory g.S.Store c.args.store.now c.args.loaded.now) c.args.index.now c.args.self.now (minds_of g.B.Applet.mind c.deref_mut.result.now)) (scene (memory g.S.Store c.respond_in_place.new.store c.respond_in_place.new.loaded) c.respond_in_place.new.index c.respond_in_place.new.session (minds_of g.B.Applet.mind c.respond_in_place.new.cast)) c.respond_in_place.result))
    c.in_place-reply.ensures.value c.respond_in_place.ensures.moves)

pub returns-clause-turns : goal.returns-clause-turns
returns-clause-turns g c =
    lent (λ (was now : List (Option g.row.B.Denot)). IfSome (unanswered c.args.self.now) (λ out. TurnsOnly (answered out c.args.response.now) (scene (memory g.S.Store c.args.store.now c.args.loaded.now) c.args.index.now c.args.self.now (minds_of g.B.Applet.mind was)) (scene (memory g.S.Store c.respond_in_place.new.store c.respond_in_place.new.loaded) c.respond_in_place.new.index c.respond_in_place.new.session (minds_of g.B.Applet.mind now)) was now c.respond_in_place.result))
    c.deref_mut.result.now c.args.cast.now.items c.respond_in_place.new.cast _ c.deref_mut.ensures.value
    (with_items_is c.args.cast.now c.respond_in_place.new.cast (c.respond_in_place.auto.cast ∙ c.deref_mut.ensures.len))
    (subst (λ (reply : Response). IfSome (unanswered c.args.self.now) (λ out. TurnsOnly (answered out reply) (scene (memory g.S.Store c.args.store.now c.args.loaded.now) c.args.index.now c.args.self.now (minds_of g.B.Applet.mind c.deref_mut.result.now)) (scene (memory g.S.Store c.respond_in_place.new.store c.respond_in_place.new.loaded) c.respond_in_place.new.index c.respond_in_place.new.session (minds_of g.B.Applet.mind c.respond_in_place.new.cast)) c.deref_mut.result.now c.respond_in_place.new.cast c.respond_in_place.result))
    c.in_place-reply.ensures.value c.respond_in_place.ensures.turns)

pub returns-clause-untold : goal.returns-clause-untold
returns-clause-untold g c =
    lent (λ (was now : List (Option g.row.B.Denot)). (other : ℕ) → IfSome (unanswered c.args.self.now) (λ out. out.owner ≢ Some other) → IsSameBox other was now)
    c.deref_mut.result.now c.args.cast.now.items c.respond_in_place.new.cast _ c.deref_mut.ensures.value
    (with_items_is c.args.cast.now c.respond_in_place.new.cast (c.respond_in_place.auto.cast ∙ c.deref_mut.ensures.len))
    c.respond_in_place.ensures.untold

pub returns-clause-keeps : goal.returns-clause-keeps
returns-clause-keeps g c =
    lent (λ (was now : List (Option g.row.B.Denot)). KeepsScene (scene (memory g.S.Store c.args.store.now c.args.loaded.now) c.args.index.now c.args.self.now (minds_of g.B.Applet.mind was)) (scene (memory g.S.Store c.respond_in_place.new.store c.respond_in_place.new.loaded) c.respond_in_place.new.index c.respond_in_place.new.session (minds_of g.B.Applet.mind now)) c.respond_in_place.result)
    c.deref_mut.result.now c.args.cast.now.items c.respond_in_place.new.cast _ c.deref_mut.ensures.value
    (with_items_is c.args.cast.now c.respond_in_place.new.cast (c.respond_in_place.auto.cast ∙ c.deref_mut.ensures.len))
    c.respond_in_place.ensures.keeps

pub returns-clause-ready : goal.returns-clause-ready
returns-clause-ready g c =
    service_again (scene (memory g.S.Store c.args.store.now c.args.loaded.now) c.args.index.now c.args.self.now (minds_of g.B.Applet.mind c.args.cast.now.items))
    (scene (memory g.S.Store c.respond_in_place.new.store c.respond_in_place.new.loaded) c.respond_in_place.new.index c.respond_in_place.new.session (minds_of g.B.Applet.mind _)) c.args.cast.now.items _ c.respond_in_place.result c.requires.service
    (ap length (with_items_is c.args.cast.now c.respond_in_place.new.cast (c.respond_in_place.auto.cast ∙ c.deref_mut.ensures.len)) ∙ c.respond_in_place.auto.cast ∙ ap length c.deref_mut.ensures.value) (returns-clause-keeps g c)

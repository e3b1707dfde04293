-- The shelves that the index has for STATUS are the targets of the event; a fault in telling them is handed on without an answer.
use Rattle.std.proofs.Common.{ℕ, sym, subst, refl, [], ◌≢◌, All, Ok, Err}
use Rattle.store_form.specs.declared.store.StoreFault.TheVariants.{Failed}
use Rattle.card_state.specs.Memory.{memory}
use Rattle.applet_trait.specs.Minds.{minds_of}
use Rattle.toolkit_model.specs.Commands.{polled}
use Rattle.proactive_handler.proofs.ScenesLemmas.{scene_done, scene_fault}
use Rattle.proactive_handler.specs.Steps.{scene, toolkit}
use Rattle.cat_commands.proofs.IsBetweenCommandsLemmas.{in_service}
use Rattle.cat_commands.proofs.TellsOfLemmas.{as_err, poll_moves}
use Rattle.cat_commands.proofs.profiles.tell_status.Goals as goal

pub tell-requires-clause-service : goal.tell-requires-clause-service
tell-requires-clause-service g c =
    in_service c.sessions_are_served.ensures (scene (memory g.S.Store c.args.store.now c.args.loaded.now) c.args.index.now c.args.session.now (minds_of g.B.Applet.mind c.args.cast.now)) c.args.cast.now c.requires.rests

pub returns-in_err-tell-clause-moves : goal.returns-in_err-tell-clause-moves
returns-in_err-tell-clause-moves g c =
    let old = (scene (memory g.S.Store c.args.store.now c.args.loaded.now) c.args.index.now c.args.session.now (minds_of g.B.Applet.mind c.args.cast.now)) in
    let new = (scene (memory g.S.Store c.tell.new.store c.tell.new.loaded) c.tell.new.index c.tell.new.session (minds_of g.B.Applet.mind c.tell.new.cast)) in
    as_err (polled (toolkit old)) old new c.from_residual.result c.from_residual.ensures.0
    (poll_moves {X = Unit} c.targets_of-to.result [] old new (Err Failed) c.targets_of-to.ensures.value refl c.in_err-tell.ensures.moves)

pub returns-clause-moves : goal.returns-clause-moves
returns-clause-moves g c =
    poll_moves {X = Unit} c.targets_of-to.result [] (scene (memory g.S.Store c.args.store.now c.args.loaded.now) c.args.index.now c.args.session.now (minds_of g.B.Applet.mind c.args.cast.now)) (scene (memory g.S.Store c.tell.new.store c.tell.new.loaded) c.tell.new.index c.tell.new.session (minds_of g.B.Applet.mind c.tell.new.cast)) (Ok tt) c.targets_of-to.ensures.value refl c.in_ok-tell.ensures.moves

pub returns-in_err-tell-clause-untold : goal.returns-in_err-tell-clause-untold
returns-in_err-tell-clause-untold g c =
    λ other differ apart. c.tell.ensures.untold other (subst (All (λ (shelf : ℕ). shelf ≢ other)) (sym c.targets_of-to.ensures.value) differ) apart

pub returns-clause-untold : goal.returns-clause-untold
returns-clause-untold g c =
    λ other differ apart. c.tell.ensures.untold other (subst (All (λ (shelf : ℕ). shelf ≢ other)) (sym c.targets_of-to.ensures.value) differ) apart

pub returns-clause-keeps : goal.returns-clause-keeps
returns-clause-keeps g c =
    scene_done (scene (memory g.S.Store c.args.store.now c.args.loaded.now) c.args.index.now c.args.session.now (minds_of g.B.Applet.mind c.args.cast.now)) (scene (memory g.S.Store c.tell.new.store c.tell.new.loaded) c.tell.new.index c.tell.new.session (minds_of g.B.Applet.mind c.tell.new.cast)) _ _ c.in_ok-tell.ensures.keeps

pub returns-in_err-tell-clause-keeps : goal.returns-in_err-tell-clause-keeps
returns-in_err-tell-clause-keeps g c =
    scene_fault (scene (memory g.S.Store c.args.store.now c.args.loaded.now) c.args.index.now c.args.session.now (minds_of g.B.Applet.mind c.args.cast.now)) (scene (memory g.S.Store c.tell.new.store c.tell.new.loaded) c.tell.new.index c.tell.new.session (minds_of g.B.Applet.mind c.tell.new.cast)) _
    c.from_residual.result c.from_residual.ensures.0 c.from_residual.ensures.1 c.in_err-tell.ensures.keeps

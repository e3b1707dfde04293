-- The profile is set first, and leaves what is late as it was; what the applets answered is dropped, also from the result of a fault.
use Rattle.std.proofs.Common.{refl, ap, ℕ, sym, subst, List, ◌≢◌, All, Ok, Err}
use Rattle.store_form.specs.declared.store.StoreFault.TheVariants.{Failed}
use Rattle.card_state.specs.Memory.{memory}
use Rattle.applet_trait.specs.Minds.{minds_of}
use Rattle.toolkit_model.specs.Sessions.{LateTrigger, SessionState}
use Rattle.toolkit_model.specs.Commands.{profiled}
use Rattle.proactive_handler.specs.Boxes.{AreForOthers}
use Rattle.proactive_handler.proofs.ScenesLemmas.{scene_since, scene_done, scene_fault}
use Rattle.proactive_handler.specs.Steps.{scene, toolkit}
use Rattle.cat_commands.proofs.TellsOfLemmas.{as_err, profile_served, profile_moves}
use Rattle.cat_commands.proofs.profiles.profile.Goals as goal

pub tell-requires-clause-service : goal.tell-requires-clause-service
tell-requires-clause-service g c =
    record {
      mounted = c.requires.rests.mounted;
      indexed = c.requires.rests.indexed;
      shelves = c.requires.rests.shelves;
      served = profile_served c.args.loaded.now c.args.session.now c.set_profile.new.self c.args.bytes.now c.set_profile.ensures (c.sessions_are_served.ensures c.args.loaded.now c.args.session.now c.requires.rests.order.session.underway);
    }

pub returns-in_err-tell-clause-moves : goal.returns-in_err-tell-clause-moves
returns-in_err-tell-clause-moves g c =
    let old = (scene (memory g.S.Store c.args.store.now c.args.loaded.now) c.args.index.now c.args.session.now (minds_of g.B.Applet.mind c.args.cast.now)) in
    let early = (scene (memory g.S.Store c.args.store.now c.args.loaded.now) c.args.index.now c.set_profile.new.self (minds_of g.B.Applet.mind c.args.cast.now)) in
    let new = (scene (memory g.S.Store c.tell.new.store c.tell.new.loaded) c.tell.new.index c.tell.new.session (minds_of g.B.Applet.mind c.tell.new.cast)) in
    as_err (profiled c.args.bytes.now (toolkit old)) old new c.from_residual.result c.from_residual.ensures.0
    (profile_moves c.args.bytes.now c.targets_of-to.result c.args.bytes.now old early new c.targets_of-to.ensures.value refl
    (ap (λ (s : SessionState). toolkit (record old { session = s })) c.set_profile.ensures) refl {X = Unit} (Err Failed) c.in_err-tell.ensures.moves)

pub returns-clause-moves : goal.returns-clause-moves
returns-clause-moves g c =
    let old = (scene (memory g.S.Store c.args.store.now c.args.loaded.now) c.args.index.now c.args.session.now (minds_of g.B.Applet.mind c.args.cast.now)) in
    let early = (scene (memory g.S.Store c.args.store.now c.args.loaded.now) c.args.index.now c.set_profile.new.self (minds_of g.B.Applet.mind c.args.cast.now)) in
    let new = (scene (memory g.S.Store c.tell.new.store c.tell.new.loaded) c.tell.new.index c.tell.new.session (minds_of g.B.Applet.mind c.tell.new.cast)) in
    profile_moves c.args.bytes.now c.targets_of-to.result c.args.bytes.now old early new c.targets_of-to.ensures.value refl
    (ap (λ (s : SessionState). toolkit (record old { session = s })) c.set_profile.ensures) refl {X = Unit} (Ok tt) c.in_ok-tell.ensures.moves

pub returns-in_err-tell-clause-untold : goal.returns-in_err-tell-clause-untold
returns-in_err-tell-clause-untold g c =
    λ other differ apart.
    c.tell.ensures.untold other (subst (All (λ (shelf : ℕ). shelf ≢ other)) (sym c.targets_of-to.ensures.value) differ)
    (subst (λ (late : List LateTrigger). AreForOthers other late) (sym (ap (λ (s : SessionState). s.late) c.set_profile.ensures)) apart)

pub returns-clause-untold : goal.returns-clause-untold
returns-clause-untold g c =
    λ other differ apart.
    c.tell.ensures.untold other (subst (All (λ (shelf : ℕ). shelf ≢ other)) (sym c.targets_of-to.ensures.value) differ)
    (subst (λ (late : List LateTrigger). AreForOthers other late) (sym (ap (λ (s : SessionState). s.late) c.set_profile.ensures)) apart)

pub returns-in_err-tell-clause-keeps : goal.returns-in_err-tell-clause-keeps
returns-in_err-tell-clause-keeps g c =
    let early = (scene (memory g.S.Store c.args.store.now c.args.loaded.now) c.args.index.now c.set_profile.new.self (minds_of g.B.Applet.mind c.args.cast.now)) in
    let new = (scene (memory g.S.Store c.tell.new.store c.tell.new.loaded) c.tell.new.index c.tell.new.session (minds_of g.B.Applet.mind c.tell.new.cast)) in
    scene_since (scene (memory g.S.Store c.args.store.now c.args.loaded.now) c.args.index.now c.args.session.now (minds_of g.B.Applet.mind c.args.cast.now)) early new c.from_residual.result refl refl (scene_fault early new _ c.from_residual.result c.from_residual.ensures.0 c.from_residual.ensures.1 c.in_err-tell.ensures.keeps)

pub returns-clause-keeps : goal.returns-clause-keeps
returns-clause-keeps g c =
    let early = (scene (memory g.S.Store c.args.store.now c.args.loaded.now) c.args.index.now c.set_profile.new.self (minds_of g.B.Applet.mind c.args.cast.now)) in
    let new = (scene (memory g.S.Store c.tell.new.store c.tell.new.loaded) c.tell.new.index c.tell.new.session (minds_of g.B.Applet.mind c.tell.new.cast)) in
    scene_since (scene (memory g.S.Store c.args.store.now c.args.loaded.now) c.args.index.now c.args.session.now (minds_of g.B.Applet.mind c.args.cast.now)) early new _ refl refl (scene_done early new _ _ c.in_ok-tell.ensures.keeps)

-- The profile that is set is the body of the command as it came; what the test of the data refuses leaves the card as it was.
use Rattle.std.proofs.Common.{refl, sym, ap, ◌∙◌, []}
use Rattle.apdu_form.specs.Model.{Apdu}
use Rattle.card_state.specs.Memory.{memory}
use Rattle.applet_trait.specs.Minds.{minds_of}
use Rattle.toolkit_model.specs.Commands.{profiled}
use Rattle.toolkit_model.specs.Steps.{Profile}
use Rattle.proactive_handler.specs.Steps.{scene, toolkit}
use Rattle.card_model.specs.Toolkit.{profile_taken}
use Rattle.cat_commands.proofs.CarriesLemmas.{tells_here, refused_carries, card_stops, card_done, order_after}
use Rattle.cat_commands.proofs.IsBetweenCommandsLemmas.{refusal_keeps, ends_done}
use Rattle.cat_commands.proofs.TryingLemmas.{profile_refused, profile_goes}
use Rattle.cat_commands.proofs.profiles.take_profile.Goals as goal

pub returns-in_err-profile-in-Ok-clause-carries : goal.returns-in_err-profile-in-Ok-clause-carries
returns-in_err-profile-in-Ok-clause-carries g c =
    λ card has.
    let old = (scene (memory g.S.Store c.args.store.now c.args.loaded.now) c.args.index.now c.args.session.now (minds_of g.B.Applet.mind c.args.cast.now)) in
    card_stops card old has [] (profiled c.args.command.now.body) (scene (memory g.S.Store c.profile.new.store c.profile.new.loaded) c.profile.new.index c.profile.new.session (minds_of g.B.Applet.mind c.profile.new.cast)) (tells_here c.tables_tell_states.ensures old c.requires.rests.mounted) c.profile.ensures.keeps.table
    (profile_taken card c.args.command.now) _ (profile_goes card c.args.command.now c.in-Ok.field-0 (sym c.try_data.ensures.value ∙ c.in-Ok.is))
    (profiled c.command.inside.body.now) (ap (λ (a : Apdu). profiled a.body) c.command.view_is) c.from_residual.result c.from_residual.ensures.0 c.in_err-profile-in-Ok.ensures.moves

pub returns-in_ok-profile-in-Ok-clause-carries : goal.returns-in_ok-profile-in-Ok-clause-carries
returns-in_ok-profile-in-Ok-clause-carries g c =
    λ card has.
    let old = (scene (memory g.S.Store c.args.store.now c.args.loaded.now) c.args.index.now c.args.session.now (minds_of g.B.Applet.mind c.args.cast.now)) in
    card_done card old has [] (profiled c.args.command.now.body) (scene (memory g.S.Store c.profile.new.store c.profile.new.loaded) c.profile.new.index c.profile.new.session (minds_of g.B.Applet.mind c.profile.new.cast)) (tells_here c.tables_tell_states.ensures old c.requires.rests.mounted) c.profile.ensures.keeps.table
    (profile_taken card c.args.command.now) _ (profile_goes card c.args.command.now c.in-Ok.field-0 (sym c.try_data.ensures.value ∙ c.in-Ok.is))
    (profiled c.command.inside.body.now) (ap (λ (a : Apdu). profiled a.body) c.command.view_is) tt c.clear.ensures refl c.in_ok-profile-in-Ok.ensures.moves

pub returns-in_ok-profile-in-Ok-clause-ends : goal.returns-in_ok-profile-in-Ok-clause-ends
returns-in_ok-profile-in-Ok-clause-ends g c =
    ends_done _ (scene (memory g.S.Store c.profile.new.store c.profile.new.loaded) c.profile.new.index c.profile.new.session (minds_of g.B.Applet.mind c.profile.new.cast)) tt refl
    (order_after c.sessions_stay_in_order.ensures (Profile c.command.inside.body.now) (toolkit (scene (memory g.S.Store c.args.store.now c.args.loaded.now) c.args.index.now c.args.session.now (minds_of g.B.Applet.mind c.args.cast.now))) (toolkit (scene (memory g.S.Store c.profile.new.store c.profile.new.loaded) c.profile.new.index c.profile.new.session (minds_of g.B.Applet.mind c.profile.new.cast))) c.requires.rests.order tt c.in_ok-profile-in-Ok.ensures.moves.state_is)

pub returns-in-Err-clause-carries : goal.returns-in-Err-clause-carries
returns-in-Err-clause-carries g c =
    λ card has.
    refused_carries (profile_taken card c.args.command.now) _ _ _ tt c.in-Err.status (profile_refused card c.args.command.now c.in-Err.status (sym c.try_data.ensures.value ∙ c.in-Err.is)) c.clear.ensures refl refl

pub returns-in-Err-clause-keeps : goal.returns-in-Err-clause-keeps
returns-in-Err-clause-keeps g c =
    refusal_keeps c.sessions_are_served.ensures tt (scene (memory g.S.Store c.args.store.now c.args.loaded.now) c.args.index.now c.args.session.now (minds_of g.B.Applet.mind c.args.cast.now)) c.args.cast.now c.requires.rests

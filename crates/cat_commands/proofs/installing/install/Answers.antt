-- The row that was tried is that of each card it may come to; order needs all sequence numbers of the rows to be below the next one.
use Rattle.std.proofs.Common.{refl, sym, ap, ◌∙◌, []}
use Rattle.apdu_form.specs.Model.{Apdu}
use Rattle.card_state.specs.Memory.{memory}
use Rattle.card_state.specs.States.{registration_of}
use Rattle.applet_trait.specs.Minds.{minds_of}
use Rattle.toolkit_model.specs.Steps.{Install}
use Rattle.proactive_handler.specs.Steps.{scene, toolkit}
use Rattle.card_model.specs.Toolkit.{applet_installed}
use Rattle.cat_commands.specs.Trying.{registration_for}
use Rattle.cat_commands.proofs.InstallTriedLemmas.{rows_below}
use Rattle.cat_commands.proofs.CarriesLemmas.{refused_carries, stopped_carries, done_carries, order_after}
use Rattle.cat_commands.proofs.AppletInstalledLemmas.{install_not, install_at, installable_at, accepted_at, cut_err}
use Rattle.cat_commands.proofs.IsBetweenCommandsLemmas.{in_service, refusal_keeps, ends_done}
use Rattle.cat_commands.proofs.installing.install.Goals as goal

pub add-requires-clause-service : goal.add-requires-clause-service
add-requires-clause-service g c =
    in_service c.sessions_are_served.ensures (scene (memory g.S.Store c.args.store.now c.args.loaded.now) c.args.index.now c.args.session.now (minds_of g.B.Applet.mind c.args.cast.now)) c.args.cast.now c.requires.rests

pub add-requires-clause-installable : goal.add-requires-clause-installable
add-requires-clause-installable g c =
    installable_at c.args.loaded.now (minds_of g.B.Applet.mind c.args.cast.now) c.states_are_of_entries.ensures.tables c.args.seen.now c.args.command.now c.in-Ok.row (sym (c.try_install.ensures.value []) ∙ ap (registration_for c.args.command.now.p2) c.in-Ok.is) c.command.inside.p2 (ap (λ (a : Apdu). a.p2) c.command.view_is) c.installed_rows_are_sound.ensures c.in-Ok.ensures.known (scene (memory g.S.Store c.args.store.now c.args.loaded.now) c.args.index.now c.args.session.now (minds_of g.B.Applet.mind c.args.cast.now)) refl refl (rows_below _ _ c.args.loaded.now c.requires.rests.mounted.agrees) c.in-Ok.ensures.used c.in-Ok.ensures.events c.in-Ok.ensures.admitted

pub returns-in_err-add-in-Ok-clause-carries : goal.returns-in_err-add-in-Ok-clause-carries
returns-in_err-add-in-Ok-clause-carries g c =
    λ card has.
    let old = (scene (memory g.S.Store c.args.store.now c.args.loaded.now) c.args.index.now c.args.session.now (minds_of g.B.Applet.mind c.args.cast.now)) in
    let new = (scene (memory g.S.Store c.add.new.store c.add.new.loaded) c.add.new.index c.add.new.session (minds_of g.B.Applet.mind c.add.new.cast)) in
    stopped_carries (applet_installed card c.args.seen.now c.args.command.now) _ old new c.from_residual.result _ c.from_residual.ensures.0
    (install_at c.args.loaded.now (minds_of g.B.Applet.mind c.args.cast.now) c.states_are_of_entries.ensures.tables c.args.seen.now c.args.command.now card old has refl refl c.command.inside.p2 c.in-Ok.row (ap (λ (a : Apdu). a.p2) c.command.view_is) (sym (c.try_install.ensures.value []) ∙ ap (registration_for c.args.command.now.p2) c.in-Ok.is))
    (cut_err _ old new c.from_residual.result c.from_residual.ensures.0 c.in_err-add-in-Ok.ensures.comes)

pub returns-in_ok-add-in-Ok-clause-carries : goal.returns-in_ok-add-in-Ok-clause-carries
returns-in_ok-add-in-Ok-clause-carries g c =
    λ card has.
    let old = (scene (memory g.S.Store c.args.store.now c.args.loaded.now) c.args.index.now c.args.session.now (minds_of g.B.Applet.mind c.args.cast.now)) in
    done_carries (applet_installed card c.args.seen.now c.args.command.now) _ old (scene (memory g.S.Store c.add.new.store c.add.new.loaded) c.add.new.index c.add.new.session (minds_of g.B.Applet.mind c.add.new.cast)) tt _
    (install_at c.args.loaded.now (minds_of g.B.Applet.mind c.args.cast.now) c.states_are_of_entries.ensures.tables c.args.seen.now c.args.command.now card old has refl refl c.command.inside.p2 c.in-Ok.row (ap (λ (a : Apdu). a.p2) c.command.view_is) (sym (c.try_install.ensures.value []) ∙ ap (registration_for c.args.command.now.p2) c.in-Ok.is))
    c.clear.ensures refl c.in_ok-add-in-Ok.ensures.comes

pub returns-in_ok-add-in-Ok-clause-ends : goal.returns-in_ok-add-in-Ok-clause-ends
returns-in_ok-add-in-Ok-clause-ends g c =
    let old = (scene (memory g.S.Store c.args.store.now c.args.loaded.now) c.args.index.now c.args.session.now (minds_of g.B.Applet.mind c.args.cast.now)) in
    let new = (scene (memory g.S.Store c.add.new.store c.add.new.loaded) c.add.new.index c.add.new.session (minds_of g.B.Applet.mind c.add.new.cast)) in
    ends_done _ new tt refl
    (order_after c.sessions_stay_in_order.ensures (Install (registration_of c.command.inside.p2 c.in-Ok.row)) (toolkit old) (toolkit new) c.requires.rests.order
    (accepted_at c.args.loaded.now (minds_of g.B.Applet.mind c.args.cast.now) c.states_are_of_entries.ensures.tables c.args.seen.now c.args.command.now c.in-Ok.row (sym (c.try_install.ensures.value []) ∙ ap (registration_for c.args.command.now.p2) c.in-Ok.is) c.command.inside.p2 (ap (λ (a : Apdu). a.p2) c.command.view_is) c.installed_rows_are_sound.ensures c.in-Ok.ensures.known
    (toolkit old) refl refl c.requires.rests.order.rows (rows_below _ _ c.args.loaded.now c.requires.rests.mounted.agrees))
    c.in_ok-add-in-Ok.ensures.comes.toolkit_is)

pub returns-in-Err-clause-carries : goal.returns-in-Err-clause-carries
returns-in-Err-clause-carries g c =
    λ card has.
    let old = (scene (memory g.S.Store c.args.store.now c.args.loaded.now) c.args.index.now c.args.session.now (minds_of g.B.Applet.mind c.args.cast.now)) in
    refused_carries (applet_installed card c.args.seen.now c.args.command.now) _ old old tt c.in-Err.status
    (install_not c.args.loaded.now (minds_of g.B.Applet.mind c.args.cast.now) c.states_are_of_entries.ensures.tables c.args.seen.now c.args.command.now card old has refl refl c.in-Err.status (sym (c.try_install.ensures.value []) ∙ ap (registration_for c.args.command.now.p2) c.in-Err.is)) c.clear.ensures refl refl

pub returns-in-Err-clause-keeps : goal.returns-in-Err-clause-keeps
returns-in-Err-clause-keeps g c =
    refusal_keeps c.sessions_are_served.ensures tt (scene (memory g.S.Store c.args.store.now c.args.loaded.now) c.args.index.now c.args.session.now (minds_of g.B.Applet.mind c.args.cast.now)) c.args.cast.now c.requires.rests

pub returns-in_err-add-in-Ok-clause-untold : goal.returns-in_err-add-in-Ok-clause-untold
returns-in_err-add-in-Ok-clause-untold g c =
    λ other differs apart. c.add.ensures.untold other (λ same. differs (same ∙ ap (λ (a : Apdu). a.p2) c.command.view_is)) apart

pub returns-in_ok-add-in-Ok-clause-untold : goal.returns-in_ok-add-in-Ok-clause-untold
returns-in_ok-add-in-Ok-clause-untold g c =
    λ other differs apart. c.add.ensures.untold other (λ same. differs (same ∙ ap (λ (a : Apdu). a.p2) c.command.view_is)) apart

pub returns-in-Err-clause-untold : goal.returns-in-Err-clause-untold
returns-in-Err-clause-untold g c =
    λ other differs apart. refl

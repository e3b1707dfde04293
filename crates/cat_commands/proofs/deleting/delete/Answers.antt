-- That the row may go is taken from what was tested to the card itself; the shelf that is emptied is P2 of the command as it came.
use Rattle.std.proofs.Common.{inr, ℕ, refl, sym, ap, subst, ◌∙◌, [], Ok, Err}
use Rattle.apdu_form.specs.Model.{Apdu}
use Rattle.card_state.specs.Memory.{memory}
use Rattle.card_state.specs.States.{rows_of}
use Rattle.applet_trait.specs.Minds.{minds_of}
use Rattle.toolkit_model.specs.Orderly.{asks}
use Rattle.toolkit_model.specs.Driving.{is_idle}
use Rattle.toolkit_model.specs.Commands.{delete_carried}
use Rattle.toolkit_model.specs.Steps.{Delete}
use Rattle.proactive_handler.specs.Steps.{scene, toolkit}
use Rattle.card_model.specs.Toolkit.{applet_deleted}
use Rattle.cat_commands.specs.Deleting.{HasLost, KeepsBesides}
use Rattle.cat_commands.proofs.KeepsBesidesLemmas.{besides_all, besides_fault}
use Rattle.cat_commands.proofs.CarriesLemmas.{tells_here, refused_carries, card_stops, card_done, order_after}
use Rattle.cat_commands.proofs.DeletingLemmas.{is_allowed, is_denied}
use Rattle.cat_commands.proofs.AppletDeletedLemmas.{delete_not, delete_at, registered_at, may_go_at}
use Rattle.cat_commands.proofs.IsBetweenCommandsLemmas.{refusal_keeps, ends_done}
use Rattle.cat_commands.proofs.deleting.delete.Goals as goal

pub remove-requires-clause-may_go : goal.remove-requires-clause-may_go
remove-requires-clause-may_go g c =
    may_go_at c.states_are_of_entries.ensures.from.rows c.states_are_of_entries.ensures.tables (scene (memory g.S.Store c.args.store.now c.args.loaded.now) c.args.index.now c.args.session.now (minds_of g.B.Applet.mind c.args.cast.now)) c.args.seen.now c.args.command.now
    (is_allowed (rows_of c.args.loaded.now) (is_idle (asks c.args.session.now) c.args.command.now.p2) c.args.seen.now c.args.command.now c.in-Ok.field-0 (sym c.try_delete.ensures.value ∙ c.in-Ok.is)) c.command.inside.p2 (ap (λ (a : Apdu). a.p2) c.command.view_is)

pub returns-in_err-remove-in-Ok-clause-carries : goal.returns-in_err-remove-in-Ok-clause-carries
returns-in_err-remove-in-Ok-clause-carries g c =
    λ card has.
    let old = (scene (memory g.S.Store c.args.store.now c.args.loaded.now) c.args.index.now c.args.session.now (minds_of g.B.Applet.mind c.args.cast.now)) in
    card_stops card old has [] (delete_carried c.args.command.now.p2) (scene (memory g.S.Store c.remove.new.store c.remove.new.loaded) c.remove.new.index c.remove.new.session (minds_of g.B.Applet.mind c.remove.new.cast)) (tells_here c.tables_tell_states.ensures old c.requires.rests.mounted) c.remove.ensures.keeps.table
    (applet_deleted card c.args.seen.now c.args.command.now) _
    (delete_at card old has c.args.seen.now c.args.command.now (is_allowed (rows_of c.args.loaded.now) (is_idle (asks c.args.session.now) c.args.command.now.p2) c.args.seen.now c.args.command.now c.in-Ok.field-0 (sym c.try_delete.ensures.value ∙ c.in-Ok.is)))
    (delete_carried c.command.inside.p2) (ap delete_carried (ap (λ (a : Apdu). a.p2) c.command.view_is)) c.from_residual.result c.from_residual.ensures.0 c.in_err-remove-in-Ok.ensures.moves

pub returns-in_ok-remove-in-Ok-clause-carries : goal.returns-in_ok-remove-in-Ok-clause-carries
returns-in_ok-remove-in-Ok-clause-carries g c =
    λ card has.
    let old = (scene (memory g.S.Store c.args.store.now c.args.loaded.now) c.args.index.now c.args.session.now (minds_of g.B.Applet.mind c.args.cast.now)) in
    card_done card old has [] (delete_carried c.args.command.now.p2) (scene (memory g.S.Store c.remove.new.store c.remove.new.loaded) c.remove.new.index c.remove.new.session (minds_of g.B.Applet.mind c.remove.new.cast)) (tells_here c.tables_tell_states.ensures old c.requires.rests.mounted) c.remove.ensures.keeps.table
    (applet_deleted card c.args.seen.now c.args.command.now) _
    (delete_at card old has c.args.seen.now c.args.command.now (is_allowed (rows_of c.args.loaded.now) (is_idle (asks c.args.session.now) c.args.command.now.p2) c.args.seen.now c.args.command.now c.in-Ok.field-0 (sym c.try_delete.ensures.value ∙ c.in-Ok.is)))
    (delete_carried c.command.inside.p2) (ap delete_carried (ap (λ (a : Apdu). a.p2) c.command.view_is)) tt c.clear.ensures refl c.in_ok-remove-in-Ok.ensures.moves

pub returns-in_ok-remove-in-Ok-clause-ends : goal.returns-in_ok-remove-in-Ok-clause-ends
returns-in_ok-remove-in-Ok-clause-ends g c =
    let old = (scene (memory g.S.Store c.args.store.now c.args.loaded.now) c.args.index.now c.args.session.now (minds_of g.B.Applet.mind c.args.cast.now)) in
    let new = (scene (memory g.S.Store c.remove.new.store c.remove.new.loaded) c.remove.new.index c.remove.new.session (minds_of g.B.Applet.mind c.remove.new.cast)) in
    ends_done _ new tt refl
    (order_after c.sessions_stay_in_order.ensures (Delete c.command.inside.p2) (toolkit old) (toolkit new) c.requires.rests.order
    (registered_at (rows_of c.args.loaded.now) (asks c.args.session.now) c.args.seen.now c.args.command.now (is_allowed (rows_of c.args.loaded.now) (is_idle (asks c.args.session.now) c.args.command.now.p2) c.args.seen.now c.args.command.now c.in-Ok.field-0 (sym c.try_delete.ensures.value ∙ c.in-Ok.is)) c.command.inside.p2 (ap (λ (a : Apdu). a.p2) c.command.view_is))
    c.in_ok-remove-in-Ok.ensures.moves.state_is)

pub returns-in-Err-clause-carries : goal.returns-in-Err-clause-carries
returns-in-Err-clause-carries g c =
    λ card has.
    let old = (scene (memory g.S.Store c.args.store.now c.args.loaded.now) c.args.index.now c.args.session.now (minds_of g.B.Applet.mind c.args.cast.now)) in
    refused_carries (applet_deleted card c.args.seen.now c.args.command.now) _ old old tt c.in-Err.status
    (delete_not card old has c.args.seen.now c.args.command.now c.in-Err.status
    (is_denied (rows_of c.args.loaded.now) (is_idle (asks c.args.session.now) c.args.command.now.p2) c.args.seen.now c.args.command.now c.in-Err.status (sym c.try_delete.ensures.value ∙ c.in-Err.is))) c.clear.ensures refl refl

pub returns-in_ok-remove-in-Ok-clause-lost : goal.returns-in_ok-remove-in-Ok-clause-lost
returns-in_ok-remove-in-Ok-clause-lost g c =
    inr (subst (λ (shelf : ℕ). HasLost shelf (scene (memory g.S.Store c.args.store.now c.args.loaded.now) c.args.index.now c.args.session.now (minds_of g.B.Applet.mind c.args.cast.now)) (scene (memory g.S.Store c.remove.new.store c.remove.new.loaded) c.remove.new.index c.remove.new.session (minds_of g.B.Applet.mind c.remove.new.cast))) (ap (λ (a : Apdu). a.p2) c.command.view_is) c.in_ok-remove-in-Ok.ensures.lost)

pub returns-in_err-remove-in-Ok-clause-keeps : goal.returns-in_err-remove-in-Ok-clause-keeps
returns-in_err-remove-in-Ok-clause-keeps g c =
    let old = (scene (memory g.S.Store c.args.store.now c.args.loaded.now) c.args.index.now c.args.session.now (minds_of g.B.Applet.mind c.args.cast.now)) in
    let new = (scene (memory g.S.Store c.remove.new.store c.remove.new.loaded) c.remove.new.index c.remove.new.session (minds_of g.B.Applet.mind c.remove.new.cast)) in
    besides_fault c.args.command.now.p2 old new _ c.from_residual.result c.from_residual.ensures.0 c.from_residual.ensures.1
    (subst (λ (shelf : ℕ). KeepsBesides {X = Unit} shelf old new (Err c.in_err-remove-in-Ok.field-0.0)) (ap (λ (a : Apdu). a.p2) c.command.view_is) c.in_err-remove-in-Ok.ensures.keeps)

pub returns-in_ok-remove-in-Ok-clause-keeps : goal.returns-in_ok-remove-in-Ok-clause-keeps
returns-in_ok-remove-in-Ok-clause-keeps g c =
    subst (λ (shelf : ℕ). KeepsBesides {X = Unit} shelf (scene (memory g.S.Store c.args.store.now c.args.loaded.now) c.args.index.now c.args.session.now (minds_of g.B.Applet.mind c.args.cast.now)) (scene (memory g.S.Store c.remove.new.store c.remove.new.loaded) c.remove.new.index c.remove.new.session (minds_of g.B.Applet.mind c.remove.new.cast)) (Ok tt)) (ap (λ (a : Apdu). a.p2) c.command.view_is) c.in_ok-remove-in-Ok.ensures.keeps

pub returns-in-Err-clause-keeps : goal.returns-in-Err-clause-keeps
returns-in-Err-clause-keeps g c =
    besides_all c.args.command.now.p2 (scene (memory g.S.Store c.args.store.now c.args.loaded.now) c.args.index.now c.args.session.now (minds_of g.B.Applet.mind c.args.cast.now)) (scene (memory g.S.Store c.args.store.now c.args.loaded.now) c.args.index.now c.args.session.now (minds_of g.B.Applet.mind c.args.cast.now)) tt (refusal_keeps c.sessions_are_served.ensures tt (scene (memory g.S.Store c.args.store.now c.args.loaded.now) c.args.index.now c.args.session.now (minds_of g.B.Applet.mind c.args.cast.now)) c.args.cast.now c.requires.rests)

pub returns-in_err-remove-in-Ok-clause-untold : goal.returns-in_err-remove-in-Ok-clause-untold
returns-in_err-remove-in-Ok-clause-untold g c =
    λ other differs apart. c.remove.ensures.untold other (λ same. differs (same ∙ ap (λ (a : Apdu). a.p2) c.command.view_is)) apart

pub returns-in_ok-remove-in-Ok-clause-untold : goal.returns-in_ok-remove-in-Ok-clause-untold
returns-in_ok-remove-in-Ok-clause-untold g c =
    λ other differs apart. c.remove.ensures.untold other (λ same. differs (same ∙ ap (λ (a : Apdu). a.p2) c.command.view_is)) apart

pub returns-in-Err-clause-untold : goal.returns-in-Err-clause-untold
returns-in-Err-clause-untold g c =
    λ other differs apart. refl

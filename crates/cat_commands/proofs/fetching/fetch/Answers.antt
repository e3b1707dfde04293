use Rattle.std.proofs.Common.{◌≡◌, refl, sym, ◌∙◌, Some}
use Rattle.card_state.specs.Memory.{memory}
use Rattle.applet_trait.specs.Minds.{minds_of}
use Rattle.toolkit_model.specs.Commands.{unfetched, as_fetched, command_bytes}
use Rattle.toolkit_model.specs.Steps.{Fetch}
use Rattle.proactive_handler.specs.Steps.{scene, toolkit}
use Rattle.card_model.specs.Toolkit.{command_fetched}
use Rattle.cat_commands.proofs.CarriesLemmas.{refused_carries, done_carries, order_after}
use Rattle.cat_commands.proofs.FetchTriedLemmas.{some_there, of_some, fetch_out, fetch_at, fetch_not, fetched_comes, fetched_order}
use Rattle.cat_commands.proofs.fetching.fetch.Goals as goal

pub fetch-requires : goal.fetch-requires
fetch-requires g c =
    fetch_out c.args.session.now c.unfetched.result c.args.command.now c.in-Ok.field-0 c.unfetched.ensures (sym c.try_fetch.ensures.value ∙ c.in-Ok.is)

pub returns-in-Ok-clause-carries : goal.returns-in-Ok-clause-carries
returns-in-Ok-clause-carries g c =
    λ card has.
    let goes = sym c.try_fetch.ensures.value ∙ c.in-Ok.is in
    let there = some_there (unfetched c.args.session.now) (fetch_out c.args.session.now c.unfetched.result c.args.command.now c.in-Ok.field-0 c.unfetched.ensures goes) in
    let old = (scene (memory g.S.Store c.args.store.now c.args.loaded.now) c.args.index.now c.args.session.now (minds_of g.B.Applet.mind c.args.cast.now)) in
    done_carries (command_fetched card c.args.command.now) c.fetch.new.out old (scene (memory g.S.Store c.args.store.now c.args.loaded.now) c.args.index.now c.fetch.new.self (minds_of g.B.Applet.mind c.args.cast.now)) tt _
    (fetch_at card c.args.session.now c.unfetched.result c.args.command.now c.in-Ok.field-0 there.0 has.session_is c.unfetched.ensures there.1 goes)
    (of_some (unfetched c.args.session.now) (λ out. c.fetch.new.out.body ≡ command_bytes out) there.0 there.1 c.fetch.ensures.body) c.fetch.ensures.status
    (fetched_comes card old c.fetch.new.self (command_bytes there.0) there.0 has
    (of_some (unfetched c.args.session.now) (λ out. c.fetch.new.self ≡ record c.args.session.now { out = Some (as_fetched out) }) there.0 there.1 c.fetch.ensures.state))

pub returns-in-Ok-clause-order : goal.returns-in-Ok-clause-order
returns-in-Ok-clause-order g c =
    let goes = sym c.try_fetch.ensures.value ∙ c.in-Ok.is in
    let there = some_there (unfetched c.args.session.now) (fetch_out c.args.session.now c.unfetched.result c.args.command.now c.in-Ok.field-0 c.unfetched.ensures goes) in
    let old = (scene (memory g.S.Store c.args.store.now c.args.loaded.now) c.args.index.now c.args.session.now (minds_of g.B.Applet.mind c.args.cast.now)) in
    order_after c.sessions_stay_in_order.ensures (Fetch there.0) (toolkit old) (toolkit (scene (memory g.S.Store c.args.store.now c.args.loaded.now) c.args.index.now c.fetch.new.self (minds_of g.B.Applet.mind c.args.cast.now))) c.requires.order there.1
    (fetched_order (toolkit old) c.fetch.new.self there.0 (of_some (unfetched c.args.session.now) (λ out. c.fetch.new.self ≡ record c.args.session.now { out = Some (as_fetched out) }) there.0 there.1 c.fetch.ensures.state))

pub returns-in-Err-clause-carries : goal.returns-in-Err-clause-carries
returns-in-Err-clause-carries g c =
    λ card has.
    refused_carries (command_fetched card c.args.command.now) _ _ _ tt c.in-Err.status
    (fetch_not card c.args.session.now c.unfetched.result c.args.command.now c.in-Err.status has.session_is c.unfetched.ensures (sym c.try_fetch.ensures.value ∙ c.in-Err.is)) c.clear.ensures refl refl

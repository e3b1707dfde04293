-- A response that passes the tests is to a command that was fetched: that one is named, and what `respond_and_drive` says of any is said of it.
use Rattle.std.proofs.Common.{refl, sym, ap, ◌∙◌, []}
use Rattle.card_state.specs.Memory.{memory}
use Rattle.toolkit_commands.specs.Replies.{replied}
use Rattle.applet_trait.specs.Minds.{minds_of}
use Rattle.toolkit_model.specs.Commands.{unanswered, responded}
use Rattle.toolkit_model.specs.Steps.{Respond}
use Rattle.proactive_handler.specs.Runs.{StopsIn}
use Rattle.proactive_handler.specs.Steps.{scene, toolkit, IsDone}
use Rattle.card_model.specs.Toolkit.{response_taken}
use Rattle.cat_commands.specs.Trying.{seen}
use Rattle.cat_commands.proofs.CarriesLemmas.{tells_here, refused_carries, card_stops, card_done, order_after}
use Rattle.cat_commands.proofs.IsBetweenCommandsLemmas.{in_service, refusal_keeps, ends_done}
use Rattle.cat_commands.proofs.FetchTriedLemmas.{some_there, of_some, response_out, response_at, response_not}
use Rattle.cat_commands.proofs.responding.take_response.Goals as goal

pub respond_and_drive-requires-clause-service : goal.respond_and_drive-requires-clause-service
respond_and_drive-requires-clause-service g c =
    in_service c.sessions_are_served.ensures (scene (memory g.S.Store c.args.store.now c.args.loaded.now) c.args.index.now c.args.session.now (minds_of g.B.Applet.mind c.args.cast.now)) c.args.cast.now c.requires.rests

pub respond_and_drive-requires-clause-fetched : goal.respond_and_drive-requires-clause-fetched
respond_and_drive-requires-clause-fetched g c =
    response_out c.args.session.now c.fetched.result c.args.command.now c.fetched.ensures (replied c.in-Ok.response) (sym c.try_response.ensures.value ∙ ap (seen replied) c.in-Ok.is)

pub returns-in_err-respond_and_drive-in-Ok-clause-carries : goal.returns-in_err-respond_and_drive-in-Ok-clause-carries
returns-in_err-respond_and_drive-in-Ok-clause-carries g c =
    λ card has.
    let goes = sym c.try_response.ensures.value ∙ ap (seen replied) c.in-Ok.is in
    let there = some_there (unanswered c.args.session.now) (response_out c.args.session.now c.fetched.result c.args.command.now c.fetched.ensures (replied c.in-Ok.response) goes) in
    let old = (scene (memory g.S.Store c.args.store.now c.args.loaded.now) c.args.index.now c.args.session.now (minds_of g.B.Applet.mind c.args.cast.now)) in
    let new = (scene (memory g.S.Store c.respond_and_drive.new.store c.respond_and_drive.new.loaded) c.respond_and_drive.new.index c.respond_and_drive.new.session (minds_of g.B.Applet.mind c.respond_and_drive.new.cast)) in
    card_stops card old has [] (responded there.0 (replied c.in-Ok.response)) new (tells_here c.tables_tell_states.ensures old c.requires.rests.mounted) c.respond_and_drive.ensures.keeps.table
    (response_taken card c.args.command.now) _ (response_at c.args.session.now c.fetched.result c.args.command.now c.fetched.ensures card has.session_is there.0 (replied c.in-Ok.response) there.1 goes)
    (responded there.0 (replied c.in-Ok.response)) refl c.from_residual.result c.from_residual.ensures.0
    (of_some (unanswered c.args.session.now) (λ out. StopsIn (responded out (replied c.in-Ok.response) (toolkit old)).log old.memory new.memory) there.0 there.1 c.in_err-respond_and_drive-in-Ok.ensures.moves)

pub returns-in_ok-respond_and_drive-in-Ok-clause-carries : goal.returns-in_ok-respond_and_drive-in-Ok-clause-carries
returns-in_ok-respond_and_drive-in-Ok-clause-carries g c =
    λ card has.
    let goes = sym c.try_response.ensures.value ∙ ap (seen replied) c.in-Ok.is in
    let there = some_there (unanswered c.args.session.now) (response_out c.args.session.now c.fetched.result c.args.command.now c.fetched.ensures (replied c.in-Ok.response) goes) in
    let old = (scene (memory g.S.Store c.args.store.now c.args.loaded.now) c.args.index.now c.args.session.now (minds_of g.B.Applet.mind c.args.cast.now)) in
    let new = (scene (memory g.S.Store c.respond_and_drive.new.store c.respond_and_drive.new.loaded) c.respond_and_drive.new.index c.respond_and_drive.new.session (minds_of g.B.Applet.mind c.respond_and_drive.new.cast)) in
    card_done card old has [] (responded there.0 (replied c.in-Ok.response)) new (tells_here c.tables_tell_states.ensures old c.requires.rests.mounted) c.respond_and_drive.ensures.keeps.table
    (response_taken card c.args.command.now) _ (response_at c.args.session.now c.fetched.result c.args.command.now c.fetched.ensures card has.session_is there.0 (replied c.in-Ok.response) there.1 goes)
    (responded there.0 (replied c.in-Ok.response)) refl tt c.clear.ensures refl
    (of_some (unanswered c.args.session.now) (λ out. IsDone (responded out (replied c.in-Ok.response) (toolkit old)) old new) there.0 there.1 c.in_ok-respond_and_drive-in-Ok.ensures.moves)

pub returns-in_ok-respond_and_drive-in-Ok-clause-ends : goal.returns-in_ok-respond_and_drive-in-Ok-clause-ends
returns-in_ok-respond_and_drive-in-Ok-clause-ends g c =
    let goes = sym c.try_response.ensures.value ∙ ap (seen replied) c.in-Ok.is in
    let there = some_there (unanswered c.args.session.now) (response_out c.args.session.now c.fetched.result c.args.command.now c.fetched.ensures (replied c.in-Ok.response) goes) in
    let old = (scene (memory g.S.Store c.args.store.now c.args.loaded.now) c.args.index.now c.args.session.now (minds_of g.B.Applet.mind c.args.cast.now)) in
    let new = (scene (memory g.S.Store c.respond_and_drive.new.store c.respond_and_drive.new.loaded) c.respond_and_drive.new.index c.respond_and_drive.new.session (minds_of g.B.Applet.mind c.respond_and_drive.new.cast)) in
    let done = of_some (unanswered c.args.session.now) (λ out. IsDone (responded out (replied c.in-Ok.response) (toolkit old)) old new) there.0 there.1 c.in_ok-respond_and_drive-in-Ok.ensures.moves in
    ends_done _ new tt refl (order_after c.sessions_stay_in_order.ensures (Respond there.0 (replied c.in-Ok.response)) (toolkit old) (toolkit new) c.requires.rests.order there.1 done.state_is)

pub returns-in-Err-clause-carries : goal.returns-in-Err-clause-carries
returns-in-Err-clause-carries g c =
    λ card has.
    refused_carries (response_taken card c.args.command.now) _ _ _ tt c.in-Err.status
    (response_not c.args.session.now c.fetched.result c.args.command.now c.fetched.ensures card has.session_is c.in-Err.status (sym c.try_response.ensures.value ∙ ap (seen replied) c.in-Err.is)) c.clear.ensures refl refl

pub returns-in-Err-clause-keeps : goal.returns-in-Err-clause-keeps
returns-in-Err-clause-keeps g c =
    refusal_keeps c.sessions_are_served.ensures tt (scene (memory g.S.Store c.args.store.now c.args.loaded.now) c.args.index.now c.args.session.now (minds_of g.B.Applet.mind c.args.cast.now)) c.args.cast.now c.requires.rests

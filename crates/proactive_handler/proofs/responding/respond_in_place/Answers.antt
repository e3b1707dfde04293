-- As a command was fetched, its owner has a row and is idle once it is answered; where it was the card's own, nobody runs.
use Rattle.std.proofs.Common.{sym, ap, ◌∙◌, subst, ℕ, Some, rules}
use Rattle.card_state.specs.Memory.{memory}
use Rattle.toolkit_commands.specs.Replies.{replied}
use Rattle.applet_trait.specs.Minds.{minds_of}
use Rattle.proactive_handler.specs.Serving.{IsSessionServed}
use Rattle.proactive_handler.specs.Steps.{scene}
use Rattle.proactive_handler.proofs.MovedLemmas.{has_rows}
use Rattle.proactive_handler.proofs.IsSessionServedLemmas.{awaited, gone_served, owner_row, owner_idle}
use Rattle.proactive_handler.proofs.AnsweredLemmas.{of_awaited, awaited_of, owner_done, owner_stops, own_done, own_left, owner_left, owner_leaves}
use Rattle.proactive_handler.proofs.responding.respond_in_place.Goals as goal

pub run_alone-requires-clause-row : goal.run_alone-requires-clause-row
run_alone-requires-clause-row g c =
    let waits = awaited c.args.session.now c.requires.fetched in
    owner_row c.args.loaded.now c.args.session.now c.requires.service.served waits.out waits.out_is c.in-Some.shelf.0 (awaited_of c.args.session.now waits _ c.in-Some.ensures.owner)

pub run_alone-requires-clause-service : goal.run_alone-requires-clause-service
run_alone-requires-clause-service g c =
    let waits = awaited c.args.session.now c.requires.fetched in record {
      mounted = c.requires.service.mounted;
      indexed = c.requires.service.indexed;
      shelves = c.requires.service.shelves;
      served = subst (IsSessionServed c.args.loaded.now) (sym c.in-Some.ensures.state) (gone_served c.args.loaded.now c.args.session.now c.requires.service.served waits.out waits.out_is);
    }

pub run_alone-requires-clause-idle : goal.run_alone-requires-clause-idle
run_alone-requires-clause-idle g c =
    let waits = awaited c.args.session.now c.requires.fetched in
    rw c.in-Some.ensures.state (owner_idle c.args.loaded.now c.args.session.now c.requires.service.served waits.out waits.out_is c.in-Some.shelf.0 (awaited_of c.args.session.now waits _ c.in-Some.ensures.owner))

pub returns-in_err-run_alone-in-Some-clause-moves : goal.returns-in_err-run_alone-in-Some-clause-moves
returns-in_err-run_alone-in-Some-clause-moves g c =
    let waits = awaited c.args.session.now c.requires.fetched in
    of_awaited c.args.session.now waits _
    (owner_stops (scene (memory g.S.Store c.args.store.now c.args.loaded.now) c.args.index.now c.args.session.now (minds_of g.B.Applet.mind c.args.cast.now)) waits c.answered.new.self (replied c.args.response.now) c.in-Some.ensures.state (scene (memory g.S.Store c.run_alone.new.store c.run_alone.new.loaded) c.run_alone.new.index c.run_alone.new.session (minds_of g.B.Applet.mind c.run_alone.new.cast)) c.from_residual.result c.from_residual.ensures.0 c.in-Some.shelf.0 c.from_slice.result c.from_slice.ensures.value
    (sym (awaited_of c.args.session.now waits _ c.in-Some.ensures.owner)) c.in_err-run_alone-in-Some.ensures.tells.moves)

pub returns-in_ok-run_alone-in-Some-clause-moves : goal.returns-in_ok-run_alone-in-Some-clause-moves
returns-in_ok-run_alone-in-Some-clause-moves g c =
    let waits = awaited c.args.session.now c.requires.fetched in
    of_awaited c.args.session.now waits _
    (owner_done (scene (memory g.S.Store c.args.store.now c.args.loaded.now) c.args.index.now c.args.session.now (minds_of g.B.Applet.mind c.args.cast.now)) waits c.answered.new.self (replied c.args.response.now) c.in-Some.ensures.state (scene (memory g.S.Store c.run_alone.new.store c.run_alone.new.loaded) c.run_alone.new.index c.run_alone.new.session (minds_of g.B.Applet.mind c.run_alone.new.cast)) c.in-Some.shelf.0 c.from_slice.result c.from_slice.ensures.value
    (sym (awaited_of c.args.session.now waits _ c.in-Some.ensures.owner)) c.in_ok-run_alone-in-Some.ensures.tells.moves)

pub returns-in-None-clause-moves : goal.returns-in-None-clause-moves
returns-in-None-clause-moves g c =
    let waits = awaited c.args.session.now c.requires.fetched in
    of_awaited c.args.session.now waits _
    (own_done (scene (memory g.S.Store c.args.store.now c.args.loaded.now) c.args.index.now c.args.session.now (minds_of g.B.Applet.mind c.args.cast.now)) waits c.answered.new.self (replied c.args.response.now) c.in-None.ensures.state
    (has_rows c.tables_tell_states.ensures _ _ c.args.loaded.now c.requires.service.mounted.agrees) (sym (awaited_of c.args.session.now waits _ c.in-None.ensures.owner)))

pub returns-in-None-clause-keeps : goal.returns-in-None-clause-keeps
returns-in-None-clause-keeps g c =
    let waits = awaited c.args.session.now c.requires.fetched in record {
      kinds = search rules;
      others = search rules;
      served = subst (IsSessionServed c.args.loaded.now) (sym c.in-None.ensures.state) (gone_served c.args.loaded.now c.args.session.now c.requires.service.served waits.out waits.out_is);
      rows_stay = search rules;
      indexed = search rules;
      table = search rules;
      kept = search rules;
      keeps = search rules;
    }

pub returns-in_err-run_alone-in-Some-clause-untold : goal.returns-in_err-run_alone-in-Some-clause-untold
returns-in_err-run_alone-in-Some-clause-untold g c = λ other apart.
    let waits = awaited c.args.session.now c.requires.fetched in
    c.run_alone.ensures.untold other (λ same. awaited_of c.args.session.now waits _ apart (sym (awaited_of c.args.session.now waits _ c.in-Some.ensures.owner) ∙ ap (λ (shelf : ℕ). Some shelf) same))

pub returns-in_ok-run_alone-in-Some-clause-untold : goal.returns-in_ok-run_alone-in-Some-clause-untold
returns-in_ok-run_alone-in-Some-clause-untold g c = λ other apart.
    let waits = awaited c.args.session.now c.requires.fetched in
    c.run_alone.ensures.untold other (λ same. awaited_of c.args.session.now waits _ apart (sym (awaited_of c.args.session.now waits _ c.in-Some.ensures.owner) ∙ ap (λ (shelf : ℕ). Some shelf) same))

pub returns-in_err-run_alone-in-Some-clause-turns : goal.returns-in_err-run_alone-in-Some-clause-turns
returns-in_err-run_alone-in-Some-clause-turns g c =
    let waits = awaited c.args.session.now c.requires.fetched in
    of_awaited c.args.session.now waits _
    (owner_leaves (scene (memory g.S.Store c.args.store.now c.args.loaded.now) c.args.index.now c.args.session.now (minds_of g.B.Applet.mind c.args.cast.now)) waits c.answered.new.self (replied c.args.response.now) c.in-Some.ensures.state (scene (memory g.S.Store c.run_alone.new.store c.run_alone.new.loaded) c.run_alone.new.index c.run_alone.new.session (minds_of g.B.Applet.mind c.run_alone.new.cast)) c.args.cast.now c.run_alone.new.cast c.from_residual.result c.from_residual.ensures.0 c.in-Some.shelf.0 c.from_slice.result c.from_slice.ensures.value
    (sym (awaited_of c.args.session.now waits _ c.in-Some.ensures.owner)) c.in_err-run_alone-in-Some.ensures.tells.turns)

pub returns-in_ok-run_alone-in-Some-clause-turns : goal.returns-in_ok-run_alone-in-Some-clause-turns
returns-in_ok-run_alone-in-Some-clause-turns g c =
    let waits = awaited c.args.session.now c.requires.fetched in
    of_awaited c.args.session.now waits _
    (owner_left (scene (memory g.S.Store c.args.store.now c.args.loaded.now) c.args.index.now c.args.session.now (minds_of g.B.Applet.mind c.args.cast.now)) waits c.answered.new.self (replied c.args.response.now) c.in-Some.ensures.state (scene (memory g.S.Store c.run_alone.new.store c.run_alone.new.loaded) c.run_alone.new.index c.run_alone.new.session (minds_of g.B.Applet.mind c.run_alone.new.cast)) c.args.cast.now c.run_alone.new.cast c.in-Some.shelf.0 c.from_slice.result c.from_slice.ensures.value
    (sym (awaited_of c.args.session.now waits _ c.in-Some.ensures.owner)) c.in_ok-run_alone-in-Some.ensures.tells.turns)

pub returns-in-None-clause-turns : goal.returns-in-None-clause-turns
returns-in-None-clause-turns g c =
    let waits = awaited c.args.session.now c.requires.fetched in
    of_awaited c.args.session.now waits _ (own_left (scene (memory g.S.Store c.args.store.now c.args.loaded.now) c.args.index.now c.args.session.now (minds_of g.B.Applet.mind c.args.cast.now)) waits c.answered.new.self (replied c.args.response.now) c.in-None.ensures.state c.args.cast.now)

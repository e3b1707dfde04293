-- The shelves that the index found are those the envelope triggers on the card: busy is the same on both, and past it each has its place.
use Rattle.std.proofs.Common.{refl, sym, ap, ◌∙◌, ℕ, subst, ◌≢◌, All}
use Rattle.uicc_types.specs.declared.answers.TheConstants.StatusWord.{TOOLKIT_BUSY}
use Rattle.card_state.specs.Memory.{memory}
use Rattle.toolkit_commands.specs.Reports.{reported}
use Rattle.applet_trait.specs.Minds.{minds_of}
use Rattle.toolkit_model.specs.Commands.{enveloped, call_data}
use Rattle.toolkit_model.specs.Steps.{Report}
use Rattle.proactive_handler.proofs.ScenesLemmas.{scene_done, scene_fault}
use Rattle.proactive_handler.specs.Steps.{scene, toolkit}
use Rattle.card_model.specs.Toolkit.{toolkit_of, envelope_taken}
use Rattle.cat_commands.specs.Trying.{seen}
use Rattle.cat_commands.proofs.CarriesLemmas.{tells_here, refused_carries, card_stops, card_done, order_after}
use Rattle.cat_commands.proofs.IsBusyWithLemmas.{busy_here, busy_at, body_at}
use Rattle.cat_commands.proofs.IsBetweenCommandsLemmas.{refusal_keeps, ends_done}
use Rattle.cat_commands.proofs.TryingLemmas.{envelope_refused, envelope_busy, envelope_goes}
use Rattle.cat_commands.proofs.envelopes.take_envelope.Goals as goal

pub report-requires-clause-room : goal.report-requires-clause-room
report-requires-clause-room g c =
    busy_here (reported c.in-Ok.envelope) (toolkit (scene (memory g.S.Store c.args.store.now c.args.loaded.now) c.args.index.now c.args.session.now (minds_of g.B.Applet.mind c.args.cast.now))) c.trigger_of-trigger.result.shelves c.trigger_of-trigger.ensures.found.shelves ∙ sym c.is_busy.ensures ∙ c.if-is_busy.false

pub returns-then-is_busy-clause-carries : goal.returns-then-is_busy-clause-carries
returns-then-is_busy-clause-carries g c =
    λ card has.
    let old = (scene (memory g.S.Store c.args.store.now c.args.loaded.now) c.args.index.now c.args.session.now (minds_of g.B.Applet.mind c.args.cast.now)) in
    refused_carries (envelope_taken card c.args.command.now) _ old old tt TOOLKIT_BUSY
    (envelope_busy card c.args.command.now (reported c.in-Ok.envelope) (sym c.try_envelope.ensures.value ∙ ap (seen reported) c.in-Ok.is)
    (busy_at card old has (reported c.in-Ok.envelope) c.trigger_of-trigger.result.shelves _ c.trigger_of-trigger.ensures.found.shelves (sym c.is_busy.ensures ∙ c.if-is_busy.true)))
    c.clear.ensures refl refl

pub returns-then-is_busy-clause-keeps : goal.returns-then-is_busy-clause-keeps
returns-then-is_busy-clause-keeps g c =
    refusal_keeps c.sessions_are_served.ensures tt (scene (memory g.S.Store c.args.store.now c.args.loaded.now) c.args.index.now c.args.session.now (minds_of g.B.Applet.mind c.args.cast.now)) c.args.cast.now c.requires.rests

pub returns-in_err-answer-in-Ok-clause-carries : goal.returns-in_err-answer-in-Ok-clause-carries
returns-in_err-answer-in-Ok-clause-carries g c =
    λ card has.
    let old = (scene (memory g.S.Store c.args.store.now c.args.loaded.now) c.args.index.now c.args.session.now (minds_of g.B.Applet.mind c.args.cast.now)) in
    card_stops card old has (call_data (reported c.in-Ok.envelope) (toolkit_of card)) (enveloped (reported c.in-Ok.envelope)) (scene (memory g.S.Store c.report.new.store c.report.new.loaded) c.report.new.index c.report.new.session (minds_of g.B.Applet.mind c.report.new.cast))
    (tells_here c.tables_tell_states.ensures old c.requires.rests.mounted) c.report.ensures.keeps.table
    (envelope_taken card c.args.command.now) _
    (envelope_goes card c.args.command.now (reported c.in-Ok.envelope) (sym c.try_envelope.ensures.value ∙ ap (seen reported) c.in-Ok.is)
    (busy_at card old has (reported c.in-Ok.envelope) c.trigger_of-trigger.result.shelves _ c.trigger_of-trigger.ensures.found.shelves (sym c.is_busy.ensures ∙ c.if-is_busy.false)))
    (enveloped (reported c.in-Ok.envelope)) refl c.from_residual.result c.from_residual.ensures.0 c.in_err-answer-in-Ok.ensures.moves

pub returns-in_ok-answer-in-Ok-clause-carries : goal.returns-in_ok-answer-in-Ok-clause-carries
returns-in_ok-answer-in-Ok-clause-carries g c =
    λ card has.
    let old = (scene (memory g.S.Store c.args.store.now c.args.loaded.now) c.args.index.now c.args.session.now (minds_of g.B.Applet.mind c.args.cast.now)) in
    card_done card old has (call_data (reported c.in-Ok.envelope) (toolkit_of card)) (enveloped (reported c.in-Ok.envelope)) (scene (memory g.S.Store c.report.new.store c.report.new.loaded) c.report.new.index c.report.new.session (minds_of g.B.Applet.mind c.report.new.cast))
    (tells_here c.tables_tell_states.ensures old c.requires.rests.mounted) c.report.ensures.keeps.table
    (envelope_taken card c.args.command.now) _
    (envelope_goes card c.args.command.now (reported c.in-Ok.envelope) (sym c.try_envelope.ensures.value ∙ ap (seen reported) c.in-Ok.is)
    (busy_at card old has (reported c.in-Ok.envelope) c.trigger_of-trigger.result.shelves _ c.trigger_of-trigger.ensures.found.shelves (sym c.is_busy.ensures ∙ c.if-is_busy.false)))
    (enveloped (reported c.in-Ok.envelope)) refl tt
    (body_at card old has (reported c.in-Ok.envelope) c.put_data.new.body c.in_ok-answer-in-Ok.answer c.put_data.ensures c.in_ok-answer-in-Ok.ensures.answer)
    refl c.in_ok-answer-in-Ok.ensures.moves

pub returns-in_ok-answer-in-Ok-clause-ends : goal.returns-in_ok-answer-in-Ok-clause-ends
returns-in_ok-answer-in-Ok-clause-ends g c =
    let old = (scene (memory g.S.Store c.args.store.now c.args.loaded.now) c.args.index.now c.args.session.now (minds_of g.B.Applet.mind c.args.cast.now)) in
    let new = (scene (memory g.S.Store c.report.new.store c.report.new.loaded) c.report.new.index c.report.new.session (minds_of g.B.Applet.mind c.report.new.cast)) in
    ends_done _ new tt refl
    (order_after c.sessions_stay_in_order.ensures (Report (reported c.in-Ok.envelope)) (toolkit old) (toolkit new) c.requires.rests.order
    (busy_here (reported c.in-Ok.envelope) (toolkit old) c.trigger_of-trigger.result.shelves c.trigger_of-trigger.ensures.found.shelves ∙ sym c.is_busy.ensures ∙ c.if-is_busy.false)
    c.in_ok-answer-in-Ok.ensures.moves.state_is)

pub returns-in_ok-answer-in-Ok-clause-keeps : goal.returns-in_ok-answer-in-Ok-clause-keeps
returns-in_ok-answer-in-Ok-clause-keeps g c =
    scene_done (scene (memory g.S.Store c.args.store.now c.args.loaded.now) c.args.index.now c.args.session.now (minds_of g.B.Applet.mind c.args.cast.now)) (scene (memory g.S.Store c.report.new.store c.report.new.loaded) c.report.new.index c.report.new.session (minds_of g.B.Applet.mind c.report.new.cast)) _ _ c.in_ok-answer-in-Ok.ensures.keeps

pub returns-in_err-answer-in-Ok-clause-keeps : goal.returns-in_err-answer-in-Ok-clause-keeps
returns-in_err-answer-in-Ok-clause-keeps g c =
    scene_fault (scene (memory g.S.Store c.args.store.now c.args.loaded.now) c.args.index.now c.args.session.now (minds_of g.B.Applet.mind c.args.cast.now)) (scene (memory g.S.Store c.report.new.store c.report.new.loaded) c.report.new.index c.report.new.session (minds_of g.B.Applet.mind c.report.new.cast)) c.in_err-answer-in-Ok.field-0.0 c.from_residual.result c.from_residual.ensures.0 c.from_residual.ensures.1 c.in_err-answer-in-Ok.ensures.keeps

pub returns-in-Err-clause-carries : goal.returns-in-Err-clause-carries
returns-in-Err-clause-carries g c =
    λ card has.
    refused_carries (envelope_taken card c.args.command.now) _ _ _ tt c.in-Err.status (envelope_refused card c.args.command.now c.in-Err.status (sym c.try_envelope.ensures.value ∙ ap (seen reported) c.in-Err.is)) c.clear.ensures refl refl

pub returns-in-Err-clause-keeps : goal.returns-in-Err-clause-keeps
returns-in-Err-clause-keeps g c =
    refusal_keeps c.sessions_are_served.ensures tt (scene (memory g.S.Store c.args.store.now c.args.loaded.now) c.args.index.now c.args.session.now (minds_of g.B.Applet.mind c.args.cast.now)) c.args.cast.now c.requires.rests

pub returns-in_err-answer-in-Ok-clause-untold : goal.returns-in_err-answer-in-Ok-clause-untold
returns-in_err-answer-in-Ok-clause-untold g c =
    λ other differ apart.
    c.report.ensures.untold other
    (subst (All (λ (shelf : ℕ). shelf ≢ other)) (sym c.trigger_of-trigger.ensures.found.shelves) (differ (reported c.in-Ok.envelope) (sym c.try_envelope.ensures.value ∙ ap (seen reported) c.in-Ok.is))) apart

pub returns-in_ok-answer-in-Ok-clause-untold : goal.returns-in_ok-answer-in-Ok-clause-untold
returns-in_ok-answer-in-Ok-clause-untold g c =
    λ other differ apart.
    c.report.ensures.untold other
    (subst (All (λ (shelf : ℕ). shelf ≢ other)) (sym c.trigger_of-trigger.ensures.found.shelves) (differ (reported c.in-Ok.envelope) (sym c.try_envelope.ensures.value ∙ ap (seen reported) c.in-Ok.is))) apart

pub returns-then-is_busy-clause-untold : goal.returns-then-is_busy-clause-untold
returns-then-is_busy-clause-untold g c =
    λ other differ apart. refl

pub returns-in-Err-clause-untold : goal.returns-in-Err-clause-untold
returns-in-Err-clause-untold g c =
    λ other differ apart. refl

-- In which order the event of a command makes applets run.
use Rattle.std.proofs.Common.{◌≡◌, ℕ, List, [], refl, ◌∙◌, ap, filter}
use Rattle.uicc_types.specs.declared.events.TheConstants.{PROFILE_DOWNLOAD, STATUS_COMMAND}
use Rattle.toolkit_commands.specs.declared.envelopes.Envelope.{Envelope}
use Rattle.toolkit_model.specs.Commands.{registered_told, with_profile, profiled, polled, triggered_by, triggered}
use Rattle.toolkit_model.specs.Driving.{is_idle, driven}
use Rattle.toolkit_model.specs.Order.{targets}
use Rattle.toolkit_model.specs.Orderly.{asks, IsOrderly}
use Rattle.toolkit_model.specs.Passing.{ToolkitState, before}
use Rattle.toolkit_model.specs.Steps.{ToolkitInput, Profile, Status, Report, Fetch, Respond, Install, Delete, Wake}
use Rattle.toolkit_model.specs.Begun.{begun}
use Rattle.toolkit_model.specs.OrderlySessions.{IsInOrder}
use Rattle.toolkit_model.proofs.BegunLemmas.{before_driving}
use Rattle.card_model.specs.States.{CardState}
use Rattle.card_model.specs.Toolkit.{toolkit_of}
use Rattle.card_laws.specs.ToolkitLaws.{RunsTargets}
use Rattle.card_laws.specs.Moving.{HasOrder}

abbrev pub RunsEnvelopes : Type 0
RunsEnvelopes = (envelope : Envelope) (state : ToolkitState) → IsInOrder state → begun (triggered envelope state).log ≡ filter (is_idle (asks state.session)) (triggered_by envelope state).shelves

abbrev pub RunsOwn : Type 0
RunsOwn = (code : ℕ) (body : List ℕ) (state : ToolkitState) → IsInOrder state → begun (registered_told code body state).log ≡ filter (is_idle (asks state.session)) (targets state.rows code)

-- ---- a session with another profile is in order

same_asks : (state : ToolkitState) (bytes : List ℕ) → asks (with_profile state bytes).session ≡ asks state.session
unfolding asks
same_asks state bytes = refl

profile_orders : (state : ToolkitState) (bytes : List ℕ) → IsOrderly state.rows state.session → IsOrderly state.rows (with_profile state bytes).session
unfolding asks
profile_orders state bytes is = record {
  underway = record {
    apart = is.underway.apart;
    askers = is.underway.askers;
    sendable = is.underway.sendable;
    out_sendable = is.underway.out_sendable;
    late_rows = is.underway.late_rows;
    few_late = is.underway.few_late;
    timers = is.underway.timers;
    eight_timers = is.underway.eight_timers;
    no_profile = λ none. absurd (cc);
  };
  late = is.late;
  behind = is.behind;
}

profile_in_order : (state : ToolkitState) (bytes : List ℕ) → IsInOrder state → IsInOrder (with_profile state bytes)
profile_in_order state bytes is = record { rows = is.rows; session = profile_orders state bytes is.session; minds = is.minds }

-- ---- each command

profile_first : (bytes : List ℕ) (state : ToolkitState) → profiled bytes state ≡ before (registered_told PROFILE_DOWNLOAD bytes (with_profile state bytes)) driven
unfolding profiled
profile_first bytes state = refl

status_first : (state : ToolkitState) → polled state ≡ before (registered_told STATUS_COMMAND [] state) driven
unfolding polled
status_first state = refl

pub runs_targets : RunsEnvelopes → RunsOwn → (card : CardState) → HasOrder card → (command : ToolkitInput) → RunsTargets command card
runs_targets envelopes own card ready (Report envelope) = record { order = envelopes envelope (toolkit_of card) ready.order; begins = before_driving envelope (toolkit_of card) }
runs_targets envelopes own card ready (Profile bytes) = record {
  order = own PROFILE_DOWNLOAD bytes (with_profile (toolkit_of card) bytes) (profile_in_order (toolkit_of card) bytes ready.order)
      ∙ ap (λ asked. filter (is_idle asked) (targets card.persistent.rows PROFILE_DOWNLOAD)) (same_asks (toolkit_of card) bytes);
  begins = profile_first bytes (toolkit_of card);
}
runs_targets envelopes own card ready Status = record { order = own STATUS_COMMAND [] (toolkit_of card) ready.order; begins = status_first (toolkit_of card) }
runs_targets envelopes own card ready (Fetch out) = tt
runs_targets envelopes own card ready (Respond out reply) = tt
runs_targets envelopes own card ready (Install row) = tt
runs_targets envelopes own card ready (Delete shelf) = tt
runs_targets envelopes own card ready (Wake rows minds) = tt

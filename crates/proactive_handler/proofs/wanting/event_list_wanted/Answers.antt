use Rattle.std.proofs.Common.{◌≡◌, ℕ, List, true, ap, ◌∙◌, nat_eq, ap₂, ◌≤◌, length, arith}
use Rattle.std.specs.Cmp.Lexicographic.{pointwise}
use Rattle.card_state.specs.States.{rows_of}
use Rattle.toolkit_commands.specs.declared.commands.Proactive.TheVariants.{SetUpEventList}
use Rattle.toolkit_commands.proofs.LengthsOfCommandsLemmas.{short_enough}
use Rattle.toolkit_model.specs.Driving.{if_allowed}
use Rattle.proactive_handler.proofs.WantedLemmas.{list_known, list_new, sendable_if}
use Rattle.proactive_handler.proofs.wanting.event_list_wanted.Goals as goal

pub returns-then-eq-clause-value : goal.returns-then-eq-clause-value
returns-then-eq-clause-value c =
    let same_is : c.eq.result ≡ pointwise nat_eq c.events_for-events.result c.args.announced.now.events =
    c.eq.ensures ∙ ap₂ (pointwise nat_eq) c.as_slice.ensures.value (c.as_slice-2.ensures.value ∙ c.events.ensures) in
    list_known c.args.profile.now c.args.index.now (rows_of c.args.loaded.now) c.args.announced.now c.events_for-events.result c.eq.result c.requires
    c.events_for-events.ensures.value same_is c.if-eq.true

pub returns-clause-value : goal.returns-clause-value
returns-clause-value c =
    let same_is : c.eq.result ≡ pointwise nat_eq c.events_for-events.result c.args.announced.now.events =
    c.eq.ensures ∙ ap₂ (pointwise nat_eq) c.as_slice.ensures.value (c.as_slice-2.ensures.value ∙ c.events.ensures) in
    c.if_allowed.ensures.value
    ∙ ap (λ (events : List ℕ). if_allowed c.args.profile.now true (SetUpEventList events)) (c.from_slice-events.ensures.value ∙ c.as_slice-3.ensures.value)
    ∙ list_new c.args.profile.now c.args.index.now (rows_of c.args.loaded.now) c.args.announced.now c.events_for-events.result c.eq.result c.requires
    c.events_for-events.ensures.value same_is c.if-eq.false

pub returns-clause-sendable : goal.returns-clause-sendable
returns-clause-sendable c =
    let events : List ℕ = c.from_slice-events.result in
    let few : length events ≤ 240 = omega (arith, ap length (c.from_slice-events.ensures.value ∙ c.as_slice-3.ensures.value), c.events_for-events.ensures.few) in
    sendable_if c.if_allowed.result (SetUpEventList events) c.if_allowed.ensures.same (record { proper = tt; short = λ number. short_enough (SetUpEventList events) number few })

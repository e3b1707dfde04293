-- How a step is taken: from where to where, what is written and counted, and what it shows. The contracts of the functions that take steps
-- say this; a whole run is told without it.
use Rattle.std.specs.Prelude.{Option, option_map, ℕ, List, ◌≡◌, Bool, true, false, [], ◌∷◌, Some, Result, Ok, Err, ⊤}
use Rattle.std.specs.Io.KnownBytes.{append_known}
use Rattle.uicc_types.specs.Counts.{Meter}
use Rattle.uicc_types.specs.declared.answers.Answer.{Answer}
use Rattle.uicc_types.specs.declared.plans.Plan.{Plan}
use Rattle.uicc_types.specs.declared.runs.Step.{Step}
use Rattle.uicc_types.specs.declared.runs.Step.TheVariants as step
use Rattle.uicc_types.specs.declared.runs.TraceItem.{TraceItem}
use Rattle.uicc_types.specs.declared.runs.TraceItem.TheVariants as item
use Rattle.t0_link.specs.declared.endpoint.LinkFault.{LinkFault}
use Rattle.t0_link.specs.declared.endpoint.LinkFault.TheVariants.{PowerLost, NoPower}
use Rattle.byte_streams.specs.declared.streams.Failed.{Failed}
use Rattle.card_model.specs.Counts.{IsCounted}
use Rattle.card_model.specs.Runs.{armed_after, waiting_after, StepGives}
use Rattle.card_model.specs.States.{Machine, powered, unpowered, restarted}
use Rattle.card_core.specs.Cards.{card_of, held_by}
use Rattle.card_core.specs.Parts.{CardParts}
use Rattle.run_steps.specs.Runs.{ends_calm, text_of, is_calm}
use Rattle.run_steps.specs.Stepping.{Moment, IsSeen, IsCutOff, Holds, BreaksOff}
use Rattle.run_steps.specs.Views.{CardView, Known, StepShows, LastShows}
use Rattle.run_steps.specs.declared.steps.MemoryFailed.{MemoryFailed}
use Rattle.run_steps.specs.declared.steps.Restarted.{Restarted}
use Rattle.run_steps.specs.declared.steps.Restarted.TheVariants as ended
use Rattle.run_steps.specs.declared.steps.StepEnd.{StepEnd}
use Rattle.run_steps.specs.declared.steps.StepEnd.TheVariants.{SinkFailed, ResetFailed}

-- the card of the code with its power, where its store tells its bytes
abbrev pub machine_of : CardParts → Option Machine
machine_of parts = option_map (λ card. record { card = card; on = parts.is_on }) (card_of parts)

-- where a card stands, with what the sink has taken and the plan that waits
abbrev pub moment : CardParts → Option (List ℕ) → Plan → Moment
moment parts taken waiting = record { machine = machine_of parts; held = held_by parts; is_on = parts.is_on; taken = taken; meter = parts.meter; boxes = parts.boxes; is_due = parts.is_due; waiting = waiting }

-- The card itself has no box to wake after what was shown, if it met no fault last, and had none to wake before that where nothing was
-- shown. Of its power nothing more is known.
abbrev pub RestsOn : CardView → List TraceItem → Bool → Bool → Type 0
RestsOn card shown was_due is_due = Known (λ machine. (shown ≡ [] → was_due ≡ false) → ends_calm shown ≡ true → is_due ≡ false) (λ on. Unit {0}) card

-- the same of all that was shown since it was opened
abbrev pub Rests : CardView → List TraceItem → Bool → Type 0
Rests card shown is_due = Known (λ machine. ends_calm shown ≡ true → is_due ≡ false) (λ on. Unit {0}) card

-- Where a plan was given to the device, it was taken back after the last call: none came to it since.
abbrev pub IsTakenBack : List Plan → Meter → Type 0
IsTakenBack [] meter = Unit {0}
IsTakenBack (plan ∷ plans) meter = meter.is_idle ≡ true

-- a step was taken, and all that it shows
pub record TakesStep (old : CardView) (step : Step) (from to : Moment) : Type 0 where
  pub card : CardView
  pub shown : List TraceItem
  pub seen : IsSeen card to
  pub gives : StepShows old step shown card
  pub written : to.taken ≡ append_known from.taken (text_of shown)
  pub counted : IsCounted from.meter to.meter (armed_after from.waiting (step ∷ [])) shown
  pub back : IsTakenBack (armed_after from.waiting (step ∷ [])) to.meter
  pub waits : to.waiting ≡ waiting_after from.waiting (step ∷ [])
  pub rests : RestsOn card shown from.is_due to.is_due

-- the sink failed in the last line of what a step has shown
pub record BreaksStep (old : CardView) (step : Step) (from to : Moment) : Type 0 where
  pub card : CardView
  pub pending : List TraceItem
  pub front : List ℕ
  pub set : List Plan
  pub stands : Holds card to.held
  pub broken : BreaksOff old step pending (armed_after from.waiting (step ∷ [])) set card
  pub cut_off : IsCutOff pending front
  pub written : to.taken ≡ append_known from.taken front
  pub counted : IsCounted from.meter to.meter set pending
  pub back : IsTakenBack set to.meter

-- a step was the last
pub record EndsStep (old : CardView) (step : Step) (from to : Moment) : Type 0 where
  pub card : CardView
  pub shown : List TraceItem
  pub stands : Holds card to.held
  pub ends : LastShows old step shown card
  pub written : to.taken ≡ append_known from.taken (text_of shown)
  pub counted : IsCounted from.meter to.meter (armed_after from.waiting (step ∷ [])) shown
  pub back : IsTakenBack (armed_after from.waiting (step ∷ [])) to.meter

-- a step was taken, and this is what it shows
pub record TakesShowing (shown : List TraceItem) (old : CardView) (step : Step) (from to : Moment) : Type 0 where
  pub taken : TakesStep old step from to
  pub shows : taken.shown ≡ shown

-- ---- what a step shows

-- what came of a command: an answer, or none, since power was lost or there was none
abbrev pub Outcome : Type 0
Outcome = Result ⊤ LinkFault

-- what the trace shows of it
abbrev pub seen : Outcome → Answer → TraceItem
seen (Ok done) answer = item.Answer answer.body answer.status
seen (Err PowerLost) answer = item.Cut
seen (Err NoPower) answer = item.Off

-- of the command and of that
abbrev pub exchanged : List ℕ → Answer → Outcome → List TraceItem
exchanged apdu answer outcome = item.Command apdu ∷ seen outcome answer ∷ []

-- of a reset
abbrev pub shown_of : Result Restarted MemoryFailed → TraceItem
shown_of (Ok ended.Done) = item.Reset
shown_of (Ok ended.Cut) = item.Cut
shown_of (Err failed) = item.EepromFailed

-- of one in which the memory did not fail
abbrev pub restarted_by : Restarted → List TraceItem
restarted_by outcome = shown_of (Ok outcome) ∷ []

-- ---- what a command and a reset come to

-- the sink failed, or it was taken, and this came of it
abbrev pub GivesCommand : Result Outcome Failed → List ℕ → Answer → CardView → Moment → Moment → Type 0
GivesCommand (Ok outcome) apdu answer old from to = TakesShowing (exchanged apdu answer outcome) old (step.Apdu apdu) from to
GivesCommand (Err failed) apdu answer old from to = BreaksStep old (step.Apdu apdu) from to

-- the card was reset, or power was lost in it, or it was the last step
abbrev pub GivesReset : Result Restarted StepEnd → CardView → Moment → Moment → Type 0
GivesReset (Ok outcome) old from to = TakesShowing (restarted_by outcome) old step.Reset from to
GivesReset (Err SinkFailed) old from to = BreaksStep old step.Reset from to
GivesReset (Err ResetFailed) old from to = EndsStep old step.Reset from to

-- ---- inside a step

-- a command was sent to the card, which shows this
pub record Sends (old : Machine) (apdu : List ℕ) (shown : TraceItem) (to : CardParts) : Type 0 where
  pub machine : Machine
  pub told : machine_of to ≡ Some machine
  pub gives : StepGives old (step.Apdu apdu) (item.Command apdu ∷ shown ∷ []) machine
  pub rests : is_calm shown ≡ true → to.is_due ≡ false

-- the card was reset, or power was lost in it, or the memory failed; what it holds for good is the same
abbrev pub Resets : Result Restarted MemoryFailed → Machine → CardParts → Type 0
Resets (Ok ended.Done) old to = (machine_of to ≡ Some (powered (restarted old.card))) × (to.is_due ≡ false)
Resets (Ok ended.Cut) old to = machine_of to ≡ Some (unpowered (restarted old.card))
Resets (Err failed) old to = held_by to ≡ Some (restarted old.card).persistent

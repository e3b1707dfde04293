-- A card's end of a link, and what becomes of a command that comes to it.
use Rattle.std.specs.Prelude.{◌≡◌, ◌≤◌, Bool, true, false, if◌then◌else◌, ℕ, List, [], ◌∷◌, Option, Some, Result, Ok, IsErr}
use Rattle.uicc_types.specs.Counts.{Caused, Meter, armed, names_fault, raised}
use Rattle.uicc_types.specs.declared.answers.Answer.{Answer}
use Rattle.uicc_types.specs.declared.plans.Plan.{Plan}
use Rattle.uicc_types.specs.declared.plans.TheConstants.Plan.{NONE}
use Rattle.uicc_types.specs.declared.runs.TraceItem.{TraceItem}
use Rattle.uicc_types.specs.declared.runs.TraceItem.TheVariants as item
use Rattle.t0_link.specs.declared.endpoint.Endpoint.{Ghosts as EndpointWords}
use Rattle.card_model.specs.Counts.{IsCounted, is_cut, is_failure}
use Rattle.card_model.specs.States.{Machine}
use Rattle.card_core.specs.Parts.{CardParts}
use Rattle.run_steps.specs.Taking.{machine_of, Resets, Sends, moment, shown_of}
use Rattle.run_steps.specs.Stepping.{Moment}
use Rattle.run_steps.specs.Views.{IsReply}
use Rattle.run_steps.specs.declared.steps.MemoryFailed.{MemoryFailed}
use Rattle.run_steps.specs.declared.steps.Restarted.{Restarted}
use Rattle.run_steps.specs.declared.steps.Restarted.TheVariants as ended
use Rattle.run_steps.specs.Tpdus.{item_of}

-- what is seen of it: the parts of the card, and the plan of faults that waits for the next command or reset
pub record End : Type 0 where
  pub parts : CardParts
  pub waiting : Plan

-- what stands between two steps, where the sink has taken this
abbrev pub moment_at : End → Option (List ℕ) → Moment
moment_at end taken = moment end.parts taken end.waiting

-- a device was given a plan that names a fault, which is in force then; one that names none it was not given
abbrev pub planned : Meter → Plan → Meter
planned meter plan = if names_fault plan then armed meter plan else meter

-- a plan that was given to it was taken back, so that none is in force; where none was given, nothing was done
abbrev pub unplanned : Bool → Meter → Meter
unplanned is_given meter = if is_given then armed meter NONE else meter

-- the plan that waits was given to its device, where it names a fault, and none waits any more
abbrev pub with_plan_set : End → End
with_plan_set end = record { parts = record end.parts { meter = planned end.parts.meter end.waiting }; waiting = NONE }

-- that plan was taken back, and nothing else has changed
abbrev pub disarmed : Bool → CardParts → CardParts
disarmed is_given parts = record parts { meter = unplanned is_given parts.meter }

-- an end whose plan was taken back, where one was given
abbrev pub without_plan : Bool → End → End
without_plan is_given end = record end { parts = disarmed is_given end.parts }

-- what is shown is why the device counts a fault or loses power, and nothing else is; a plan that it was given stays
abbrev pub IsShownCause : Meter → Meter → TraceItem → Type 0
IsShownCause old new shown = Caused old new (is_failure shown ≡ true) (is_cut shown ≡ true)

-- A card took a command, of which the trace shows this: over a store that tells its bytes it takes the step of that command, and over
-- any store its device counts what is shown, and no plan; and what is shown is what may come of it by the card's power.
pub record TakesCommand (old : CardParts) (apdu : List ℕ) (shown : TraceItem) (new : CardParts) : Type 0 where
  pub sends : (machine : Machine) → machine_of old ≡ Some machine → Sends machine apdu shown new
  pub counted : IsCounted old.meter new.meter [] (shown ∷ [])
  pub caused : IsShownCause old.meter new.meter shown
  pub replies : IsReply old.is_on shown new.is_on
  pub kept : old.meter.faults ≤ new.meter.faults

-- A card was reset, with this outcome: over a store that tells its bytes it is then as a reset leaves it, and over any store its device
-- counts what is shown, and no plan, and the card has power or lost it.
pub record TakesReset (old : CardParts) (outcome : Result Restarted MemoryFailed) (new : CardParts) : Type 0 where
  pub resets : (machine : Machine) → machine_of old ≡ Some machine → Resets outcome machine new
  pub counted : IsCounted old.meter new.meter [] (shown_of outcome ∷ [])
  pub on : outcome ≡ Ok ended.Done → new.is_on ≡ true
  pub off : outcome ≡ Ok ended.Cut → new.is_on ≡ false
  pub failed : IsErr outcome → new.meter.faults ≡ raised old.meter.faults
  pub kept : old.meter.faults ≤ new.meter.faults

-- A command came to the card, which took it so. The plan that waits goes on waiting.
pub record Meets (old : End) (apdu : List ℕ) (shown : TraceItem) (new : End) : Type 0 where
  pub takes : TakesCommand old.parts apdu shown new.parts
  pub waits : new.waiting ≡ old.waiting

-- A terminal's command came to the card, by itself or over a link, and this is what the trace shows of it. Over a store that tells its
-- bytes the card has taken the step of that command, and over any store its device counts what is shown, and no plan, and that is what
-- may come of it by the card's power. The plan that waits goes on waiting.
pub record Comes (old : End) (apdu : List ℕ) (shown : TraceItem) (new : End) : Type 0 where
  pub sends : (machine : Machine) → machine_of old.parts ≡ Some machine → Sends machine apdu shown new.parts
  pub counted : IsCounted old.parts.meter new.parts.meter [] (shown ∷ [])
  pub replies : IsReply old.parts.is_on shown new.parts.is_on
  pub kept : old.parts.meter.faults ≤ new.parts.meter.faults
  pub waits : new.waiting ≡ old.waiting

-- the card answers it so, be it that the memory failed
abbrev pub MeetsAnswer : End → List ℕ → Answer → End → Type 0
MeetsAnswer old apdu answer new = Meets old apdu (item_of answer) new

-- the card loses power in it
abbrev pub MeetsCut : End → List ℕ → End → Type 0
MeetsCut old apdu new = Meets old apdu item.Cut new

-- the words of this end for a link
abbrev pub end_words : EndpointWords End
end_words = record { is_on = λ end. end.parts.is_on; losses = λ end. end.parts.meter.cuts; step = MeetsAnswer; lost = MeetsCut }

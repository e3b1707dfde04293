-- What a run is given and leaves, and how its lines after `start` end, be they for the card or for a handset that serves it.
use Rattle.std.specs.Io.KnownBytes.{append_known}
use Rattle.std.specs.List.{AllPass}
use Rattle.std.specs.Prelude.{◌≡◌, ℕ, Bool, true, List, [], ◌∷◌, ◌++◌, Option, Some, None, Result, Ok, ◌⊎◌, false}
use Rattle.uicc_types.specs.Counts.{Meter}
use Rattle.uicc_types.specs.declared.answers.Answer.{Answer}
use Rattle.uicc_types.specs.declared.plans.Plan.{Plan}
use Rattle.uicc_types.specs.declared.plans.TheConstants.Plan.{NONE}
use Rattle.uicc_types.specs.declared.runs.Step.TheVariants as step
use Rattle.uicc_types.specs.declared.runs.TraceItem.{TraceItem}
use Rattle.byte_streams.specs.Lines.{LineList, lines}
use Rattle.script_form.specs.Forms.{IsLine}
use Rattle.script_form.specs.Reads.{IsOnly}
use Rattle.script_form.specs.declared.lines.ScriptLine.{ScriptLine}
use Rattle.script_form.specs.declared.lines.ScriptLine.TheVariants.{Start}
use Rattle.script_reader.specs.Behind.{StopsReading}
use Rattle.script_reader.specs.Said.{AreRead}
use Rattle.script_reader.specs.declared.behind.PlayEnd.{PlayEnd}
use Rattle.script_reader.specs.declared.behind.PlayEnd.TheVariants.{SinkFailed, ResetFailed}
use Rattle.card_state.specs.Migration.{migrated}
use Rattle.card_state.specs.Persistent.{Persistent}
use Rattle.applet_trait.specs.Minds.{AppletState, kind_on}
use Rattle.card_model.specs.Counts.{IsCounted}
use Rattle.card_model.specs.Runs.{plan_given, armed_after, waiting_after}
use Rattle.card_model.specs.States.{IsGood, Machine, powered, woken}
use Rattle.card_core.specs.Openings.{with_all_shelves}
use Rattle.section_lines.specs.Script.{with_lines}
use Rattle.run_steps.specs.Runs.{ends_calm, text_of}
use Rattle.run_steps.specs.Stepping.{Holds, IsCutOff, Moment}
use Rattle.run_steps.specs.Views.{CardView, IsRunOf, Known, LastShows, RunShows}
use Rattle.phone_runs.specs.Lines.{PhoneComesTo}
use Rattle.phone_runs.specs.Runs.{Beginning}
use Rattle.uicc_run.specs.Accounts.{Account, AreTold, BreaksOffDeed, Deed, ShowsAsMany, Takes}
use Rattle.uicc_run.specs.Steps.{deeds, deeds_of, may_stand}

-- What a run is given: the text of the script, what the sink has taken already, where it tells that, whether its store is the one whose pages move,
-- the counts of the memory's device, what the memory stands for or the place of the first check that fails in it, the minds in
-- the boxes, the card that a section is added to: that with the MF alone, or none where a card is opened; and whether the lines
-- after `start` go to a handset.
pub record Given : Type 0 where
  pub text : List ℕ
  pub before : Option (List ℕ)
  pub pages : Bool
  pub meter : Meter
  pub memory : Result Persistent ℕ
  pub boxes : List (Option AppletState)
  pub first : Option Persistent
  pub is_served : Bool

-- What a run leaves: what the device stands for, what the sink has taken, the counts of the device, and the minds in the boxes that
-- are handed back.
pub record Leaves : Type 0 where
  pub held : Option Persistent
  pub taken : Option (List ℕ)
  pub meter : Meter
  pub boxes : List (Option AppletState)

-- what a run leaves that ends at this moment
abbrev pub left_at : Moment → Leaves
left_at now = record { held = now.held; taken = now.taken; meter = now.meter; boxes = now.boxes }

-- the card that is opened after these lines, with these boxes, holds this: what they describe, or what the memory stood for
abbrev pub IsOpened : List (Option AppletState) → Option Persistent → Result Persistent ℕ → List ScriptLine → Persistent → Type 0
IsOpened boxes (Some bare) memory section start = with_lines boxes (Some bare) section ≡ Ok (Some start)
IsOpened boxes None memory section start = (with_lines boxes None section ≡ Ok None) × (memory ≡ Ok start)

-- The lines up to `start` and after it were read, each in its place and with one reading alone; those before it describe this card, or
-- none.
pub record AreReadInPlace (given : Given) (found : LineList) (section played : List ScriptLine) (card : Option Persistent) : Type 0 where
  pub read : AreRead found (section ++ Start ∷ played)
  pub described : with_lines given.boxes given.first section ≡ Ok card
  pub in_place : AllPass (may_stand given.is_served) played

-- The card that is opened over a store that stands for this, with these boxes: with power, as a reset leaves it. Where its files
-- leave room for the rows of a wide card it has become one.
abbrev pub first_machine : Persistent → List (Option AppletState) → Machine
first_machine held boxes = powered (woken (migrated held) (with_all_shelves boxes))

-- The card itself as it is opened after these lines: it holds what they describe, or what the memory stood for, and it is a good one, in
-- which each applet that is registered has its box.
pub record IsCardOpened (given : Given) (section : List ScriptLine) (machine : Machine) : Type 0 where
  pub start : Persistent
  pub opened : IsOpened given.boxes given.first given.memory section start
  pub machine_is : machine ≡ first_machine start given.boxes
  pub good : IsGood machine.card

-- how the card is seen that is opened after these lines: that very card, or one that has power
abbrev pub IsFirst : Given → List ScriptLine → CardView → Type 0
IsFirst given section first = Known (IsCardOpened given section) (λ on. on ≡ true) first

-- Lines after `start` were read and carried out, by a card that was seen so first: what they came to, line by line (`are_told`), what the
-- card showed of its own in its steps (`run`), how it is seen after them, and what the link keeps then.
pub record CarriedOut (given : Given) (first : CardView) : Type 0 where
  pub found : LineList
  pub section : List ScriptLine
  pub played : List ScriptLine
  pub described : Option Persistent
  pub account : Account
  pub kept : Option Answer
  pub card : CardView
  pub lines : AreReadInPlace given found section played described
  pub opened : IsFirst given section first
  pub are_told : AreTold (deeds played) None first account kept card
  pub run : RunShows first account.steps account.own card
  pub shows : ShowsAsMany account.own account.shown

-- ---- why it ends

-- why a run ends after `start`
abbrev pub StopsPlaying : Given → LineList → Option (List ℕ) → PlayEnd → Type 0
StopsPlaying given found left end = StopsReading (may_stand given.is_served) given.text found left end

-- where there is a box on a shelf of the first, there is one of its kind on that of the second
abbrev pub HasKindsOf : List (Option AppletState) → List (Option AppletState) → Type 0
HasKindsOf boxes others = (shelf kind : ℕ) → kind_on boxes shelf ≡ Some kind → kind_on others shelf ≡ Some kind

-- What the card itself leaves: the memory stands for what it holds. Each box that it has is handed back on its shelf, of its kind; unless the
-- memory failed, or power was lost or off, in the last command or reset just these are, with the minds that they have.
pub record CardLeaves (machine : Machine) (own : List TraceItem) (now : Leaves) : Type 0 where
  pub stands : now.held ≡ Some machine.card.persistent
  pub kinds : HasKindsOf machine.card.boxes now.boxes
  pub minds : ends_calm own ≡ true → now.boxes ≡ machine.card.boxes

-- The run ended so: the card that was opened took the steps of the lines after `start`, none of which ended the run, and of a TPDU the
-- step of the APDU that the link passed, or none. The trace shows what the card showed, or what the link made of that. The device counted
-- what the card showed, and was given just the plans that were due.
pub record EndsSo (given : Given) (first : CardView) (left : Option (List ℕ)) (end : PlayEnd) (now : Leaves) : Type 0 where
  pub done : CarriedOut given first
  pub cause : StopsPlaying given done.found left end
  pub written : now.taken ≡ append_known given.before (text_of done.account.shown)
  pub counted : IsCounted given.meter now.meter (plan_given done.account.steps) done.account.own
  pub leaves : Known (λ machine. CardLeaves machine done.account.own now) (λ on. Unit {0}) done.card

-- lines after `start` have been carried out, and the next line of the script is for this
pub record Reaches (given : Given) (first : CardView) (deed : Deed) : Type 0 where
  pub done : CarriedOut given first
  pub bytes : List ℕ
  pub more : LineList
  pub line : ScriptLine
  pub parted : lines given.text ≡ done.found ++ Some bytes ∷ more
  pub read : IsOnly (IsLine bytes) line
  pub one_deed : deeds_of line ≡ deed ∷ []

-- The sink failed in a line: it has taken all that the lines before show, and what this one shows up to somewhere in the last line of it.
pub record BreaksSo (given : Given) (first : CardView) (now : Leaves) : Type 0 where
  pub deed : Deed
  pub at : Reaches given first deed
  pub card : CardView
  pub own : List TraceItem
  pub pending : List TraceItem
  pub front : List ℕ
  pub set : List Plan
  pub after : Option Answer
  pub broken : BreaksOffDeed deed at.done.kept at.done.card own pending (waiting_after NONE at.done.account.steps) set after card
  pub shows : ShowsAsMany (at.done.account.own ++ own) (at.done.account.shown ++ pending)
  pub cut_off : IsCutOff pending front
  pub stands : Holds card now.held
  pub written : now.taken ≡ append_known given.before (text_of at.done.account.shown ++ front)
  pub counted : IsCounted given.meter now.meter (plan_given at.done.account.steps ++ set) (at.done.account.own ++ own)

-- The memory failed in the reset that the next line of the script asks for: the sink has taken all that the lines before show, and then the
-- line that says so. Its device had counted just what they show before that reset, and in it that one failure; and it was given just the plans
-- that were due, be it before or in it. Where the card itself is known, its steps up to this one are a run, and the memory stands for what it
-- holds then.
pub record FailsSo (given : Given) (first : CardView) (now : Leaves) : Type 0 where
  pub at : Reaches given first (Takes step.Reset)
  pub card : CardView
  pub last : List TraceItem
  pub ends : LastShows at.done.card step.Reset last card
  pub before_it : Meter
  pub counted_before : IsCounted given.meter before_it (plan_given at.done.account.steps) at.done.account.own
  pub counted_in_it : IsCounted before_it now.meter (armed_after (waiting_after NONE at.done.account.steps) (step.Reset ∷ [])) last
  pub of_card : IsRunOf first (at.done.account.steps ++ step.Reset ∷ []) (at.done.account.own ++ last) card
  pub stands : Holds card now.held
  pub written : now.taken ≡ append_known given.before (text_of (at.done.account.shown ++ last))
  pub counted : IsCounted given.meter now.meter (plan_given (at.done.account.steps ++ step.Reset ∷ [])) (at.done.account.own ++ last)

-- by each end
abbrev pub CardComesTo : Given → CardView → Option (List ℕ) → PlayEnd → Leaves → Type 0
CardComesTo given first left SinkFailed now = BreaksSo given first now
CardComesTo given first left ResetFailed now = FailsSo given first now
CardComesTo given first left end now = EndsSo given first left end now

-- ---- to the card or to a handset

-- what the handset's run begins with, where the card that was opened is seen so
abbrev pub beginning : Given → CardView → Beginning
beginning given first = record { first = first; before = given.before; meter = given.meter }

-- Where they go to a handset: after the lines before `start`, which describe this card or none, and the card that was opened, what
-- `phone_runs` says of them. What is left is what the last moment of that has.
pub record ServedComesTo (given : Given) (first : CardView) (left : Option (List ℕ)) (end : PlayEnd) (now : Leaves) : Type 0 where
  pub section : List ScriptLine
  pub card : Option Persistent
  pub described : with_lines given.boxes given.first section ≡ Ok card
  pub opened : IsFirst given section first
  pub at : Moment
  pub left_is : now ≡ left_at at
  pub comes : PhoneComesTo given.text (section ++ Start ∷ []) (beginning given first) left end at

-- where they go to the card or to a handset
abbrev pub ComesTo : Given → CardView → Option (List ℕ) → PlayEnd → Leaves → Type 0
ComesTo given first left end now =
    ((given.is_served ≡ false) × CardComesTo given first left end now) ⊎ ((given.is_served ≡ true) × ServedComesTo given first left end now)

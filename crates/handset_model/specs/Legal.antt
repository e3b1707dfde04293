-- When a trace is the one that the rules ask for, line by line.
use Rattle.std.specs.Prelude.{◌≡◌, ◌≤◌, length, ◌⊎◌, List, [], ◌∷◌, ◌++◌, reverse, Option, Some, None}
use Rattle.uicc_types.specs.declared.runs.TraceItem.{TraceItem}
use Rattle.uicc_types.specs.declared.runs.TraceItem.TheVariants as item
use Rattle.script_form.specs.declared.handset.HandsetLine.{HandsetLine}
use Rattle.script_form.specs.declared.handset.HandsetLine.TheVariants.{UserType, UserPick, UserDial, NetPlace}
use Rattle.script_form.specs.declared.handset.Note.{Note}
use Rattle.handset_model.specs.Sending.{apdu_of}
use Rattle.handset_model.specs.History.{Happened, Said, Sent, Answered, Noted, Restarted, PowerCut, FoundOff}
use Rattle.handset_model.specs.Rules.{asked}
use Rattle.handset_model.specs.declared.known.Duty.{Duty}
use Rattle.handset_model.specs.declared.known.Duty.TheVariants.{Rest, Transmit, Await, Show, ResetCard}
use Rattle.handset_model.specs.declared.steps.PhoneStep.{PhoneStep}
use Rattle.handset_model.specs.declared.steps.PhoneStep.TheVariants as step

-- an entry of a handset's trace: what is seen of the card, or a note
pub data TraceEntry : Type 0 where
  Seen : TraceItem → TraceEntry
  Shown : Note → TraceEntry

-- ---- the next command, reset or note

-- the command, reset or note that a duty is, if it is one
abbrev pub item_of : Duty → Option PhoneStep
item_of Rest = None
item_of (Transmit command) = Some (step.Send (apdu_of command))
item_of Await = None
item_of (Show note) = Some (step.Note note)
item_of ResetCard = Some step.Reset

-- the one next command, reset or note; none where the line is done, and where an answer is awaited
abbrev pub next_item : List Happened → Option PhoneStep
next_item h = item_of (asked h)

-- ---- histories in which all is as it was asked for

-- power is lost in a command or in a reset
abbrev pub MayLosePower : Duty → Type 0
MayLosePower duty = (duty ≡ Await) ⊎ (duty ≡ ResetCard)

-- what happened is what was to be done: a line is read where nothing is left to do; a command, a note or a reset is the one that was asked for; an
-- answer comes, or no power is found, where an answer is awaited; power is lost there or in a reset
abbrev pub IsAsked : Happened → Duty → Type 0
IsAsked (Said line) duty = duty ≡ Rest
IsAsked (Sent command) duty = duty ≡ Transmit command
IsAsked (Answered answer) duty = duty ≡ Await
IsAsked (Noted note) duty = duty ≡ Show note
IsAsked Restarted duty = duty ≡ ResetCard
IsAsked PowerCut duty = MayLosePower duty
IsAsked FoundOff duty = duty ≡ Await

-- each thing that happened is what was asked for by what happened before it
abbrev pub IsOrderly : List Happened → Type 0
IsOrderly [] = Unit {0}
IsOrderly (event ∷ h) = IsAsked event (asked h) × IsOrderly h

-- ---- the lines and the trace of a history

-- what the values of a line keep to
abbrev pub IsBounded : HandsetLine → Type 0
IsBounded (UserType text) = length text ≤ 30
IsBounded (UserPick id) = 1 ≤ id
IsBounded (UserDial digits) = (1 ≤ length digits) × (length digits ≤ 20)
IsBounded (NetPlace place) = (1 ≤ length place) × (length place ≤ 32)
IsBounded _ = Unit {0}

-- the lines, newest first
abbrev pub lines_of : List Happened → List HandsetLine
lines_of [] = []
lines_of (Said line ∷ h) = line ∷ lines_of h
lines_of (_ ∷ h) = lines_of h

-- the entries, newest first
abbrev pub entries_of : List Happened → List TraceEntry
entries_of [] = []
entries_of (Said line ∷ h) = entries_of h
entries_of (Sent command ∷ h) = Seen (item.Command (apdu_of command)) ∷ entries_of h
entries_of (Answered answer ∷ h) = Seen (item.Answer answer.body answer.status) ∷ entries_of h
entries_of (Noted note ∷ h) = Shown note ∷ entries_of h
entries_of (Restarted ∷ h) = Seen item.Reset ∷ entries_of h
entries_of (PowerCut ∷ h) = Seen item.Cut ∷ entries_of h
entries_of (FoundOff ∷ h) = Seen item.Off ∷ entries_of h

-- what is seen of the card in a trace
abbrev pub items_seen : List TraceEntry → List TraceItem
items_seen [] = []
items_seen (Seen shown ∷ others) = shown ∷ items_seen others
items_seen (Shown note ∷ others) = items_seen others

-- all in this history was asked for, and these are its lines and its trace
pub record IsOf (lines : List HandsetLine) (trace : List TraceEntry) (history : List Happened) : Type 0 where
  pub orderly : IsOrderly history
  pub lines_are : reverse (lines_of history) ≡ lines
  pub trace_is : reverse (entries_of history) ≡ trace

-- At each place of the trace stands what is asked for there, all entries of a line stand before those of the next, and at
-- the end nothing more is asked for.
pub record IsLegal (lines : List HandsetLine) (trace : List TraceEntry) : Type 0 where
  pub history : List Happened
  pub is_of : IsOf lines trace history
  pub rests : asked history ≡ Rest

-- the same, where more may be asked for at the end
pub record IsUnderway (lines : List HandsetLine) (trace : List TraceEntry) : Type 0 where
  pub history : List Happened
  pub is_of : IsOf lines trace history

-- the same, where at the end the memory failed in a reset that was asked for
pub record IsHandsetStopped (lines : List HandsetLine) (trace : List TraceEntry) : Type 0 where
  pub history : List Happened
  pub before : List TraceEntry
  pub is_of : IsOf lines before history
  pub resets : asked history ≡ ResetCard
  pub stopped : trace ≡ before ++ Seen item.EepromFailed ∷ []

-- the trace of a handset that was stopped at any place
abbrev pub IsBegun : List HandsetLine → List TraceEntry → Type 0
IsBegun lines trace = IsUnderway lines trace ⊎ IsHandsetStopped lines trace

-- What happened in a run of a handset, newest first: to the handset, and what was planned of the memory's faults.
use Rattle.std.specs.Prelude.{◌≡◌, List, [], ◌∷◌, ◌++◌, reverse}
use Rattle.uicc_types.specs.declared.plans.Plan.{Plan}
use Rattle.uicc_types.specs.declared.runs.Step.{Step}
use Rattle.uicc_types.specs.declared.runs.Step.TheVariants as step
use Rattle.uicc_types.specs.declared.runs.TraceItem.{TraceItem}
use Rattle.script_form.specs.declared.handset.HandsetLine.{HandsetLine}
use Rattle.handset_model.specs.History.{Happened, Said, Sent, Restarted, PowerCut}
use Rattle.handset_model.specs.Legal.{TraceEntry, entries_of, items_seen}
use Rattle.handset_model.specs.Rules.{asked}
use Rattle.handset_model.specs.Sending.{apdu_of}
use Rattle.handset_model.specs.declared.known.Duty.{Duty}
use Rattle.handset_model.specs.declared.known.Duty.TheVariants.{Rest, ResetCard}

-- one thing of a run
pub data Event : Type 0 where
  -- something happened at the handset
  Happens : Happened → Event
  -- a line planned faults for the next command or reset
  Plans : Plan → Event

-- a line of a script for a handset
pub data PhoneLine : Type 0 where
  Hears : HandsetLine → PhoneLine
  Arms : Plan → PhoneLine

-- what happened at the handset
abbrev pub history : List Event → List Happened
history [] = []
history (Happens event ∷ log) = event ∷ history log
history (Plans plan ∷ log) = history log

-- the lines, newest first
abbrev pub lines_back : List Event → List PhoneLine
lines_back [] = []
lines_back (Happens (Said line) ∷ log) = Hears line ∷ lines_back log
lines_back (Happens _ ∷ log) = lines_back log
lines_back (Plans plan ∷ log) = Arms plan ∷ lines_back log

-- a loss of power belongs to the command before it, and is a step of its own in a reset
abbrev pub cut_steps : Duty → List Step
cut_steps ResetCard = step.Reset ∷ []
cut_steps duty = []

-- the steps of the card, newest first: the commands that the handset sent, the resets, and the plans in their places among them
abbrev pub steps_back : List Event → List Step
steps_back [] = []
steps_back (Happens (Sent command) ∷ log) = step.Apdu (apdu_of command) ∷ steps_back log
steps_back (Happens Restarted ∷ log) = step.Reset ∷ steps_back log
steps_back (Happens PowerCut ∷ log) = cut_steps (asked (history log)) ++ steps_back log
steps_back (Happens _ ∷ log) = steps_back log
steps_back (Plans plan ∷ log) = step.Plan plan ∷ steps_back log

-- a plan's line stands between two lines of the handset: nothing is asked for there
abbrev pub AreInTurn : List Event → Type 0
AreInTurn [] = Unit {0}
AreInTurn (Happens event ∷ log) = AreInTurn log
AreInTurn (Plans plan ∷ log) = (asked (history log) ≡ Rest) × AreInTurn log

-- ---- the same from the first to the last

-- the lines of the script, in their order
abbrev pub log_lines : List Event → List PhoneLine
log_lines log = reverse (lines_back log)

-- the steps of the card, in their order
abbrev pub steps : List Event → List Step
steps log = reverse (steps_back log)

-- the trace of the run: what the card did, and the notes of the handset among it
abbrev pub trace : List Event → List TraceEntry
trace log = reverse (entries_of (history log))

-- what is seen of the card in it
abbrev pub shown : List Event → List TraceItem
shown log = items_seen (trace log)

-- the lines that the handset hears
abbrev pub heard : List PhoneLine → List HandsetLine
heard [] = []
heard (Hears line ∷ more) = line ∷ heard more
heard (Arms plan ∷ more) = heard more

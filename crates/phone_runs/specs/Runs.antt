-- A run of a handset that serves a card: what is sent to the card and noted is what the rules of the handset ask for, and what is
-- seen of the card is how the card moves.
use Rattle.std.specs.Io.KnownBytes.{append_known}
use Rattle.std.specs.List.{flat_map}
use Rattle.std.specs.Prelude.{◌≡◌, ℕ, List, [], ◌∷◌, ◌++◌, Option, reverse, map, ◌⊎◌}
use Rattle.uicc_types.specs.Counts.{Meter}
use Rattle.uicc_types.specs.Told.{IsFront}
use Rattle.uicc_types.specs.declared.plans.Plan.{Plan}
use Rattle.uicc_types.specs.declared.plans.TheConstants.Plan.{NONE}
use Rattle.uicc_types.specs.declared.runs.Step.{Step}
use Rattle.uicc_types.specs.declared.runs.Step.TheVariants as step
use Rattle.uicc_types.specs.declared.runs.TraceItem.{TraceItem}
use Rattle.uicc_types.specs.declared.runs.TraceItem.TheVariants as item
use Rattle.script_form.specs.Traces.{trace_text}
use Rattle.script_form.specs.declared.handset.Note.{Note}
use Rattle.script_form.specs.declared.trace.TraceLine.TheVariants as line
use Rattle.card_model.specs.Counts.{IsCounted}
use Rattle.card_model.specs.Runs.{plan_given, armed_after, waiting_after}
use Rattle.handset_model.specs.Legal.{IsOrderly, IsBegun, TraceEntry, Seen, items_seen, Shown}
use Rattle.handset_model.specs.Rules.{asked}
use Rattle.handset_model.specs.Sending.{apdu_of}
use Rattle.handset_model.specs.declared.known.Duty.{Duty}
use Rattle.handset_model.specs.declared.known.Duty.TheVariants.{Rest, Transmit, Await, Show, ResetCard}
use Rattle.run_steps.specs.Runs.{text_of, item_text}
use Rattle.run_steps.specs.Stepping.{BreaksOff, Holds, IsCutOff, Moment}
use Rattle.run_steps.specs.Views.{CardView, LastShows, StepsShow, IsRunOf}
use Rattle.run_steps.specs.declared.steps.StepEnd.{StepEnd}
use Rattle.run_steps.specs.declared.steps.StepEnd.TheVariants.{SinkFailed, ResetFailed}
use Rattle.phone_runs.specs.Logs.{Event, PhoneLine, AreInTurn, history, lines_back, shown, steps, trace, heard}

-- the text of a note
abbrev pub note_line : Note → List ℕ
note_line note = trace_text (line.Note note)

-- of an entry of the trace
abbrev pub entry_text : TraceEntry → List ℕ
entry_text (Seen item) = item_text item
entry_text (Shown note) = note_line note

-- and of all
abbrev pub entries_text : List TraceEntry → List ℕ
entries_text entries = flat_map entry_text entries

-- This happened between a handset and a card that stood so at first, and stands so now: each event is one that was asked for, a plan
-- stands between two lines, and the commands, resets and plans are the steps of a run of the card, which shows what was seen of it.
pub record IsPhoneRun (first : CardView) (log : List Event) (now : CardView) : Type 0 where
  pub orderly : IsOrderly (history log)
  pub in_turn : AreInTurn log
  pub run : StepsShow first (steps log) (shown log) now

-- what a run begins with: how the card is seen, what the sink has taken already, where it tells that, and the counts of the memory's device
pub record Beginning : Type 0 where
  pub first : CardView
  pub before : Option (List ℕ)
  pub meter : Meter

-- ---- how it ends before the handset rests

-- the sink failed in a step, of which the trace shows its lines up to somewhere in the last of them
pub record BreaksInStep (given : Beginning) (log : List Event) (old : CardView) (step : Step) (now : Moment) : Type 0 where
  pub card : CardView
  pub pending : List TraceItem
  pub front : List ℕ
  pub set : List Plan
  pub broken : BreaksOff old step pending (armed_after (waiting_after NONE (steps log)) (step ∷ [])) set card
  pub cut_off : IsCutOff pending front
  pub stands : Holds card now.held
  pub written : now.taken ≡ append_known given.before (entries_text (trace log) ++ front)
  pub counted : IsCounted given.meter now.meter (plan_given (steps log) ++ set) (shown log ++ pending)

-- the sink failed in a note, of which it has taken the beginning, be it none or all
pub record BreaksInNote (given : Beginning) (log : List Event) (old : CardView) (note : Note) (now : Moment) : Type 0 where
  pub front : List ℕ
  pub begun : IsFront front (note_line note)
  pub stands : Holds old now.held
  pub written : now.taken ≡ append_known given.before (entries_text (trace log) ++ front)
  pub counted : IsCounted given.meter now.meter (plan_given (steps log)) (shown log)

-- the sink failed in what is asked for
abbrev pub BreaksIn : Beginning → List Event → CardView → Moment → Duty → Type 0
BreaksIn given log old now (Transmit command) = BreaksInStep given log old (step.Apdu (apdu_of command)) now
BreaksIn given log old now ResetCard = BreaksInStep given log old step.Reset now
BreaksIn given log old now (Show note) = BreaksInNote given log old note now
BreaksIn given log old now duty = ⊥

-- The sink failed: it has taken all that these lines have shown before, and of what was asked for next the beginning.
pub record BreaksSo (given : Beginning) (heard : List PhoneLine) (now : Moment) : Type 0 where
  pub log : List Event
  pub old : CardView
  pub lines_are : lines_back log ≡ heard
  pub run : IsPhoneRun given.first log old
  pub broken : BreaksIn given log old now (asked (history log))

-- The memory failed in a reset that was asked for: the trace says so after all that these lines have shown before.
pub record FailsSo (given : Beginning) (heard : List PhoneLine) (now : Moment) : Type 0 where
  pub log : List Event
  pub old : CardView
  pub lines_are : lines_back log ≡ heard
  pub run : IsPhoneRun given.first log old
  pub resets : asked (history log) ≡ ResetCard
  pub card : CardView
  pub last : List TraceItem
  pub ends : LastShows old step.Reset last card
  pub stands : Holds card now.held
  pub written : now.taken ≡ append_known given.before (entries_text (trace log) ++ text_of last)
  pub counted : IsCounted given.meter now.meter (plan_given (steps log ++ step.Reset ∷ [])) (shown log ++ last)

-- why it ended
abbrev pub RunEnds : Beginning → List PhoneLine → Moment → StepEnd → Type 0
RunEnds given heard now SinkFailed = BreaksSo given heard now
RunEnds given heard now ResetFailed = FailsSo given heard now

-- ---- the trace and the card at those two ends

-- What the sink has taken is the beginning of the text of this trace, and the trace is the beginning of one that the rules ask for.
pub record ShowsTrace (given : Beginning) (told : List PhoneLine) (entries : List TraceEntry) (now : Moment) : Type 0 where
  pub begun : IsBegun (heard (reverse told)) entries
  pub front : List ℕ
  pub is_front : IsFront front (entries_text entries)
  pub written : now.taken ≡ append_known given.before front

-- it has taken the beginning of such a one
pub record ShowsBegun (given : Beginning) (told : List PhoneLine) (now : Moment) : Type 0 where
  pub entries : List TraceEntry
  pub shows : ShowsTrace given told entries now

-- all that has happened, and after it what is seen of the card in one step more
abbrev pub trace_with : List Event → List TraceItem → List TraceEntry
trace_with log items = trace log ++ map Seen items

-- The sink shows this trace. Without its notes it is that of a run of the card by these steps, and the store stands for what the card
-- holds for good at its end.
pub record ShowsRun (given : Beginning) (told : List PhoneLine) (entries : List TraceEntry) (steps : List Step) (card : CardView) (now : Moment) : Type 0 where
  pub shows : ShowsTrace given told entries now
  pub run : IsRunOf given.first steps (items_seen entries) card
  pub stands : Holds card now.held

-- The same, where the line of a command stands after it, which the card was not sent.
pub record ShowsUnsent (given : Beginning) (told : List PhoneLine) (entries : List TraceEntry) (apdu : List ℕ) (steps : List Step) (card : CardView) (now : Moment) : Type 0 where
  pub shows : ShowsTrace given told (entries ++ Seen (item.Command apdu) ∷ []) now
  pub run : IsRunOf given.first steps (items_seen entries) card
  pub stands : Holds card now.held

-- The sink failed: in a command that the card took, or in the line of one before it was sent; in a reset; in a note.
abbrev pub BreakIsOfTheCard : (given : Beginning) → List PhoneLine → (log : List Event) (old : CardView) (now : Moment) (duty : Duty) → BreaksIn given log old now duty → Type 0
BreakIsOfTheCard given told log old now (Transmit command) broken =
    ShowsRun given told (trace_with log broken.pending) (steps log ++ step.Apdu (apdu_of command) ∷ []) broken.card now
    ⊎ ShowsUnsent given told (trace log) (apdu_of command) (steps log) old now
BreakIsOfTheCard given told log old now ResetCard broken = ShowsRun given told (trace_with log broken.pending) (steps log ++ step.Reset ∷ []) broken.card now
BreakIsOfTheCard given told log old now (Show note) broken = ShowsRun given told (trace log ++ Shown note ∷ []) (steps log) old now
BreakIsOfTheCard given told log old now Rest broken = ⊥
BreakIsOfTheCard given told log old now Await broken = ⊥

-- the sink failed, or the memory in a reset, of which the trace says so at its end
abbrev pub EndIsOfTheCard : (given : Beginning) (told : List PhoneLine) (now : Moment) (end : StepEnd) → RunEnds given told now end → Type 0
EndIsOfTheCard given told now SinkFailed broken = BreakIsOfTheCard given told broken.log broken.old now (asked (history broken.log)) broken.broken
EndIsOfTheCard given told now ResetFailed failed = ShowsRun given told (trace_with failed.log failed.last) (steps failed.log ++ step.Reset ∷ []) failed.card now

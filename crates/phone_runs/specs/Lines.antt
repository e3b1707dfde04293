-- What the lines of a script are for a handset, and how its run over them ends.
use Rattle.std.specs.Io.KnownBytes.{append_known}
use Rattle.std.specs.List.{AllPass, flat_map}
use Rattle.std.specs.Prelude.{◌≡◌, ℕ, List, ◌++◌, reverse, Option, Some, Bool, true, is_some, [], ◌∷◌, None}
use Rattle.uicc_types.specs.declared.plans.TheConstants.Plan.{NONE}
use Rattle.byte_streams.specs.Lines.{LineList, lines}
use Rattle.script_form.specs.Handset.{handset_line}
use Rattle.script_form.specs.declared.handset.HandsetLine.{HandsetLine}
use Rattle.script_form.specs.declared.lines.ScriptLine.{ScriptLine}
use Rattle.script_form.specs.declared.lines.ScriptLine.TheVariants.{Passed, Cut, Fail, ReadFail}
use Rattle.script_reader.specs.Behind.{StopsReading}
use Rattle.script_reader.specs.Said.{AreRead}
use Rattle.script_reader.specs.declared.behind.PlayEnd.{PlayEnd}
use Rattle.script_reader.specs.declared.behind.PlayEnd.TheVariants.{SinkFailed, ResetFailed}
use Rattle.card_model.specs.Counts.{IsCounted}
use Rattle.card_model.specs.Runs.{plan_given}
use Rattle.handset_model.specs.Legal.{IsLegal}
use Rattle.handset_model.specs.Rules.{asked}
use Rattle.handset_model.specs.declared.known.Duty.TheVariants.{Rest}
use Rattle.run_steps.specs.Stepping.{IsSeen, Moment, Stands}
use Rattle.run_steps.specs.Views.{CardView, RunShows}
use Rattle.run_steps.specs.declared.steps.StepEnd.{StepEnd}
use Rattle.run_steps.specs.declared.steps.StepEnd.TheVariants as step_end
use Rattle.phone_runs.specs.Logs.{Event, PhoneLine, heard, history, lines_back, log_lines, shown, steps, trace, Hears, Arms}
use Rattle.phone_runs.specs.Runs.{EndIsOfTheCard, ShowsBegun, Beginning, IsPhoneRun, RunEnds, entries_text}

-- whether a line may stand after `start`
abbrev pub may_be_heard : ScriptLine → Bool
may_be_heard Passed = true
may_be_heard (Cut cut) = true
may_be_heard (Fail fail) = true
may_be_heard (ReadFail call) = true
may_be_heard line = is_some (handset_line line)

-- what is said to the handset
abbrev pub said_to_phone : Option HandsetLine → List PhoneLine
said_to_phone (Some said) = Hears said ∷ []
said_to_phone None = []

-- what it is for the handset
abbrev pub phone_lines_of : ScriptLine → List PhoneLine
phone_lines_of (Cut cut) = Arms (record NONE { cut = Some cut }) ∷ []
phone_lines_of (Fail fail) = Arms (record NONE { fail = Some fail }) ∷ []
phone_lines_of (ReadFail call) = Arms (record NONE { read_fail = Some call }) ∷ []
phone_lines_of line = said_to_phone (handset_line line)

-- the lines of a script for the handset
abbrev pub phone_lines : List ScriptLine → List PhoneLine
phone_lines played = flat_map phone_lines_of played

-- lines of a text say what stands up to `start`, and after it what may be there where a handset is used
pub record AreServed (opening : List ScriptLine) (found : LineList) (played : List ScriptLine) : Type 0 where
  pub read : AreRead found (opening ++ played)
  pub in_place : AllPass may_be_heard played

-- what the handset is told by these lines, the last line first
abbrev pub told_back : List ScriptLine → List PhoneLine
told_back played = reverse (phone_lines played)

-- ---- how it ends

-- No more lines are carried out, for this cause. Those that were read after `start` were, each in its place, and the handset rests after them.
-- What happened is a run of the handset and the card; its trace is one that the rules of the handset ask for by these lines, and the sink has
-- taken all of it. The device counted just what is seen of the card in it, and was given just the plans that were due. Where the card itself is
-- known, the memory stands for what it holds, and its boxes have its minds, unless the memory failed, or power was lost or off, in the last
-- command or reset. It, or its power, is the card's at the end.
pub record PhoneEnds (text : List ℕ) (opening : List ScriptLine) (given : Beginning) (left : Option (List ℕ)) (end : PlayEnd) (now : Moment) : Type 0 where
  pub found : LineList
  pub played : List ScriptLine
  pub log : List Event
  pub card : CardView
  pub are_served : AreServed opening found played
  pub told : lines_back log ≡ told_back played
  pub run : IsPhoneRun given.first log card
  pub rests : asked (history log) ≡ Rest
  pub legal : IsLegal (heard (log_lines log)) (trace log)
  pub of_card : RunShows given.first (steps log) (shown log) card
  pub cause : StopsReading may_be_heard text found left end
  pub seen : IsSeen card now
  pub stands : Stands card (shown log) now
  pub written : now.taken ≡ append_known given.before (entries_text (trace log))
  pub counted : IsCounted given.meter now.meter (plan_given (steps log)) (shown log)

-- The run ended in what the handset did by these lines, or in its start, before any line: the sink failed, or the memory in a reset. What the
-- sink has taken is the beginning of a trace that the rules of the handset ask for. Where the card itself is known, that trace without its
-- notes, and without the line of a command that the card was not sent, is that of a run of it, and the memory stands for what it holds then.
pub record StopsAmid (text : List ℕ) (opening : List ScriptLine) (given : Beginning) (end : StepEnd) (now : Moment) : Type 0 where
  pub found : LineList
  pub more : LineList
  pub played : List ScriptLine
  pub parted : lines text ≡ found ++ more
  pub are_served : AreServed opening found played
  pub ended : RunEnds given (told_back played) now end
  pub begun : ShowsBegun given (told_back played) now
  pub of_card : EndIsOfTheCard given (told_back played) now end ended

-- what lines for a handset have come to, by why no more of them are carried out
abbrev pub PhoneComesTo : List ℕ → List ScriptLine → Beginning → Option (List ℕ) → PlayEnd → Moment → Type 0
PhoneComesTo text opening given left SinkFailed now = StopsAmid text opening given step_end.SinkFailed now
PhoneComesTo text opening given left ResetFailed now = StopsAmid text opening given step_end.ResetFailed now
PhoneComesTo text opening given left end now = PhoneEnds text opening given left end now

-- What a handset keeps, and how each call moves it. It keeps what is known by looking back at what happened, and what is
-- asked next.
use Rattle.std.specs.Prelude.{ℕ, suc, ◌+◌, ◌-◌, ◌<◌, ◌^◌, min, true, false, ◌||◌, List, [], ◌∷◌, replicate, slice_set, Option, Some, None, Bool, Result as Outcome, ◌==◌, if◌then◌else◌}
use Rattle.uicc_types.specs.declared.answers.Answer.{Answer}
use Rattle.script_form.specs.declared.handset.HandsetLine.{HandsetLine}
use Rattle.toolkit_commands.specs.declared.commands.Details.{Details}
use Rattle.toolkit_commands.specs.declared.commands.Proactive.{Proactive}
use Rattle.toolkit_commands.specs.declared.faults.ProactiveFault.{ProactiveFault}
use Rattle.toolkit_commands.specs.declared.commands.Proactive.TheVariants.{TimerManagement}
use Rattle.toolkit_commands.specs.declared.qualifiers.TheConstants.{START, DEACTIVATE}
use Rattle.handset_model.specs.declared.TheConstants.{MOST_COMMANDS}
use Rattle.handset_model.specs.declared.commands.Command.{Command}
use Rattle.handset_model.specs.declared.commands.Command.TheVariants.{SelectMf, Tell}
use Rattle.handset_model.specs.declared.commands.Report.TheVariants.{Expired}
use Rattle.handset_model.specs.declared.known.Duty.{Duty}
use Rattle.handset_model.specs.declared.known.Duty.TheVariants.{Rest, Transmit, Await, Show, ResetCard}
use Rattle.handset_model.specs.declared.known.Held.{Held}
use Rattle.handset_model.specs.declared.known.Known.{Known}
use Rattle.handset_model.specs.declared.known.Running.{Running}
use Rattle.handset_model.specs.Timers.{seconds_of}
use Rattle.handset_model.specs.History.{Happened, Sent, Noted, known, kind_of, as_held, brought, with_command, menu_by, listed_by, listed_after, none_listed, held_by, held_after, announced_by, refreshed_by, place_by, span_of, moment_after, lets_time_pass, ends_all, clock}
use Rattle.handset_model.specs.Rules.{asked, said_at, answered, answered_at, fetched, noted}

-- what a handset keeps: what it knows, and what is asked of it next
pub record Kept : Type 0 where
  pub known : Known
  pub asked : Duty

-- what is kept after a history
unfoldable pub kept : List Happened → Kept
kept h = record { known = known h; asked = asked h }

-- a new handset, to which nothing happened and of which nothing is asked before it is started
unfoldable pub unstarted : Kept
unstarted = record { known = known []; asked = Rest }

-- ---- the timers

-- one of the timers 1 to 8 changes; a number that is none changes nothing
abbrev pub with_timer : ℕ → Option Running → List (Option Running) → List (Option Running)
with_timer timer slot timers = if timer == 0 then timers else slice_set timers (timer - 1) slot

-- the timers after a TIMER MANAGEMENT that was carried out at this moment
abbrev pub timers_by : ℕ → Proactive → List (Option Running) → List (Option Running)
timers_by now (TimerManagement action timer value) timers =
    if action == START then with_timer timer (Some (record { due = now + seconds_of value; value = value })) timers
    else (if action == DEACTIVATE then with_timer timer None timers else timers)
timers_by now _ timers = timers

-- the timers after what was sent: one that was reported has expired
abbrev pub timers_after : Command → List (Option Running) → List (Option Running)
timers_after (Tell (Expired timer value due)) timers = with_timer timer None timers
timers_after _ timers = timers

-- ---- what is known, moved on

-- what is known once a line was given
unfoldable pub with_line : HandsetLine → Known → Known
with_line line known = record known {
  place = place_by line known.place;
  clock = known.clock + span_of line;
  moment = known.clock + span_of line;
  is_timed = lets_time_pass line;
  is_refreshed = false;
  commands = 0;
}

-- what is known once a command was sent
unfoldable pub with_sent : Command → Known → Known
with_sent command known = record known {
  listed = listed_after command known.listed;
  held = held_after command known.held;
  timers = timers_after command known.timers;
  moment = moment_after command known.clock known.moment;
  commands = min (suc known.commands) MOST_COMMANDS;
  last_sent = kind_of command;
}

-- what a fetched command brings
unfoldable pub with_found : Option Held → Known → Known
with_found found known = record known {
  menu = with_command menu_by found known.menu;
  listed = with_command listed_by found known.listed;
  held = held_by found known.held;
  timers = with_command (timers_by known.moment) found known.timers;
  is_refreshed = with_command refreshed_by found known.is_refreshed;
}

-- what the status of an answer tells
unfoldable pub with_status : Answer → Known → Known
with_status answer known = record known {
  announced = announced_by answer;
  is_silent = ends_all answer known.commands || known.is_silent;
}

-- what is known once an answer came
unfoldable pub with_answer : Answer → Known → Known
with_answer answer known = with_status answer (with_found (brought known.last_sent answer) known)

-- what is left once the card was reset
unfoldable pub with_reset : Known → Known
with_reset known = record known {
  menu = [];
  listed = none_listed;
  held = None;
  timers = replicate 8 None;
  is_silent = false;
}

-- ---- what is kept, moved on by each call

-- a handset that is given a line
abbrev pub hearing : HandsetLine → Kept → Kept
hearing line old = record {
  known = with_line line old.known;
  asked = said_at old.known.is_silent line (with_line line old.known);
}

-- a handset that is given an answer of the card
abbrev pub hearing_answer : Answer → Kept → Kept
hearing_answer answer old = record {
  known = with_answer answer old.known;
  asked = answered_at (with_answer answer old.known).is_silent answer old.known;
}

-- an answer was taken, but for its status
abbrev pub taking : Answer → Kept → Kept
taking answer old = record {
  known = with_found (brought old.known.last_sent answer) old.known;
  asked = answered old.known.last_sent answer old.known;
}

-- what FETCH brought was taken: a command that can be read, or else its details
abbrev pub taking_fetched : Outcome (Details × Proactive) ProactiveFault → Details → Kept → Kept
taking_fetched found details old = record {
  known = with_found (as_held found) old.known;
  asked = fetched found details old.known;
}

-- what is asked after a note
abbrev pub after_note : Duty → Known → Duty
after_note (Show note) known = noted note known
after_note duty known = duty

-- whether a note is to be shown
abbrev pub shows : Duty → Bool
shows (Show note) = true
shows _ = false

-- a handset that did what was asked of it
abbrev pub doing : Duty → Known → Kept
doing Rest known = record { known = known; asked = Rest }
doing (Transmit command) known = record { known = with_sent command known; asked = Await }
doing Await known = record { known = known; asked = Await }
doing (Show note) known = record { known = known; asked = noted note known }
doing ResetCard known = record { known = known; asked = ResetCard }

-- a handset whose card was started, or reset
abbrev pub starting : Kept → Kept
starting old = record { known = with_reset old.known; asked = Transmit SelectMf }

-- a handset whose card lost power
abbrev pub losing_power : Kept → Kept
losing_power old = record { known = record old.known { is_silent = true }; asked = Rest }

-- ---- what happens by next

-- what happened, with what was asked for done
abbrev pub then_done : Duty → List Happened → List Happened
then_done Rest h = h
then_done (Transmit command) h = Sent command ∷ h
then_done Await h = h
then_done (Show note) h = Noted note ∷ h
then_done ResetCard h = h

-- the history with what is asked next, where that is a command or a note
abbrev pub with_next : List Happened → List Happened
with_next h = then_done (asked h) h

-- the moments of the clock are far from the end of 64 bits
pub record IsInTime (known : Known) : Type 0 where
  pub clock : known.clock < 2 ^ 63
  pub moment : known.moment < 2 ^ 63

-- What happened at a handset, newest first, and what it knows by looking back.
use Rattle.std.specs.Prelude.{ℕ, suc, ◌+◌, ◌/◌, ◌%◌, min, Bool, true, false, ◌||◌, List, [], ◌∷◌, map, Option, Some, None, Result, Ok, Err, ◌==◌, if◌then◌else◌}
use Rattle.std.specs.List.{list_any}
use Rattle.uicc_types.specs.declared.answers.Answer.{Answer}
use Rattle.uicc_types.specs.declared.events.TheConstants.{LOCATION_STATUS, USER_ACTIVITY, IDLE_SCREEN}
use Rattle.script_form.specs.declared.handset.HandsetLine.{HandsetLine}
use Rattle.script_form.specs.declared.handset.HandsetLine.TheVariants.{NetPlace, Time}
use Rattle.script_form.specs.declared.handset.Note.{Note}
use Rattle.toolkit_commands.specs.Reading.{proactive_of}
use Rattle.toolkit_commands.specs.declared.commands.Details.{Details}
use Rattle.toolkit_commands.specs.declared.commands.Proactive.{Proactive}
use Rattle.toolkit_commands.specs.declared.commands.Proactive.TheVariants.{Refresh, SetUpEventList, SetUpMenu, TimerManagement}
use Rattle.toolkit_commands.specs.declared.faults.ProactiveFault.{ProactiveFault}
use Rattle.toolkit_commands.specs.declared.items.Item.{Item}
use Rattle.toolkit_commands.specs.declared.qualifiers.TheConstants.{CARD_RESET, START, DEACTIVATE}
use Rattle.handset_model.specs.declared.TheConstants.{MOST_COMMANDS}
use Rattle.handset_model.specs.declared.commands.Command.{Command}
use Rattle.handset_model.specs.declared.commands.Command.TheVariants.{SelectMf, Fetch, Respond, Tell}
use Rattle.handset_model.specs.declared.commands.Report.{Report}
use Rattle.handset_model.specs.declared.commands.Report.TheVariants.{UserActivity, IdleScreen, CallControl, Expired}
use Rattle.handset_model.specs.declared.known.Held.{Held}
use Rattle.handset_model.specs.declared.known.Known.{Known}
use Rattle.handset_model.specs.declared.known.LastSent.{LastSent}
use Rattle.handset_model.specs.declared.known.LastSent.TheVariants.{NoCommand, Selecting, Fetching, Calling, Reporting, Another}
use Rattle.handset_model.specs.declared.known.Listed.{Listed}
use Rattle.handset_model.specs.declared.known.Running.{Running}
use Rattle.handset_model.specs.Timers.{seconds_of}

-- what can happen at a handset
pub data Happened : Type 0 where
  -- a line of the script was read
  Said : HandsetLine → Happened
  -- the handset sent a command
  Sent : Command → Happened
  -- the card answered it
  Answered : Answer → Happened
  -- the handset noted something
  Noted : Note → Happened
  -- the card was reset
  Restarted : Happened
  -- power was lost in a command or a reset
  PowerCut : Happened
  -- a command met a card without power
  FoundOff : Happened

-- ---- the commands that were sent

-- call control counts as Calling, any other envelope as Reporting
abbrev pub kind_of_report : Report → LastSent
kind_of_report (CallControl digits) = Calling
kind_of_report _ = Reporting

-- what a command counts as where its answer is taken
abbrev pub kind_of : Command → LastSent
kind_of SelectMf = Selecting
kind_of (Fetch size) = Fetching
kind_of (Tell report) = kind_of_report report
kind_of _ = Another

-- what the last command was
abbrev pub last_sent : List Happened → LastSent
last_sent [] = NoCommand
last_sent (Sent command ∷ h) = kind_of command
last_sent (_ ∷ h) = last_sent h

-- how many commands were sent for this line, counted up to the most that may be
abbrev pub commands : List Happened → ℕ
commands [] = 0
commands (Said line ∷ h) = 0
commands (Sent command ∷ h) = min (suc (commands h)) MOST_COMMANDS
commands (_ ∷ h) = commands h

-- ---- the commands that were fetched

-- the command with its details, where it could be read
abbrev pub as_held : Result (Details × Proactive) ProactiveFault → Option Held
as_held (Ok found) = Some (record { details = found.0; command = found.1 })
as_held (Err fault) = None

-- the proactive command that an answer brings, if it answers FETCH and can be read
abbrev pub brought : LastSent → Answer → Option Held
brought Fetching answer = as_held (proactive_of answer.body)
brought _ answer = None

-- something as the command changes it that came, or as it was where none came
abbrev pub with_command : {A : Type 0} → (Proactive → A → A) → Option Held → A → A
with_command change None old = old
with_command change (Some held) old = change held.command old

-- SET UP MENU brings its items
abbrev pub menu_by : Proactive → List Item → List Item
menu_by (SetUpMenu title items) old = items
menu_by _ old = old

-- the menu: the one that was set up last since the reset
abbrev pub menu : List Happened → List Item
menu [] = []
menu (Answered answer ∷ h) = with_command menu_by (brought (last_sent h) answer) (menu h)
menu (Restarted ∷ h) = []
menu (_ ∷ h) = menu h

-- no event is listed
abbrev pub none_listed : Listed
none_listed = record { location = false; activity = false; idle = false }

-- the code is one of the events
abbrev pub has : List ℕ → ℕ → Bool
has events code = list_any (λ event. event == code) events

-- SET UP EVENT LIST lists its events, and no others any more (ETSI TS 102 223, 6.4.16); of these three this handset reports
abbrev pub listed_by : Proactive → Listed → Listed
listed_by (SetUpEventList events) old = record { location = has events LOCATION_STATUS; activity = has events USER_ACTIVITY; idle = has events IDLE_SCREEN }
listed_by _ old = old

-- an event of the user's activity or of the idle screen is listed no more once it was reported
abbrev pub listed_after : Command → Listed → Listed
listed_after (Tell UserActivity) old = record old { activity = false }
listed_after (Tell IdleScreen) old = record old { idle = false }
listed_after _ old = old

-- the events: those that were listed last since the reset, but for the user's activity and the idle screen once they were reported
abbrev pub listed : List Happened → Listed
listed [] = none_listed
listed (Answered answer ∷ h) = with_command listed_by (brought (last_sent h) answer) (listed h)
listed (Sent command ∷ h) = listed_after command (listed h)
listed (Restarted ∷ h) = none_listed
listed (_ ∷ h) = listed h

-- the command that came, or the old one where none came
abbrev pub held_by : Option Held → Option Held → Option Held
held_by None old = old
held_by (Some held) old = Some held

-- a terminal response leaves no command that is held
abbrev pub held_after : Command → Option Held → Option Held
held_after (Respond details reply) old = None
held_after _ old = old

-- the held command: the one that was fetched last since the reset, where it has no response
abbrev pub held : List Happened → Option Held
held [] = None
held (Answered answer ∷ h) = held_by (brought (last_sent h) answer) (held h)
held (Sent command ∷ h) = held_after command (held h)
held (Restarted ∷ h) = None
held (_ ∷ h) = held h

-- the length of the command that an answer announces, which is the lower byte of 91XX
abbrev pub announced_by : Answer → Option ℕ
announced_by answer = if answer.status.0 / 256 == 0x91 then Some (answer.status.0 % 256) else None

-- what the last answer announced
abbrev pub announced : List Happened → Option ℕ
announced [] = None
announced (Answered answer ∷ h) = announced_by answer
announced (_ ∷ h) = announced h

-- the command is REFRESH with a reset of the card (04), or there was one before
abbrev pub refreshed_by : Proactive → Bool → Bool
refreshed_by (Refresh mode) old = (mode == CARD_RESET) || old
refreshed_by _ old = old

-- whether a REFRESH that resets the card was fetched in this line
abbrev pub is_refreshed : List Happened → Bool
is_refreshed [] = false
is_refreshed (Said line ∷ h) = false
is_refreshed (Answered answer ∷ h) = with_command refreshed_by (brought (last_sent h) answer) (is_refreshed h)
is_refreshed (_ ∷ h) = is_refreshed h

-- ---- location and time

-- a line of the network tells the location
abbrev pub place_by : HandsetLine → Option (List ℕ) → Option (List ℕ)
place_by (NetPlace place) old = Some place
place_by _ old = old

-- the location is the one that the network told last; it survives resets
abbrev pub place : List Happened → Option (List ℕ)
place [] = None
place (Said line ∷ h) = place_by line (place h)
place (_ ∷ h) = place h

-- how many seconds a line lets pass
abbrev pub span_of : HandsetLine → ℕ
span_of (Time seconds) = seconds
span_of _ = 0

-- the clock: the sum of all spans of time so far
abbrev pub clock : List Happened → ℕ
clock [] = 0
clock (Said line ∷ h) = clock h + span_of line
clock (_ ∷ h) = clock h

-- once a timer is reported the moment is the one at which it was due, and never after now
abbrev pub moment_after : Command → ℕ → ℕ → ℕ
moment_after (Tell (Expired timer value due)) now old = min due now
moment_after _ now old = old

-- the moment that is lived through: the clock, or the due moment of the timer that was reported last in this line
abbrev pub moment : List Happened → ℕ
moment [] = 0
moment (Said line ∷ h) = clock h + span_of line
moment (Sent command ∷ h) = moment_after command (clock h) (moment h)
moment (_ ∷ h) = moment h

-- the line is `time`
abbrev pub lets_time_pass : HandsetLine → Bool
lets_time_pass (Time seconds) = true
lets_time_pass _ = false

-- the line that is carried out lets time pass
abbrev pub is_timed : List Happened → Bool
is_timed [] = false
is_timed (Said line ∷ h) = lets_time_pass line
is_timed (_ ∷ h) = is_timed h

-- the new value where this is so, else the old one
abbrev pub running_if : Bool → Option Running → Option Running → Option Running
running_if true new old = new
running_if false new old = old

-- TIMER MANAGEMENT that starts this timer sets the moment at which it is due; one that deactivates it stops it (ETSI TS 102 223, 6.4.21)
abbrev pub running_by : ℕ → ℕ → Proactive → Option Running → Option Running
running_by timer now (TimerManagement action other value) old =
    if action == START then running_if (other == timer) (Some (record { due = now + seconds_of value; value = value })) old
    else (if action == DEACTIVATE then running_if (other == timer) None old else old)
running_by timer now _ old = old

-- a timer that is reported runs no more
abbrev pub running_after : ℕ → Command → Option Running → Option Running
running_after timer (Tell (Expired other value due)) old = running_if (other == timer) None old
running_after timer _ old = old

-- a timer runs from its start to its stop or its report, or to the reset
abbrev pub running : ℕ → List Happened → Option Running
running timer [] = None
running timer (Answered answer ∷ h) = with_command (running_by timer (moment h)) (brought (last_sent h) answer) (running timer h)
running timer (Sent command ∷ h) = running_after timer command (running timer h)
running timer (Restarted ∷ h) = None
running timer (_ ∷ h) = running timer h

-- the timers 1 to 8
abbrev pub timer_numbers : List ℕ
timer_numbers = 1 ∷ 2 ∷ 3 ∷ 4 ∷ 5 ∷ 6 ∷ 7 ∷ 8 ∷ []

-- each of the eight timers, if it runs
abbrev pub timers : List Happened → List (Option Running)
timers h = map (λ timer. running timer h) timer_numbers

-- ---- silence

-- the answer ends all that the handset does until the next reset: the memory failed, or it was the last command that may be
-- sent for a line
abbrev pub ends_all : Answer → ℕ → Bool
ends_all answer count = (answer.status.0 == 0x6581) || (count == MOST_COMMANDS)

-- the handset does nothing until the next reset: such an answer came, power was lost, or a command met a card without power
abbrev pub is_silent : List Happened → Bool
is_silent [] = false
is_silent (Answered answer ∷ h) = ends_all answer (commands h) || is_silent h
is_silent (Restarted ∷ h) = false
is_silent (PowerCut ∷ h) = true
is_silent (FoundOff ∷ h) = true
is_silent (_ ∷ h) = is_silent h

-- all that a handset knows
unfoldable pub known : List Happened → Known
known h = record {
  menu = menu h;
  listed = listed h;
  held = held h;
  timers = timers h;
  place = place h;
  clock = clock h;
  moment = moment h;
  is_timed = is_timed h;
  is_refreshed = is_refreshed h;
  commands = commands h;
  last_sent = last_sent h;
  announced = announced h;
  is_silent = is_silent h;
}

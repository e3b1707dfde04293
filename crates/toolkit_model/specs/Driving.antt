-- How applets are triggered, and what ends a command that triggered some.
use Rattle.std.specs.Prelude.{ℕ, zero, suc, Bool, true, false, not, ◌&&◌, nat_eq, ◌==◌, if◌then◌else◌, List, [], ◌∷◌, ◌++◌, length, codes, filter, Option, Some, None, option_map}
use Rattle.std.specs.List.{list_any}
use lib.Pointwise.{pointwise}
use Rattle.uicc_types.specs.declared.events.TheConstants.{MT_CALL, CALL_CONNECTED, CALL_DISCONNECTED, LOCATION_STATUS, USER_ACTIVITY, IDLE_SCREEN, LANGUAGE_SELECTION, DATA_AVAILABLE, CHANNEL_STATUS, STATUS_COMMAND}
use Rattle.card_state.specs.Persistent.{Registration}
use Rattle.toolkit_commands.specs.declared.items.Item.{Item}
use Rattle.toolkit_commands.specs.declared.commands.Proactive.{Proactive}
use Rattle.toolkit_commands.specs.declared.commands.Proactive.TheVariants.{PollInterval, SetUpEventList, SetUpMenu}
use Rattle.terminal_profile.specs.Profiles.{allowed, allowed_event}
use Rattle.applet_trait.specs.declared.stimuli.Stimulus.TheVariants.{Event}
use Rattle.toolkit_model.specs.Sessions.{Outstanding, Sent, LateTrigger, Announced, SessionState}
use Rattle.toolkit_model.specs.Orderly.{asks}
use Rattle.toolkit_model.specs.Order.{is_for}
use Rattle.toolkit_model.specs.Registry.{menu_of}
use Rattle.toolkit_model.specs.Passing.{ToolkitState, Given, Passed, unmoved, noting, before}
use Rattle.toolkit_model.specs.Running.{putting_out, run_of_row}

-- ---- triggering

-- an applet is idle where it asked for nothing
abbrev pub is_idle : List Sent → ℕ → Bool
is_idle asked shelf = not (list_any (λ sent. sent.shelf == shelf) asked)

-- the same, with another session
abbrev pub with_session : ToolkitState → SessionState → ToolkitState
with_session state session = record state { session = session }

-- the applet of the trigger's shelf runs, with the event that it was triggered by
abbrev pub running : LateTrigger → ToolkitState → Passed
running trigger state = run_of_row trigger.shelf (Event trigger.code trigger.body) false state

-- the trigger comes after those that came late before
abbrev pub kept_late : LateTrigger → ToolkitState → Passed
kept_late trigger state = unmoved (with_session state (record state.session { late = state.session.late ++ trigger ∷ [] }))

-- an idle applet runs
abbrev pub told_if : Bool → LateTrigger → ToolkitState → Passed
told_if true trigger state = running trigger state
told_if false trigger state = unmoved state

-- an idle applet runs, and for another the trigger is kept
abbrev pub given_if : Bool → LateTrigger → ToolkitState → Passed
given_if true trigger state = running trigger state
given_if false trigger state = kept_late trigger state

-- the trigger of the applet on a shelf, by an event with its code and what is told of it
abbrev pub trigger_for : ℕ → List ℕ → ℕ → LateTrigger
trigger_for code body shelf = record { shelf = shelf; code = code; body = body }

-- an event that no envelope brought: it is not kept
unfoldable pub told_one : ℕ → List ℕ → ℕ → ToolkitState → Passed
told_one code body shelf state = told_if (is_idle (asks state.session) shelf) (trigger_for code body shelf) state

-- an event that an envelope brought
unfoldable pub given_one : ℕ → List ℕ → ℕ → ToolkitState → Passed
given_one code body shelf state =
    noting (Given (trigger_for code body shelf) ∷ []) (given_if (is_idle (asks state.session) shelf) (trigger_for code body shelf) state)

-- ---- late triggers

-- the trigger that was found, and the others with this one first
abbrev pub behind : LateTrigger → LateTrigger × List LateTrigger → LateTrigger × List LateTrigger
behind trigger found = (found.0, trigger ∷ found.1)

-- the first trigger whose applet is idle, and the others
abbrev pub first_idle : List Sent → List LateTrigger → Option (LateTrigger × List LateTrigger)
first_idle asked [] = None
first_idle asked (trigger ∷ others) =
    if is_idle asked trigger.shelf then Some (trigger, others) else option_map (behind trigger) (first_idle asked others)

-- it is taken out, and its applet runs
abbrev pub catching : (ToolkitState → Passed) → ToolkitState → Option (LateTrigger × List LateTrigger) → Passed
catching next state None = unmoved state
catching next state (Some found) = before (running found.0 (with_session state (record state.session { late = found.1 }))) next

-- so many times at most
unfoldable pub caught_up : ℕ → ToolkitState → Passed
caught_up zero state = unmoved state
caught_up (suc count) state = catching (caught_up count) state (first_idle (asks state.session) state.session.late)

-- ---- what the card itself sends

-- the events of ETSI TS 102 223, 8.25, that this card asks a handset to report, ascending
abbrev pub download_codes : List ℕ
download_codes = MT_CALL ∷ CALL_CONNECTED ∷ CALL_DISCONNECTED ∷ LOCATION_STATUS ∷ USER_ACTIVITY ∷ IDLE_SCREEN ∷ LANGUAGE_SELECTION ∷ DATA_AVAILABLE ∷ CHANNEL_STATUS ∷ []

-- those for which a row is registered and which this handset can report
abbrev pub events_for : List ℕ → List Registration → List ℕ
events_for profile rows = filter (λ code. list_any (is_for code) rows && allowed_event profile code) download_codes

-- the same identifier and the same text
abbrev pub is_same_item : Item → Item → Bool
is_same_item a b = a.id == b.id && pointwise nat_eq a.text b.text

-- the title of the card's menu: `Menu`
abbrev pub menu_title : List ℕ
menu_title = codes "Menu"

-- the interval between two STATUS that the card asks for: 30 seconds
abbrev pub half_a_minute : ℕ
half_a_minute = 30

-- the first of two
abbrev pub or_else : Option Proactive → Option Proactive → Option Proactive
or_else None second = second
or_else (Some first) second = Some first

-- a command that the handset can carry out
abbrev pub if_allowed : List ℕ → Bool → Proactive → Option Proactive
if_allowed profile is_due command = if is_due && allowed profile command then Some command else None

-- SET UP EVENT LIST, where the events for the rows are other ones than the handset was told
abbrev pub event_list_wanted : List ℕ → List Registration → Announced → Option Proactive
event_list_wanted profile rows announced =
    let events = events_for profile rows in
    if_allowed profile (not (pointwise nat_eq events announced.events)) (SetUpEventList events)

-- SET UP MENU, where the items of the rows are other ones than the handset was told
abbrev pub menu_wanted : List ℕ → List Registration → Announced → Option Proactive
menu_wanted profile rows announced =
    let items = menu_of rows in
    if_allowed profile (not (pointwise is_same_item items announced.menu)) (SetUpMenu menu_title items)

-- POLL INTERVAL, where a row is registered for STATUS and the handset was not told to poll
abbrev pub polling_wanted : List ℕ → List Registration → Announced → Option Proactive
polling_wanted profile rows announced =
    if_allowed profile (list_any (is_for STATUS_COMMAND) rows && not announced.polls) (PollInterval half_a_minute)

-- the first command that the card itself has to send, once there is a profile
unfoldable pub wanted : Option (List ℕ) → List Registration → Announced → Option Proactive
wanted None rows announced = None
wanted (Some profile) rows announced =
    or_else (event_list_wanted profile rows announced) (or_else (menu_wanted profile rows announced) (polling_wanted profile rows announced))

-- what the handset is told by it
abbrev pub announcing : Proactive → Announced → Announced
announcing (SetUpEventList events) announced = record announced { events = events }
announcing (SetUpMenu title items) announced = record announced { menu = items }
announcing (PollInterval seconds) announced = record announced { polls = true }
announcing _ announced = announced

-- ---- what becomes outstanding

-- the first command that waits becomes outstanding, if one waits
abbrev pub front_out : List Sent → SessionState → SessionState
front_out [] session = session
front_out (sent ∷ others) session = putting_out (Some sent.shelf) sent.command (record session { waiting = others })

-- the card's own command, or else the first that waits
abbrev pub next_out : Option Proactive → SessionState → SessionState
next_out None session = front_out session.waiting session
next_out (Some command) session = putting_out None command (record session { announced = announcing command session.announced })

-- if nothing is outstanding
abbrev pub filled : Option Outstanding → List Registration → SessionState → SessionState
filled (Some out) rows session = session
filled None rows session = next_out (wanted session.profile rows session.announced) session

-- where no command is outstanding, the next one goes out
unfoldable pub with_next_command : ToolkitState → ToolkitState
with_next_command state = with_session state (filled state.session.out state.rows state.session)

-- applets that are idle catch up with what came late; then a command becomes outstanding
unfoldable pub driven : ToolkitState → Passed
driven state = before (caught_up (length state.session.late) state) (λ later. unmoved (with_next_command later))

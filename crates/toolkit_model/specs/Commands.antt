-- What the toolkit's commands make of its state, each once it is accepted (ETSI TS 102 221, 11.2).
use Rattle.std.specs.Prelude.{ℕ, ◌-◌, Bool, true, false, not, ◌&&◌, ◌||◌, nat_lt, ◌==◌, if◌then◌else◌, List, [], ◌∷◌, length, map, filter, Option, Some, None}
use Rattle.std.specs.Option.{option_map, option_to_list}
use Rattle.std.specs.List.{filter_map, last_or, enumerate_from}
use Rattle.uicc_types.specs.declared.events.TheConstants.{USER_ACTIVITY, IDLE_SCREEN, PROFILE_DOWNLOAD, STATUS_COMMAND, MENU_SELECTION, TIMER_EXPIRATION, CALL_CONTROL}
use Rattle.card_state.specs.Changes.{AddRow, TakeRow}
use Rattle.card_state.specs.Persistent.{Registration}
use Rattle.card_state.specs.Sections.{has_text, with_row}
use Rattle.toolkit_commands.specs.Table.{details_of, spelled}
use Rattle.toolkit_commands.specs.Responses.{response_of}
use Rattle.toolkit_commands.specs.declared.envelopes.Envelope.{Envelope}
use Rattle.toolkit_commands.specs.declared.envelopes.Envelope.TheVariants as Envelopes
use Rattle.toolkit_commands.specs.declared.responses.Response.{Response as Reply}
use Rattle.timer_table.specs.Timers.{Owners, owner_of, without}
use Rattle.terminal_profile.specs.Profiles.{consulted}
use Rattle.applet_trait.specs.declared.stimuli.Stimulus.TheVariants.{Response}
use Rattle.applet_trait.specs.declared.stimuli.Act.{Act}
use Rattle.applet_trait.specs.declared.stimuli.Act.TheVariants.{Answer}
use Rattle.applet_trait.specs.Minds.{AppletState, fresh}
use Rattle.toolkit_model.specs.Sessions.{Outstanding, SessionState, fresh_session}
use Rattle.toolkit_model.specs.Orderly.{asks}
use Rattle.toolkit_model.specs.Order.{targets}
use Rattle.toolkit_model.specs.Registry.{row_on, without_row, item_of}
use Rattle.toolkit_model.specs.Passing.{ToolkitState, Happening, Fetched, Responded, Committed, ShelfTurn, Passed, unmoved, noting, before, in_turn, turns}
use Rattle.toolkit_model.specs.Running.{run_of_row, with_mind}
use Rattle.toolkit_model.specs.Changes.{entry_of}
use Rattle.toolkit_model.specs.Driving.{is_idle, with_session, told_one, given_one, driven}

-- ---- TERMINAL PROFILE and STATUS

-- the applets that are registered for an event of the card's own
abbrev pub registered_told : ℕ → List ℕ → ToolkitState → Passed
registered_told code body state = in_turn (told_one code body) (targets state.rows code) state

-- the profile is the last one that came, as far as it is looked at: its first eight bytes
abbrev pub with_profile : ToolkitState → List ℕ → ToolkitState
with_profile state bytes = with_session state (record state.session { profile = Some (consulted bytes) })

-- TERMINAL PROFILE (11.2.1): the profile is taken, and the applets that are registered for it run; then idle applets catch up, and the next command
-- goes out
unfoldable pub profiled : List ℕ → ToolkitState → Passed
profiled bytes state = before (registered_told PROFILE_DOWNLOAD bytes (with_profile state bytes)) driven

-- STATUS as an event: the applets that are registered for it run; then idle applets catch up, and the next command goes out
unfoldable pub polled : ToolkitState → Passed
polled state = before (registered_told STATUS_COMMAND [] state) driven

-- ---- ENVELOPE

-- the shelves that an envelope triggers, the code of the event, and what is told of it
pub record Trigger : Type 0 where
  pub shelves : List ℕ
  pub code : ℕ
  pub body : List ℕ

-- the row whose item was selected
abbrev pub selected : List Registration → ℕ → List ℕ
selected rows item = map (λ row. row.shelf) (filter (λ row. has_text row && (item_of row).id == item) rows)

-- the owner of a timer
abbrev pub holders : Owners → ℕ → List ℕ
holders timers timer = option_to_list (option_map (λ shelf. shelf.0) (owner_of timers timer))

-- an item of the menu triggers its applet, call control and an event those that are registered for them, a timer its owner; each is told what the
-- envelope says
abbrev pub trigger_of : List Registration → Owners → Envelope → Trigger
trigger_of rows timers (Envelopes.Menu item) = record { shelves = selected rows item; code = MENU_SELECTION; body = item ∷ [] }
trigger_of rows timers (Envelopes.CallControl address) = record { shelves = targets rows CALL_CONTROL; code = CALL_CONTROL; body = address }
trigger_of rows timers (Envelopes.Event code body) = record { shelves = targets rows code; code = code; body = body }
trigger_of rows timers (Envelopes.Timer timer) = record { shelves = holders timers timer; code = TIMER_EXPIRATION; body = timer ∷ [] }

-- what the envelope triggers in this state
abbrev pub triggered_by : Envelope → ToolkitState → Trigger
triggered_by envelope state = trigger_of state.rows state.session.timers envelope

-- so many triggers can be kept
abbrev pub late_places : ℕ
late_places = 16

-- the envelope is call control
abbrev pub is_call : Envelope → Bool
is_call (Envelopes.CallControl address) = true
is_call _ = false

-- the applets that it triggers and that are not idle
abbrev pub suspended_by : Envelope → ToolkitState → List ℕ
suspended_by envelope state = filter (λ shelf. not (is_idle (asks state.session) shelf)) (triggered_by envelope state).shelves

-- the applets that are not idle are more than there are places, or call control is not answered now
abbrev pub is_busy : Envelope → ToolkitState → Bool
is_busy envelope state =
    let suspended = length (suspended_by envelope state) in
    nat_lt (late_places - length state.session.late) suspended || (is_call envelope && nat_lt 0 suspended)

-- a handset reports these two once, and has to be asked again
abbrev pub is_reported_once : ℕ → Bool
is_reported_once code = code == USER_ACTIVITY || code == IDLE_SCREEN

-- the event is no longer one of those that the handset was told to report
abbrev pub forgetting : ℕ → SessionState → SessionState
forgetting code session = record session { announced = record session.announced { events = filter (λ other. not (other == code)) session.announced.events } }

-- once the user's activity or the idle screen was reported, the handset has to be asked again
abbrev pub reported : Envelope → ToolkitState → ToolkitState
reported (Envelopes.Event code body) state = if is_reported_once code then with_session state (forgetting code state.session) else state
reported _ state = state

-- the applets that it triggers run, or are told late
unfoldable pub triggered : Envelope → ToolkitState → Passed
triggered envelope state =
    let trigger = triggered_by envelope state in
    in_turn (given_one trigger.code trigger.body) trigger.shelves (reported envelope state)

-- ENVELOPE (11.2.2): the applets that it triggers run or are told late; then idle applets catch up, and the next command goes out
unfoldable pub enveloped : Envelope → ToolkitState → Passed
enveloped envelope state = before (triggered envelope state) driven

-- the answer to call control that is the act of this turn, if it is one
abbrev pub answer_in : ShelfTurn → Option Bool
answer_in turn = by_act turn.act where
  by_act : Act → Option Bool
  by_act (Answer allows) = Some allows
  by_act _ = None

-- the last answer to call control
abbrev pub last_answer : List Happening → Option Bool
last_answer log = last_or None (filter_map answer_in (turns log))

-- the data of the answer: 01 00, not allowed, or 00 00, allowed, also where no applet answered (ETSI TS 102 223, 7.3.1.6)
abbrev pub call_data_of : Option Bool → List ℕ
call_data_of (Some false) = 0x01 ∷ 0x00 ∷ []
call_data_of _ = 0x00 ∷ 0x00 ∷ []

-- what the handset is told of the call (ETSI TS 102 223, 7.3.1.6): not allowed, or allowed
abbrev pub call_data : Envelope → ToolkitState → List ℕ
call_data envelope state = if is_call envelope then call_data_of (last_answer (triggered envelope state).log) else []

-- ---- FETCH and TERMINAL RESPONSE

-- the outstanding command, if there is one, and if the handset has fetched it or has not, as is asked
abbrev pub if_fetched : Bool → Option Outstanding → Option Outstanding
if_fetched is_fetched None = None
if_fetched is_fetched (Some out) = if is_fetched then (if out.is_fetched then Some out else None) else (if out.is_fetched then None else Some out)

-- the outstanding command that the handset has not fetched yet
abbrev pub unfetched : SessionState → Option Outstanding
unfetched session = if_fetched false session.out

-- and the one that it has to answer
abbrev pub unanswered : SessionState → Option Outstanding
unanswered session = if_fetched true session.out

-- the bytes of a command that is outstanding, with its number
abbrev pub command_bytes : Outstanding → List ℕ
command_bytes out = spelled out.command out.number

-- how many bytes there are to fetch
abbrev pub pending : SessionState → Option ℕ
pending session = option_map (λ out. length (command_bytes out)) (unfetched session)

-- the same command, fetched
abbrev pub as_fetched : Outstanding → Outstanding
as_fetched out = record out { is_fetched = true }

-- FETCH (11.2.3): the outstanding command is fetched
unfoldable pub fetched : Outstanding → ToolkitState → Passed
fetched out state = record {
  state = with_session state (record state.session { out = Some (as_fetched out) });
  log = Fetched out ∷ [];
}

-- what the bytes say of the command that was fetched
abbrev pub reply_to : Outstanding → List ℕ → Option Reply
reply_to out bytes = response_of (details_of out.command out.number) bytes

-- the applet that sent the command goes on; the card itself does nothing
abbrev pub resumed : Option ℕ → Reply → ToolkitState → Passed
resumed None reply state = unmoved state
resumed (Some shelf) reply state = run_of_row shelf (Response reply.result reply.item reply.text) true state

-- no command is outstanding
abbrev pub with_nothing_out : ToolkitState → ToolkitState
with_nothing_out state = with_session state (record state.session { out = None })

-- the command is outstanding no more, and the applet that sent it is told the response
unfoldable pub answered : Outstanding → Reply → ToolkitState → Passed
answered out reply state = noting (Responded out reply ∷ []) (resumed out.owner reply (with_nothing_out state))

-- TERMINAL RESPONSE (11.2.4): the command is answered; then idle applets catch up, and the next command goes out
unfoldable pub responded : Outstanding → Reply → ToolkitState → Passed
responded out reply state = before (answered out reply state) driven

-- ---- INSTALL and DELETE

-- the applet is registered, and wakes
abbrev pub registering : Registration → ToolkitState → Passed
registering row state =
    let rows = with_row state.rows row in
    record {
      state = record { rows = rows; session = state.session; minds = with_mind state.minds row.shelf (Some (fresh row.kind row.kept)) };
      log = Committed (AddRow row.shelf (entry_of row)) rows ∷ [];
    }

-- INSTALL: the applet is registered and wakes; then idle applets catch up, and the next command goes out
unfoldable pub installed : Registration → ToolkitState → Passed
installed row state = before (registering row state) driven

-- it is registered no more: its timers are free, and it is gone
abbrev pub unregistering : ℕ → ToolkitState → Passed
unregistering shelf state =
    let rows = without_row state.rows shelf in
    record {
      state = record {
        rows = rows;
        session = record state.session { timers = map (without (record { 0 = shelf })) state.session.timers };
        minds = with_mind state.minds shelf None;
      };
      log = Committed (TakeRow shelf) rows ∷ [];
    }

-- DELETE: the applet is registered no more and is gone; then idle applets catch up, and the next command goes out
unfoldable pub delete_carried : ℕ → ToolkitState → Passed
delete_carried shelf state = before (unregistering shelf state) driven

-- ---- after a reset

-- a registered applet wakes with the bytes that are kept for it; a box without one stays as it is
abbrev pub woken_mind : Option Registration → AppletState → AppletState
woken_mind None mind = mind
woken_mind (Some row) mind = fresh mind.kind row.kept

-- the box of a shelf: an empty one stays empty, and in another the applet wakes if it is registered
abbrev pub woken_box : List Registration → ℕ × Option AppletState → Option AppletState
woken_box rows box = option_map (woken_mind (row_on rows box.0)) box.1

-- each box on its shelf, after a reset
unfoldable pub woken_boxes : List Registration → List (Option AppletState) → List (Option AppletState)
woken_boxes rows boxes = map (woken_box rows) (enumerate_from 0 boxes)

-- the toolkit once all applets woke, over a fresh session
unfoldable pub toolkit_woken : List Registration → List (Option AppletState) → ToolkitState
toolkit_woken rows minds = record { rows = rows; session = fresh_session; minds = woken_boxes rows minds }

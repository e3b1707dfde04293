-- The run of an applet: it does act after act until it is done, sends a command, or did 32 of them.
use Rattle.std.specs.Prelude.{ℕ, zero, suc, Bool, true, false, not, ◌&&◌, ◌||◌, nat_le, nat_lt, ◌+◌, ◌==◌, if◌then◌else◌, List, [], ◌∷◌, ◌++◌, length, slice_index_or, slice_set, Option, Some, None, is_some, Result, Ok, Err}
use Rattle.std.specs.Option.{option_map_or}
use Rattle.uicc_types.specs.declared.events.TheConstants.{CALL_CONTROL}
use Rattle.card_state.specs.Persistent.{Registration}
use Rattle.toolkit_commands.specs.declared.commands.Proactive.{Proactive}
use Rattle.toolkit_commands.specs.declared.commands.Proactive.TheVariants.{Refresh, PollInterval, SetUpEventList, SetUpMenu, TimerManagement}
use Rattle.toolkit_commands.specs.Table.{spelled}
use Rattle.timer_table.specs.Timers.{Owners, owner_of, smallest_free, given_to, freed}
use Rattle.terminal_profile.specs.Profiles.{allowed}
use Rattle.applet_trait.specs.declared.numbers.TheConstants.{MOST_KEPT}
use Rattle.applet_trait.specs.declared.stimuli.Stimulus.{Stimulus}
use Rattle.applet_trait.specs.declared.stimuli.Stimulus.TheVariants.{Event, Went, Refused, Timer}
use Rattle.applet_trait.specs.declared.stimuli.Act.{Act}
use Rattle.applet_trait.specs.declared.stimuli.Act.TheVariants.{Done, Send, Keep, Register, Deregister, TakeTimer, FreeTimer, Answer}
use Rattle.applet_trait.specs.Minds.{AppletState, fresh}
use Rattle.applet_trait.specs.Turns.{act}
use Rattle.toolkit_model.specs.declared.faults.RowFault.{RowFault}
use Rattle.toolkit_model.specs.Sessions.{SessionState}
use Rattle.toolkit_model.specs.Registry.{row_on, registers, deregisters, with_code, without_code, with_kept}
use Rattle.toolkit_model.specs.Passing.{ToolkitState, Happening, Turned, Committed, Passed, unmoved}
use Rattle.toolkit_model.specs.Changes.{change_by}

-- Where a run goes on: the applet's shelf, the handset's profile, and whether call control began it.
pub record Setting : Type 0 where
  pub shelf : ℕ
  pub profile : Option (List ℕ)
  pub in_call : Bool

-- all that a run of an applet can change
pub record Works : Type 0 where
  pub rows : List Registration
  pub timers : Owners
  pub mind : AppletState

-- ---- admission

-- the card alone sends these
abbrev pub is_cards_own : Proactive → Bool
is_cards_own (SetUpMenu title items) = true
is_cards_own (SetUpEventList events) = true
is_cards_own (PollInterval seconds) = true
is_cards_own _ = false

-- the timer is that of the applet on this shelf
abbrev pub is_held_by : Owners → ℕ → ℕ → Bool
is_held_by timers shelf timer = option_map_or (λ owner. owner.0 == shelf) (owner_of timers timer) false

-- An applet may ask for a REFRESH by NAA initialization (03) or UICC reset (04) alone (ETSI TS 102 223, 8.6), and manage its
-- own timers alone.
abbrev pub is_within_rights : Owners → ℕ → Proactive → Bool
is_within_rights timers shelf (Refresh mode) = mode == 0x03 || mode == 0x04
is_within_rights timers shelf (TimerManagement action timer value) = is_held_by timers shelf timer
is_within_rights timers shelf _ = true

-- a command fits the 255 bytes that a length can say
abbrev pub is_short : Proactive → Bool
is_short command = nat_le (length (spelled command 0)) 255

-- A command that an applet sends is admitted where the handset sent its profile and can carry the command out, the command is
-- an applet's and short, and call control didn't begin the run.
abbrev pub is_admitted : Setting → Owners → Proactive → Bool
is_admitted at timers command =
    option_map_or (λ profile. allowed profile command) at.profile false && not (is_cards_own command) && is_short command
    && is_within_rights timers at.shelf command && not at.in_call

-- what is sent and admitted
abbrev pub admitted : Setting → Owners → Act → Option Proactive
admitted at timers (Send command) = if is_admitted at timers command then Some command else None
admitted at timers _ = None

-- ---- acts

-- An act that was carried out: whether the rows were committed, and what the applet is told then; where that is None, the
-- run ends.
pub record Carried : Type 0 where
  pub works : Works
  pub is_committed : Bool
  pub tells : Option Stimulus

-- the run ends, and nothing was committed
abbrev pub ends : Works → Carried
ends works = record { works = works; is_committed = false; tells = None }

-- the applet is told this, and nothing was committed
abbrev pub answers : Stimulus → Works → Carried
answers stimulus works = record { works = works; is_committed = false; tells = Some stimulus }

-- these rows are committed, and the applet is told that its act was carried out
abbrev pub commits : Works → List Registration → Carried
commits works rows = record { works = record works { rows = rows }; is_committed = true; tells = Some Went }

-- a change of the codes: a commit where there is one
abbrev pub changing : Works → List Registration → Result Bool RowFault → Carried
changing works rows (Ok true) = commits works rows
changing works rows (Ok false) = answers Went works
changing works rows (Err fault) = answers Refused works

-- this free timer is the applet's then, and it is told so; where none is free it is refused
abbrev pub taking : ℕ → Works → Option ℕ → Carried
taking shelf works (Some timer) = answers (Timer timer) (record works { timers = given_to (record { 0 = shelf }) works.timers (Some timer) })
taking shelf works None = answers Refused works

-- What each act comes to. Done ends the run, and so does a command that is admitted. At most 32 bytes are kept; the codes of the row change as
-- `registers` and `deregisters` say; the smallest free timer is given, and one of its own taken back; an answer to call control is just taken. What
-- may not be done is refused.
abbrev pub carried : Setting → Act → Works → Carried
carried at Done works = ends works
carried at (Send command) works = if is_admitted at works.timers command then ends works else answers Refused works
carried at (Keep bytes) works =
    if nat_le (length bytes) MOST_KEPT then commits works (with_kept works.rows at.shelf bytes) else answers Refused works
carried at (Register code) works = changing works (with_code works.rows at.shelf code) (registers works.rows at.shelf code)
carried at (Deregister code) works = changing works (without_code works.rows at.shelf code) (deregisters works.rows at.shelf code)
carried at TakeTimer works = taking at.shelf works (smallest_free works.timers)
carried at (FreeTimer timer) works =
    if is_held_by works.timers at.shelf timer then answers Went (record works { timers = freed works.timers timer }) else answers Refused works
carried at (Answer allows) works = answers Went works

-- ---- runs

-- what a run came to: what it changed, the command that was sent, and what was noted
pub record Ran : Type 0 where
  pub works : Works
  pub sent : Option Proactive
  pub log : List Happening

-- the commit of the act, if there was one
abbrev pub committed : Setting → Act → Carried → List Happening
committed at does done = if done.is_committed then Committed (change_by at.shelf does done.works.rows) done.works.rows ∷ [] else []

-- the turn, and the commit that it led to
abbrev pub noted : Setting → Stimulus → Act → Owners → Carried → List Happening
noted at stimulus does timers done =
    Turned (record { shelf = at.shelf; stimulus = stimulus; act = does; is_admitted = is_some (admitted at timers does) }) ∷ committed at does done

-- the run goes on where the applet is told something, and else is over
abbrev pub going_on : Works → Option Proactive → (Stimulus → Works → Ran) → Option Stimulus → Ran
going_on works sent next None = record { works = works; sent = sent; log = [] }
going_on works sent next (Some stimulus) = next stimulus works

-- this was noted before the run
abbrev pub logged : List Happening → Ran → Ran
logged log ran = record ran { log = log ++ ran.log }

-- the act is carried out, and the run goes on
abbrev pub carrying : Setting → Stimulus → Act → Works → (Stimulus → Works → Ran) → Ran
carrying at stimulus does works next =
    let done = carried at does works in
    logged (noted at stimulus does works.timers done) (going_on done.works (admitted at works.timers does) next done.tells)

-- the bytes that the card keeps for the applet of a shelf; none where it is not registered
abbrev pub kept_on : List Registration → ℕ → List ℕ
kept_on rows shelf = option_map_or (λ row. row.kept) (row_on rows shelf) []

-- an applet that went too far begins anew
abbrev pub awakened : ℕ → Works → Works
awakened shelf works = record works { mind = fresh works.mind.kind (kept_on works.rows shelf) }

-- so many acts at most
unfoldable pub run_on : ℕ → Setting → Stimulus → Works → Ran
run_on zero at stimulus works = record { works = awakened at.shelf works; sent = None; log = [] }
run_on (suc fuel) at stimulus works =
    let made = act works.mind stimulus in
    carrying at stimulus made.does (record works { mind = made.next }) (run_on fuel at)

-- so many acts a run has at most
abbrev pub most_acts : ℕ
most_acts = 32

-- ---- from state to state

-- the mind of the applet on a shelf, if there is one
abbrev pub mind_on : List (Option AppletState) → ℕ → Option AppletState
mind_on minds shelf = slice_index_or minds shelf None

-- this mind on the shelf, or none
abbrev pub with_mind : List (Option AppletState) → ℕ → Option AppletState → List (Option AppletState)
with_mind minds shelf mind = slice_set minds shelf mind

-- 1 after a reset, and again after 254
abbrev pub next_number : ℕ → ℕ
next_number number = if nat_lt number 254 then number + 1 else 1

-- a command becomes the outstanding one
abbrev pub putting_out : Option ℕ → Proactive → SessionState → SessionState
putting_out owner command session =
    let number = next_number session.last_number in
    record session { out = Some (record { owner = owner; command = command; number = number; is_fetched = false }); last_number = number }

-- A command that was sent after the answer to the one before goes out at once; another waits.
abbrev pub sending : ℕ → Bool → Option Proactive → SessionState → SessionState
sending shelf is_resumed None session = session
sending shelf true (Some command) session = putting_out (Some shelf) command session
sending shelf false (Some command) session =
    record session { waiting = session.waiting ++ record { shelf = shelf; command = command } ∷ [] }

-- the stimulus is call control
abbrev pub begins_call : Stimulus → Bool
begins_call (Event code body) = code == CALL_CONTROL
begins_call _ = false

-- where a run goes on that begins with this stimulus: on this shelf, with the profile of the session
abbrev pub setting_of : ℕ → Stimulus → ToolkitState → Setting
setting_of shelf stimulus state = record { shelf = shelf; profile = state.session.profile; in_call = begins_call stimulus }

-- what a run can change, as it stands before the run
abbrev pub works_of : AppletState → ToolkitState → Works
works_of mind state = record { rows = state.rows; timers = state.session.timers; mind = mind }

-- the state with what a run changed
abbrev pub ended_in : ℕ → Bool → ToolkitState → Ran → Passed
ended_in shelf is_resumed state ran = record {
  state = record {
    rows = ran.works.rows;
    session = sending shelf is_resumed ran.sent (record state.session { timers = ran.works.timers });
    minds = with_mind state.minds shelf (Some ran.works.mind);
  };
  log = ran.log;
}

-- the run of this mind, of at most 32 acts; without a mind nothing changes
abbrev pub run_of_mind : ℕ → Stimulus → Bool → ToolkitState → Option AppletState → Passed
run_of_mind shelf stimulus is_resumed state None = unmoved state
run_of_mind shelf stimulus is_resumed state (Some mind) =
    ended_in shelf is_resumed state (run_on most_acts (setting_of shelf stimulus state) stimulus (works_of mind state))

-- the run of the applet of a shelf, which its handset's answer resumed or not
unfoldable pub run_of_row : ℕ → Stimulus → Bool → ToolkitState → Passed
run_of_row shelf stimulus is_resumed state = run_of_mind shelf stimulus is_resumed state (mind_on state.minds shelf)

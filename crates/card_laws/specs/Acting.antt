-- What is noted of turns is what the applets do.
use Rattle.std.specs.Prelude.{◌≡◌, ◌⊎◌, ℕ, ◌+◌, ◌==◌, Bool, true, false, List, [], ◌∷◌, Option, Some, None, is_some, ⊤}
use Rattle.card_state.specs.Persistent.{Registration}
use Rattle.toolkit_commands.specs.declared.commands.Proactive.{Proactive}
use Rattle.timer_table.specs.Timers.{Owners}
use Rattle.applet_trait.specs.declared.stimuli.Stimulus.{Stimulus}
use Rattle.applet_trait.specs.declared.stimuli.Stimulus.TheVariants as Told
use Rattle.applet_trait.specs.declared.stimuli.Act.TheVariants as Acts
use Rattle.applet_trait.specs.Minds.{AppletState, fresh}
use Rattle.applet_trait.specs.Turns.{act}
use Rattle.toolkit_model.specs.Commands.{with_profile, registering, unregistering, toolkit_woken}
use Rattle.toolkit_model.specs.Passing.{ToolkitState, ShelfTurn, Happening, Turned, Committed}
use Rattle.toolkit_model.specs.Running.{Setting, Works, Carried, admitted, awakened, carried, kept_on, most_acts, begins_call, mind_on, with_mind}
use Rattle.toolkit_model.specs.Steps.{ToolkitInput, Profile, Install, Delete, Wake, moved}
use Rattle.card_model.specs.Instructions.{has_toolkit}
use Rattle.card_model.specs.States.{CardState}
use Rattle.card_model.specs.Toolkit.{toolkit_of}
use Rattle.card_model.specs.declared.instructions.Instruction.{Instruction}
use Rattle.card_laws.specs.Moving.{HasOrder, Event, AllCanHappen, card_after, taken_at, noted_of}

-- ---- points in a log

-- A run that is not over: whose it is, whether call control began it, how many acts it has with the next one, and what the applet is
-- told now.
pub record OpenRun : Type 0 where
  pub shelf : ℕ
  pub in_call : Bool
  pub acts : ℕ
  pub tells : Stimulus

-- A point in a log: the handset's profile, the rows, who holds the timers, the applets, and the run that is not over, None between
-- two runs.
pub record Point : Type 0 where
  pub profile : Option (List ℕ)
  pub rows : List Registration
  pub timers : Owners
  pub minds : List (Option AppletState)
  pub run : Option OpenRun

-- the point at a state, between two runs
abbrev pub point_of : ToolkitState → Point
point_of state = record { profile = state.session.profile; rows = state.rows; timers = state.session.timers; minds = state.minds; run = None }

-- ---- a turn

-- a run begins where an applet is told of an event, or of the answer to its command
abbrev pub begins_run : Stimulus → Bool
begins_run (Told.Event code body) = true
begins_run (Told.Response result item text) = true
begins_run _ = false

-- the run that begins with this turn
abbrev pub begun_by : ShelfTurn → OpenRun
begun_by turn = record { shelf = turn.shelf; in_call = begins_call turn.stimulus; acts = 1; tells = turn.stimulus }

-- Between two runs a turn begins one. A run that is not over goes on: its applet has the next turn, and is told what came of the act
-- before.
abbrev pub IsTurnOf : Option OpenRun → ShelfTurn → OpenRun → Type 0
IsTurnOf None turn run = (begins_run turn.stimulus ≡ true) × (run ≡ begun_by turn)
IsTurnOf (Some last) turn run = (turn.shelf ≡ last.shelf) × (turn.stimulus ≡ last.tells) × (run ≡ last)

-- what stays the same in a run that was begun here
abbrev pub setting_in : Point → OpenRun → Setting
setting_in point run = record { shelf = run.shelf; profile = point.profile; in_call = run.in_call }

-- the rows, the timers and the mind that an act is done over
abbrev pub works_in : Point → AppletState → Works
works_in point mind = record { rows = point.rows; timers = point.timers; mind = mind }

-- the point with what an act changed
abbrev pub changed_to : Point → ℕ → Works → Option OpenRun → Point
changed_to point shelf works run = record { profile = point.profile; rows = works.rows; timers = works.timers; minds = with_mind point.minds shelf (Some works.mind); run = run }

-- Once an act was carried out: where the applet is told nothing then, the run is over, as after a command that was admitted. Else it
-- is told so and goes on; but after the last act that a run may have it begins anew, and the run is over.
abbrev pub after_act : Point → OpenRun → Works → Option Stimulus → Bool → Point
after_act point run works None is_last = changed_to point run.shelf works None
after_act point run works (Some told) true = changed_to point run.shelf (awakened run.shelf works) None
after_act point run works (Some told) false = changed_to point run.shelf works (Some (record run { acts = run.acts + 1; tells = told }))

-- One turn: the applet of the shelf does this act when it is told this, and what is noted as admitted is a command that is. The act
-- is then carried out: what becomes of the rows, of the timers and of this applet is what the act makes of them, and the other
-- applets stay as they were. A run has 32 acts at most.
pub record IsTurn (turn : ShelfTurn) (point next : Point) : Type 0 where
  pub run : OpenRun
  pub mind : AppletState
  pub goes_on : IsTurnOf point.run turn run
  pub there : mind_on point.minds turn.shelf ≡ Some mind
  pub does : turn.act ≡ (act mind turn.stimulus).does
  pub admits : turn.is_admitted ≡ is_some (admitted (setting_in point run) point.timers turn.act)
  pub done : Carried
  pub carries : done ≡ carried (setting_in point run) turn.act (works_in point (act mind turn.stimulus).next)
  pub leaves : next ≡ after_act point run done.works done.tells (run.acts == most_acts)

-- what the applet of the shelf is after the turn
abbrev pub IsLeftAs : ShelfTurn → Point → AppletState → Type 0
IsLeftAs turn next mind = mind_on next.minds turn.shelf ≡ Some mind

-- So the applet is as its act left it; or this was the 32nd act of its run, and it begins anew with what its row keeps for it then.
-- And a turn that is noted as admitted sent a command, and its run is over.
pub record TellsOfTurn (turn : ShelfTurn) (point next : Point) (is : IsTurn turn point next) : Type 0 where
  pub applet : let left = (act is.mind turn.stimulus).next in IsLeftAs turn next left ⊎ ((is.run.acts ≡ 32) × IsLeftAs turn next (fresh left.kind (kept_on next.rows turn.shelf)))
  pub sends : turn.is_admitted ≡ true → (command : Proactive) × (turn.act ≡ Acts.Send command) × (next.run ≡ None)

-- Each turn that is noted tells what the applet did and what came of it.
abbrev pub TurnsTell : Type 0
TurnsTell = (turn : ShelfTurn) (point next : Point) (is : IsTurn turn point next) → TellsOfTurn turn point next is

-- ---- a log

-- From one point to another: the applets change by the turns that are noted alone, one after the other, and the rows that are
-- committed are those that the last act made.
abbrev pub ActInTurn : Point → List Happening → Point → Type 0
ActInTurn point [] now = now ≡ point
ActInTurn point (Turned turn ∷ log) now = (next : Point) × IsTurn turn point next × ActInTurn next log now
ActInTurn point (Committed change rows ∷ log) now = (rows ≡ point.rows) × ActInTurn point log now
ActInTurn point (_ ∷ log) now = ActInTurn point log now

-- the state that a command begins with: the profile is the new one, an applet that is installed is there with its row, one that is
-- deleted is gone with its row and holds no timer, and at a wake all begin anew
abbrev pub begins_with : ToolkitInput → ToolkitState → ToolkitState
begins_with (Profile bytes) state = with_profile state bytes
begins_with (Install row) state = (registering row state).state
begins_with (Delete shelf) state = (unregistering shelf state).state
begins_with (Wake rows minds) state = toolkit_woken rows minds
begins_with _ state = state

-- What is noted of a command of the toolkit is what the applets do at it, turn by turn.
abbrev pub AppletsActInTurn : Type 0
AppletsActInTurn = (command : ToolkitInput) (state : ToolkitState) → ActInTurn (point_of (begins_with command state)) (moved command state).log (point_of (moved command state).state)

-- ---- over all that happens to a card

-- the toolkit as the applets find it, after what a command does before them
abbrev pub begins_at : Option ToolkitInput → ToolkitState → ToolkitState
begins_at None state = state
begins_at (Some command) state = begins_with command state

-- By what is noted of each event the applets come from where its command begins to where they are on the card after it; an event that
-- takes no command leaves the profile, the rows, the timers and the applets as they were.
abbrev pub ActAtEach : (Instruction → Bool) → CardState → List Event → Type 0
ActAtEach knows card [] = ⊤
ActAtEach knows card (event ∷ events) =
    ActInTurn (point_of (begins_at (taken_at knows card event) (toolkit_of card))) (noted_of knows card (event ∷ [])).log (point_of (toolkit_of (card_after knows card event)))
    × ActAtEach knows (card_after knows card event) events

-- So it is at each command of a run of a card.
abbrev pub AppletsActAtEachEvent : Type 0
AppletsActAtEachEvent =
    (knows : Instruction → Bool) (card : CardState) (events : List Event) → has_toolkit knows ≡ true → HasOrder card → AllCanHappen knows card events → ActAtEach knows card events

-- The toolkit of a card, and what is noted of it from one state to the next.
use Rattle.std.specs.Prelude.{ℕ, Bool, List, [], ◌∷◌, ◌++◌, Option, Some, None}
use Rattle.std.specs.List.{filter_map}
use Rattle.card_state.specs.Changes.{Change}
use Rattle.card_state.specs.Persistent.{Registration}
use Rattle.toolkit_commands.specs.declared.responses.Response.{Response}
use Rattle.applet_trait.specs.declared.stimuli.Stimulus.{Stimulus}
use Rattle.applet_trait.specs.declared.stimuli.Act.{Act}
use Rattle.applet_trait.specs.Minds.{AppletState}
use Rattle.toolkit_model.specs.Sessions.{Outstanding, LateTrigger, SessionState}

-- The rows that are registered, the session, and the minds of the applets by shelves, None where there is no applet.
pub record ToolkitState : Type 0 where
  pub rows : List Registration
  pub session : SessionState
  pub minds : List (Option AppletState)

-- One turn of the applet of a shelf: what it was told and what it did. A command that it sent was admitted or not.
pub record ShelfTurn : Type 0 where
  pub shelf : ℕ
  pub stimulus : Stimulus
  pub act : Act
  pub is_admitted : Bool

-- What is noted: that all applets woke; that a command was fetched; that the handset answered one; that an envelope gave an
-- applet an event; a turn of an applet; and that a change was committed to the card's memory, with the rows after it.
pub data Happening : Type 0 where
  Woke : Happening
  Fetched : Outstanding → Happening
  Responded : Outstanding → Response → Happening
  Given : LateTrigger → Happening
  Turned : ShelfTurn → Happening
  Committed : Change → List Registration → Happening

-- a state that was come to, and what was noted on the way, in order
pub record Passed : Type 0 where
  pub state : ToolkitState
  pub log : List Happening

-- the state stays as it is, and nothing is noted
abbrev pub unmoved : ToolkitState → Passed
unmoved state = record { state = state; log = [] }

-- this was noted before
abbrev pub noting : List Happening → Passed → Passed
noting log later = record { state = later.state; log = log ++ later.log }

-- first the one, then the other
abbrev pub before : Passed → (ToolkitState → Passed) → Passed
before first next = noting first.log (next first.state)

-- one after the other
abbrev pub in_turn : {X : Type 0} → (X → ToolkitState → Passed) → List X → ToolkitState → Passed
in_turn step [] state = unmoved state
in_turn step (x ∷ others) state = before (step x state) (in_turn step others)

-- the rows that were committed, where that is what is noted
abbrev pub rows_in : Happening → Option (List Registration)
rows_in (Committed change rows) = Some rows
rows_in _ = None

-- the rows after each commit, in order
abbrev pub passed_rows : List Happening → List (List Registration)
passed_rows log = filter_map rows_in log

-- the change that was committed, where that is what is noted
abbrev pub change_in : Happening → Option Change
change_in (Committed change rows) = Some change
change_in _ = None

-- what was committed, in order
abbrev pub changes_in : List Happening → List Change
changes_in log = filter_map change_in log

-- the turn of an applet, where that is what is noted
abbrev pub turn_in : Happening → Option ShelfTurn
turn_in (Turned turn) = Some turn
turn_in _ = None

-- the turns, in order
abbrev pub turns : List Happening → List ShelfTurn
turns log = filter_map turn_in log

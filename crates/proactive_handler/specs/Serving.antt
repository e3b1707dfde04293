-- What a session has to be for its applets to run (ETSI TS 102 223, 6 and 7).
use Rattle.std.specs.Prelude.{◌≢◌, ℕ, ◌+◌, ◌≤◌, Bool, true, false, not, List, length, filter, All, AllPairs}
use Rattle.card_state.specs.declared.entries.Loaded.{Loaded}
use Rattle.card_state.specs.States.{rows_of}
use Rattle.card_commits.specs.Entries.{HasRowOn}
use Rattle.toolkit_model.specs.Sessions.{SessionState}
use Rattle.toolkit_model.specs.Orderly.{asks, IsUnderway}
use Rattle.toolkit_model.specs.Passing.{ToolkitState, Passed}
use Rattle.toolkit_model.specs.Driving.{is_idle, told_one, given_one}
use Rattle.toolkit_model.specs.Commands.{late_places}

-- each applet asks at most once, and who asks, and for whom an event came late, is registered
pub record IsSessionServed (table : Loaded) (session : SessionState) : Type 0 where
  pub apart : AllPairs (λ a b. a.shelf ≢ b.shelf) (asks session)
  pub askers : All (λ sent. HasRowOn table sent.shelf) (asks session)
  pub late : All (λ trigger. HasRowOn table trigger.shelf) session.late

-- a session over the registrations of a table is such
abbrev pub SessionsAreServed : Type 0
SessionsAreServed = (table : Loaded) (session : SessionState) → IsUnderway (rows_of table) session → IsSessionServed table session

-- an event for these shelves can be kept for those of them that wait for an answer
abbrev pub HasPlaces : SessionState → List ℕ → Type 0
HasPlaces session shelves = length session.late + length (filter (λ shelf. not (is_idle (asks session) shelf)) shelves) ≤ late_places

-- an event that an envelope brought, which is kept for an applet that waits for an answer, or another
abbrev pub triggered_one : Bool → ℕ → List ℕ → ℕ → ToolkitState → Passed
triggered_one true = given_one
triggered_one false = told_one

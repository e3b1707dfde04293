-- Which sessions a card may have, over the applets that are registered: between two commands, and within one.
use Rattle.std.specs.Prelude.{◌≡◌, ◌≢◌, ℕ, ◌≤◌, List, [], ◌∷◌, ◌++◌, length, map, All, AllPairs, Contains, Option, Some, None, IfSome}
use Rattle.card_state.specs.Persistent.{Registration}
use Rattle.toolkit_commands.specs.declared.commands.Proactive.{Proactive}
use Rattle.toolkit_commands.specs.Table.{IsProper, spelled}
use Rattle.toolkit_model.specs.Sessions.{Outstanding, Sent, SessionState}

-- an applet is registered on the shelf
abbrev pub IsRegistered : List Registration → ℕ → Type 0
IsRegistered rows shelf = Contains (map (λ row. row.shelf) rows) shelf

-- the command can be spelled and read back, whatever its number (ETSI TS 102 223, 6.6)
pub record CanBeSent (command : Proactive) : Type 0 where
  pub proper : IsProper command
  pub short : (number : ℕ) → length (spelled command number) ≤ 255

-- a command of this owner, if that is an applet
abbrev pub sent_by : Option ℕ → Proactive → List Sent
sent_by None command = []
sent_by (Some shelf) command = record { shelf = shelf; command = command } ∷ []

-- the command of an applet that is outstanding
abbrev pub owned : Option Outstanding → List Sent
owned None = []
owned (Some out) = sent_by out.owner out.command

-- what applets wait for: the answer to the outstanding command, and then those that wait to be sent
unfoldable pub asks : SessionState → List Sent
asks session = owned session.out ++ session.waiting

-- an applet that waits for an answer is suspended
abbrev pub IsSuspended : SessionState → ℕ → Type 0
IsSuspended session shelf = Contains (map (λ sent. sent.shelf) (asks session)) shelf

-- What holds of a session also within a command: each applet asks at most once, and is registered; what is asked can be
-- sent; late triggers are for registered applets, at most 16; timers belong to registered applets; without a terminal
-- profile nothing is asked.
pub record IsUnderway (rows : List Registration) (session : SessionState) : Type 0 where
  pub apart : AllPairs (λ a b. a.shelf ≢ b.shelf) (asks session)
  pub askers : All (λ sent. IsRegistered rows sent.shelf) (asks session)
  pub sendable : All (λ sent. CanBeSent sent.command) session.waiting
  pub out_sendable : IfSome session.out (λ out. CanBeSent out.command)
  pub late_rows : All (λ trigger. IsRegistered rows trigger.shelf) session.late
  pub few_late : length session.late ≤ 16
  pub timers : All (λ owner. IfSome owner (λ shelf. IsRegistered rows shelf.0)) session.timers
  pub eight_timers : length session.timers ≡ 8
  pub no_profile : session.profile ≡ None → (session.out ≡ None) × (session.waiting ≡ [])

-- Between two commands late triggers are for suspended applets, and commands wait only behind an outstanding one.
pub record IsOrderly (rows : List Registration) (session : SessionState) : Type 0 where
  pub underway : IsUnderway rows session
  pub late : All (λ trigger. IsSuspended session trigger.shelf) session.late
  pub behind : session.out ≡ None → session.waiting ≡ []

-- The commands that move a card's toolkit, and when each is accepted.
use Rattle.std.specs.Prelude.{◌≡◌, ◌≢◌, ℕ, ◌≤◌, ◌<◌, true, false, List, [], ◌∷◌, length, All, AllPairs, count_by, Option, Some, is_some}
use Rattle.card_state.specs.Persistent.{Registration}
use Rattle.card_state.specs.Sections.{with_row, has_text}
use Rattle.toolkit_commands.specs.declared.envelopes.Envelope.{Envelope}
use Rattle.toolkit_commands.specs.declared.responses.Response.{Response as Reply}
use Rattle.applet_trait.specs.Minds.{AppletState}
use Rattle.toolkit_model.specs.Sessions.{Outstanding}
use Rattle.toolkit_model.specs.Orderly.{asks, IsRegistered}
use Rattle.toolkit_model.specs.Passing.{ToolkitState, Woke, Passed, in_turn}
use Rattle.toolkit_model.specs.Registry.{is_taken}
use Rattle.toolkit_model.specs.Running.{mind_on}
use Rattle.toolkit_model.specs.Driving.{is_idle}
use Rattle.toolkit_model.specs.Commands.{profiled, polled, enveloped, is_busy, unfetched, fetched, unanswered, responded, installed, delete_carried, toolkit_woken}

-- Rows that a card may have, as far as the toolkit goes: they stand by their shelves, no two sequence numbers are the same, and
-- the menu has room for their texts.
pub record AreRows (rows : List Registration) : Type 0 where
  pub shelves : AllPairs (λ a b. a.shelf < b.shelf) rows
  pub sequences : AllPairs (λ a b. a.sequence ≢ b.sequence) rows
  pub texts : All (λ row. length row.text ≤ 10) rows
  pub few_texts : count_by has_text rows ≤ 16

-- A command of the handset, with what was read of it, or a wake over rows and applets as they were left: after a reset, and
-- after a failure of the memory or the power.
pub data ToolkitInput : Type 0 where
  Profile : List ℕ → ToolkitInput
  Status : ToolkitInput
  Report : Envelope → ToolkitInput
  Fetch : Outstanding → ToolkitInput
  Respond : Outstanding → Reply → ToolkitInput
  Install : Registration → ToolkitInput
  Delete : ℕ → ToolkitInput
  Wake : List Registration → List (Option AppletState) → ToolkitInput

-- there is an applet on the shelf
abbrev pub HasMind : List (Option AppletState) → ℕ → Type 0
HasMind minds shelf = is_some (mind_on minds shelf) ≡ true

-- each row has its applet
abbrev pub HaveMinds : List Registration → List (Option AppletState) → Type 0
HaveMinds rows minds = All (λ row. HasMind minds row.shelf) rows

-- the command is accepted
abbrev pub IsAccepted : ToolkitInput → ToolkitState → Type 0
IsAccepted (Profile bytes) state = Unit {0}
IsAccepted Status state = Unit {0}
IsAccepted (Report envelope) state = is_busy envelope state ≡ false
IsAccepted (Fetch out) state = unfetched state.session ≡ Some out
IsAccepted (Respond out reply) state = unanswered state.session ≡ Some out
IsAccepted (Install row) state = AreRows (with_row state.rows row) × HasMind state.minds row.shelf × (is_taken state.rows row ≡ false)
IsAccepted (Delete shelf) state = IsRegistered state.rows shelf × (is_idle (asks state.session) shelf ≡ true)
IsAccepted (Wake rows minds) state = AreRows rows × HaveMinds rows minds

-- what it makes of the state
abbrev pub moved : ToolkitInput → ToolkitState → Passed
moved (Profile bytes) state = profiled bytes state
moved Status state = polled state
moved (Report envelope) state = enveloped envelope state
moved (Fetch out) state = fetched out state
moved (Respond out reply) state = responded out reply state
moved (Install row) state = installed row state
moved (Delete shelf) state = delete_carried shelf state
moved (Wake rows minds) state = record { state = toolkit_woken rows minds; log = Woke ∷ [] }

-- commands, one after the other
abbrev pub AreAccepted : List ToolkitInput → ToolkitState → Type 0
AreAccepted [] state = Unit {0}
AreAccepted (command ∷ others) state = IsAccepted command state × AreAccepted others (moved command state).state

-- the toolkit after these commands, and what is noted of them
abbrev pub moved_by : List ToolkitInput → ToolkitState → Passed
moved_by commands state = in_turn moved commands state

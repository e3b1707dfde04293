-- What an INSTALL command that is not refused is to the toolkit.
use Rattle.std.specs.Prelude.{◌≡◌, ℕ, ◌<◌, List, All, Ok}
use Rattle.card_state.specs.Persistent.{Registration, Persistent}
use Rattle.applet_trait.specs.Minds.{kind_on}
use Rattle.toolkit_model.specs.Passing.{ToolkitState}
use Rattle.toolkit_model.specs.Registry.{installed_row}
use Rattle.toolkit_model.specs.Steps.{AreRows, Install, IsAccepted}

-- Where the rows are such, and the next sequence number is above theirs: the row that INSTALL answers may be registered.
abbrev pub InstallationsAreAccepted : Type 0
InstallationsAreAccepted =
    (card : Persistent) (state : ToolkitState) (shelf priority : ℕ) (content : List ℕ) (row : Registration)
    → card.rows ≡ state.rows → AreRows state.rows → All (λ other. other.sequence < card.next_sequence) state.rows
    → installed_row card (kind_on state.minds shelf) shelf priority content ≡ Ok row → IsAccepted (Install row) state

-- The applet of each row is of the kind that the row says.
use Rattle.std.specs.Prelude.{◌≡◌, false, List, All, Option, IfSome}
use Rattle.std.specs.List.{list_any}
use Rattle.card_state.specs.Persistent.{Registration}
use Rattle.applet_trait.specs.Minds.{AppletState}
use Rattle.toolkit_model.specs.Passing.{ToolkitState}
use Rattle.toolkit_model.specs.Running.{mind_on}
use Rattle.toolkit_model.specs.Commands.{toolkit_woken}
use Rattle.toolkit_model.specs.Steps.{ToolkitInput, AreAccepted, moved_by}
use Rattle.toolkit_model.specs.OrderlySessions.{IsInOrder}
use Rattle.toolkit_model.specs.Owing.{is_wake}

-- where there is one on its shelf
abbrev pub AreOfKinds : List Registration → List (Option AppletState) → Type 0
AreOfKinds rows minds = All (λ row. IfSome (mind_on minds row.shelf) (λ mind. mind.kind ≡ row.kind)) rows

-- in this state of the toolkit the applet of each row is of the row's kind
abbrev pub IsOfKinds : ToolkitState → Type 0
IsOfKinds state = AreOfKinds state.rows state.minds

-- it stays so while no applet wakes
abbrev pub KindsStay : Type 0
KindsStay =
    (commands : List ToolkitInput) (state : ToolkitState) → IsInOrder state → AreAccepted commands state → list_any is_wake (moved_by commands state).log ≡ false
    → IsOfKinds state → IsOfKinds (moved_by commands state).state

-- and so it does when all wake
abbrev pub WakesKeepKinds : Type 0
WakesKeepKinds = (rows : List Registration) (minds : List (Option AppletState)) → AreOfKinds rows minds → IsOfKinds (toolkit_woken rows minds)

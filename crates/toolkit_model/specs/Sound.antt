-- What a card keeps of its toolkit, and what a step leaves of it.
use Rattle.std.specs.Prelude.{◌≡◌, ℕ, ◌+◌, ◌≤◌, ◌<◌, Bool, List, length, All, AllPairs, count_by, Option, Ok, IfSome, IsSomeAnd}
use Rattle.card_state.specs.declared.sizes.TheConstants.{MENU_LIMIT}
use Rattle.card_state.specs.Persistent.{Registration, Persistent}
use Rattle.card_state.specs.Sections.{has_text}
use Rattle.card_state.specs.Soundness.{IsSoundRow, AreDifferent}
use Rattle.card_state.specs.AppletKinds.{IsAppletKind}
use Rattle.applet_trait.specs.Minds.{AppletState}
use Rattle.toolkit_model.specs.Orderly.{IsOrderly}
use Rattle.toolkit_model.specs.Passing.{ToolkitState, Passed, passed_rows}
use Rattle.toolkit_model.specs.Registry.{installed_row}
use Rattle.toolkit_model.specs.Running.{mind_on}
use Rattle.toolkit_model.specs.Steps.{ToolkitInput, Install, Wake, IsAccepted, moved}

-- Rows that a card may keep, as its layout asks: on a wide card or not, with sequence numbers below the next one.
pub record AreSoundRows (wide : Bool) (next : ℕ) (rows : List Registration) : Type 0 where
  pub each : All (IsSoundRow wide next) rows
  pub different : AllPairs AreDifferent rows
  pub texts : count_by has_text rows ≤ MENU_LIMIT

-- a registered applet is there on its shelf, and of its row's kind
abbrev pub HasApplet : List (Option AppletState) → Registration → Type 0
HasApplet minds row = IsSomeAnd (mind_on minds row.shelf) (λ mind. mind.kind ≡ row.kind)

-- sound rows, 32 shelves, and an applet for each row
pub record IsSoundToolkit (wide : Bool) (next : ℕ) (rows : List Registration) (minds : List (Option AppletState)) : Type 0 where
  pub rows_are : AreSoundRows wide next rows
  pub shelves : length minds ≡ 32
  pub applets : All (HasApplet minds) rows

-- and a session in order over them
pub record IsGoodToolkit (wide : Bool) (next : ℕ) (state : ToolkitState) : Type 0 where
  pub sound : IsSoundToolkit wide next state.rows state.minds
  pub session : IsOrderly state.rows state.session

-- a row that comes, and rows and applets over which all wake, are such too
abbrev pub BringsSound : Bool → ℕ → ToolkitInput → Type 0
BringsSound wide next (Install row) = IsSoundRow wide next row
BringsSound wide next (Wake rows minds) = IsSoundToolkit wide next rows minds
BringsSound wide next _ = Unit {0}

-- after a step, and in the memory after each of its commits
pub record LeavesGood (wide : Bool) (next : ℕ) (passed : Passed) : Type 0 where
  pub state : IsGoodToolkit wide next passed.state
  pub commits : All (AreSoundRows wide next) (passed_rows passed.log)

-- the next sequence number may rise
abbrev pub StepsLeaveGood : Type 0
StepsLeaveGood =
    (wide : Bool) (next later : ℕ) (command : ToolkitInput) (state : ToolkitState)
    → IsGoodToolkit wide next state → next ≤ later → IsAccepted command state → BringsSound wide later command → LeavesGood wide later (moved command state)

-- the row that INSTALL answers, for one of 32 shelves and with a priority of 1 or more, where the applets are of known kinds
abbrev pub InstalledRowsAreSound : Type 0
InstalledRowsAreSound =
    (card : Persistent) (kind : Option ℕ) (shelf priority : ℕ) (content : List ℕ) (row : Registration)
    → shelf < 32 → 1 ≤ priority → IfSome kind IsAppletKind
    → installed_row card kind shelf priority content ≡ Ok row → IsSoundRow card.is_wide (card.next_sequence + 1) row

-- A toolkit in order between two commands, and a session that was driven.
use Rattle.std.specs.Prelude.{◌≡◌, All, None, []}
use Rattle.toolkit_model.specs.Sessions.{SessionState}
use Rattle.toolkit_model.specs.Orderly.{IsSuspended, IsOrderly}
use Rattle.toolkit_model.specs.Passing.{ToolkitState}
use Rattle.toolkit_model.specs.Steps.{AreRows, HaveMinds}

-- A toolkit in order, as the contracts of cat_commands and card_core ask for it: its rows are as `AreRows` says, its session is
-- in order over them (`IsOrderly`), and each row has an applet.
pub record IsInOrder (state : ToolkitState) : Type 0 where
  pub rows : AreRows state.rows
  pub session : IsOrderly state.rows state.session
  pub minds : HaveMinds state.rows state.minds

-- all late triggers are of applets that wait for an answer, and commands wait only behind an outstanding one
pub record IsDriven (session : SessionState) : Type 0 where
  pub late : All (λ trigger. IsSuspended session trigger.shelf) session.late
  pub behind : session.out ≡ None → session.waiting ≡ []

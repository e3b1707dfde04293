-- What holds of the two queues of a session.
use Rattle.std.specs.Prelude.{◌≤◌, List, length, All}
use Rattle.toolkit_model.specs.Sessions.{Sent, LateTrigger}
use Rattle.toolkit_model.specs.Orderly.{CanBeSent}
use Rattle.toolkit_model.specs.Commands.{late_places}

-- what waits can be sent, and there is room for what came late
pub record AreBounded (waiting : List Sent) (late : List LateTrigger) : Type 0 where
  pub sendable : All (λ sent. CanBeSent sent.command) waiting
  pub few : length late ≤ late_places

use Rattle.std.proofs.Common.{◌≡◌, ◌≤◌, length, take, filter}
use Rattle.toolkit_model.specs.Driving.{download_codes}
use Rattle.proactive_handler.specs.Events.{is_asked_for}
use Rattle.proactive_handler.proofs.wanting.events_for.Given as goal

-- the events among the first codes
abbrev pub invariant-loop-at : goal.invariant-loop-at
invariant-loop-at l = record {
  value : l.events ≡ filter (is_asked_for l.profile l.index) (take l.at download_codes);
  long : length l.events ≤ l.at;
}

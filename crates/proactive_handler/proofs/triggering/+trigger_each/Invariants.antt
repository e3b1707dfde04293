use Rattle.std.proofs.Common.{length}
use Rattle.proactive_handler.proofs.triggering.+trigger_each.Given as goal

abbrev pub decreases-trigger_each : goal.decreases-trigger_each
decreases-trigger_each g l = length l.to.now

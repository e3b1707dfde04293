use Rattle.proactive_handler.proofs.driving.+catch_each.Given as goal

abbrev pub decreases-catch_each : goal.decreases-catch_each
decreases-catch_each g l = l.count

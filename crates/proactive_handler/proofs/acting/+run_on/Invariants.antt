use Rattle.proactive_handler.proofs.acting.+run_on.Given as goal

abbrev pub decreases-run_on : goal.decreases-run_on
decreases-run_on g l = l.acts

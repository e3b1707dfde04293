use Rattle.card_model.proofs.laws.runs_are_counted.Goals as goal
use Rattle.card_model.proofs.IsCountedLemmas.{counts_join, calls_counted, plans_counted}

pub returns-clause-calls : goal.returns-clause-calls
returns-clause-calls c = calls_counted

pub returns-clause-plans : goal.returns-clause-plans
returns-clause-plans c = plans_counted

pub returns-clause-join : goal.returns-clause-join
returns-clause-join c = counts_join

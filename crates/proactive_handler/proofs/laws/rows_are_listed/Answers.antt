use Rattle.proactive_handler.proofs.RowsAreListedLemmas.{rows_listed}
use Rattle.proactive_handler.proofs.laws.rows_are_listed.Goals as goal

pub returns : goal.returns
returns c = rows_listed

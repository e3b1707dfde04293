use Rattle.card_commits.specs.Entries.{with_row_at}
use Rattle.card_commits.proofs.CommittedLemmas.{stopped}
use Rattle.card_commits.proofs.WritingLemmas.{pieces_handed_on}
use Rattle.card_commits.proofs.rows.replace_row.Goals as goal

pub returns-in_err-commit-clause-committed : goal.returns-in_err-commit-clause-committed
returns-in_err-commit-clause-committed g c = λ change commits. stopped _ _ _ _ _ c.from_residual.result c.from_residual.ensures (c.in_err-commit.ensures.committed (record (with_row_at c.args.loaded.now c.args.shelf.0 c.args.row) { next = c.args.next }) change commits)

pub returns-clause-committed : goal.returns-clause-committed
returns-clause-committed g c = λ change commits. rw c.from.ensures (c.in_ok-commit.ensures.committed (record (with_row_at c.args.loaded.now c.args.shelf.0 c.args.row) { next = c.args.next }) change commits)

pub returns-in_err-commit-clause-pieces : goal.returns-in_err-commit-clause-pieces
returns-in_err-commit-clause-pieces g c = pieces_handed_on _ _ _ _ c.from_residual.result c.from_residual.ensures.0 c.in_err-commit.ensures.pieces

use Rattle.std.specs.Prelude.{slice_set}
use Rattle.card_commits.proofs.CommitsOverLemmas.{committed, stopped}
use Rattle.card_commits.proofs.entry_commits.commit_node.Goals as goal

pub returns-in-Ok-clause-committed : goal.returns-in-Ok-clause-committed
returns-in-Ok-clause-committed g c = λ change over.
    committed c.stores_stand.ensures.written _ _ c.args.number c.args.node c.args.from c.args.to change over c.commit_part.ensures.keeps.mark
    (tt {0}) (λ i. record c.args.loaded.now { nodes = slice_set c.args.loaded.now.nodes (c.from.ensures i) (c.shown.ensures i) }) c.in-Ok.ensures.ok c.in-Ok.ensures.keeps.ready c.commit_part.ensures.keeps.size c.requires.mounted.size_is c.commit_part.ensures.keeps.told c.in-Ok.ensures.commits c.commit_part.ensures.keeps.recoveries c.in-Ok.ensures.keeps.cause

pub returns-in-Err-clause-committed : goal.returns-in-Err-clause-committed
returns-in-Err-clause-committed g c = λ change over.
    stopped c.stores_stand.ensures.written _ _ c.args.number c.args.node c.args.from c.args.to change over c.commit_part.ensures.keeps.mark
    c.in-Err.fault c.in-Err.ensures.whole c.commit_part.ensures.keeps.size c.commit_part.ensures.keeps.told c.in-Err.ensures.commits c.commit_part.ensures.keeps.recoveries c.in-Err.ensures.keeps.cause

pub returns-in-Ok-clause-pieces : goal.returns-in-Ok-clause-pieces
returns-in-Ok-clause-pieces g c = record { ok = c.in-Ok.ensures.ok; whole = tt }

pub returns-in-Err-clause-pieces : goal.returns-in-Err-clause-pieces
returns-in-Err-clause-pieces g c = record { ok = tt; whole = c.in-Err.ensures.whole }

use Rattle.std.proofs.Common.{arith, refl}
use Rattle.card_state.specs.Changing.{with_life}
use Rattle.card_state.specs.Changes.{PutLife}
use Rattle.card_commits.specs.Entries.{with_node_at}
use Rattle.card_commits.specs.Writing.{prepared_for}
use Rattle.card_commits.proofs.CommittedLemmas.{stopped}
use Rattle.card_commits.proofs.EntriesLemmas.{number_low, ef_there}
use Rattle.card_commits.proofs.HasRecordLemmas.{one_usable, node_usable, life_long, life_commit}
use Rattle.card_commits.proofs.DescriptorsOfLemmas.{life_told}
use Rattle.card_commits.proofs.WritingLemmas.{writes, handed_on, life_pieces}
use Rattle.card_commits.proofs.files.write_life.Goals as goal

pub node_piece-requires-clause-entry : goal.node_piece-requires-clause-entry
node_piece-requires-clause-entry g c = number_low c.cards_are_known.ensures.files _ _ c.args.loaded.now c.requires.mounted.agrees c.args.number c.node_of.result c.node_of.ensures.there

pub commit-requires-clause-usable : goal.commit-requires-clause-usable
commit-requires-clause-usable g c =
    let low = number_low c.cards_are_known.ensures.files _ _ c.args.loaded.now c.requires.mounted.agrees c.args.number c.node_of.result c.node_of.ensures.there in
    one_usable _ c.node_piece.new.writes c.node_piece.ensures (node_usable c.args.number 6 7 (record c.node_of.result { life = c.args.life }) low (omega arith) (omega arith) (life_long c.args.number (record c.node_of.result { life = c.args.life })))

pub returns-in_err-commit-clause-committed : goal.returns-in_err-commit-clause-committed
returns-in_err-commit-clause-committed g c =
    stopped _ _ _ _ _ c.from_residual.result c.from_residual.ensures (c.in_err-commit.ensures.committed (with_node_at c.args.loaded.now c.args.number (record c.node_of.result { life = c.args.life })) (with_life c.args.number c.args.life) (life_commit _ _ c.args.loaded.now c.args.number c.node_of.result c.node_of.ensures.there c.files_stand.ensures.life c.args.life c.node_piece.new.writes (ef_there c.files_are_found.ensures.number c.args.loaded.now c.args.number c.node_of.result c.node_of.ensures.there c.requires.file) c.requires.life c.node_piece.ensures))

pub returns-clause-committed : goal.returns-clause-committed
returns-clause-committed g c =
    rw c.from.ensures (c.in_ok-commit.ensures.committed (with_node_at c.args.loaded.now c.args.number (record c.node_of.result { life = c.args.life })) (with_life c.args.number c.args.life) (life_commit _ _ c.args.loaded.now c.args.number c.node_of.result c.node_of.ensures.there c.files_stand.ensures.life c.args.life c.node_piece.new.writes (ef_there c.files_are_found.ensures.number c.args.loaded.now c.args.number c.node_of.result c.node_of.ensures.there c.requires.file) c.requires.life c.node_piece.ensures))

pub returns-clause-files : goal.returns-clause-files
returns-clause-files g c = rw c.from.ensures (life_told c.args.loaded.now c.args.number c.args.life c.node_of.result c.node_of.ensures.there (ef_there c.files_are_found.ensures.number c.args.loaded.now c.args.number c.node_of.result c.node_of.ensures.there c.requires.file))

pub returns-in_err-commit-clause-writes : goal.returns-in_err-commit-clause-writes
unfolding prepared_for
returns-in_err-commit-clause-writes g c =
    handed_on _ _ (PutLife c.args.number c.args.life) _ c.from_residual.result c.from_residual.ensures.0
    (writes _ _ _ _ c.args.loaded.now _ (PutLife c.args.number c.args.life) c.requires.mounted.agrees (life_pieces c.args.loaded.now c.args.number c.args.life c.node_of.result _ c.node_of.ensures.value c.node_piece.ensures) (λ content. refl) c.in_err-commit.ensures.pieces)

pub returns-clause-writes : goal.returns-clause-writes
unfolding prepared_for
returns-clause-writes g c = record { ok = (writes _ _ _ _ c.args.loaded.now _ (PutLife c.args.number c.args.life) c.requires.mounted.agrees (life_pieces c.args.loaded.now c.args.number c.args.life c.node_of.result _ c.node_of.ensures.value c.node_piece.ensures) (λ content. refl) c.in_ok-commit.ensures.pieces).ok; whole = tt }

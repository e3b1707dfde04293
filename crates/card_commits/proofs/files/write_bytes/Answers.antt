use Rattle.std.proofs.Common.{length, refl, arith}
use Rattle.card_state.specs.Places.{memory_size}
use Rattle.card_state.specs.Changes.{PutBytes}
use Rattle.card_state.specs.Changing.{with_bytes}
use Rattle.card_commits.specs.Writing.{prepared_for}
use Rattle.card_commits.proofs.WritingLemmas.{writes, bytes_pieces}
use Rattle.card_commits.proofs.EntriesLemmas.{bytes_lie, usable, usable_piece, bytes_commit}
use Rattle.card_commits.proofs.files.write_bytes.Goals as goal

pub overflow_add-node : goal.overflow_add-node
overflow_add-node g c =
    let lie = bytes_lie c.files_are_found.ensures.number c.cards_are_known.ensures.files _ _ c.args.loaded.now c.requires.mounted.agrees c.args.number c.node_of-node.result c.node_of-node.ensures.there c.args.offset (length c.args.bytes.now) c.requires.file in
    omega (arith, lie.at.inside, lie.at.to, c.requires.some)

pub commit-requires-clause-usable : goal.commit-requires-clause-usable
commit-requires-clause-usable g c =
    let lie = bytes_lie c.files_are_found.ensures.number c.cards_are_known.ensures.files _ _ c.args.loaded.now c.requires.mounted.agrees c.args.number c.node_of-node.result c.node_of-node.ensures.there c.args.offset (length c.args.bytes.now) c.requires.file in
    usable_piece _ c.args.bytes.now c.bytes_piece.new.writes memory_size c.bytes_piece.ensures c.requires.some (usable c.node_of-node.result c.args.offset (length c.args.bytes.now) lie.at)

pub returns : goal.returns
unfolding prepared_for
returns g c =
    let lies = bytes_lie c.files_are_found.ensures.number c.cards_are_known.ensures.files _ _ c.args.loaded.now c.requires.mounted.agrees c.args.number c.node_of-node.result c.node_of-node.ensures.there c.args.offset (length c.args.bytes.now) c.requires.file in
    record {
      committed = c.commit.ensures.committed c.args.loaded.now (with_bytes c.args.number c.args.offset c.args.bytes.now)
          (bytes_commit c.files_are_found.ensures.number c.cards_are_known.ensures.files _ _ c.args.loaded.now c.requires.mounted.agrees c.args.number c.node_of-node.result c.node_of-node.ensures.there
          c.what_files_hold_stands.ensures.bytes c.args.offset c.args.bytes.now c.bytes_piece.new.writes c.bytes_piece.ensures lies);
      writes = writes _ _ c.commit.result _ c.args.loaded.now c.bytes_piece.new.writes (PutBytes c.args.number c.args.offset c.args.bytes.now) c.requires.mounted.agrees
          (bytes_pieces c.args.loaded.now c.args.number c.args.offset c.args.bytes.now c.node_of-node.result c.bytes_piece.new.writes c.node_of-node.ensures.value c.bytes_piece.ensures) (λ content. refl) c.commit.ensures.pieces;
    }

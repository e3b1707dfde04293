use Rattle.std.proofs.Common.{length, ◌+◌, ◌*◌, ◌<◌, refl, ◌∙◌, sym, arith}
use Rattle.card_state.specs.Changes.{PutRecord}
use Rattle.card_state.specs.Changing.{with_record}
use Rattle.card_commits.specs.Writing.{prepared_for}
use Rattle.card_commits.proofs.WritingLemmas.{writes, record_pieces}
use Rattle.card_commits.proofs.HasRecordLemmas.{linear_lies, record_usable, record_below, one_usable, record_commit}
use Rattle.card_commits.proofs.files.write_record.Goals as goal

pub overflow_add-place : goal.overflow_add-place
overflow_add-place g c =
    let lies = (linear_lies c.files_are_found.ensures.number c.cards_are_known.ensures.files c.standing_files_hold.ensures.records _ _ c.args.loaded.now c.requires.mounted.agrees c.args.number c.node_of-node.result c.node_of-node.ensures.there c.args.index (length c.args.bytes.now) c.requires.file).lies in
    let below : c.node_of-node.result.place + c.from.result * c.from-2.result < 65536 = rw (c.from.ensures, c.from-2.ensures) (record_below c.node_of-node.result c.args.index lies.have lies.low) in
    omega (arith, below)

pub bytes_piece-requires-clause-few : goal.bytes_piece-requires-clause-few
bytes_piece-requires-clause-few g c =
    let lies = (linear_lies c.files_are_found.ensures.number c.cards_are_known.ensures.files c.standing_files_hold.ensures.records _ _ c.args.loaded.now c.requires.mounted.agrees c.args.number c.node_of-node.result c.node_of-node.ensures.there c.args.index (length c.args.bytes.now) c.requires.file).lies in
    omega (arith, lies.width_is, c.from-2.ensures, c.from-2.type_inv, lies.have.full.width)

pub commit-requires-clause-usable : goal.commit-requires-clause-usable
commit-requires-clause-usable g c =
    let lies = (linear_lies c.files_are_found.ensures.number c.cards_are_known.ensures.files c.standing_files_hold.ensures.records _ _ c.args.loaded.now c.requires.mounted.agrees c.args.number c.node_of-node.result c.node_of-node.ensures.there c.args.index (length c.args.bytes.now) c.requires.file).lies in
    one_usable _ c.bytes_piece.new.writes c.bytes_piece.ensures
    (record { some = omega (arith, lies.width_is, lies.have.full.width); range = rw (c.from.ensures, c.from-2.ensures, sym lies.width_is) (record_usable c.node_of-node.result c.args.index lies.have lies.low) })

pub returns : goal.returns
unfolding prepared_for
returns g c =
    let linear = linear_lies c.files_are_found.ensures.number c.cards_are_known.ensures.files c.standing_files_hold.ensures.records _ _ c.args.loaded.now c.requires.mounted.agrees c.args.number c.node_of-node.result c.node_of-node.ensures.there c.args.index (length c.args.bytes.now) c.requires.file in
    record {
      committed = c.commit.ensures.committed c.args.loaded.now (with_record c.args.number c.args.index c.args.bytes.now)
          (record_commit _ _ c.args.loaded.now c.args.number c.node_of-node.result c.node_of-node.ensures.there c.what_files_hold_stands.ensures.record c.args.index c.args.bytes.now c.bytes_piece.new.writes linear.kind
          linear.lies.low linear.lies.width_is (c.bytes_piece.ensures ∙ rw (c.from.ensures, c.from-2.ensures) refl));
      writes = writes _ _ c.commit.result _ c.args.loaded.now c.bytes_piece.new.writes (PutRecord c.args.number c.args.index c.args.bytes.now) c.requires.mounted.agrees
          (record_pieces c.args.loaded.now c.args.number c.args.index c.args.bytes.now c.node_of-node.result c.bytes_piece.new.writes c.node_of-node.ensures.value (c.bytes_piece.ensures ∙ rw (c.from.ensures, c.from-2.ensures) refl)) (λ content. refl) c.commit.ensures.pieces;
    }

-- The oldest record lies in the memory as the ring's records fill its file; with the moved head it is one commit of a new record 1.
use Rattle.std.proofs.Common.{length, ◌+◌, ◌*◌, ◌<◌, refl, ◌∙◌, sym, ap, subst, arith}
use Rattle.store_form.specs.Pieces.{IsUsable}
use Rattle.card_state.specs.declared.entries.Node.{Node}
use Rattle.card_state.specs.Places.{memory_size}
use Rattle.card_state.specs.Changing.{with_newest_record}
use Rattle.card_state.specs.Changes.{PutNewest}
use Rattle.card_commits.specs.Entries.{with_node_at}
use Rattle.card_commits.specs.Writing.{prepared_for}
use Rattle.card_commits.proofs.CommittedLemmas.{stopped}
use Rattle.card_commits.proofs.HasRecordLemmas.{ring_lies, record_usable, record_below, two_usable, node_usable, head_long, newest_commit, oldest_low}
use Rattle.card_commits.proofs.EntriesLemmas.{number_low}
use Rattle.card_commits.proofs.DescriptorsOfLemmas.{head_untold}
use Rattle.card_commits.proofs.WritingLemmas.{writes, handed_on, newest_pieces}
use Rattle.card_commits.proofs.files.write_newest_record.Goals as goal

pub with_head_moved-node-requires-clause-width : goal.with_head_moved-node-requires-clause-width
with_head_moved-node-requires-clause-width g c = (ring_lies c.files_are_found.ensures.number c.cards_are_known.ensures.files c.standing_files_hold.ensures.records _ _ c.args.loaded.now c.requires.mounted.agrees c.args.number c.node_of.result c.node_of.ensures.there (length c.args.bytes.now) c.requires.file).have.full.width

pub with_head_moved-node-requires-clause-some : goal.with_head_moved-node-requires-clause-some
with_head_moved-node-requires-clause-some g c = (ring_lies c.files_are_found.ensures.number c.cards_are_known.ensures.files c.standing_files_hold.ensures.records _ _ c.args.loaded.now c.requires.mounted.agrees c.args.number c.node_of.result c.node_of.ensures.there (length c.args.bytes.now) c.requires.file).have.full.some

pub with_head_moved-node-requires-clause-few : goal.with_head_moved-node-requires-clause-few
with_head_moved-node-requires-clause-few g c = (ring_lies c.files_are_found.ensures.number c.cards_are_known.ensures.files c.standing_files_hold.ensures.records _ _ c.args.loaded.now c.requires.mounted.agrees c.args.number c.node_of.result c.node_of.ensures.there (length c.args.bytes.now) c.requires.file).have.full.few

pub overflow_add-place : goal.overflow_add-place
overflow_add-place g c =
    let ring = ring_lies c.files_are_found.ensures.number c.cards_are_known.ensures.files c.standing_files_hold.ensures.records _ _ c.args.loaded.now c.requires.mounted.agrees c.args.number c.node_of.result c.node_of.ensures.there (length c.args.bytes.now) c.requires.file in
    let below : c.with_head_moved-node.result.place + c.from.result * c.from-2.result < 65536 =
    rw (c.from.ensures, c.from-2.ensures)
    (subst (λ (moved : Node). moved.place + moved.head * moved.length < 65536) (sym c.with_head_moved-node.ensures) (record_below c.node_of.result _ ring.have (oldest_low c.node_of.result ring.have))) in
    omega (arith, below)

pub newest_pieces-requires-clause-entry : goal.newest_pieces-requires-clause-entry
newest_pieces-requires-clause-entry g c = number_low c.cards_are_known.ensures.files _ _ c.args.loaded.now c.requires.mounted.agrees c.args.number c.node_of.result c.node_of.ensures.there

pub newest_pieces-requires-clause-few : goal.newest_pieces-requires-clause-few
newest_pieces-requires-clause-few g c =
    let ring = ring_lies c.files_are_found.ensures.number c.cards_are_known.ensures.files c.standing_files_hold.ensures.records _ _ c.args.loaded.now c.requires.mounted.agrees c.args.number c.node_of.result c.node_of.ensures.there (length c.args.bytes.now) c.requires.file in
    omega (arith, ring.width_is, c.from-2.ensures, c.from-2.type_inv, ap (λ (n : Node). n.length) c.with_head_moved-node.ensures)

pub commit-requires-clause-usable : goal.commit-requires-clause-usable
commit-requires-clause-usable g c =
    let ring = ring_lies c.files_are_found.ensures.number c.cards_are_known.ensures.files c.standing_files_hold.ensures.records _ _ c.args.loaded.now c.requires.mounted.agrees c.args.number c.node_of.result c.node_of.ensures.there (length c.args.bytes.now) c.requires.file in
    let low = number_low c.cards_are_known.ensures.files _ _ c.args.loaded.now c.requires.mounted.agrees c.args.number c.node_of.result c.node_of.ensures.there in
    let range : IsUsable memory_size (c.with_head_moved-node.result.place + c.with_head_moved-node.result.head * c.with_head_moved-node.result.length) c.with_head_moved-node.result.length =
    subst (λ (moved : Node). IsUsable memory_size (moved.place + moved.head * moved.length) moved.length) (sym c.with_head_moved-node.ensures) (record_usable c.node_of.result _ ring.have (oldest_low c.node_of.result ring.have)) in
    let width = ap (λ (n : Node). n.length) c.with_head_moved-node.ensures ∙ ring.width_is in
    two_usable _ _ c.newest_pieces.new.writes c.newest_pieces.ensures
    (record { some = omega (arith, ring.width_is, ring.have.full.width); range = rw (c.from.ensures, c.from-2.ensures, sym width) range })
    (node_usable c.args.number 15 16 c.with_head_moved-node.result low (omega arith) (omega arith) (head_long c.args.number c.with_head_moved-node.result))

pub returns-in_err-commit-clause-committed : goal.returns-in_err-commit-clause-committed
returns-in_err-commit-clause-committed g c =
    let ring = ring_lies c.files_are_found.ensures.number c.cards_are_known.ensures.files c.standing_files_hold.ensures.records _ _ c.args.loaded.now c.requires.mounted.agrees c.args.number c.node_of.result c.node_of.ensures.there (length c.args.bytes.now) c.requires.file in
    stopped _ _ _ _ _ c.from_residual.result c.from_residual.ensures
    (c.in_err-commit.ensures.committed (with_node_at c.args.loaded.now c.args.number c.with_head_moved-node.result) (with_newest_record c.args.number c.args.bytes.now)
    (newest_commit _ _ c.args.loaded.now c.args.number c.node_of.result c.node_of.ensures.there c.what_files_hold_stands.ensures.newest c.args.bytes.now c.newest_pieces.new.writes c.with_head_moved-node.result _
    ring.kind ring.width_is c.with_head_moved-node.ensures (rw (c.from.ensures, c.from-2.ensures) refl) c.newest_pieces.ensures))

pub returns-clause-committed : goal.returns-clause-committed
returns-clause-committed g c =
    let ring = ring_lies c.files_are_found.ensures.number c.cards_are_known.ensures.files c.standing_files_hold.ensures.records _ _ c.args.loaded.now c.requires.mounted.agrees c.args.number c.node_of.result c.node_of.ensures.there (length c.args.bytes.now) c.requires.file in
    rw c.from-3.ensures
    (c.in_ok-commit.ensures.committed (with_node_at c.args.loaded.now c.args.number c.with_head_moved-node.result) (with_newest_record c.args.number c.args.bytes.now)
    (newest_commit _ _ c.args.loaded.now c.args.number c.node_of.result c.node_of.ensures.there c.what_files_hold_stands.ensures.newest c.args.bytes.now c.newest_pieces.new.writes c.with_head_moved-node.result _
    ring.kind ring.width_is c.with_head_moved-node.ensures (rw (c.from.ensures, c.from-2.ensures) refl) c.newest_pieces.ensures))

pub returns-clause-files : goal.returns-clause-files
returns-clause-files g c = rw (c.from-3.ensures, c.with_head_moved-node.ensures) (head_untold c.args.loaded.now c.args.number c.node_of.result c.node_of.ensures.there)

pub returns-in_err-commit-clause-writes : goal.returns-in_err-commit-clause-writes
unfolding prepared_for
returns-in_err-commit-clause-writes g c =
    handed_on _ _ (PutNewest c.args.number c.args.bytes.now) _ c.from_residual.result c.from_residual.ensures.0
    (writes _ _ _ _ c.args.loaded.now _ (PutNewest c.args.number c.args.bytes.now) c.requires.mounted.agrees (newest_pieces c.args.loaded.now c.args.number _ c.args.bytes.now c.node_of.result c.with_head_moved-node.result _ c.node_of.ensures.value c.with_head_moved-node.ensures (rw (c.from.ensures, c.from-2.ensures) refl) c.newest_pieces.ensures) (λ content. refl) c.in_err-commit.ensures.pieces)

pub returns-clause-writes : goal.returns-clause-writes
unfolding prepared_for
returns-clause-writes g c = record { ok = (writes _ _ _ _ c.args.loaded.now _ (PutNewest c.args.number c.args.bytes.now) c.requires.mounted.agrees (newest_pieces c.args.loaded.now c.args.number _ c.args.bytes.now c.node_of.result c.with_head_moved-node.result _ c.node_of.ensures.value c.with_head_moved-node.ensures (rw (c.from.ensures, c.from-2.ensures) refl) c.newest_pieces.ensures) (λ content. refl) c.in_ok-commit.ensures.pieces).ok; whole = tt }

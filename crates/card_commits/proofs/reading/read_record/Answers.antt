use Rattle.std.proofs.Common.{length, slice_range, slice_index_or, ◌≡◌, ◌+◌, [], ◌∙◌, sym}
use Rattle.std.proofs.lemmas.Result.{on_ok_weaker}
use Rattle.file_model.specs.Holdings.{records_in}
use Rattle.card_commits.proofs.HeldByLemmas.{held_known}
use Rattle.card_commits.proofs.HasRecordLemmas.{record_lies, record_usable, record_read, ring_below}
use Rattle.card_commits.proofs.reading.read_record.Goals as goal

pub place_of_record-requires-clause-width : goal.place_of_record-requires-clause-width
place_of_record-requires-clause-width g c =
    (record_lies c.files_are_found.ensures.number c.cards_are_known.ensures.files c.standing_files_hold.ensures.records _ _ c.args.loaded.now c.requires.mounted.agrees c.args.number c.node_of-node.result c.node_of-node.ensures.there c.args.index (length c.args.out.now) c.requires.file).have.full.width

pub place_of_record-requires-clause-some : goal.place_of_record-requires-clause-some
place_of_record-requires-clause-some g c =
    (record_lies c.files_are_found.ensures.number c.cards_are_known.ensures.files c.standing_files_hold.ensures.records _ _ c.args.loaded.now c.requires.mounted.agrees c.args.number c.node_of-node.result c.node_of-node.ensures.there c.args.index (length c.args.out.now) c.requires.file).have.full.some

pub read-requires-clause-usable : goal.read-requires-clause-usable
read-requires-clause-usable g c =
    let lies = record_lies c.files_are_found.ensures.number c.cards_are_known.ensures.files c.standing_files_hold.ensures.records _ _ c.args.loaded.now c.requires.mounted.agrees c.args.number c.node_of-node.result c.node_of-node.ensures.there c.args.index (length c.args.out.now) c.requires.file in
    rw (c.requires.mounted.size_is, c.place_of_record.ensures, sym lies.width_is) (record_usable c.node_of-node.result _ lies.have (ring_below c.node_of-node.result c.args.index lies.have))

pub returns-clause-read : goal.returns-clause-read
returns-clause-read g c =
    let lies = record_lies c.files_are_found.ensures.number c.cards_are_known.ensures.files c.standing_files_hold.ensures.records _ _ c.args.loaded.now c.requires.mounted.agrees c.args.number c.node_of-node.result c.node_of-node.ensures.there c.args.index (length c.args.out.now) c.requires.file in
    let agrees = c.requires.mounted.agrees in
    on_ok_weaker c.read.result
    (λ told.
    held_known c.stores_stand.ensures.known c.cards_are_known.ensures.table _ c.args.loaded.now _ agrees
    (λ held. c.read.new.out ≡ slice_range held c.place_of_record.result (c.place_of_record.result + length c.args.out.now))
    (λ state. c.read.new.out ≡ slice_index_or (records_in state c.args.number) c.args.index [])
    (λ is.
    is
    ∙ rw c.place_of_record.ensures
    (record_read c.files_are_found.ensures.number c.cards_are_known.ensures.files c.standing_files_hold.ensures.records _ _ c.args.loaded.now agrees c.args.number c.node_of-node.result c.node_of-node.ensures.there
    c.what_files_hold_is_read.ensures.record c.what_files_hold_is_read.ensures.ring c.args.index (length c.args.out.now) lies))
    told)
    c.read.ensures.ok

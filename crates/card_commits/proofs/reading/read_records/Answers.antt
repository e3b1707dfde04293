use Rattle.std.proofs.Common.{◌+◌, ◌*◌, ◌≡◌, ℕ, length, slice_range, refl, ap, ◌∙◌}
use Rattle.std.proofs.lemmas.Result.{on_ok_weaker}
use Rattle.file_model.specs.Files.{descriptors_of}
use Rattle.card_commits.specs.Reading.{StandInARow}
use Rattle.card_commits.proofs.HeldByLemmas.{held_known}
use Rattle.card_commits.proofs.InARowLemmas.{row_lies, row_usable, row_read}
use Rattle.card_commits.proofs.reading.read_records.Goals as goal

pub read-requires-clause-usable : goal.read-requires-clause-usable
read-requires-clause-usable g c =
    let lies = row_lies c.files_are_found.ensures.number c.cards_are_known.ensures.files c.standing_files_hold.ensures.records _ _ c.args.loaded.now c.requires.mounted.agrees c.args.number c.node_of-node.result c.node_of-node.ensures.there c.args.index (length c.args.out.now) c.requires.file in
    rw (c.requires.mounted.size_is, c.from.ensures, c.from-2.ensures, c.from-3.ensures)
    (row_usable c.files_are_found.ensures.number c.cards_are_known.ensures.files c.standing_files_hold.ensures.records _ _ c.args.loaded.now c.requires.mounted.agrees c.args.number c.node_of-node.result c.node_of-node.ensures.there c.args.index (length c.args.out.now) lies)

pub returns-clause-read : goal.returns-clause-read
returns-clause-read g c =
    let lies = row_lies c.files_are_found.ensures.number c.cards_are_known.ensures.files c.standing_files_hold.ensures.records _ _ c.args.loaded.now c.requires.mounted.agrees c.args.number c.node_of-node.result c.node_of-node.ensures.there c.args.index (length c.args.out.now) c.requires.file in
    let agrees = c.requires.mounted.agrees in
    let at = c.from.result + c.from-2.result * c.from-3.result in
    let place : at ≡ c.node_of-node.result.place + c.args.index * c.node_of-node.result.length = rw (c.from.ensures, c.from-2.ensures, c.from-3.ensures) refl in
    on_ok_weaker c.read.result
    (λ told.
    held_known c.stores_stand.ensures.known c.cards_are_known.ensures.table _ c.args.loaded.now _ agrees
    (λ held. c.read.new.out ≡ slice_range held at (at + length c.args.out.now))
    (λ state. StandInARow state (descriptors_of c.args.loaded.now) c.args.number c.args.index c.read.new.out)
    (λ is.
    row_read c.files_are_found.ensures.number c.cards_are_known.ensures.files c.standing_files_hold.ensures.records _ _ c.args.loaded.now agrees c.args.number c.node_of-node.result c.node_of-node.ensures.there
    c.what_files_hold_is_read.ensures.record c.what_files_hold_is_read.ensures.ring c.args.index (length c.args.out.now) lies c.read.new.out
    (is ∙ ap (λ (n : ℕ). slice_range agrees.content n (n + length c.args.out.now)) place))
    told)
    c.read.ensures.ok

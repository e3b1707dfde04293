use Rattle.std.proofs.Common.{◌+◌, ◌≡◌, ℕ, length, take, drop, slice_range, ◌∙◌}
use Rattle.std.proofs.lemmas.Result.{on_ok_weaker}
use Rattle.file_model.specs.Holdings.{bytes_in}
use Rattle.card_commits.proofs.EntriesLemmas.{bytes_lie, usable}
use Rattle.card_commits.proofs.HeldByLemmas.{held_known, bytes_read}
use Rattle.card_commits.proofs.reading.read_bytes.Goals as goal

pub read-requires-clause-usable : goal.read-requires-clause-usable
read-requires-clause-usable g c =
    let lie = bytes_lie c.files_are_found.ensures.number c.cards_are_known.ensures.files _ _ c.args.loaded.now c.requires.mounted.agrees c.args.number c.node_of-node.result c.node_of-node.ensures.there c.args.offset (length c.args.out.now) c.requires.file in
    rw (c.requires.mounted.size_is, c.from.ensures, c.from-2.ensures) (usable c.node_of-node.result c.args.offset (length c.args.out.now) lie.at)

pub returns-clause-read : goal.returns-clause-read
returns-clause-read g c =
    let lie = bytes_lie c.files_are_found.ensures.number c.cards_are_known.ensures.files _ _ c.args.loaded.now c.requires.mounted.agrees c.args.number c.node_of-node.result c.node_of-node.ensures.there c.args.offset (length c.args.out.now) c.requires.file in
    let agrees = c.requires.mounted.agrees in
    let at : ℕ = c.from.result + c.from-2.result in
    on_ok_weaker c.read.result
    (λ told.
    held_known c.stores_stand.ensures.known c.cards_are_known.ensures.table _ c.args.loaded.now _ agrees (λ held. c.read.new.out ≡ slice_range held at (at + length c.args.out.now))
    (λ state. c.read.new.out ≡ take (length c.args.out.now) (drop c.args.offset (bytes_in state c.args.number)))
    (λ is.
    is
    ∙ rw (c.from.ensures, c.from-2.ensures)
    (bytes_read c.cards_are_known.ensures.files _ agrees.content c.args.loaded.now agrees.state agrees.stands c.args.number c.node_of-node.result c.node_of-node.ensures.there
    c.what_files_hold_is_read.ensures.bytes c.args.offset (length c.args.out.now) lie.kind lie.at.inside))
    told)
    c.read.ensures.ok

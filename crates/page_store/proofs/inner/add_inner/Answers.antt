-- For a piece of mapped pages their entries in the map are written: two bytes a page from 832 on, of which page 13 has the first.
use Rattle.std.proofs.Common.{◌++◌, ◌∷◌, ◌+◌, ◌-◌, ◌*◌, ◌/◌, [], length, ap, ◌∙◌, arith}
use Rattle.store_form.specs.Pieces.{Piece}
use Rattle.page_store.proofs.InnerPieceLemmas.{bytes_from, high_piece}
use Rattle.page_store.proofs.inner.add_inner.Goals as goal

pub returns-else-start-lt-OWN_START-clause-value : goal.returns-else-start-lt-OWN_START-clause-value
returns-else-start-lt-OWN_START-clause-value c =
    let piece : Piece = record { place = c.args.place; bytes = c.args.bytes.now } in
    c.add-else-start-lt-OWN_START.ensures ∙ ap (λ (p : Piece). c.args.inner.now ++ p ∷ [])
    (high_piece c.args.table.now c.requires.pool piece c.requires.usable (omega (arith, c.from-start.ensures, c.if-start-lt-OWN_START.false)) (832 + 2 * (c.from-start.result / 64 - 13)) c.as_slice.result.now
    (ap (λ n. 832 + 2 * (n / 64 - 13)) c.from-start.ensures) (c.as_slice.ensures.value ∙ c.spelled-entries.ensures ∙ ap (λ n. bytes_from c.args.table.now.entries n (length c.args.bytes.now)) c.from-start.ensures))

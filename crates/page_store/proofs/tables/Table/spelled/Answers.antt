use Rattle.std.proofs.Common.{get_or, ◌≡◌, ◌++◌, List, ℕ, length, sym, ap, ◌∙◌, arith, slice_range}
use Rattle.std.specs.Int.{w16, to_be_bytes}
use Rattle.page_store.specs.Tables.{Kept}
use Rattle.page_store.proofs.EntriesPieceLemmas.{bytes_of}
use Rattle.page_store.proofs.InnerPieceLemmas.{entries_more, length_so_far}
use Rattle.page_store.proofs.tables.Table.spelled.Goals as goal

pub add_entry-requires : goal.add_entry-requires
add_entry-requires c =
    let long : length c.args.self.now.entries ≡ 1011 = c.requires.pool.count in
    omega (arith, ap (λ (l : List ℕ). length l) c.loop-k.invariant, length_so_far c.args.self.now.entries c.args.first c.loop-k.k c.loop-k.auto.k (omega (arith, c.loop-k-test.true, c.requires.inside)), c.requires.few, c.loop-k-test.true, c.loop-k.auto.k)

pub loop-k-preserved : goal.loop-k-preserved
loop-k-preserved c =
    let long : length c.args.self.now.entries ≡ 1011 = c.requires.pool.count in
    let first = c.args.first in
    let k = c.loop-k.k in
    c.add_entry.ensures ∙ ap (λ (l : List ℕ). l ++ to_be_bytes w16 (get_or c.self.inside.entries k 0)) c.loop-k.invariant
    ∙ ap (λ (kept : Kept). bytes_of (slice_range c.args.self.now.entries first k) ++ to_be_bytes w16 (get_or kept.entries k 0)) c.self.view_is
    ∙ sym (entries_more c.args.self.now.entries first k c.loop-k.auto.k (omega (arith, c.loop-k-test.true, c.requires.inside)))

use Rattle.std.proofs.Common.{◌≡◌, List, replicate, ap, rules}
use Rattle.list_laws.proofs.MapLemmas.{all_alike}
use Rattle.card_state.specs.declared.entries.Row.{Row}
use Rattle.card_state.specs.Blank.{unused_row}
use Rattle.card_state.specs.Persistent.{Registration}
use Rattle.layout_section.specs.Adding.{RowList}
use Rattle.layout_section.proofs.RowTablesLemmas.{rows_in_none, no_rows}
use Rattle.layout_section.proofs.rows.Rows.new.Goals as goal

pub invariant_of-result : goal.invariant_of-result
invariant_of-result c =
    let rows : List Row = c.from_fn.result in
    let unused : rows ≡ replicate 32 unused_row = all_alike c.from_fn.result 32 unused_row c.from_fn.ensures.items.long (λ k d below. let h = (c.from_fn.ensures.items.at k d below).2 in search (rules, h)) in
    no_rows c.from_fn.result unused

pub returns : goal.returns
returns c =
    let rows : List Row = c.from_fn.result in
    let unused : rows ≡ replicate 32 unused_row = all_alike c.from_fn.result 32 unused_row c.from_fn.ensures.items.long (λ k d below. let h = (c.from_fn.ensures.items.at k d below).2 in search (rules, h)) in
    ap (λ (list : List Registration). let known : RowList = record { list = list; next = 0 } in known) (rows_in_none c.from_fn.result unused)

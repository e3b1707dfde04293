use Rattle.std.proofs.Common.{◌≡◌, ◌∙◌, sym, ap, arith, not, ◌==◌, slice_index_or}
use Rattle.std.specs.List.{list_any}
use Rattle.layout_section.specs.Adding.{RowList}
use Rattle.layout_section.proofs.RowTablesLemmas.{shelf_taken}
use Rattle.layout_section.proofs.rows.Rows.is_free.Goals as goal

pub returns : goal.returns
returns c =
    let same : c.from.result ≡ c.args.shelf.0 = omega arith in
    ap (λ n. not (slice_index_or c.self.inside.rows n c.index-self-from.result).used) same
    ∙ ap not (sym (shelf_taken c.self.inside.rows c.args.shelf.0 c.index-self-from.result (omega arith)))
    ∙ ap (λ (rows : RowList). not (list_any (λ row. row.shelf == c.args.shelf.0) rows.list)) c.self.view_is

use Rattle.std.proofs.Common.{◌∙◌, sym, ap}
use Rattle.std.specs.List.{list_any}
use Rattle.card_state.specs.Sections.{needs_wide}
use Rattle.layout_section.specs.Adding.{RowList}
use Rattle.layout_section.proofs.RowTablesLemmas.{rows_want_wide}
use Rattle.layout_section.proofs.rows.Rows.need_wide.Goals as goal

pub returns : goal.returns
returns c = c.some_wide_row.ensures ∙ sym (rows_want_wide c.self.inside.rows) ∙ ap (λ (rows : RowList). list_any needs_wide rows.list) c.self.view_is

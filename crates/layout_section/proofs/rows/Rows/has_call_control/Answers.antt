use Rattle.std.proofs.Common.{◌∙◌, sym, ap}
use Rattle.std.specs.List.{list_any}
use Rattle.card_state.specs.Sections.{is_call_control}
use Rattle.layout_section.specs.Adding.{RowList}
use Rattle.layout_section.proofs.RowTablesLemmas.{rows_control}
use Rattle.layout_section.proofs.rows.Rows.has_call_control.Goals as goal

pub returns : goal.returns
returns c = c.some_controls_calls.ensures ∙ sym (rows_control c.self.inside.rows) ∙ ap (λ (rows : RowList). list_any is_call_control rows.list) c.self.view_is

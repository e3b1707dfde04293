use Rattle.std.proofs.Common.{◌∙◌, sym, ap, count_by}
use Rattle.card_state.specs.Sections.{has_text}
use Rattle.layout_section.specs.Adding.{RowList}
use Rattle.layout_section.proofs.RowTablesLemmas.{rows_show}
use Rattle.layout_section.proofs.rows.Rows.text_count.Goals as goal

pub returns : goal.returns
returns c = c.shown_texts.ensures ∙ sym (rows_show c.self.inside.rows) ∙ ap (λ (rows : RowList). count_by has_text rows.list) c.self.view_is

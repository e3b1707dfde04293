use Rattle.std.proofs.Common.{List, get_or, ap, subst, ◌∙◌}
use Rattle.std.proofs.lemmas.List.{get_or-take, get_or-drop, take_rest}
use Rattle.card_state.specs.declared.entries.Row.{Row}
use Rattle.card_state.specs.Blank.{unused_row}
use Rattle.layout_entries.specs.Spelling.{row_spelled}
use Rattle.layout_section.specs.Adding.{RowList}
use Rattle.layout_section.specs.RowTables.{AreRowsOf}
use Rattle.layout_section.proofs.RowTablesLemmas.{kept_short}
use Rattle.layout_section.proofs.rows.Rows.spelled.Goals as goal

pub spell_kept-requires-clause-kept : goal.spell_kept-requires-clause-kept
spell_kept-requires-clause-kept c = kept_short c.self.inside.rows c.self.inside.next c.self.invariant

pub returns : goal.returns
returns c = record {
  rows = c.self.inside.rows;
  are = subst (λ (list : RowList). AreRowsOf c.self.inside.rows list.next) c.self.view_is c.self.invariant;
  is = ap (λ (list : RowList). list.list) c.self.view_is;
  low = λ k below. c.spell_rows.ensures k below ∙ ap row_spelled (get_or-take 16 c.self.inside.rows k unused_row below);
  high = λ k below. c.spell_rows-2.ensures k below ∙ ap row_spelled (ap (λ (l : List Row). get_or l k unused_row) (take_rest c.self.inside.rows 16) ∙ get_or-drop 16 c.self.inside.rows k unused_row);
  more = c.spell_kept.ensures;
}

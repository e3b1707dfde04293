use Rattle.std.proofs.Common.{refl, sym, ◌∙◌, arith}
use Rattle.std.proofs.lemmas.Bool.Decides.{nat_tests}
use Rattle.cat_commands.proofs.TriggersLemmas.{selected_there, selected_none, selected_zero}
use Rattle.cat_commands.proofs.triggers.selected_of.Goals.{else-item-gt0-via-then-item-gt0+else-has_item, else-item-gt0-via-else-item-gt0}
use Rattle.cat_commands.proofs.triggers.selected_of.Goals as goal

pub returns-then-has_item-clause-value : goal.returns-then-has_item-clause-value
returns-then-has_item-clause-value c =
    c.one.ensures ∙ sym (selected_there c.states_are_of_entries.ensures.rows c.states_are_of_entries.ensures.tables c.args.loaded.now c.requires.listed.shelves c.args.item _ (grind (arith, nat_tests, c.if-item-gt0.true)) refl (sym c.if-has_item.ensures))

pub returns-else-item-gt0-clause-value : goal.returns-else-item-gt0-clause-value
returns-else-item-gt0-clause-value c =
    c.new.ensures ∙ elim c.else-item-gt0.branch [
      | else-item-gt0-via-then-item-gt0+else-has_item w ↦ sym (selected_none c.states_are_of_entries.ensures.rows c.states_are_of_entries.ensures.tables c.args.loaded.now c.requires.listed.shelves c.args.item _ (grind (arith, nat_tests, w.if-item-gt0.true)) refl (sym w.if-has_item.ensures))
      | else-item-gt0-via-else-item-gt0 w ↦ sym (selected_zero c.states_are_of_entries.ensures.rows c.states_are_of_entries.ensures.tables c.args.loaded.now c.requires.listed.shelves c.args.item (grind (arith, nat_tests, w.if-item-gt0.false)))
    ]

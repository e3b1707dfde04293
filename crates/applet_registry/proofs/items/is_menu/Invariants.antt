use Rattle.std.proofs.Common.{◌≡◌, drop, ◌↔◌}
use Rattle.card_state.specs.States.{rows_of}
use Rattle.toolkit_model.specs.Registry.{menu_of}
use Rattle.applet_registry.proofs.RowsOfLemmas.{items_from}
use Rattle.applet_registry.proofs.items.is_menu.Given as goal

-- the items are the menu where those that are left are those of the rows that are left
abbrev pub invariant-loop-shelf : goal.invariant-loop-shelf
invariant-loop-shelf l = (l.items ≡ menu_of (rows_of l.loaded)) ↔ (l.rest ≡ items_from l.shelf (drop l.shelf l.loaded.rows))

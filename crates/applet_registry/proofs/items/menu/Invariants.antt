use Rattle.std.proofs.Common.{◌≡◌, ◌++◌, drop}
use Rattle.card_state.specs.States.{rows_of}
use Rattle.toolkit_model.specs.Registry.{menu_of}
use Rattle.applet_registry.proofs.RowsOfLemmas.{items_from}
use Rattle.applet_registry.proofs.items.menu.Given as goal

-- the items so far and those of the rows that are left come to the whole menu
abbrev pub invariant-loop-shelf : goal.invariant-loop-shelf
invariant-loop-shelf l = l.items ++ items_from l.shelf (drop l.shelf l.loaded.rows) ≡ menu_of (rows_of l.loaded)

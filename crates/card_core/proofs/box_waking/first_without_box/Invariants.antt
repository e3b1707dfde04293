-- The rows of the shelves that were passed have their boxes, and the boxes on them are of known kinds.
use Rattle.std.proofs.Common.{◌≡◌, ℕ, ◌<◌, false, Some, None, slice_get, get_or, IfSome}
use Rattle.card_state.specs.declared.entries.Row.{Row}
use Rattle.applet_trait.specs.Minds.{minds_of}
use Rattle.card_model.specs.States.{IsOfKnownKind}
use Rattle.card_core.specs.Boxes.{lacks_box}
use Rattle.card_core.proofs.box_waking.first_without_box.Given as goal

abbrev pub invariant-loop-shelf : goal.invariant-loop-shelf
invariant-loop-shelf g l =
    ((shelf : ℕ) (row : Row) → shelf < l.shelf → slice_get l.loaded.rows shelf ≡ Some row → lacks_box row (get_or (minds_of g.B.Applet.mind l.boxes) shelf None) ≡ false)
    × ((shelf : ℕ) → shelf < l.shelf → IfSome (get_or (minds_of g.B.Applet.mind l.boxes) shelf None) IsOfKnownKind)

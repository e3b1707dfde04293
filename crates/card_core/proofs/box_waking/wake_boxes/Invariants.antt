-- The boxes of the shelves that were passed are woken, and the others stand as they were.
use Rattle.std.proofs.Common.{◌≡◌, take, drop, ◌++◌}
use Rattle.card_state.specs.States.{rows_of}
use Rattle.applet_trait.specs.Minds.{minds_of}
use Rattle.toolkit_model.specs.Commands.{woken_boxes}
use Rattle.card_core.proofs.box_waking.wake_boxes.Given as goal

abbrev pub invariant-loop-shelf : goal.invariant-loop-shelf
invariant-loop-shelf g l =
    minds_of g.B.Applet.mind l.boxes ≡ take l.shelf (woken_boxes (rows_of l.loaded) (minds_of g.B.Applet.mind l.initial.boxes)) ++ drop l.shelf (minds_of g.B.Applet.mind l.initial.boxes)

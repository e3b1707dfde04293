-- The applets of the shelves that were passed are made.
use Rattle.std.proofs.Common.{◌≡◌, length, map}
use Rattle.std.specs.List.{range_with_len}
use Rattle.applet_trait.specs.Minds.{minds_of}
use Rattle.applet_trait.specs.contracts.boxes.BoxDynAppletApplet.TheImpl.{mind-value}
use Rattle.boxed_applets.specs.Casts.{applet_on}
use Rattle.uicc_program.proofs.serve.OwnLists.{own-1, lawful-own-1}
use Rattle.uicc_program.proofs.serve.Given as goal

abbrev pub invariant-loop-shelf : goal.invariant-loop-shelf
invariant-loop-shelf g l =
    (minds_of (mind-value (own-1, lawful-own-1)).it l.cast.items ≡ map applet_on (range_with_len 0 l.shelf)) × (length l.cast.items ≡ l.shelf)

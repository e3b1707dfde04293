-- What the channels are once the selection of one was lent and is given back.
use Rattle.std.specs.Prelude.{ℕ, List, Option, Some, slice_set}
use Rattle.std.specs.Borrow.{Lends, MutBor, Fml}
use Rattle.file_model.specs.declared.selections.Selection.{Selection}
use Rattle.file_model.specs.contracts.selections.Selection.{the_row as selection_row}
use Rattle.file_tree.specs.contracts.channels.Channels.{the_row}

-- on this channel what was left in it is selected
abbrev pub LendsSelection : MutBor (List (Option Selection)) → ℕ → MutBor Selection → Fml
LendsSelection channels n lent = Lends the_row selection_row channels lent (λ selection. slice_set channels.now n (Some selection))

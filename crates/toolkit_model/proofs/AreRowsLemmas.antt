-- Rows stand on different shelves.
use Rattle.std.proofs.Common.{◌≢◌, List, AllPairs, arith}
use Rattle.card_state.specs.Persistent.{Registration}
use Rattle.toolkit_model.specs.Steps.{AreRows}

pub apart_of : (rows : List Registration) → AreRows rows → AllPairs (λ a b. a.shelf ≢ b.shelf) rows
apart_of rows are i j d less low same = omega (arith, are.shelves i j d less low, same)

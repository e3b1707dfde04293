-- The rows of the state that a store stands for.
use Rattle.std.specs.Prelude.{◌≡◌, List, Option, Some}
use Rattle.card_state.specs.Persistent.{Registration, Persistent}

-- the state, where the store tells one, has these rows
abbrev pub HasRowsOf : Option Persistent → List Registration → Type 0
HasRowsOf stood rows = (state : Persistent) → stood ≡ Some state → state.rows ≡ rows

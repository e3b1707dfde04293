-- An index of the rows of a card by the events that they are registered for (ETSI TS 102 241): for each code of an event the
-- shelves of its rows, in the order in which they are triggered.
use Rattle.std.specs.Prelude.{◌≡◌, ℕ, ◌==◌, if◌then◌else◌, List, [], ◌∷◌, slice_index_or}
use Rattle.std.specs.Option.{option_map_or}
use Rattle.card_state.specs.Persistent.{Registration}
use Rattle.card_state.specs.Events.{bit_of}
use Rattle.toolkit_model.specs.Order.{targets}

-- what the index has under a code; under one that is no event's, nothing
abbrev pub targets_in : List (List ℕ) → ℕ → List ℕ
targets_in lists code = option_map_or (λ bit. slice_index_or lists bit []) (bit_of code) []

-- under each code the index has the targets of the rows
abbrev pub StandsFor : List (List ℕ) → List Registration → Type 0
StandsFor lists rows = (code : ℕ) → targets_in lists code ≡ targets rows code

-- these shelves without the first that is this one
abbrev pub left_by : ℕ → List ℕ → List ℕ
left_by shelf [] = []
left_by shelf (first ∷ others) = if first == shelf then others else first ∷ left_by shelf others

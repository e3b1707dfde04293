-- The rows of the upper shelves before a migration, byte by byte.
use Rattle.std.proofs.Common.{◌≡◌, ℕ, ◌<◌, length, get_or}
use Rattle.std.proofs.lemmas.List.{length-replicate, get_or-replicate}
use Rattle.card_state.specs.Migration.{no_upper_rows}

pub length-no_upper_rows : length no_upper_rows ≡ 1024
unfolding no_upper_rows
length-no_upper_rows = length-replicate {A = ℕ} 1024 0

pub get_or-no_upper_rows : (k : ℕ) → k < 1024 → get_or no_upper_rows k 0 ≡ 0
unfolding no_upper_rows
get_or-no_upper_rows k low = get_or-replicate {A = ℕ} 1024 k 0 0 low

-- Where the rows stand, by their shelves.
use Rattle.std.proofs.Common.{◌≡◌, ℕ, ◌+◌, ◌*◌, ◌-◌, ◌≤◌, ◌<◌, Bool, true, false, ⊎_elim, arith}
use Rattle.std.proofs.lemmas.Bool.{cases_lt}
use Rattle.std.proofs.lemmas.Bool.Decides.{nat_tests}
use Rattle.card_state.specs.declared.places.TheConstants.{ROWS, UPPER_ROWS, KEPT_APART}
use Rattle.card_state.specs.declared.sizes.TheConstants.{ROW_WIDTH, ROW_STRIDE, LOWER_ROW_COUNT, ROW_COUNT}
use Rattle.card_state.specs.Places.{row_place, row_count, data_end}

-- the bytes of the files end inside the memory
pub data_end_inside : (wide : Bool) → data_end wide ≤ 65536
data_end_inside true = omega arith
data_end_inside false = omega arith

pub row_place_low : (shelf : ℕ) → shelf < LOWER_ROW_COUNT → row_place shelf ≡ ROWS + ROW_STRIDE * shelf
row_place_low shelf low = grind (arith, nat_tests)

pub row_place_high : (shelf : ℕ) → LOWER_ROW_COUNT ≤ shelf → row_place shelf ≡ UPPER_ROWS + ROW_STRIDE * (shelf - LOWER_ROW_COUNT)
row_place_high shelf high = grind (arith, nat_tests)

-- a row ends before the bytes that stand apart from the rows
pub row_below_kept : (shelf : ℕ) → shelf < ROW_COUNT → row_place shelf + ROW_WIDTH ≤ KEPT_APART
row_below_kept shelf low =
    ⊎_elim {C = row_place shelf + ROW_WIDTH ≤ KEPT_APART} (λ h. omega (arith, row_place_low shelf h)) (λ h. omega (arith, row_place_high shelf h)) (cases_lt shelf LOWER_ROW_COUNT)

-- a shelf of a card is one of the 32
pub below_32 : (wide : Bool) (shelf : ℕ) → shelf < row_count wide → shelf < ROW_COUNT
below_32 true shelf low = low
below_32 false shelf low = omega arith

-- a row lies after what stands first
pub row_above : (shelf : ℕ) → 896 ≤ row_place shelf
row_above shelf = ⊎_elim {C = 896 ≤ row_place shelf} (λ h. omega (arith, row_place_low shelf h)) (λ h. omega (arith, row_place_high shelf h)) (cases_lt shelf LOWER_ROW_COUNT)

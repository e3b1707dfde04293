-- A search of rows from the first on.
use Rattle.std.proofs.Common.{◌≡◌, ℕ, ◌+◌, Bool, true, false, ◌&&◌, List, [], ◌∷◌, Option, Some, None, refl, ap, sym, ◌∙◌, nat_le, if◌then◌else◌, find, ◌==◌}
use Rattle.std.specs.List.{enumerate_from}
use Rattle.applet_trait.specs.Tables.{ActionRow, row_from}

abbrev is_meant : ℕ → ℕ → ℕ → ActionRow → Bool
is_meant place from event row = nat_le from place && (row.event == event)

-- the first row of the event from a place on, among rows of which the first stands at a place
unfoldable pub row_among : ℕ → ℕ → ℕ → List ActionRow → Option (ℕ × ActionRow)
row_among place from event all = find (λ placed. is_meant placed.0 from event placed.1) (enumerate_from place all)

pub among_all : (from event : ℕ) (all : List ActionRow) → row_among 0 from event all ≡ row_from from event all
unfolding row_among row_from
among_all from event all = refl

pub among_none : (place from event : ℕ) (all : List ActionRow) → all ≡ [] → row_among place from event all ≡ None
unfolding row_among
among_none place from event all empty = ap (λ xs. row_among place from event xs) empty

chosen : (place from event : ℕ) (row : ActionRow) (others : List ActionRow) → row_among place from event (row ∷ others) ≡ (if is_meant place from event row then Some (place, row) else row_among (place + 1) from event others)
unfolding row_among
chosen place from event row others = refl

pub found_here : (place from event : ℕ) (all : List ActionRow) (row : ActionRow) (others : List ActionRow) → all ≡ row ∷ others → is_meant place from event row ≡ true → row_among place from event all ≡ Some (place, row)
found_here place from event all row others whole is =
    ap (λ xs. row_among place from event xs) whole ∙ chosen place from event row others ∙ ap (λ b. if b then Some (place, row) else row_among (place + 1) from event others) is

pub found_later : (place from event : ℕ) (all : List ActionRow) (row : ActionRow) (others : List ActionRow) → all ≡ row ∷ others → is_meant place from event row ≡ false → row_among (place + 1) from event others ≡ row_among place from event all
found_later place from event all row others whole is =
    sym (ap (λ xs. row_among place from event xs) whole ∙ chosen place from event row others ∙ ap (λ b. if b then Some (place, row) else row_among (place + 1) from event others) is)

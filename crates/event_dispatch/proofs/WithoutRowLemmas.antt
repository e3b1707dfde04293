-- Rows by ascending shelves, one of which goes.
use Rattle.std.proofs.Common.{◌≡◌, ℕ, ◌<◌, Bool, true, false, cond, List, [], ◌∷◌, ◌++◌, filter, refl, sym, ◌∙◌, ap, arith, All, ◌==◌, nat_lt, not, AllPairs}
use Rattle.std.proofs.lemmas.Bool.Decides.{nat_tests}
use Rattle.std.proofs.lemmas.List.Elements.{All-head, All-tail, All-weaker}
use Rattle.list_laws.proofs.AllPairsLemmas.{pairs_head, pairs_tail}
use Rattle.card_state.specs.Persistent.{Registration}

module _ (shelf : ℕ) where
  abbrev pub below : List Registration → List Registration
  below rows = filter (λ row. nat_lt row.shelf shelf) rows

  abbrev pub above : List Registration → List Registration
  above rows = filter (λ row. nat_lt shelf row.shelf) rows

  abbrev others : List Registration → List Registration
  others rows = filter (λ row. not (row.shelf == shelf)) rows

  none_below : (rows : List Registration) → All (λ row. shelf < row.shelf) rows → below rows ≡ []
  none_below [] all = refl
  none_below (row ∷ rows) all =
      let far : shelf < row.shelf = All-head (λ row. shelf < row.shelf) row rows all in
      let is : nat_lt row.shelf shelf ≡ false = grind (arith, nat_tests, far) in
      ap (λ b. cond b (row ∷ below rows) (below rows)) is ∙ none_below rows (All-tail (λ row. shelf < row.shelf) row rows all)

  -- those below and those above are all but the one on the shelf
  pub left : (rows : List Registration) → AllPairs (λ a b. a.shelf < b.shelf) rows → below rows ++ above rows ≡ others rows
  left [] ascend = refl
  left (row ∷ rows) ascend = by_below (left rows (pairs_tail (λ a b. a.shelf < b.shelf) row rows ascend)) (nat_lt row.shelf shelf) refl where
    by_above : below rows ++ above rows ≡ others rows → (b : Bool) → nat_lt row.shelf shelf ≡ false → nat_lt shelf row.shelf ≡ b → below (row ∷ rows) ++ above (row ∷ rows) ≡ others (row ∷ rows)
    by_above rest true under over =
        let far : shelf < row.shelf = grind (arith, nat_tests, over) in
        let differs : not (row.shelf == shelf) ≡ true = grind (arith, nat_tests, far) in
        let none : below rows ≡ [] =
        none_below rows (All-weaker (λ other. row.shelf < other.shelf) (λ other. shelf < other.shelf) (λ other more. omega (arith, far, more)) rows (pairs_head (λ a b. a.shelf < b.shelf) row rows ascend)) in
        (λ i. cond (under i) (row ∷ below rows) (below rows) ++ cond (over i) (row ∷ above rows) (above rows))
        ∙ ap (λ (first : List Registration). first ++ row ∷ above rows) none
        ∙ ap (λ (later : List Registration). row ∷ later) (sym (ap (λ (first : List Registration). first ++ above rows) none) ∙ rest)
        ∙ sym (ap (λ c. cond c (row ∷ others rows) (others rows)) differs)
    by_above rest false under over =
        let same : not (row.shelf == shelf) ≡ false = grind (arith, nat_tests, under, over) in
        (λ i. cond (under i) (row ∷ below rows) (below rows) ++ cond (over i) (row ∷ above rows) (above rows)) ∙ rest
        ∙ sym (ap (λ c. cond c (row ∷ others rows) (others rows)) same)

    by_below : below rows ++ above rows ≡ others rows → (a : Bool) → nat_lt row.shelf shelf ≡ a → below (row ∷ rows) ++ above (row ∷ rows) ≡ others (row ∷ rows)
    by_below rest true under =
        let near : row.shelf < shelf = grind (arith, nat_tests, under) in
        let over : nat_lt shelf row.shelf ≡ false = grind (arith, nat_tests, near) in
        let differs : not (row.shelf == shelf) ≡ true = grind (arith, nat_tests, near) in
        (λ i. cond (under i) (row ∷ below rows) (below rows) ++ cond (over i) (row ∷ above rows) (above rows))
        ∙ ap (λ (later : List Registration). row ∷ later) rest
        ∙ sym (ap (λ c. cond c (row ∷ others rows) (others rows)) differs)
    by_below rest false under = by_above rest (nat_lt shelf row.shelf) under refl

-- Rows that are the same but for what applets change: what is asked of rows holds of the ones where it holds of the others.
use Rattle.std.proofs.Common.{◌≡◌, ℕ, zero, suc, ◌<◌, ◌≤◌, Bool, true, false, cond, List, [], ◌∷◌, length, Option, Some, refl, sym, ◌∙◌, ap, subst, arith, All, IsSomeAnd, count_by, is_none, get_or, ◌==◌, eq-eqb}
use Rattle.std.proofs.lemmas.List.{length-map}
use Rattle.std.proofs.lemmas.List.Sums.{sum_by-cons}
use Rattle.card_state.specs.Persistent.{Registration}
use Rattle.card_state.specs.Sections.{has_text}
use Rattle.applet_trait.specs.Minds.{AppletState}
use Rattle.toolkit_model.specs.Running.{mind_on}
use Rattle.toolkit_model.specs.Sound.{HasApplet}
use Rattle.toolkit_model.specs.Steps.{AreRows, HasMind, HaveMinds}
use Rattle.toolkit_model.specs.Registry.{row_on}
use Rattle.card_laws.specs.Moving.{fixed, HaveFixed}

abbrev rest_of : {X : Type 0} → List X → List X
rest_of [] = []
rest_of (x ∷ xs) = xs

head_fixed : (row first : Registration) (rows now : List Registration) → HaveFixed (row ∷ rows) (first ∷ now) → fixed first ≡ fixed row
head_fixed row first rows now same = ap (λ list. get_or list 0 (fixed row)) same

tail_fixed : (row first : Registration) (rows now : List Registration) → HaveFixed (row ∷ rows) (first ∷ now) → HaveFixed rows now
tail_fixed row first rows now same = ap rest_of same

pub same_length : (rows now : List Registration) → HaveFixed rows now → length now ≡ length rows
same_length rows now same = sym (length-map now fixed) ∙ ap length same ∙ length-map rows fixed

at_fixed : (rows now : List Registration) → HaveFixed rows now → (k : ℕ) (d : Registration) → fixed (get_or now k d) ≡ fixed (get_or rows k d)
at_fixed [] [] same k d = refl
at_fixed [] (first ∷ now) same k d = absurd (let more = same_length [] (first ∷ now) same in omega (arith, more))
at_fixed (row ∷ rows) [] same k d = absurd (let more = same_length (row ∷ rows) [] same in omega (arith, more))
at_fixed (row ∷ rows) (first ∷ now) same zero d = head_fixed row first rows now same
at_fixed (row ∷ rows) (first ∷ now) same (suc k) d = at_fixed rows now (tail_fixed row first rows now same) k d

-- ---- what is asked of rows

abbrev pub AreBelow : ℕ → List Registration → Type 0
AreBelow next rows = All (λ row. row.sequence < next) rows

abbrev weight : Registration → ℕ
weight row = cond (has_text row) 1 0

texts_fixed : (rows now : List Registration) → HaveFixed rows now → count_by has_text now ≡ count_by has_text rows
texts_fixed [] [] same = refl
texts_fixed [] (first ∷ now) same = absurd (let more = same_length [] (first ∷ now) same in omega (arith, more))
texts_fixed (row ∷ rows) [] same = absurd (let more = same_length (row ∷ rows) [] same in omega (arith, more))
texts_fixed (row ∷ rows) (first ∷ now) same =
    let one : weight first ≡ weight row = ap (λ (each : Registration). weight each) (head_fixed row first rows now same) in
    let rest = texts_fixed rows now (tail_fixed row first rows now same) in
    let left = sum_by-cons weight first now in
    let right = sum_by-cons weight row rows in
    omega (arith, one, rest, left, right)

module _ (rows now : List Registration) (same : HaveFixed rows now) where
  inside : (k : ℕ) → k < length now → k < length rows
  inside k low = omega (arith, low, same_length rows now same)

  shelf_fixed : (k : ℕ) (d : Registration) → (get_or now k d).shelf ≡ (get_or rows k d).shelf
  shelf_fixed k d = ap (λ (row : Registration). row.shelf) (at_fixed rows now same k d)

  sequence_fixed : (k : ℕ) (d : Registration) → (get_or now k d).sequence ≡ (get_or rows k d).sequence
  sequence_fixed k d = ap (λ (row : Registration). row.sequence) (at_fixed rows now same k d)

  text_fixed : (k : ℕ) (d : Registration) → (get_or now k d).text ≡ (get_or rows k d).text
  text_fixed k d = ap (λ (row : Registration). row.text) (at_fixed rows now same k d)

  pub rows_fixed : AreRows rows → AreRows now
  rows_fixed are = record {
    shelves = λ i j d less low.
        let lower = are.shelves i j d less (inside j low) in
        let a = shelf_fixed i d in
        let b = shelf_fixed j d in
        omega (arith, lower, a, b);
    sequences = λ i j d less low alike. are.sequences i j d less (inside j low) (sym (sequence_fixed i d) ∙ alike ∙ sequence_fixed j d);
    texts = λ k d low. subst (λ (text : List ℕ). length text ≤ 10) (sym (text_fixed k d)) (are.texts k d (inside k low));
    few_texts = let few = are.few_texts in let alike = texts_fixed rows now same in omega (arith, few, alike);
  }

  pub below_fixed : (next : ℕ) → AreBelow next rows → AreBelow next now
  below_fixed next below = λ k d low.
      let less = below k d (inside k low) in
      let number = sequence_fixed k d in
      omega (arith, less, number)

  pub minds_fixed : (minds : List (Option AppletState)) → HaveMinds rows minds → HaveMinds now minds
  minds_fixed minds have = λ k d low. subst (HasMind minds) (sym (shelf_fixed k d)) (have k d (inside k low))

  pub applets_fixed : (minds : List (Option AppletState)) → All (HasApplet minds) rows → All (HasApplet minds) now
  applets_fixed minds have = λ k d low.
      let alike : fixed (get_or now k d) ≡ fixed (get_or rows k d) = at_fixed rows now same k d in
      subst (λ (row : Registration). IsSomeAnd (mind_on minds row.shelf) (λ mind. mind.kind ≡ row.kind)) (sym alike) (have k d (inside k low))

-- ---- without a row

-- ---- the row of a shelf

pub row_there : (rows : List Registration) (k : ℕ) (d : Registration) → k < length rows → is_none (row_on rows (get_or rows k d).shelf) ≡ false
row_there [] k d low = absurd (omega (arith, low))
row_there (row ∷ rows) zero d low = ap (λ (b : Bool). is_none (cond b (Some row) (row_on rows row.shelf))) (eq-eqb row.shelf row.shelf refl)
row_there (row ∷ rows) (suc k) d low = by_shelf (row.shelf == (get_or rows k d).shelf) (row_there rows k d (omega (arith, low))) where
  by_shelf : (b : Bool) → is_none (row_on rows (get_or rows k d).shelf) ≡ false → is_none (cond b (Some row) (row_on rows (get_or rows k d).shelf)) ≡ false
  by_shelf true rest = refl
  by_shelf false rest = rest

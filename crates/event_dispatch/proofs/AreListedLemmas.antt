-- What holds of the rows of a card through each of their changes.
use Rattle.std.proofs.Common.{◌≡◌, refl, sym, ℕ, ◌≤◌, ◌<◌, Bool, cond, List, [], ◌∷◌, map, filter, length, arith, subst, ◌≢◌, ◌==◌, not, All, AllPairs, Contains, count_by}
use Rattle.std.specs.List.{list_any}
use Rattle.std.proofs.lemmas.List.Elements.{All-filter, All-map, All-weaker, All-contains_itself}
use Rattle.std.proofs.lemmas.List.Kept.{AllPairs-filter}
use Rattle.std.proofs.lemmas.List.Sums.{sum_by-cons}
use Rattle.std.proofs.lemmas.Bool.{cond_both}
use Rattle.list_laws.proofs.MapLemmas.{all_unmapped}
use Rattle.list_laws.proofs.AllPairsLemmas.{pairs_map, pairs_unmap}
use Rattle.card_state.specs.Persistent.{Registration}
use Rattle.card_state.specs.Kinds.{event_codes, known_codes}
use Rattle.card_state.specs.Sections.{has_text, sorted_codes}
use Rattle.toolkit_model.specs.Registry.{is_on, with_changed, with_code, without_code, with_kept, without_row}
use Rattle.toolkit_model.specs.Steps.{AreRows}
use Rattle.event_dispatch.specs.Changes.{AreListed}
use Rattle.event_dispatch.proofs.RowPlacedLemmas.{is_other}
use Rattle.event_dispatch.proofs.StandsForLemmas.{AreKnown}

abbrev code_of : ℕ × ℕ → ℕ
code_of event = event.0

abbrev weight : Registration → ℕ
weight row = cond (has_text row) 1 0

-- ---- a row goes

texts_left : (s : ℕ) (rows : List Registration) → count_by has_text (without_row rows s) ≤ count_by has_text rows
texts_left s [] = omega arith
texts_left s (row ∷ rows) =
    cond_both (is_other s row) (row ∷ without_row rows s) (without_row rows s) (λ (left : List Registration). count_by has_text left ≤ count_by has_text (row ∷ rows))
    (λ h. omega (arith, sum_by-cons weight row (without_row rows s), sum_by-cons weight row rows, texts_left s rows))
    (λ h. omega (arith, sum_by-cons weight row rows, texts_left s rows))

pub left_listed : (rows : List Registration) (s : ℕ) → AreListed rows → AreListed (without_row rows s)
left_listed rows s listed =
    let are = listed.rows_are in
    record {
      rows_are = record {
        shelves = AllPairs-filter (λ a b. a.shelf < b.shelf) (is_other s) rows are.shelves;
        sequences = AllPairs-filter (λ a b. a.sequence ≢ b.sequence) (is_other s) rows are.sequences;
        texts = All-filter (is_other s) (λ row. length row.text ≤ 10) rows are.texts;
        few_texts = omega (arith, texts_left s rows, are.few_texts);
      };
      known = All-filter (is_other s) AreKnown rows listed.known;
    }

-- ---- the codes of a row change, or what it keeps

module _ (s : ℕ) (g h : List ℕ → List ℕ) where
  abbrev recoded : Registration → Registration
  recoded row = record row { codes = g row.codes; kept = h row.kept }

  changed_map : {X : Type 0} (f : Registration → X) (rows : List Registration) → ((row : Registration) → f (recoded row) ≡ f row) → map f (with_changed rows s recoded) ≡ map f rows
  changed_map f [] same = refl
  changed_map {X} f (row ∷ rows) same =
      cond_both (is_on s row) (recoded row) row (λ (x : Registration). (f x ∷ map f (with_changed rows s recoded)) ≡ map f (row ∷ rows))
      (λ h. cc (same row, changed_map f rows same))
      (λ h. cc (changed_map f rows same))

  texts_kept : (rows : List Registration) → count_by has_text (with_changed rows s recoded) ≡ count_by has_text rows
  texts_kept [] = refl
  texts_kept (row ∷ rows) =
      cond_both (is_on s row) (recoded row) row (λ (x : Registration). count_by has_text (x ∷ with_changed rows s recoded) ≡ count_by has_text (row ∷ rows))
      (λ h. omega (arith, sum_by-cons weight (recoded row) (with_changed rows s recoded), sum_by-cons weight row rows, texts_kept rows))
      (λ h. omega (arith, sum_by-cons weight row (with_changed rows s recoded), sum_by-cons weight row rows, texts_kept rows))

  recoded_rows : (rows : List Registration) → AreRows rows → AreRows (with_changed rows s recoded)
  recoded_rows rows are =
      let new : List Registration = with_changed rows s recoded in
      let shelves = changed_map (λ row. row.shelf) rows (λ row. refl) in
      let sequences = changed_map (λ row. row.sequence) rows (λ row. refl) in
      let texts = changed_map (λ row. row.text) rows (λ row. refl) in
      record {
        shelves = pairs_unmap (λ a b. a < b) (λ row. row.shelf) new (subst (AllPairs (λ (a b : ℕ). a < b)) (sym shelves) (pairs_map (λ a b. a < b) (λ row. row.shelf) rows are.shelves));
        sequences = pairs_unmap (λ a b. a ≢ b) (λ row. row.sequence) new (subst (AllPairs (λ (a b : ℕ). a ≢ b)) (sym sequences) (pairs_map (λ a b. a ≢ b) (λ row. row.sequence) rows are.sequences));
        texts = all_unmapped (λ (text : List ℕ). length text ≤ 10) (λ row. row.text) new (subst (All (λ (text : List ℕ). length text ≤ 10)) (sym texts) (All-map (λ text. length text ≤ 10) (λ row. row.text) rows are.texts));
        few_texts = omega (arith, texts_kept rows, are.few_texts);
      }

  recoded_listed : ((codes : List ℕ) → All (Contains known_codes) codes → All (Contains known_codes) (g codes)) → (rows : List Registration) → AreListed rows → AreListed (with_changed rows s recoded)
  recoded_listed still rows listed = record {
    rows_are = recoded_rows rows listed.rows_are;
    known = All-map AreKnown (λ row. cond (is_on s row) (recoded row) row) rows
        (All-weaker AreKnown (λ row. AreKnown (cond (is_on s row) (recoded row) row)) (λ row known. cond_both (is_on s row) (recoded row) row AreKnown (λ h. still row.codes known) (λ h. known)) rows listed.known);
  }

sorted_known : (codes : List ℕ) → All (Contains known_codes) (sorted_codes codes)
sorted_known codes =
    let is_sought : ℕ × ℕ → Bool = λ event. list_any (λ code. code == event.0) codes in
    All-map (Contains known_codes) code_of (filter is_sought event_codes) (All-filter is_sought (λ event. Contains known_codes event.0) event_codes (all_unmapped (Contains known_codes) code_of event_codes (All-contains_itself known_codes)))

pub more_listed : (rows : List Registration) (s code : ℕ) → AreListed rows → AreListed (with_code rows s code)
more_listed rows s code = recoded_listed s (λ codes. sorted_codes (code ∷ codes)) (λ kept. kept) (λ codes known. sorted_known (code ∷ codes)) rows

pub fewer_listed : (rows : List Registration) (s code : ℕ) → AreListed rows → AreListed (without_code rows s code)
fewer_listed rows s code = recoded_listed s (λ codes. filter (λ other. not (other == code)) codes) (λ kept. kept) (λ codes known. All-filter (λ other. not (other == code)) (Contains known_codes) codes known) rows

pub kept_listed : (rows : List Registration) (s : ℕ) (bytes : List ℕ) → AreListed rows → AreListed (with_kept rows s bytes)
kept_listed rows s bytes = recoded_listed s (λ codes. codes) (λ kept. bytes) (λ codes known. known) rows

-- A map that is read, entry by entry, and the pages that it names. It has 1,011 entries (`MAPPED`), and the device 1,120 pages (`PAGE_COUNT`).
use Rattle.std.proofs.Common.{get_or, set, ◌≡◌, ℕ, ◌+◌, ◌-◌, ◌*◌, ◌<◌, ◌≤◌, Bool, true, false, not, ◌||◌, ◌&&◌, ◌==◌, cond, if◌then◌else◌, List, [], ◌∷◌, ◌++◌, length, take, refl, sym, ◌∙◌, ap, subst, inl, inr, ⊎_elim, arith}
use Rattle.std.specs.List.{range_with_len, filter}
use Rattle.std.proofs.lemmas.Bool.{cases_eq, cases_lt, cases_Bool, and_parts, and_left, ne_eqb, eq-eqb, or_right}
use Rattle.std.proofs.lemmas.Bool.Decides.{nat_tests}
use Rattle.std.proofs.lemmas.Grind.{get_or-set_at}
use Rattle.std.proofs.lemmas.List.{get_or-set_other, length_push, take_all}
use Rattle.std.proofs.lemmas.List.Folds.{list_any_more}
use Rattle.std.proofs.lemmas.List.FromFn.{fill_by_all, length-range_with_len, get_or-range_with_len}
use Rattle.std.proofs.lemmas.List.Elements.{filter_more}
use Rattle.std.proofs.lemmas.List.Sums.{length-filter, sum_by-take-le}
use Rattle.page_store.specs.Pages.{number_at, entries_of, is_in_pool, is_among, is_right, free_pages}
use Rattle.page_store.specs.Tables.{IsNaming}
use Rattle.page_store.proofs.IsWellFormedLemmas.{formed_by, length-free_pages}

-- one entry more is read
pub entry_read : (bytes entries : List ℕ) (k x : ℕ) → k < length entries → ((i : ℕ) → i < k → get_or entries i 0 ≡ number_at bytes (2 * i)) → x ≡ number_at bytes (2 * k)
    → (i : ℕ) → i < k + 1 → get_or (set entries k x) i 0 ≡ number_at bytes (2 * i)
entry_read bytes entries k x there before is i low = elim (cases_eq i k) [
  | inl same ↦ get_or-set_at entries k i x 0 same there ∙ is ∙ ap (λ n. number_at bytes (2 * n)) (sym same)
  | inr other ↦ get_or-set_other entries k i x 0 other ∙ before i (⊎_elim (λ less. less) (λ more. absurd (other (omega arith))) (cases_lt i k))
]

pub entries_read : (bytes entries : List ℕ) → length entries ≡ 1011 → ((i : ℕ) → i < 1011 → get_or entries i 0 ≡ number_at bytes (2 * i)) → entries ≡ entries_of bytes
unfolding entries_of
entries_read bytes entries long each = fill_by_all (λ k. number_at bytes (2 * k)) entries 1011 0 long each

abbrev pub IsMarked : List ℕ → List Bool → Type 0
IsMarked pages named = (page : ℕ) → page < 1120 → get_or named page false ≡ is_among pages page

-- what the marks say of the next entry
pub right_by : (pages : List ℕ) (named : List Bool) (k : ℕ) → IsMarked (take k pages) named → (is_in_pool (get_or pages k 0) && not (get_or named (get_or pages k 0) false)) ≡ is_right pages k
right_by pages named k same = elim (cases_Bool (is_in_pool (get_or pages k 0))) [
  | inl inside ↦ let low : get_or pages k 0 < 1120 = grind (arith, nat_tests) in ap (λ b. is_in_pool (get_or pages k 0) && not b) (same (get_or pages k 0) low)
  | inr outside ↦ and_left (is_in_pool (get_or pages k 0)) (not (get_or named (get_or pages k 0) false)) outside ∙ sym (and_left (is_in_pool (get_or pages k 0)) (not (is_among (take k pages) (get_or pages k 0))) outside)
]

-- one page more is marked
pub marked_too : (pages : List ℕ) (named : List Bool) (k : ℕ) → length named ≡ 1120 → k < length pages → is_right pages k ≡ true → IsMarked (take k pages) named → IsMarked (take (k + 1) pages) (set named (get_or pages k 0) true)
marked_too pages named k long there right same page low =
    let y = get_or pages k 0 in
    let inside : is_in_pool y ≡ true = (and_parts (is_in_pool y) (not (is_among (take k pages) y)) right).0 in
    let fits : y < length named = grind (arith, nat_tests) in
    let more : is_among (take (k + 1) pages) page ≡ (is_among (take k pages) page || (y == page)) = list_any_more (λ other. other == page) pages k 0 there in
    elim (cases_eq page y) [
      | inl is ↦ get_or-set_at named y page true false is fits ∙ sym (more ∙ or_right (is_among (take k pages) page) (y == page) (eq-eqb y page (sym is)))
      | inr other ↦ get_or-set_other named y page true false other ∙ same page low ∙ sym (more ∙ or_false (is_among (take k pages) page) (y == page) (ne_eqb y page (λ is. other (sym is))))
    ]
  where
    or_false : (b c : Bool) → c ≡ false → (b || c) ≡ b
    or_false true c e = refl
    or_false false c e = e

pub all_right : (pages : List ℕ) (k : ℕ) → is_right pages k ≡ true → ((i : ℕ) → i < k → is_right pages i ≡ true) → (i : ℕ) → i < k + 1 → is_right pages i ≡ true
all_right pages k right before i low = elim (cases_eq i k) [
  | inl same ↦ let P : ℕ → Type 0 = λ n. is_right pages n ≡ true in subst P (sym same) right
  | inr other ↦ before i (⊎_elim (λ less. less) (λ more. absurd (other (omega arith))) (cases_lt i k))
]

pub naming : (pages : List ℕ) (named : List Bool) (k : ℕ) → length pages ≡ 1011 → length pages ≤ k → ((i : ℕ) → i < k → is_right pages i ≡ true) → IsMarked (take k pages) named → IsNaming pages named
naming pages named k count all right same = record {
  count = count;
  formed = formed_by pages (λ i there. right i (omega arith));
  same = λ page low. same page low ∙ ap (λ ps. is_among ps page) (take_all k pages all);
}

module _ (entries : List ℕ) (named : List Bool) (naming : IsNaming entries named) where
  abbrev is_free : ℕ → Bool
  is_free page = not (is_among entries page)

  -- the next page, in a pool of any pages in order
  next_free : (a n page : ℕ) (free : List ℕ) → a ≤ page → page < a + n → page < 1120 → free ≡ filter is_free (take (page - a) (range_with_len a n))
      → free ++ (if get_or named page false then [] else page ∷ []) ≡ filter is_free (take (page + 1 - a) (range_with_len a n))
  next_free a n page free low high fits so_far =
      let i = page - a in
      let range = range_with_len a n in
      let inside : i < length range = omega (arith, length-range_with_len a n) in
      let at : get_or range i 0 ≡ page = get_or-range_with_len a n i 0 (omega arith) ∙ omega arith in
      let one_on : page + 1 - a ≡ i + 1 = omega arith in
      let same : get_or named page false ≡ is_among entries page = naming.same page fits in
      ap (λ free. free ++ (if get_or named page false then [] else page ∷ [])) so_far
      ∙ ap (λ b. filter is_free (take i range) ++ (if b then [] else page ∷ [])) same
      ∙ ap (λ end. filter is_free (take i range) ++ end) (turned (is_among entries page) page)
      ∙ ap (λ page. filter is_free (take i range) ++ cond (is_free page) (page ∷ []) []) (sym at)
      ∙ sym (filter_more is_free range i 0 inside) ∙ ap (λ n. filter is_free (take n range)) (sym one_on)
    where
      turned : (b : Bool) (page : ℕ) → (if b then [] else page ∷ []) ≡ cond (not b) (page ∷ []) []
      turned true page = refl
      turned false page = refl

  short_front : (n : ℕ) (range : List ℕ) → length (filter is_free (take n range)) ≤ length (filter is_free range)
  short_front n range = omega (arith, length-filter is_free (take n range), length-filter is_free range, sum_by-take-le (λ x. cond (is_free x) 1 0) range n)

  pub free_added : (page : ℕ) (free : List ℕ) → 45 ≤ page → page < 1120 → free ≡ filter is_free (take (page - 45) (range_with_len 45 1075))
      → free ++ (if get_or named page false then [] else page ∷ []) ≡ filter is_free (take (page + 1 - 45) (range_with_len 45 1075))
  free_added page free low high so_far = next_free 45 1075 page free low high high so_far

  whole : length (filter is_free (range_with_len 45 1075)) ≡ 64
  unfolding free_pages
  whole = length-free_pages entries naming.formed naming.count

  -- there is room for one that isn't named
  pub free_room : (page : ℕ) (free : List ℕ) → 45 ≤ page → page < 1120 → free ≡ filter is_free (take (page - 45) (range_with_len 45 1075)) → get_or named page false ≡ false → length free < 64
  free_room page free low high so_far new =
      let after = free_added page free low high so_far in
      let one : length (free ++ page ∷ []) ≡ length (filter is_free (take (page + 1 - 45) (range_with_len 45 1075))) =
      ap (λ b. length (free ++ (if b then [] else page ∷ []))) (sym new) ∙ ap (λ (l : List ℕ). length l) after in
      omega (arith, one, length_push free page, short_front (page + 1 - 45) (range_with_len 45 1075), whole)

  pub free_all : (page : ℕ) (free : List ℕ) → 1120 ≤ page → free ≡ filter is_free (take (page - 45) (range_with_len 45 1075)) → free ≡ free_pages entries
  unfolding free_pages
  free_all page free all so_far = so_far ∙ ap (λ (l : List ℕ). filter is_free l) (take_all (page - 45) (range_with_len 45 1075) (omega (arith, length-range_with_len 45 1075)))

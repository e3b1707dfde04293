-- Maps that are well formed, and the pages that they leave free.
use Rattle.std.proofs.Common.{get_or, zero-add, ◌≡◌, ◌≢◌, ℕ, zero, suc, ◌+◌, ◌-◌, ◌<◌, ◌≤◌, Bool, true, false, not, ◌||◌, ◌==◌, cond, List, [], ◌∷◌, length, take, drop, refl, sym, ◌∙◌, ap, subst, inl, inr, ⊎_elim, ◌⊎◌, add_comm, arith, All}
use Rattle.std.specs.List.{AllPairs, range_with_len, count_by, filter}
use Rattle.std.proofs.lemmas.Bool.{false≢true, not-true, not_from_false, false_from_ne_true, and_parts, and_from, cases_eq, cases_lt, eqb-true, eq-eqb, ne_eqb, or_right}
use Rattle.std.proofs.lemmas.Bool.Decides.{nat_tests}
use Rattle.std.proofs.lemmas.List.{length-append, length-drop, length-set, length-take, get_or-append_right, get_or-drop, get_or-set_other, get_or-take, get_or_append_left, get_or_default, take_all}
use Rattle.std.proofs.lemmas.Grind.{get_or-set_at}
use Rattle.std.proofs.lemmas.List.Elements.{All-filter, All-from_get_or, filter_passes}
use Rattle.std.proofs.lemmas.List.Filters.{length-filter_both}
use Rattle.std.proofs.lemmas.List.Folds.{list_any_at, list_any_more, Any-from_list_any}
use Rattle.std.proofs.lemmas.List.FromFn.{length-range_with_len, get_or-range_with_len}
use Rattle.std.proofs.lemmas.List.Kept.{AllPairs-filter}
use Rattle.std.proofs.lemmas.List.Sums.{AllPass-from_list_all, list_all-from_AllPass, length-filter, sum_by-cons}
use Rattle.page_store.specs.Pages.{is_in_pool, is_among, is_right, is_well_formed, free_pages}
use Rattle.page_store.specs.Tables.{Kept, moved, IsPool}

abbrev InPool : ℕ → Type 0
InPool page = is_in_pool page ≡ true

place : (k n : ℕ) → k < n → get_or (range_with_len 0 n) k 0 ≡ k
place k n low = get_or-range_with_len 0 n k 0 low ∙ zero-add k

pub rights : (pages : List ℕ) → is_well_formed pages ≡ true → (k : ℕ) → k < length pages → is_right pages k ≡ true
unfolding is_well_formed
rights pages formed k there =
    let at = place k (length pages) there in
    let P : ℕ → Type 0 = λ n. is_right pages n ≡ true in
    subst P at (AllPass-from_list_all (is_right pages) (range_with_len 0 (length pages)) formed k 0 (omega (arith, length-range_with_len 0 (length pages))))

pub formed_by : (pages : List ℕ) → ((k : ℕ) → k < length pages → is_right pages k ≡ true) → is_well_formed pages ≡ true
unfolding is_well_formed
formed_by pages each =
    list_all-from_AllPass (is_right pages) (range_with_len 0 (length pages)) (All-from_get_or (λ n. is_right pages n ≡ true) (range_with_len 0 (length pages)) 0 (λ k there.
    let low : k < length pages = omega (arith, length-range_with_len 0 (length pages)) in
    let P : ℕ → Type 0 = λ n. is_right pages n ≡ true in
    subst P (sym (place k (length pages) low)) (each k low)))

pub wrong_at : (pages : List ℕ) (k : ℕ) → k < length pages → is_right pages k ≡ false → is_well_formed pages ≡ false
wrong_at pages k there wrong = false_from_ne_true (is_well_formed pages) (λ formed. let right = rights pages formed k there in cc (right, wrong))

pub entries_inside : (pages : List ℕ) → is_well_formed pages ≡ true → All InPool pages
entries_inside pages formed = All-from_get_or InPool pages 0 (λ k there. (and_parts (is_in_pool (get_or pages k 0)) (not (is_among (take k pages) (get_or pages k 0))) (rights pages formed k there)).0)

-- a page that stands in the list is one of its pages
pub among_at : (pages : List ℕ) (k page : ℕ) → k < length pages → get_or pages k 0 ≡ page → is_among pages page ≡ true
among_at pages k page there is = list_any_at (λ other. other == page) pages k 0 there (eq-eqb (get_or pages k 0) page is)

pub entries_apart : (pages : List ℕ) → is_well_formed pages ≡ true → (i j : ℕ) → i < j → j < length pages → get_or pages i 0 ≢ get_or pages j 0
entries_apart pages formed i j order there = λ same.
    let new = not-true (is_among (take j pages) (get_or pages j 0)) ((and_parts (is_in_pool (get_or pages j 0)) (not (is_among (take j pages) (get_or pages j 0))) (rights pages formed j there)).1) in
    let old = among_at (take j pages) i (get_or pages j 0) (omega (arith, length-take j pages)) (get_or-take j pages i 0 order ∙ same) in
    cc (new, old)

or_none : (b c : Bool) → c ≡ false → (b || c) ≡ b
or_none true c e = refl
or_none false c e = e

abbrev ones : Bool → ℕ
ones b = cond b 1 0

abbrev more : (ℕ → Bool) → ℕ → ℕ → Bool
more q y x = q x || (y == x)

count_cons : (q : ℕ → Bool) (x : ℕ) (xs : List ℕ) → count_by q (x ∷ xs) ≡ ones (q x) + count_by q xs
count_cons q x xs = sum_by-cons (λ y. ones (q y)) x xs

not_here : (q : ℕ → Bool) (y a : ℕ) → (y ≡ a → ⊥) → ones (more q y a) ≡ ones (q a)
not_here q y a other = ap ones (or_none (q a) (y == a) (ne_eqb y a other))

-- one more page that is below the range counts nothing
count_past : (q : ℕ → Bool) (y a n : ℕ) → y < a → count_by (more q y) (range_with_len a n) ≡ count_by q (range_with_len a n)
count_past q y a zero low = refl
count_past q y a (suc n) low =
    let rest = range_with_len (a + 1) n in
    omega (arith, count_cons (more q y) a rest, count_cons q a rest, not_here q y a (λ same. omega arith), count_past q y (a + 1) n (omega arith))

-- one more page of the range counts one
count_more : (q : ℕ → Bool) (y a n : ℕ) → q y ≡ false → a ≤ y → y < a + n → count_by (more q y) (range_with_len a n) ≡ count_by q (range_with_len a n) + 1
count_more q y a zero new low high = absurd (omega arith)
count_more q y a (suc n) new low high =
    let rest = range_with_len (a + 1) n in
    elim (cases_eq y a) [
      | inl same ↦
          let first : more q y a ≡ true = or_right (q a) (y == a) (eq-eqb y a same) in
          let none : q a ≡ false = ap q (sym same) ∙ new in
          omega (arith, count_cons (more q y) a rest, count_cons q a rest, ap ones first, ap ones none, count_past q y (a + 1) n (omega arith))
      | inr other ↦ omega (arith, count_cons (more q y) a rest, count_cons q a rest, not_here q y a other, count_more q y (a + 1) n new (omega arith) (omega arith))
    ]

count_alike : (p q : ℕ → Bool) → ((x : ℕ) → p x ≡ q x) → (xs : List ℕ) → count_by p xs ≡ count_by q xs
count_alike p q same [] = refl
count_alike p q same (x ∷ xs) = omega (arith, count_cons p x xs, count_cons q x xs, ap ones (same x), count_alike p q same xs)

count_none : (xs : List ℕ) → count_by (is_among []) xs ≡ 0
count_none [] = refl
count_none (x ∷ xs) = omega (arith, count_cons (is_among []) x xs, count_none xs)

-- so many pages of a range are among the first entries of a map into it
count_among : (pages : List ℕ) (a n : ℕ) → is_well_formed pages ≡ true → ((k : ℕ) → k < length pages → (a ≤ get_or pages k 0) × (get_or pages k 0 < a + n))
    → (k : ℕ) → k ≤ length pages → count_by (is_among (take k pages)) (range_with_len a n) ≡ k
count_among pages a n formed inside zero low = count_none (range_with_len a n)
count_among pages a n formed inside (suc k) low =
    let y = get_or pages k 0 in
    let right = and_parts (is_in_pool y) (not (is_among (take k pages) y)) (rights pages formed k (omega arith)) in
    let new : is_among (take k pages) y ≡ false = not-true (is_among (take k pages) y) right.1 in
    let here = inside k (omega arith) in
    let one_on : suc k ≡ k + 1 = omega arith in
    let same : (x : ℕ) → is_among (take (suc k) pages) x ≡ more (is_among (take k pages)) y x = λ x. ap (λ m. is_among (take m pages) x) one_on ∙ list_any_more (λ other. other == x) pages k 0 (omega arith) in
    count_alike (is_among (take (suc k) pages)) (more (is_among (take k pages)) y) same (range_with_len a n) ∙ count_more (is_among (take k pages)) y a n new here.0 here.1
    ∙ ap (λ m. m + 1) (count_among pages a n formed inside k (omega arith)) ∙ sym one_on

pub pool_bounds : (page : ℕ) → InPool page → (45 ≤ page) × (page < 1120)
pool_bounds page inside = (grind (arith, nat_tests), grind (arith, nat_tests))

left_over : (pages range : List ℕ) (n : ℕ) → count_by (is_among pages) range ≡ length pages → length range ≡ n → length (filter (λ page. not (is_among pages page)) range) + length pages ≡ n
left_over pages range n named long =
    omega (arith, named, long, length-filter (is_among pages) range, length-filter_both (is_among pages) (λ page. not (is_among pages page)) (λ x. refl) range)

free_and_named : (pages : List ℕ) → is_well_formed pages ≡ true → length (free_pages pages) + length pages ≡ 1075
unfolding free_pages
free_and_named pages formed =
    let inside : (k : ℕ) → k < length pages → (45 ≤ get_or pages k 0) × (get_or pages k 0 < 1120) = λ k there. pool_bounds (get_or pages k 0) (entries_inside pages formed k 0 there) in
    let P : List ℕ → Type 0 = λ ps. count_by (is_among ps) (range_with_len 45 1075) ≡ length pages in
    left_over pages (range_with_len 45 1075) 1075 (subst P (take_all (length pages) pages (omega arith)) (count_among pages 45 1075 formed inside (length pages) (omega arith))) (length-range_with_len 45 1075)

-- a well formed map leaves 64 pages free
pub length-free_pages : (pages : List ℕ) → is_well_formed pages ≡ true → length pages ≡ 1011 → length (free_pages pages) ≡ 64
length-free_pages pages formed long = omega (arith, long, free_and_named pages formed)

range_apart : (a n : ℕ) → AllPairs ◌≢◌ (range_with_len a n)
range_apart a n i j d order there = λ same. omega (arith, length-range_with_len a n, get_or-range_with_len a n i d (omega (arith, length-range_with_len a n)), get_or-range_with_len a n j d (omega (arith, length-range_with_len a n)))

range_inside : (page : ℕ) → 45 ≤ page → page < 1120 → InPool page
range_inside page low high = grind (arith, nat_tests)

free_inside : (pages : List ℕ) → All InPool (free_pages pages)
unfolding free_pages
free_inside pages =
    All-filter (λ page. not (is_among pages page)) InPool (range_with_len 45 1075) (All-from_get_or InPool (range_with_len 45 1075) 0 (λ k there.
    let low : k < 1075 = omega (arith, length-range_with_len 45 1075) in
    let at = get_or-range_with_len 45 1075 k 0 low in
    range_inside (get_or (range_with_len 45 1075) k 0) (omega arith) (omega arith)))

free_apart : (pages : List ℕ) → AllPairs ◌≢◌ (free_pages pages)
unfolding free_pages
free_apart pages = AllPairs-filter ◌≢◌ (λ page. not (is_among pages page)) (range_with_len 45 1075) (range_apart 45 1075)

free_new : (pages : List ℕ) (j : ℕ) → j < length (free_pages pages) → is_among pages (get_or (free_pages pages) j 0) ≡ false
unfolding free_pages
free_new pages j there = not-true (is_among pages (get_or (free_pages pages) j 0)) (filter_passes (λ page. not (is_among pages page)) (range_with_len 45 1075) j 0 there)

-- a well formed map and the pages that it leaves free are the pool
pub pool_of : (pages : List ℕ) → is_well_formed pages ≡ true → length pages ≡ 1011 → IsPool (record { entries = pages; free = free_pages pages })
pool_of pages formed long = record {
  count = long;
  free_count = length-free_pages pages formed long;
  inside = entries_inside pages formed;
  free_inside = free_inside pages;
  apart = λ i j d order there. λ same. entries_apart pages formed i j order there (get_or_default pages i 0 d (omega arith) ∙ same ∙ get_or_default pages j d 0 there);
  free_apart = free_apart pages;
  not_free = λ k j there low. λ same. (let among = among_at pages k (get_or (free_pages pages) j 0) there same in let new = free_new pages j low in false≢true (sym new ∙ among));
}

-- the entries of the pool are a well formed map
pub formed_pool : (kept : Kept) → IsPool kept → is_well_formed kept.entries ≡ true
formed_pool kept pool = formed_by kept.entries (λ k there.
    and_from (is_in_pool (get_or kept.entries k 0)) (not (is_among (take k kept.entries) (get_or kept.entries k 0))) (pool.inside k 0 there)
    (not_from_false (is_among (take k kept.entries) (get_or kept.entries k 0)) (false_from_ne_true (is_among (take k kept.entries) (get_or kept.entries k 0)) (λ among.
    let found = Any-from_list_any (λ other. other == get_or kept.entries k 0) (take k kept.entries) among in
    let y = get_or kept.entries k 0 in
    let i = found.0 in
    let low : i < k = omega (arith, found.2, length-take k kept.entries) in
    let there' : i < length kept.entries = omega arith in
    pool.apart i k 0 low there (get_or_default kept.entries i 0 found.1 there' ∙ sym (get_or-take k kept.entries i found.1 low) ∙ found.3 ∙ eqb-true found.1 y found.4)))))

module _ (page : ℕ) (kept : Kept) (low : 13 ≤ page) (high : page < 1024) (pool : IsPool kept) where
  abbrev p : ℕ
  p = page - 13

  abbrev old : ℕ
  old = get_or kept.entries p 0

  abbrev new : ℕ
  new = get_or kept.free 0 0

  here : p < length kept.entries
  here = omega (arith, pool.count)

  long : length kept.entries ≡ 1011
  long = pool.count

  many : length kept.free ≡ 64
  many = pool.free_count

  -- each entry is as it was, but that of the page
  at_entry : (k d : ℕ) → k < 1011 → ((k ≡ p) × (get_or (moved page kept).entries k d ≡ new)) ⊎ ((k ≡ p → ⊥) × (get_or (moved page kept).entries k d ≡ get_or kept.entries k d))
  at_entry k d there = elim (cases_eq k p) [
    | inl same ↦ inl (same, get_or-set_at kept.entries p k new d same here)
    | inr other ↦ inr (other, get_or-set_other kept.entries p k new d other)
  ]

  -- each free page moves up by one, and the page's old one is the last
  at_free : (j d : ℕ) → j < 64 → ((j + 1 < 64) × (get_or (moved page kept).free j d ≡ get_or kept.free (j + 1) d)) ⊎ ((j ≡ 63) × (get_or (moved page kept).free j d ≡ old))
  at_free j d there =
      let front : length (drop 1 kept.free) ≡ 63 = omega (arith, many, length-drop 1 kept.free) in
      elim (cases_lt j 63) [
        | inl before ↦ inl (omega arith, get_or_append_left (drop 1 kept.free) (old ∷ []) d j (omega arith) ∙ get_or-drop 1 kept.free j d ∙ ap (λ n. get_or kept.free n d) (add_comm 1 j))
        | inr behind ↦ let last : j ≡ 63 = omega arith in inr (last, get_or-append_right (drop 1 kept.free) (old ∷ []) 63 j d front behind ∙ ap (λ n. get_or (old ∷ []) n d) (let zero_on : j - 63 ≡ 0 = omega arith in zero_on))
      ]

  new_inside : InPool new
  new_inside = pool.free_inside 0 0 (omega (arith, many))

  old_inside : InPool old
  old_inside = pool.inside p 0 here

  entry_inside : (k d : ℕ) → k < 1011 → InPool (get_or (moved page kept).entries k d)
  entry_inside k d there = ⊎_elim (λ at. subst InPool (sym at.1) new_inside) (λ at. subst InPool (sym at.1) (pool.inside k d (omega (arith, long)))) (at_entry k d there)

  freed_inside : (j d : ℕ) → j < 64 → InPool (get_or (moved page kept).free j d)
  freed_inside j d there = ⊎_elim (λ at. subst InPool (sym at.1) (pool.free_inside (j + 1) d (omega (arith, many, at.0)))) (λ at. subst InPool (sym at.1) old_inside) (at_free j d there)

  entry_is_no_free : (k j d : ℕ) → k < 1011 → j < 64 → get_or kept.entries k d ≡ get_or kept.free j d → ⊥
  entry_is_no_free k j d there free same =
      let first : k < length kept.entries = omega (arith, long) in
      let second : j < length kept.free = omega (arith, many) in
      pool.not_free k j first second (get_or_default kept.entries k 0 d first ∙ same ∙ get_or_default kept.free j d 0 second)

  entries_differ : (k i d : ℕ) → k < 1011 → i < 1011 → (k ≡ i → ⊥) → get_or kept.entries k d ≡ get_or kept.entries i d → ⊥
  entries_differ k i d there there' other same = ⊎_elim (λ first. pool.apart k i d first (omega (arith, long)) same)
      (λ behind. pool.apart i k d (omega (arith, order behind)) (omega (arith, long)) (sym same)) (cases_lt k i)
    where
      order : i ≤ k → i < k
      order behind = ⊎_elim (λ less. less) (λ more. absurd (other (omega arith))) (cases_lt i k)

  frees_differ : (i j d : ℕ) → i < j → j < 64 → get_or kept.free i d ≡ get_or kept.free j d → ⊥
  frees_differ i j d order there same = pool.free_apart i j d order (omega (arith, many)) same

  old_at : (d : ℕ) → old ≡ get_or kept.entries p d
  old_at d = get_or_default kept.entries p 0 d here

  new_at : (d : ℕ) → new ≡ get_or kept.free 0 d
  new_at d = get_or_default kept.free 0 0 d (omega (arith, many))

  moved_apart : (i j d : ℕ) → i < j → j < 1011 → get_or (moved page kept).entries i d ≡ get_or (moved page kept).entries j d → ⊥
  moved_apart i j d order there same =
      ⊎_elim
      (λ first. ⊎_elim (λ second. omega (arith, first.0, second.0)) (λ second. entry_is_no_free j 0 d there (omega arith) (sym second.1 ∙ sym same ∙ first.1 ∙ new_at d)) (at_entry j d there))
      (λ first. ⊎_elim (λ second. entry_is_no_free i 0 d (omega arith) (omega arith) (sym first.1 ∙ same ∙ second.1 ∙ new_at d))
      (λ second. entries_differ i j d (omega arith) there (λ equal. omega arith) (sym first.1 ∙ same ∙ second.1)) (at_entry j d there))
      (at_entry i d (omega arith))

  moved_free_apart : (i j d : ℕ) → i < j → j < 64 → get_or (moved page kept).free i d ≡ get_or (moved page kept).free j d → ⊥
  moved_free_apart i j d order there same =
      ⊎_elim
      (λ first. ⊎_elim (λ second. frees_differ (i + 1) (j + 1) d (omega arith) second.0 (sym first.1 ∙ same ∙ second.1))
      (λ second. entry_is_no_free p (i + 1) d (omega arith) first.0 (sym (old_at d) ∙ sym second.1 ∙ sym same ∙ first.1)) (at_free j d there))
      (λ first. omega (arith, first.0))
      (at_free i d (omega arith))

  moved_not_free : (k j : ℕ) → k < 1011 → j < 64 → get_or (moved page kept).entries k 0 ≡ get_or (moved page kept).free j 0 → ⊥
  moved_not_free k j there free same =
      ⊎_elim
      (λ first. ⊎_elim (λ second. frees_differ 0 (j + 1) 0 (omega arith) second.0 (sym first.1 ∙ same ∙ second.1))
      (λ second. entry_is_no_free p 0 0 (omega arith) (omega arith) (sym second.1 ∙ sym same ∙ first.1)) (at_free j 0 free))
      (λ first. ⊎_elim (λ second. entry_is_no_free k (j + 1) 0 there second.0 (sym first.1 ∙ same ∙ second.1))
      (λ second. entries_differ k p 0 there (omega arith) first.0 (sym first.1 ∙ same ∙ second.1)) (at_free j 0 free))
      (at_entry k 0 there)

  -- a move leaves the pool whole
  pub pool_moved : IsPool (moved page kept)
  pool_moved =
      let count : length (moved page kept).entries ≡ 1011 = length-set kept.entries p new ∙ long in
      let free_count : length (moved page kept).free ≡ 64 = omega (arith, many, length-append (drop 1 kept.free) (old ∷ []), length-drop 1 kept.free) in
      record {
        count = count;
        free_count = free_count;
        inside = λ k d there. entry_inside k d (omega arith);
        free_inside = λ j d there. freed_inside j d (omega arith);
        apart = λ i j d order there. λ same. moved_apart i j d order (omega arith) same;
        free_apart = λ i j d order there. λ same. moved_free_apart i j d order (omega arith) same;
        not_free = λ k j there free. λ same. moved_not_free k j (omega arith) (omega arith) same;
      }

-- Bytes of the content and the places on the device where they lie.
use Rattle.std.proofs.Common.{get_or, ◌≡◌, ◌⊎◌, ℕ, ◌+◌, ◌-◌, ◌*◌, ◌/◌, ◌%◌, ◌<◌, ◌≤◌, true, List, length, refl, sym, ◌∙◌, ap, inl, inr, ⊎_elim, arith, slice_range, nat_lt, replicate}
use Rattle.std.proofs.lemmas.Bool.{cases_lt, cases_eq, cases_order, lt-ltb, le-ltb, cond-true, cond-false}
use Rattle.std.proofs.lemmas.Bool.Decides.{nat_tests}
use Rattle.std.proofs.lemmas.Grind.{same_number_lists}
use Rattle.std.proofs.lemmas.List.{get_or_past}
use Rattle.list_laws.proofs.SliceRangeLemmas.{length-range, get_or-range}
use Rattle.list_laws.specs.Patches.{patched, Torn}
use Rattle.list_laws.proofs.PatchesLemmas.{length-patched, patched_before, patched_inside, patched_after}
use Rattle.store_form.specs.Pieces.{IsUsable}
use Rattle.page_store.specs.Pages.{page_of, place_of, through, entries_of, map_of, is_well_formed, content_of}
use Rattle.page_store.specs.Laws.{length-through, get_or-through, place_low}
use Rattle.page_store.specs.Tables.{Kept, IsPool}
use Rattle.page_store.proofs.IsWellFormedLemmas.{formed_pool}

-- a place that lies further on in the same page
pub place_further : (pages : List ℕ) (at n : ℕ) → at % 64 + n < 64 → place_of pages (at + n) ≡ place_of pages at + n
unfolding place_of
place_further pages at n inside =
    let same : (at + n) / 64 ≡ at / 64 = omega arith in
    let rest : (at + n) % 64 ≡ at % 64 + n = omega arith in
    ap (λ page. 64 * page_of pages page + (at + n) % 64) same ∙ omega arith

-- in which page a place lies
pub place_in : (pages : List ℕ) (k : ℕ) → place_of pages k ≡ 64 * page_of pages (k / 64) + k % 64
unfolding place_of
place_in pages k = refl

module _ (kept : Kept) (pool : IsPool kept) where
  pub page_low : (page : ℕ) → page < 13 → page_of kept.entries page ≡ page
  page_low page low = cond-true (nat_lt page 13) page (get_or kept.entries (page - 13) 0) (lt-ltb page 13 low)

  pub page_high : (page : ℕ) → 13 ≤ page → page_of kept.entries page ≡ get_or kept.entries (page - 13) 0
  page_high page high = cond-false (nat_lt page 13) page (get_or kept.entries (page - 13) 0) (le-ltb page 13 high)

  pub in_pool : (page : ℕ) → 13 ≤ page → page < 1024 → (45 ≤ page_of kept.entries page) × (page_of kept.entries page < 1120)
  in_pool page high fits =
      let long : length kept.entries ≡ 1011 = pool.count in
      let inside = pool.inside (page - 13) 0 (omega arith) in
      (let low : 45 ≤ get_or kept.entries (page - 13) 0 = grind (arith, nat_tests) in omega (arith, page_high page high), let up : get_or kept.entries (page - 13) 0 < 1120 = grind (arith, nat_tests) in omega (arith, page_high page high))

  -- a page lies below the pool where it isn't mapped
  pub page_fits : (page : ℕ) → page < 1024 → page_of kept.entries page < 1120
  page_fits page fits = ⊎_elim {C = page_of kept.entries page < 1120} (λ low. omega (arith, page_low page low)) (λ high. (in_pool page high fits).1) (cases_lt page 13)

  pages_differ : (a b : ℕ) → a < b → b < 1024 → page_of kept.entries a ≡ page_of kept.entries b → ⊥
  pages_differ a b order fits same =
      let long : length kept.entries ≡ 1011 = pool.count in
      ⊎_elim {C = ⊥}
      (λ low. ⊎_elim {C = ⊥} (λ low'. omega (arith, page_low a low, page_low b low')) (λ high. omega (arith, page_low a low, (in_pool b high fits).0)) (cases_lt b 13))
      (λ high. let high' : 13 ≤ b = omega arith in pool.apart (a - 13) (b - 13) 0 (omega arith) (omega arith) (sym (page_high a high) ∙ same ∙ page_high b high'))
      (cases_lt a 13)

  apart_pages : (a b : ℕ) → a < 1024 → b < 1024 → (a ≡ b → ⊥) → page_of kept.entries a ≡ page_of kept.entries b → ⊥
  apart_pages a b low low' other same = ⊎_elim {C = ⊥} (λ equal. other equal) (λ order. ⊎_elim {C = ⊥} (λ less. pages_differ a b less low' same) (λ more. pages_differ b a more low (sym same)) order) (cases_order a b)

  -- two bytes of the content lie in two places, and so does a byte beside a range of one page
  pub beside : (k at n : ℕ) → k < 65536 → at < 65536 → at % 64 + n ≤ 64 → (k < at) ⊎ (at + n ≤ k) → (place_of kept.entries k < place_of kept.entries at) ⊎ (place_of kept.entries at + n ≤ place_of kept.entries k)
  beside k at n low low' one_page out =
      let here = place_in kept.entries k in
      let there = place_in kept.entries at in
      elim (cases_eq (k / 64) (at / 64)) [
        | inl same ↦
            let page : page_of kept.entries (k / 64) ≡ page_of kept.entries (at / 64) = ap (λ page. page_of kept.entries page) same in
            ⊎_elim {C = (place_of kept.entries k < place_of kept.entries at) ⊎ (place_of kept.entries at + n ≤ place_of kept.entries k)} (λ before. inl (omega arith)) (λ after. inr (omega arith)) out
        | inr other ↦
            ⊎_elim {C = (place_of kept.entries k < place_of kept.entries at) ⊎ (place_of kept.entries at + n ≤ place_of kept.entries k)}
            (λ equal. absurd (apart_pages (k / 64) (at / 64) (omega arith) (omega arith) other equal))
            (λ order. ⊎_elim {C = (place_of kept.entries k < place_of kept.entries at) ⊎ (place_of kept.entries at + n ≤ place_of kept.entries k)} (λ less. inl (omega arith)) (λ more. inr (omega arith)) order)
            (cases_order (page_of kept.entries (k / 64)) (page_of kept.entries (at / 64)))
      ]

  pub place_fits : (at n : ℕ) → at + n ≤ 65536 → 0 < n → at % 64 + n ≤ 64 → place_of kept.entries at + n ≤ 71680
  place_fits at n fits some one_page = omega (arith, place_in kept.entries at, page_fits (at / 64) (omega arith))

  -- a range of one page of the content is one on the device
  pub range_through : (image : List ℕ) (at n : ℕ) → length image ≡ 71680 → at + n ≤ 65536 → 0 < n → at % 64 + n ≤ 64
      → slice_range (through kept.entries image) at (at + n) ≡ slice_range image (place_of kept.entries at) (place_of kept.entries at + n)
  range_through image at n long fits some one_page =
      let held = through kept.entries image in
      let place = place_of kept.entries at in
      let inside : at + n ≤ length held = omega (arith, length-through kept.entries image) in
      let inside' : place + n ≤ length image = omega (arith, place_fits at n fits some one_page) in
      let first = length-range held at n inside in
      same_number_lists _ _ (first ∙ sym (length-range image place n inside')) (λ k low.
      let low' : k < n = omega arith in
      get_or-range held at n k low' ∙ get_or-through kept.entries image (at + k) (omega arith) ∙ ap (λ p. get_or image p 0) (place_further kept.entries at k (omega arith)) ∙ sym (get_or-range image place n k low'))

  inside_range : (image bytes : List ℕ) (at k : ℕ) → at + length bytes ≤ length (through kept.entries image) → place_of kept.entries at + length bytes ≤ length image → at % 64 + length bytes ≤ 64 → at ≤ k → k < at + length bytes
      → get_or (patched (place_of kept.entries at) bytes image) (place_of kept.entries k) 0 ≡ get_or (patched at bytes (through kept.entries image)) k 0
  inside_range image bytes at k inside inside' one_page from to =
      let place = place_of kept.entries at in
      let on : at + (k - at) ≡ k = omega arith in
      let there : place_of kept.entries k ≡ place + (k - at) = ap (λ n. place_of kept.entries n) (sym on) ∙ place_further kept.entries at (k - at) (omega arith) in
      let back : place_of kept.entries k - place ≡ k - at = omega arith in
      patched_inside place bytes image inside' (place_of kept.entries k) (omega arith) (omega arith) ∙ ap (λ n. get_or bytes n 0) back
      ∙ sym (patched_inside at bytes (through kept.entries image) inside k from to)

  outside_range : (image bytes : List ℕ) (at k : ℕ) → at + length bytes ≤ length (through kept.entries image) → place_of kept.entries at + length bytes ≤ length image → at < 65536 → at % 64 + length bytes ≤ 64 → k < 65536 → (k < at) ⊎ (at + length bytes ≤ k)
      → get_or (patched (place_of kept.entries at) bytes image) (place_of kept.entries k) 0 ≡ get_or (patched at bytes (through kept.entries image)) k 0
  outside_range image bytes at k inside inside' low' one_page low out =
      let place = place_of kept.entries at in
      let kept_there = ⊎_elim {C = get_or (patched place bytes image) (place_of kept.entries k) 0 ≡ get_or image (place_of kept.entries k) 0}
      (λ before. patched_before place bytes image inside' (place_of kept.entries k) before) (λ after. patched_after place bytes image inside' (place_of kept.entries k) after) (beside k at (length bytes) low low' one_page out) in
      let kept_here = ⊎_elim {C = get_or (patched at bytes (through kept.entries image)) k 0 ≡ get_or (through kept.entries image) k 0}
      (λ before. patched_before at bytes (through kept.entries image) inside k before) (λ after. patched_after at bytes (through kept.entries image) inside k after) out in
      kept_there ∙ sym (get_or-through kept.entries image k low) ∙ sym kept_here

  -- bytes put into a range of one page are put into the content
  pub patched_through : (image bytes : List ℕ) (at : ℕ) → length image ≡ 71680 → at + length bytes ≤ 65536 → 0 < length bytes → at % 64 + length bytes ≤ 64
      → through kept.entries (patched (place_of kept.entries at) bytes image) ≡ patched at bytes (through kept.entries image)
  patched_through image bytes at long fits some one_page =
      let held = through kept.entries image in
      let place = place_of kept.entries at in
      let new = patched place bytes image in
      let count : length held ≡ 65536 = length-through kept.entries image in
      let inside : at + length bytes ≤ length held = omega arith in
      let inside' : place + length bytes ≤ length image = omega (arith, place_fits at (length bytes) fits some one_page) in
      let first : length (through kept.entries new) ≡ 65536 = length-through kept.entries new in
      same_number_lists _ _ (first ∙ sym (length-patched at bytes held inside ∙ count)) (λ k low.
      let low' : k < 65536 = omega arith in
      get_or-through kept.entries new k low' ∙ ⊎_elim {C = get_or new (place_of kept.entries k) 0 ≡ get_or (patched at bytes held) k 0}
      (λ before. outside_range image bytes at k inside inside' (omega arith) one_page low' (inl before))
      (λ from. ⊎_elim {C = get_or new (place_of kept.entries k) 0 ≡ get_or (patched at bytes held) k 0} (λ to. inside_range image bytes at k inside inside' one_page from to)
      (λ after. outside_range image bytes at k inside inside' (omega arith) one_page low' (inr after)) (cases_lt k (at + length bytes))) (cases_lt k at))

  -- a range of one page that is torn is torn in the content
  pub torn_through : (image new : List ℕ) (at n : ℕ) → at + n ≤ 65536 → 0 < n → at % 64 + n ≤ 64 → Torn (place_of kept.entries at) n image new → Torn at n (through kept.entries image) (through kept.entries new)
  torn_through image new at n fits some one_page torn = record {
    same_length = length-through kept.entries new ∙ sym (length-through kept.entries image);
    before = λ k low. same k (omega arith) (inl low);
    after = λ k high. ⊎_elim {C = get_or (through kept.entries new) k 0 ≡ get_or (through kept.entries image) k 0} (λ low. same k low (inr high))
        (λ past. get_or_past (through kept.entries new) k 0 (omega (arith, length-through kept.entries new)) ∙ sym (get_or_past (through kept.entries image) k 0 (omega (arith, length-through kept.entries image)))) (cases_lt k 65536);
  }
    where
      same : (k : ℕ) → k < 65536 → (k < at) ⊎ (at + n ≤ k) → get_or (through kept.entries new) k 0 ≡ get_or (through kept.entries image) k 0
      same k low out = get_or-through kept.entries new k low ∙ ⊎_elim {C = get_or new (place_of kept.entries k) 0 ≡ get_or image (place_of kept.entries k) 0} (λ before. torn.before (place_of kept.entries k) before) (λ after. torn.after (place_of kept.entries k) after)
          (beside k at n low (omega arith) one_page out) ∙ sym (get_or-through kept.entries image k low)

  -- what a caller may name lies beside the map
  pub clear_of_map : (at n : ℕ) → IsUsable 65536 at n → 0 < n → (place_of kept.entries at + n ≤ 64) ⊎ (2880 ≤ place_of kept.entries at)
  clear_of_map at n usable some =
      let fits : at + n ≤ 65536 = usable.inside in
      let outside : at < 832 → at + n ≤ 64 = usable.outside some in
      ⊎_elim {C = (place_of kept.entries at + n ≤ 64) ⊎ (2880 ≤ place_of kept.entries at)} (λ low. inl (omega (arith, outside low, place_low kept.entries at low)))
      (λ high. inr (omega (arith, place_in kept.entries at, (in_pool (at / 64) (omega arith) (omega arith)).0))) (cases_lt at 832)

  -- the content of an image whose map this is
  pub content_through : (image : List ℕ) → map_of image ≡ kept.entries → content_of image ≡ through kept.entries image
  unfolding content_of
  content_through image same =
      let formed : is_well_formed (map_of image) ≡ true = ap (λ pages. is_well_formed pages) same ∙ formed_pool kept pool in
      cond-true (is_well_formed (map_of image)) (through (map_of image) image) (replicate 65536 255) formed ∙ ap (λ pages. through pages image) same

-- images that agree where the map lies have one map
pub same_map : (image new : List ℕ) → length image ≡ 71680 → length new ≡ 71680 → ((k : ℕ) → 832 ≤ k → k < 2854 → get_or new k 0 ≡ get_or image k 0) → map_of new ≡ map_of image
same_map image new long long' each =
    let first : length (slice_range image 832 (832 + 2022)) ≡ 2022 = length-range image 832 2022 (omega arith) in
    let second : length (slice_range new 832 (832 + 2022)) ≡ 2022 = length-range new 832 2022 (omega arith) in
    ap (λ bytes. entries_of bytes) (same_number_lists (slice_range new 832 (832 + 2022)) (slice_range image 832 (832 + 2022)) (second ∙ sym first) (λ k low.
    let low' : k < 2022 = omega arith in
    get_or-range new 832 2022 k low' ∙ each (832 + k) (omega arith) (omega arith) ∙ sym (get_or-range image 832 2022 k low')))

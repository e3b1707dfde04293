-- A device that gets its first map.
use Rattle.std.proofs.Common.{get_or, zero-add, ◌≡◌, ◌⊎◌, ℕ, ◌+◌, ◌-◌, ◌*◌, ◌<◌, ◌≤◌, ◌/◌, true, false, not, ◌==◌, List, length, take, Some, None, refl, sym, ◌∙◌, ap, subst, inl, inr, ⊎_elim, arith, slice_range, replicate, option_map, IfSome}
use Rattle.std.specs.List.{range_with_len}
use Rattle.std.proofs.lemmas.Bool.{cases_lt, cases_Bool, cond-false, and_from, not_from_false, false_from_ne_true, eqb-true}
use Rattle.std.proofs.lemmas.Bool.Decides.{nat_tests}
use Rattle.std.proofs.lemmas.Grind.{same_number_lists}
use Rattle.std.proofs.lemmas.List.{length-replicate, get_or-replicate, get_or-take, length-take}
use Rattle.std.proofs.lemmas.List.Folds.{Any-from_list_any}
use Rattle.std.proofs.lemmas.List.FromFn.{length-map-range_with_len, get_or-map-range_with_len, length-range_with_len, get_or-range_with_len}
use Rattle.list_laws.specs.Patches.{patched, Torn}
use Rattle.list_laws.proofs.PatchesLemmas.{Torn_patched, patched_inside, range-patched_there}
use Rattle.uicc_types.specs.Told.{Becomes}
use Rattle.update_journal.proofs.IsUnderWayLemmas.{some_same}
use Rattle.page_store.specs.Blanks.{IsBlank, first_entries}
use Rattle.page_store.specs.Pages.{number_at, entries_of, map_of, is_in_pool, is_among, is_right, is_well_formed, place_of, through, content_of, content}
use Rattle.page_store.specs.Laws.{length-through, get_or-through, place_low}
use Rattle.page_store.specs.Tables.{Kept, loaded, IsPool, IsKept}
use Rattle.page_store.proofs.IsWellFormedLemmas.{pool_of, formed_by}
use Rattle.page_store.proofs.PlaceOfLemmas.{place_in, in_pool, content_through, same_map}
use Rattle.page_store.proofs.InPageLemmas.{Told, HasLength}

abbrev ff : List ℕ
ff = replicate 64 255

-- the first page is FF, and the pool up to a place; the map is as it was
pub record IsFilling (until : ℕ) (old new : List ℕ) : Type 0 where
  pub long : length new ≡ length old
  pub map_kept : (k : ℕ) → 832 ≤ k → k < 2880 → get_or new k 0 ≡ get_or old k 0
  pub first : (k : ℕ) → k < 64 → get_or new k 0 ≡ 255
  pub pool : (k : ℕ) → 2880 ≤ k → k < until → get_or new k 0 ≡ 255

written : (at : ℕ) (image : List ℕ) → at + 64 ≤ length image → (k : ℕ) → at ≤ k → k < at + 64 → get_or (patched at ff image) k 0 ≡ 255
written at image fits k from to =
    let long : length ff ≡ 64 = length-replicate {A = ℕ} 64 255 in
    let byte : ℕ = 255 in
    patched_inside at ff image (omega arith) k from (omega arith) ∙ get_or-replicate 64 (k - at) byte 0 (omega arith)

page_torn : (at : ℕ) (image : List ℕ) → at + 64 ≤ length image → Torn at 64 image (patched at ff image)
page_torn at image fits = let long : length ff ≡ 64 = length-replicate {A = ℕ} 64 255 in Torn_patched at 64 ff image long (omega arith)

filling_begun : (image : List ℕ) → length image ≡ 71680 → IsFilling 2880 image (patched 0 ff image)
filling_begun image long =
    let torn = page_torn 0 image (omega arith) in
    record {
      long = torn.same_length;
      map_kept = λ k low high. torn.after k (omega arith);
      first = λ k low. written 0 image (omega arith) k (omega arith) (omega arith);
      pool = λ k low high. absurd (omega arith);
    }

filling_on : (page : ℕ) (old mid : List ℕ) → length old ≡ 71680 → 45 ≤ page → page < 1120 → IsFilling (64 * page) old mid → IsFilling (64 * (page + 1)) old (patched (64 * page) ff mid)
filling_on page old mid long low high filling =
    let fits : 64 * page + 64 ≤ length mid = omega (arith, filling.long) in
    let torn = page_torn (64 * page) mid fits in
    record {
      long = torn.same_length ∙ filling.long;
      map_kept = λ k from to. torn.before k (omega arith) ∙ filling.map_kept k from to;
      first = λ k below. torn.before k (omega arith) ∙ filling.first k below;
      pool = λ k from to. ⊎_elim {C = get_or (patched (64 * page) ff mid) k 0 ≡ 255} (λ before. torn.before k before ∙ filling.pool k from before) (λ there. written (64 * page) mid fits k there (omega arith)) (cases_lt k (64 * page));
    }

-- the content without a map
pub blank_content : (image : List ℕ) → is_well_formed (map_of image) ≡ false → content_of image ≡ replicate 65536 255
unfolding content_of
blank_content image none = cond-false (is_well_formed (map_of image)) (through (map_of image) image) (replicate 65536 255) none

still_none : (old new : List ℕ) → length old ≡ 71680 → length new ≡ 71680 → is_well_formed (map_of old) ≡ false → ((k : ℕ) → 832 ≤ k → k < 2880 → get_or new k 0 ≡ get_or old k 0) → content_of new ≡ content_of old
still_none old new long long' none each =
    let same = same_map old new long long' (λ k low high. each k low (omega arith)) in
    blank_content new (ap (λ pages. is_well_formed pages) same ∙ none) ∙ sym (blank_content old none)

beside_map : (at : ℕ) (mid new : List ℕ) → (at ≡ 0) ⊎ (2880 ≤ at) → Torn at 64 mid new → (k : ℕ) → 832 ≤ k → k < 2880 → get_or new k 0 ≡ get_or mid k 0
beside_map at mid new beside torn k low high = ⊎_elim {C = get_or new k 0 ≡ get_or mid k 0} (λ first. torn.after k (omega arith)) (λ pool. torn.before k (omega arith)) beside

-- What the pages that are filled come to on a store that may tell its bytes, or may not.
abbrev pub HasNoMap : Told → Type 0
HasNoMap told = IfSome told (λ image. is_well_formed (map_of image) ≡ false)

-- a fault in the first page
pub first_torn : (told new : Told) → HasLength told 71680 → HasNoMap told → Becomes (Torn 0 64) told new → content new ≡ content told
first_torn None None long none torn = refl
first_torn None (Some new) long none torn = absurd torn
first_torn (Some old) None long none torn = absurd torn
first_torn (Some old) (Some new) long none torn = some_same _ _ (still_none old new long (torn.same_length ∙ long) none (beside_map 0 old new (inl refl) torn))

-- the first page is filled
pub record FirstFilled (told new : Told) : Type 0 where
  pub filling : Becomes (IsFilling 2880) new new
  pub no_map : HasNoMap new
  pub same : content new ≡ content told

pub first_filled : (told new : Told) → HasLength told 71680 → HasNoMap told → new ≡ option_map (patched 0 ff) told → FirstFilled told new
first_filled told new long none put = subst (λ o. FirstFilled told o) (sym put) (go told long none)
  where
    go : (told : Told) → HasLength told 71680 → HasNoMap told → FirstFilled told (option_map (patched 0 ff) told)
    go None long none = record { filling = tt; no_map = tt; same = refl }
    go (Some old) long none =
        let filled = filling_begun old long in
        let same = same_map old (patched 0 ff old) long (filled.long ∙ long) (λ k low high. filled.map_kept k low (omega arith)) in
        record {
          filling = record { long = refl; map_kept = λ k low high. refl; first = filled.first; pool = filled.pool };
          no_map = ap (λ pages. is_well_formed pages) same ∙ none;
          same = some_same _ _ (still_none old (patched 0 ff old) long (filled.long ∙ long) none filled.map_kept);
        }

pub page_filled : (page at : ℕ) (told mid new : Told) → at ≡ 64 * page → HasLength told 71680 → 45 ≤ page → page < 1120 → Becomes (IsFilling (64 * page)) told mid → new ≡ option_map (patched at ff) mid → Becomes (IsFilling (64 * (page + 1))) told new
page_filled page at told mid new is long low high filling put = subst (λ o. Becomes (IsFilling (64 * (page + 1))) told o) (sym (put ∙ ap (λ n. option_map (patched n ff) mid) is)) (go told mid long filling)
  where
    go : (told mid : Told) → HasLength told 71680 → Becomes (IsFilling (64 * page)) told mid → Becomes (IsFilling (64 * (page + 1))) told (option_map (patched (64 * page) ff) mid)
    go None None long filling = tt
    go None (Some mid) long filling = absurd filling
    go (Some old) None long filling = absurd filling
    go (Some old) (Some mid) long filling = filling_on page old mid long low high filling

-- a fault in a page of the pool
pub page_torn_told : (page at : ℕ) (told mid new : Told) → at ≡ 64 * page → HasLength told 71680 → HasNoMap told → 45 ≤ page → Becomes (IsFilling (64 * page)) told mid → Becomes (Torn at 64) mid new → content new ≡ content told
page_torn_told page at None None None is long none low filling torn = refl
page_torn_told page at None None (Some new) is long none low filling torn = absurd torn
page_torn_told page at None (Some mid) new is long none low filling torn = absurd filling
page_torn_told page at (Some old) None new is long none low filling torn = absurd filling
page_torn_told page at (Some old) (Some mid) None is long none low filling torn = absurd torn
page_torn_told page at (Some old) (Some mid) (Some new) is long none low filling torn =
    some_same _ _ (still_none old new long (torn.same_length ∙ filling.long ∙ long) none (λ k from to. beside_map at mid new (inr (omega arith)) torn k from to ∙ filling.map_kept k from to))

pub all_filled : (until : ℕ) (told mid : Told) → until ≡ 71680 → HasLength told 71680 → HasNoMap told → Becomes (IsFilling until) told mid → (content mid ≡ content told) × IfSome mid IsBlank
all_filled until None None is long none filling = (refl, tt)
all_filled until None (Some mid) is long none filling = absurd filling
all_filled until (Some old) None is long none filling = absurd filling
all_filled until (Some old) (Some mid) is long none filling = (
  some_same _ _ (still_none old mid long (filling.long ∙ long) none filling.map_kept),
  record { first = λ k low. filling.first k low; pool = λ k low high. filling.pool k low (omega arith) },
)

-- whatever the map, pages of FF make a content of FF
pub entries_count : (bytes : List ℕ) → length (entries_of bytes) ≡ 1011
unfolding entries_of
entries_count bytes = length-map-range_with_len (λ k. number_at bytes (2 * k)) 0 1011

abbrev Owns : List ℕ → Type 0
Owns image = (k : ℕ) → 64 ≤ k → k < 832 → get_or image k 0 ≡ 255

all_blank : (image : List ℕ) → length image ≡ 71680 → Owns image → IsBlank image → content_of image ≡ replicate 65536 255
all_blank image long own blank = elim (cases_Bool (is_well_formed (map_of image))) [
  | inl formed ↦
      let kept = loaded (map_of image) in
      let pool = pool_of (map_of image) formed (entries_count (slice_range image 832 2854)) in
      content_through kept pool image refl ∙ same_number_lists (through kept.entries image) (replicate 65536 255) (length-through kept.entries image ∙ sym (length-replicate {A = ℕ} 65536 255)) (λ k there.
      let fits : k < 65536 = omega (arith, length-through kept.entries image) in
      let byte : ℕ = 255 in
      get_or-through kept.entries image k fits ∙ at_place kept pool k fits ∙ sym (get_or-replicate 65536 k byte 0 fits))
  | inr none ↦ blank_content image none
]
  where
    at_place : (kept : Kept) → IsPool kept → (k : ℕ) → k < 65536 → get_or image (place_of kept.entries k) 0 ≡ 255
    at_place kept pool k fits =
        ⊎_elim {C = get_or image (place_of kept.entries k) 0 ≡ 255}
        (λ low. ap (λ n. get_or image n 0) (place_low kept.entries k low) ∙ ⊎_elim {C = get_or image k 0 ≡ 255} (λ first. blank.first k first) (λ from. own k from low) (cases_lt k 64))
        (λ high. let named = in_pool kept pool (k / 64) (omega arith) (omega arith) in blank.pool (place_of kept.entries k) (omega (arith, place_in kept.entries k, named.0)) (omega (arith, place_in kept.entries k, named.1)))
        (cases_lt k 832)

-- the map is written, or torn
abbrev pub HasOwn : Told → Type 0
HasOwn told = (k : ℕ) → 64 ≤ k → k < 832 → IfSome told (λ held. get_or held k 0 ≡ 255)

pub map_torn : (mid new : Told) → HasLength mid 71680 → IfSome mid IsBlank → HasOwn mid → HasOwn new → Becomes (Torn 832 2022) mid new → content new ≡ content mid
map_torn None None long blank own own' torn = refl
map_torn None (Some new) long blank own own' torn = absurd torn
map_torn (Some mid) None long blank own own' torn = absurd torn
map_torn (Some mid) (Some new) long blank own own' torn =
    let after : IsBlank new = record { first = λ k low. torn.before k (omega arith) ∙ blank.first k low; pool = λ k low high. torn.after k (omega arith) ∙ blank.pool k low high } in
    some_same _ _ (all_blank new (torn.same_length ∙ long) own' after ∙ sym (all_blank mid long own blank))

pub map_put : (mid new : Told) (bytes : List ℕ) → HasLength mid 71680 → length bytes ≡ 2022 → new ≡ option_map (patched 832 bytes) mid → Becomes (Torn 832 2022) mid new × IfSome new (λ image. map_of image ≡ entries_of bytes)
map_put mid new bytes long count put = subst (λ o. Becomes (Torn 832 2022) mid o × IfSome o (λ image. map_of image ≡ entries_of bytes)) (sym put) (go mid long)
  where
    go : (mid : Told) → HasLength mid 71680 → Becomes (Torn 832 2022) mid (option_map (patched 832 bytes) mid) × IfSome (option_map (patched 832 bytes) mid) (λ image. map_of image ≡ entries_of bytes)
    go None long = (tt, tt)
    go (Some mid) long =
        let fits : 832 + length bytes ≤ length mid = omega arith in
        let end : 832 + length bytes ≡ 2854 = omega arith in (
          Torn_patched 832 2022 bytes mid count fits,
          ap (λ (l : List ℕ). entries_of l) (ap (λ n. slice_range (patched 832 bytes mid) 832 n) (sym end) ∙ range-patched_there 832 bytes mid fits),
        )

-- the map that was made is kept
pub kept_first : (new : Told) (bytes : List ℕ) (kept : Kept) → is_well_formed (entries_of bytes) ≡ true → kept ≡ loaded (entries_of bytes) → IfSome new (λ image. map_of image ≡ entries_of bytes) → IsKept kept new
kept_first new bytes kept formed is same =
    subst (λ k. IsKept k new) (sym is) (record { pool = pool_of (entries_of bytes) formed (entries_count bytes); same = same })

-- the first map is well formed
pub first_formed : (entries : List ℕ) → entries ≡ first_entries → is_well_formed entries ≡ true
unfolding first_entries
first_formed entries is = ap (λ pages. is_well_formed pages) is ∙ formed_by (range_with_len 45 1011) (λ k there. right 45 1011 k (omega (arith, length-range_with_len 45 1011)) (omega arith) (omega (arith, length-range_with_len 45 1011)))
  where
    right : (a n k : ℕ) → k < n → 45 ≤ a → a + k < 1120 → is_right (range_with_len a n) k ≡ true
    right a n k low high fits =
        let y = get_or (range_with_len a n) k 0 in
        let at : y ≡ a + k = get_or-range_with_len a n k 0 low in
        let inside : is_in_pool y ≡ true = grind (arith, nat_tests) in
        and_from (is_in_pool y) (not (is_among (take k (range_with_len a n)) y)) inside
        (not_from_false (is_among (take k (range_with_len a n)) y) (false_from_ne_true (is_among (take k (range_with_len a n)) y) (λ among.
        let found = Any-from_list_any (λ other. other == y) (take k (range_with_len a n)) among in
        let i = found.0 in
        let before : i < k = omega (arith, found.2, length-take k (range_with_len a n)) in
        let same = eqb-true found.1 y found.4 in
        omega (arith, same, found.3, get_or-take k (range_with_len a n) i found.1 before, get_or-range_with_len a n i found.1 (omega arith)))))

pub first_by : (bytes : List ℕ) (n : ℕ) → n ≡ 1011 → ((i : ℕ) → i < n → number_at bytes (2 * i) ≡ 45 + i) → entries_of bytes ≡ first_entries
unfolding entries_of first_entries
first_by bytes n is each =
    let first = length-map-range_with_len (λ k. number_at bytes (2 * k)) 0 1011 in
    same_number_lists (entries_of bytes) (range_with_len 45 1011) (first ∙ sym (length-range_with_len 45 1011)) (λ k there.
    let low : k < 1011 = omega arith in
    get_or-map-range_with_len (λ k. number_at bytes (2 * k)) 0 1011 k k 0 low (zero-add k) ∙ each k (omega arith) ∙ sym (get_or-range_with_len 45 1011 k 0 low))

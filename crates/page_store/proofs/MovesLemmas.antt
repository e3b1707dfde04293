-- Pages that move, one after the other.
use Rattle.std.proofs.Common.{get_or, zero-add, ◌≡◌, ◌⊎◌, ℕ, ◌+◌, ◌-◌, ◌*◌, ◌/◌, ◌%◌, ◌<◌, ◌≤◌, Bool, true, false, ◌&&◌, List, [], ◌∷◌, length, take, drop, Some, None, refl, sym, ◌∙◌, ap, subst, inl, inr, ⊎_elim, arith, nat_lt, if◌then◌else◌, slice_range, option_map, IfSome}
use Rattle.std.specs.List.{fold, count_by, range_with_len}
use Rattle.std.proofs.lemmas.Bool.{cases_lt, cases_eq, lt-ltb, le-ltb, and_left, and_right, and_from}
use Rattle.std.proofs.lemmas.Grind.{get_or-set_at, same_number_lists}
use Rattle.std.proofs.lemmas.List.{get_or-set_other, get_or-drop, get_or_append_left, length-drop}
use Rattle.std.proofs.lemmas.List.FromFn.{length-range_with_len, get_or-range_with_len}
use Rattle.std.proofs.lemmas.List.Sums.{fold_more, count_by_more_yes, count_by_more_no}
use Rattle.list_laws.proofs.SliceRangeLemmas.{length-range, get_or-range}
use Rattle.list_laws.specs.Patches.{patched, Torn}
use Rattle.list_laws.proofs.PatchesLemmas.{length-patched, patched_inside, Torn_patched}
use Rattle.uicc_types.specs.Told.{Becomes}
use Rattle.store_form.specs.Pieces.{Piece, applied, IsUsable}
use Rattle.page_store.specs.Below.{InPage}
use Rattle.page_store.specs.Pages.{page_of, place_of, through, map_of, content_of, content}
use Rattle.page_store.specs.Laws.{length-through, get_or-through}
use Rattle.page_store.specs.Tables.{Kept, moved, IsPool, IsKept}
use Rattle.page_store.specs.Commits.{is_touched, moved_below, is_done, done_count, bytes_of_page, IsMoving, Moves}
use Rattle.page_store.proofs.IsWellFormedLemmas.{pool_moved, pool_bounds}
use Rattle.page_store.proofs.PlaceOfLemmas.{place_in, page_low, page_high, content_through, range_through, same_map}
use Rattle.page_store.proofs.InPageLemmas.{Told, HasLength}

if_true : {A : Type 0} (b : Bool) (x y : A) → b ≡ true → (if b then x else y) ≡ x
if_true true x y e = refl
if_true false x y e = absurd (cc e)

if_false : {A : Type 0} (b : Bool) (x y : A) → b ≡ false → (if b then x else y) ≡ y
if_false true x y e = absurd (cc e)
if_false false x y e = refl

-- which pages are done, one page on
done_other : (pieces : List Piece) (until page : ℕ) → (page ≡ until → ⊥) → is_done pieces (until + 1) page ≡ is_done pieces until page
done_other pieces until page other = ap (λ b. b && is_touched pieces page) (⊎_elim {C = nat_lt page (until + 1) ≡ nat_lt page until}
    (λ low. lt-ltb page (until + 1) (omega arith) ∙ sym (lt-ltb page until low)) (λ high. le-ltb page (until + 1) (past high) ∙ sym (le-ltb page until high)) (cases_lt page until))
  where
    past : until ≤ page → until + 1 ≤ page
    past high = ⊎_elim {C = until + 1 ≤ page} (λ more. omega arith) (λ same. absurd (other (omega arith))) (cases_lt until page)

not_done : (pieces : List Piece) (until page : ℕ) → until ≤ page → is_done pieces until page ≡ false
not_done pieces until page high = and_left (nat_lt page until) (is_touched pieces page) (le-ltb page until high)

pub count_on : (pieces : List Piece) (page : ℕ) → 13 ≤ page → page < 1024 → is_touched pieces page ≡ true → done_count pieces (page + 1) ≡ done_count pieces page + 1
unfolding done_count
count_on pieces page low high touched =
    let i = page - 13 in
    let here : i < length (range_with_len 13 1011) = omega (arith, length-range_with_len 13 1011) in
    let at : get_or (range_with_len 13 1011) i 0 ≡ page = get_or-range_with_len 13 1011 i 0 (omega arith) ∙ omega arith in
    let one_on : page + 1 - 13 ≡ i + 1 = omega arith in
    ap (λ n. count_by (is_touched pieces) (take n (range_with_len 13 1011))) one_on ∙ count_by_more_yes (is_touched pieces) (range_with_len 13 1011) i 0 here (ap (is_touched pieces) at ∙ touched)

pub count_stays : (pieces : List Piece) (page : ℕ) → 13 ≤ page → page < 1024 → is_touched pieces page ≡ false → done_count pieces (page + 1) ≡ done_count pieces page
unfolding done_count
count_stays pieces page low high touched =
    let i = page - 13 in
    let here : i < length (range_with_len 13 1011) = omega (arith, length-range_with_len 13 1011) in
    let at : get_or (range_with_len 13 1011) i 0 ≡ page = get_or-range_with_len 13 1011 i 0 (omega arith) ∙ omega arith in
    let one_on : page + 1 - 13 ≡ i + 1 = omega arith in
    ap (λ n. count_by (is_touched pieces) (take n (range_with_len 13 1011))) one_on ∙ count_by_more_no (is_touched pieces) (range_with_len 13 1011) i 0 here (ap (is_touched pieces) at ∙ touched)

-- what is written in a page that the map doesn't name is not seen through it
module _ (start : Kept) (pool : IsPool start) (free : ℕ) (low : 45 ≤ free) (new_page : (k : ℕ) → k < 1011 → get_or start.entries k 0 ≡ free → ⊥) where
  unseen_place : (k : ℕ) → k < 65536 → (place_of start.entries k < 64 * free) ⊎ (64 * free + 64 ≤ place_of start.entries k)
  unseen_place k fits =
      let other : page_of start.entries (k / 64) ≡ free → ⊥ = λ same. ⊎_elim {C = ⊥} (λ own. omega (arith, page_low start pool (k / 64) own))
      (λ mapped. new_page (k / 64 - 13) (omega arith) (sym (page_high start pool (k / 64) mapped) ∙ same)) (cases_lt (k / 64) 13) in
      ⊎_elim {C = (place_of start.entries k < 64 * free) ⊎ (64 * free + 64 ≤ place_of start.entries k)} (λ less. inl (omega (arith, place_in start.entries k)))
      (λ from. inr (beyond from other)) (cases_lt (page_of start.entries (k / 64)) free)
    where
      beyond : free ≤ page_of start.entries (k / 64) → (page_of start.entries (k / 64) ≡ free → ⊥) → 64 * free + 64 ≤ place_of start.entries k
      beyond from other = ⊎_elim {C = 64 * free + 64 ≤ place_of start.entries k} (λ more. omega (arith, place_in start.entries k)) (λ same. absurd (other (omega arith))) (cases_lt free (page_of start.entries (k / 64)))

  pub unseen : (image new : List ℕ) → Torn (64 * free) 64 image new → through start.entries new ≡ through start.entries image
  unseen image new torn =
      same_number_lists (through start.entries new) (through start.entries image) (length-through start.entries new ∙ sym (length-through start.entries image)) (λ k there.
      let fits : k < 65536 = omega (arith, length-through start.entries new) in
      get_or-through start.entries new k fits ∙ ⊎_elim {C = get_or new (place_of start.entries k) 0 ≡ get_or image (place_of start.entries k) 0} (λ before. torn.before (place_of start.entries k) before) (λ after. torn.after (place_of start.entries k) after)
      (unseen_place k fits) ∙ sym (get_or-through start.entries image k fits))

-- a page that was written, and another
written_page : (image bytes : List ℕ) (free : ℕ) → length bytes ≡ 64 → 64 * free + 64 ≤ length image → bytes_of_page (patched (64 * free) bytes image) free ≡ bytes
written_page image bytes free long fits =
    let fits' : 64 * free + length bytes ≤ length image = omega arith in
    let now = patched (64 * free) bytes image in
    let inside : 64 * free + 64 ≤ length now = omega (arith, length-patched (64 * free) bytes image fits') in
    same_number_lists (bytes_of_page now free) bytes (length-range now (64 * free) 64 inside ∙ sym long) (λ k low.
    let low' : k < 64 = omega (arith, length-range now (64 * free) 64 inside) in
    get_or-range now (64 * free) 64 k low' ∙ patched_inside (64 * free) bytes image fits' (64 * free + k) (omega arith) (omega arith) ∙ ap (λ n. get_or bytes n 0) (let on : 64 * free + k - 64 * free ≡ k = omega arith in on))

other_page : (image new : List ℕ) (free page : ℕ) → Torn (64 * free) 64 image new → (page ≡ free → ⊥) → 64 * page + 64 ≤ length image → bytes_of_page new page ≡ bytes_of_page image page
other_page image new free page torn other fits =
    let inside : 64 * page + 64 ≤ length new = omega (arith, torn.same_length) in
    same_number_lists (bytes_of_page new page) (bytes_of_page image page) (length-range new (64 * page) 64 inside ∙ sym (length-range image (64 * page) 64 fits)) (λ k low.
    let low' : k < 64 = omega (arith, length-range new (64 * page) 64 inside) in
    get_or-range new (64 * page) 64 k low' ∙ ⊎_elim {C = get_or new (64 * page + k) 0 ≡ get_or image (64 * page + k) 0} (λ less. torn.before (64 * page + k) (omega arith))
    (λ from. torn.after (64 * page + k) (beyond from k)) (cases_lt page free) ∙ sym (get_or-range image (64 * page) 64 k low'))
  where
    beyond : free ≤ page → (k : ℕ) → 64 * free + 64 ≤ 64 * page + k
    beyond from k = ⊎_elim {C = 64 * free + 64 ≤ 64 * page + k} (λ more. omega arith) (λ same. absurd (other (omega arith))) (cases_lt free page)

-- one page more has moved, in an image
module _ (pieces : List Piece) (page : ℕ) (start kept : Kept) (low : 13 ≤ page) (high : page < 1024) (touched : is_touched pieces page ≡ true) (begun : IsPool start) (pool : IsPool kept)
    (oldest : get_or kept.free 0 0 ≡ get_or start.free (done_count pieces page) 0) (few : done_count pieces page < 64) (old mid : List ℕ) (long : length old ≡ 71680) (moving : IsMoving pieces page start kept old mid) where
  abbrev free : ℕ
  free = get_or kept.free 0 0

  abbrev held : List ℕ
  held = through start.entries old

  entries_long : length kept.entries ≡ 1011
  entries_long = pool.count

  free_pool : (45 ≤ free) × (free < 1120)
  free_pool =
      let many : length kept.free ≡ 64 = pool.free_count in
      let inside = pool.free_inside 0 0 (omega arith) in
      pool_bounds free inside

  mid_long : length mid ≡ 71680
  mid_long = moving.long ∙ long

  not_named : (k : ℕ) → k < 1011 → get_or start.entries k 0 ≡ free → ⊥
  not_named k there same =
      let count : length start.entries ≡ 1011 = begun.count in
      let many : length start.free ≡ 64 = begun.free_count in
      begun.not_free k (done_count pieces page) (omega arith) (omega arith) (same ∙ oldest)

  not_kept : (k : ℕ) → k < 1011 → get_or kept.entries k 0 ≡ free → ⊥
  not_kept k there same =
      let many : length kept.free ≡ 64 = pool.free_count in
      pool.not_free k 0 (omega (arith, entries_long)) (omega arith) same

  -- what stands in the page that is read
  pub read_there : (bytes : List ℕ) (place : ℕ) → place ≡ place_of kept.entries (64 * page) → bytes ≡ slice_range mid place (place + 64) → bytes ≡ bytes_of_page held page
  read_there bytes place is read =
      let at : place_of kept.entries (64 * page) ≡ 64 * get_or kept.entries (page - 13) 0 = at_page in
      read ∙ ap (λ n. slice_range mid n (n + 64)) (is ∙ at) ∙ moving.there page low high ∙ ap (λ (l : List ℕ). bytes_of_page l page) (if_false (is_done pieces page page) (applied pieces held) held (not_done pieces page page (omega arith)))
    where
      at_page : place_of kept.entries (64 * page) ≡ 64 * get_or kept.entries (page - 13) 0
      at_page =
          let whole : 64 * page / 64 ≡ page = omega arith in
          let none : 64 * page % 64 ≡ 0 = omega arith in
          let named = ap (λ n. page_of kept.entries n) whole ∙ page_high kept pool page low in
          omega (arith, place_in kept.entries (64 * page), named, none)

  -- a fault while the new page is written
  pub torn_there : (new : List ℕ) → Torn (64 * free) 64 mid new → map_of old ≡ start.entries → content_of new ≡ content_of old
  torn_there new torn same =
      let new_long : length new ≡ 71680 = torn.same_length ∙ mid_long in
      let map_there = same_map old new long new_long (λ k from to. torn.before k (omega (arith, free_pool.0)) ∙ moving.low k (omega arith)) in
      content_through start begun new (map_there ∙ same) ∙ unseen start begun free free_pool.0 not_named mid new torn ∙ moving.same ∙ sym (content_through start begun old same)

  -- the new page is written
  pub moved_there : (bytes : List ℕ) → length bytes ≡ 64 → bytes ≡ bytes_of_page (applied pieces held) page → IsMoving pieces (page + 1) start (moved page kept) old (patched (64 * free) bytes mid)
  moved_there bytes bytes_long is =
      let now = patched (64 * free) bytes mid in
      let fits : 64 * free + length bytes ≤ length mid = omega (arith, mid_long, free_pool.1, bytes_long) in
      let fits' : 64 * free + 64 ≤ length mid = omega (arith, mid_long, free_pool.1) in
      let torn = Torn_patched (64 * free) 64 bytes mid bytes_long fits in
      record {
        long = torn.same_length ∙ moving.long;
        low = λ k below. torn.before k (omega (arith, free_pool.0)) ∙ moving.low k below;
        same = unseen start begun free free_pool.0 not_named mid now torn ∙ moving.same;
        there = λ other from to. elim (cases_eq other page) [
          | inl same ↦
              let here : get_or (moved page kept).entries (other - 13) 0 ≡ free = get_or-set_at kept.entries (page - 13) (other - 13) free 0 (ap (λ n. n - 13) same) (omega (arith, entries_long)) in
              let done : is_done pieces (page + 1) other ≡ true = and_from (nat_lt other (page + 1)) (is_touched pieces other) (lt-ltb other (page + 1) (omega (arith, same))) (ap (λ n. is_touched pieces n) same ∙ touched) in
              ap (λ n. bytes_of_page now n) here ∙ written_page mid bytes free bytes_long fits' ∙ is ∙ ap (λ n. bytes_of_page (applied pieces held) n) (sym same)
              ∙ ap (λ (l : List ℕ). bytes_of_page l other) (sym (if_true (is_done pieces (page + 1) other) (applied pieces held) held done))
          | inr different ↦
              let here : get_or (moved page kept).entries (other - 13) 0 ≡ get_or kept.entries (other - 13) 0 = get_or-set_other kept.entries (page - 13) (other - 13) free 0 (λ e. different (omega arith)) in
              let inside : get_or kept.entries (other - 13) 0 < 1120 = (pool_bounds (get_or kept.entries (other - 13) 0) (pool.inside (other - 13) 0 (omega (arith, entries_long)))).1 in
              ap (λ n. bytes_of_page now n) here ∙ other_page mid now free (get_or kept.entries (other - 13) 0) torn (not_kept (other - 13) (omega arith)) (omega (arith, mid_long)) ∙ moving.there other from to
              ∙ ap (λ b. bytes_of_page (if b then applied pieces held else held) other) (sym (done_other pieces page other different))
        ];
      }

-- a page that isn't touched stays, in an image
stays_there : (pieces : List Piece) (page : ℕ) (start kept : Kept) (old new : List ℕ) → is_touched pieces page ≡ false → IsMoving pieces page start kept old new → IsMoving pieces (page + 1) start kept old new
stays_there pieces page start kept old new untouched moving = record {
  long = moving.long;
  low = moving.low;
  same = moving.same;
  there = λ other from to. moving.there other from to ∙ ap (λ b. bytes_of_page (if b then applied pieces (through start.entries old) else through start.entries old) other) (same other);
}
  where
    same : (other : ℕ) → is_done pieces page other ≡ is_done pieces (page + 1) other
    same other = elim (cases_eq other page) [
      | inl equal ↦ let none : is_touched pieces other ≡ false = ap (λ n. is_touched pieces n) equal ∙ untouched in and_right (nat_lt other page) (is_touched pieces other) none ∙ sym (and_right (nat_lt other (page + 1)) (is_touched pieces other) none)
      | inr different ↦ sym (done_other pieces page other different)
    ]

pub none_counted : (pieces : List Piece) → done_count pieces 13 ≡ 0
unfolding done_count
none_counted pieces = refl

-- before the first page
pub none_moved : (pieces : List Piece) (start : Kept) (told : Told) → HasLength told 71680 → IsKept start told → Moves pieces 13 start start told told
none_moved pieces start told long kept = record {
  pool = kept.pool;
  fresh = λ j low. ap (λ n. get_or start.free n 0) (let on : j ≡ j + done_count pieces 13 = omega (arith, none_counted pieces) in on);
  unmoved = λ page low high done. refl;
  images = images told long kept;
}
  where
    images : (told : Told) → HasLength told 71680 → IsKept start told → Becomes (IsMoving pieces 13 start start) told told
    images None long kept = tt
    images (Some image) long kept = record {
      long = refl;
      low = λ k below. refl;
      same = refl;
      there = λ page low high. page_there image page low high long kept;
    }
      where
        page_there : (image : List ℕ) (page : ℕ) → 13 ≤ page → page < 1024 → length image ≡ 71680 → IsKept start (Some image)
            → bytes_of_page image (get_or start.entries (page - 13) 0) ≡ bytes_of_page (if is_done pieces 13 page then applied pieces (through start.entries image) else through start.entries image) page
        page_there image page low high long kept =
            let whole : 64 * page / 64 ≡ page = omega arith in
            let none : 64 * page % 64 ≡ 0 = omega arith in
            let named = ap (λ n. page_of start.entries n) whole ∙ page_high start kept.pool page low in
            let at : place_of start.entries (64 * page) ≡ 64 * get_or start.entries (page - 13) 0 = omega (arith, place_in start.entries (64 * page), named, none) in
            ap (λ n. slice_range image n (n + 64)) (sym at) ∙ sym (range_through start kept.pool image (64 * page) 64 long (omega arith) (omega arith) (omega arith))
            ∙ ap (λ (l : List ℕ). bytes_of_page l page) (sym (if_false (is_done pieces 13 page) (applied pieces (through start.entries image)) (through start.entries image) (not_done pieces 13 page low)))

-- What the steps come to on a store that may tell its bytes, or may not.
pub moves_content : (pieces : List Piece) (until : ℕ) (start kept : Kept) (told now : Told) → HasLength told 71680 → IsKept start told → Moves pieces until start kept told now → content now ≡ content told
moves_content pieces until start kept told now long is moves = go told now long is moves.images
  where
    go : (told now : Told) → HasLength told 71680 → IsKept start told → Becomes (IsMoving pieces until start kept) told now → content now ≡ content told
    go None None long is moving = refl
    go None (Some now) long is moving = absurd moving
    go (Some old) None long is moving = absurd moving
    go (Some old) (Some now) long is moving =
        let same = same_map old now long (moving.long ∙ long) (λ k from to. moving.low k (omega arith)) in
        ap (λ (l : List ℕ). Some l) (content_through start is.pool now (same ∙ is.same) ∙ moving.same ∙ sym (content_through start is.pool old is.same))

module _ (pieces : List Piece) (page : ℕ) (start kept : Kept) (low : 13 ≤ page) (high : page < 1024) (touched : is_touched pieces page ≡ true) (few : done_count pieces page < 64) (told mid : Told)
    (long : HasLength told 71680) (is : IsKept start told) (moves : Moves pieces page start kept told mid) where
  oldest_is : get_or kept.free 0 0 ≡ get_or start.free (done_count pieces page) 0
  oldest_is =
      let none : 0 + done_count pieces page ≡ done_count pieces page = zero-add (done_count pieces page) in
      moves.fresh 0 (omega (arith, few)) ∙ ap (λ n. get_or start.free n 0) none

  pub move_torn : (new : Told) (target : ℕ) → target ≡ 64 * get_or kept.free 0 0 → Becomes (Torn target 64) mid new → content new ≡ content told
  move_torn new target there torn = let P : ℕ → Type 0 = λ n. Becomes (Torn n 64) mid new in go told mid new long is moves.images (subst P there torn)
    where
      go : (told mid new : Told) → HasLength told 71680 → IsKept start told → Becomes (IsMoving pieces page start kept) told mid → Becomes (Torn (64 * get_or kept.free 0 0) 64) mid new → content new ≡ content told
      go None None None long is moving torn = refl
      go None None (Some new) long is moving torn = absurd torn
      go None (Some mid) new long is moving torn = absurd moving
      go (Some old) None new long is moving torn = absurd moving
      go (Some old) (Some mid) None long is moving torn = absurd torn
      go (Some old) (Some mid) (Some new) long is moving torn =
          ap (λ (l : List ℕ). Some l) (torn_there pieces page start kept low high touched is.pool moves.pool oldest_is few old mid long moving new torn is.same)

  pub move_done : (new : Told) (bytes put : List ℕ) (place target : ℕ) → place ≡ place_of kept.entries (64 * page) → IfSome mid (λ image. bytes ≡ slice_range image place (place + 64))
      → ((held : List ℕ) → length held ≡ 65536 → bytes ≡ bytes_of_page held page → put ≡ bytes_of_page (applied pieces held) page) → length put ≡ 64 → target ≡ 64 * get_or kept.free 0 0 → new ≡ option_map (patched target put) mid
      → Moves pieces (page + 1) start (moved page kept) told new
  move_done new bytes put place target at read made count there written = record {
    pool = pool_moved page kept low high moves.pool;
    fresh = λ j fits. fresh_on j fits;
    unmoved = λ other from to done. unmoved_on other from to done;
    images = subst (λ o. Becomes (IsMoving pieces (page + 1) start (moved page kept)) told o) (sym (written ∙ ap (λ n. option_map (patched n put) mid) there)) (go told mid long is moves.images read);
  }
    where
      many : length kept.free ≡ 64
      many = moves.pool.free_count

      on : done_count pieces (page + 1) ≡ done_count pieces page + 1
      on = count_on pieces page low high touched

      fresh_on : (j : ℕ) → j + done_count pieces (page + 1) < 64 → get_or (moved page kept).free j 0 ≡ get_or start.free (j + done_count pieces (page + 1)) 0
      fresh_on j fits =
          let rest : length (drop 1 kept.free) ≡ 63 = omega (arith, many, length-drop 1 kept.free) in
          let further : j + 1 + done_count pieces page ≡ j + done_count pieces (page + 1) = omega (arith, on) in
          let one : 1 + j ≡ j + 1 = omega arith in
          get_or_append_left (drop 1 kept.free) (get_or kept.entries (page - 13) 0 ∷ []) 0 j (omega (arith, on)) ∙ get_or-drop 1 kept.free j 0 ∙ ap (λ n. get_or kept.free n 0) one ∙ moves.fresh (j + 1) (omega (arith, on)) ∙ ap (λ n. get_or start.free n 0) further

      unmoved_on : (other : ℕ) → 13 ≤ other → other < 1024 → is_done pieces (page + 1) other ≡ false → get_or (moved page kept).entries (other - 13) 0 ≡ get_or start.entries (other - 13) 0
      unmoved_on other from to done = elim (cases_eq other page) [
        | inl same ↦ absurd (let yes_done = and_from (nat_lt other (page + 1)) (is_touched pieces other) (lt-ltb other (page + 1) (omega (arith, same))) (ap (λ n. is_touched pieces n) same ∙ touched) in cc (done, yes_done))
        | inr different ↦ get_or-set_other kept.entries (page - 13) (other - 13) (get_or kept.free 0 0) 0 (λ e. different (omega arith)) ∙ moves.unmoved other from to (sym (done_other pieces page other different) ∙ done)
      ]

      go : (told mid : Told) → HasLength told 71680 → IsKept start told → Becomes (IsMoving pieces page start kept) told mid → IfSome mid (λ image. bytes ≡ slice_range image place (place + 64))
          → Becomes (IsMoving pieces (page + 1) start (moved page kept)) told (option_map (patched (64 * get_or kept.free 0 0) put) mid)
      go None None long is moving read = tt
      go None (Some mid) long is moving read = absurd moving
      go (Some old) None long is moving read = absurd moving
      go (Some old) (Some mid) long is moving read =
          let there = read_there pieces page start kept low high touched is.pool moves.pool oldest_is few old mid long moving bytes place at read in
          moved_there pieces page start kept low high touched is.pool moves.pool oldest_is few old mid long moving put count (made (through start.entries old) (length-through start.entries old) there)

pub move_none : (pieces : List Piece) (page : ℕ) (start kept : Kept) (told mid : Told) → 13 ≤ page → page < 1024 → is_touched pieces page ≡ false → Moves pieces page start kept told mid → Moves pieces (page + 1) start kept told mid
move_none pieces page start kept told mid low high untouched moves = record {
  pool = moves.pool;
  fresh = λ j fits. moves.fresh j (omega (arith, count_stays pieces page low high untouched)) ∙ ap (λ n. get_or start.free (j + n) 0) (sym (count_stays pieces page low high untouched));
  unmoved = λ other from to done. moves.unmoved other from to (before other done);
  images = go told mid moves.images;
}
  where
    before : (other : ℕ) → is_done pieces (page + 1) other ≡ false → is_done pieces page other ≡ false
    before other done = elim (cases_eq other page) [
      | inl same ↦ not_done pieces page other (omega (arith, same))
      | inr different ↦ sym (done_other pieces page other different) ∙ done
    ]

    go : (told mid : Told) → Becomes (IsMoving pieces page start kept) told mid → Becomes (IsMoving pieces (page + 1) start kept) told mid
    go None None moving = tt
    go None (Some mid) moving = absurd moving
    go (Some old) None moving = absurd moving
    go (Some old) (Some mid) moving = stays_there pieces page start kept old mid untouched moving

pub whole_page : (page : ℕ) → 13 ≤ page → page < 1024 → InPage (64 * page) 64
whole_page page low high = record { some = omega arith; usable = record { inside = omega arith; outside = λ some below. absurd (omega arith) }; one_page = omega arith }

pub usable_target : (kept : Kept) (size target : ℕ) → size ≡ 71680 → IsPool kept → target ≡ 64 * get_or kept.free 0 0 → IsUsable size target 64
usable_target kept size target sized pool there =
    let many : length kept.free ≡ 64 = pool.free_count in
    let bounds = pool_bounds (get_or kept.free 0 0) (pool.free_inside 0 0 (omega arith)) in
    record { inside = omega (arith, bounds.1); outside = λ some below. absurd (omega (arith, bounds.0)) }

-- what is kept, one page on
pub moved_next : (pieces : List Piece) (page : ℕ) (kept : Kept) → 13 ≤ page → page < 1024 → moved_below pieces (page + 1) kept ≡ (if is_touched pieces page then moved page (moved_below pieces page kept) else moved_below pieces page kept)
unfolding moved_below
moved_next pieces page kept low high =
    let range = range_with_len 13 1011 in
    let one_on : page + 1 - 13 ≡ page - 13 + 1 = omega arith in
    let at : get_or range (page - 13) 0 ≡ page = get_or-range_with_len 13 1011 (page - 13) 0 (omega arith) ∙ omega arith in
    let step : Kept → ℕ → Kept = λ kept page. if is_touched pieces page then moved page kept else kept in
    ap (λ n. fold step kept (take n range)) one_on ∙ fold_more step kept range (page - 13) 0 (omega (arith, length-range_with_len 13 1011)) ∙ ap (λ n. step (fold step kept (take (page - 13) range)) n) at

pub none_below : (pieces : List Piece) (kept : Kept) → moved_below pieces 13 kept ≡ kept
unfolding moved_below
none_below pieces kept = refl

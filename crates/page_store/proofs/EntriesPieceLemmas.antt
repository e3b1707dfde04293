-- The commit below that ends a commit: the first page has its pieces, and the map names the pages that have moved.
use Rattle.std.proofs.Common.{get_or, zero-add, ◌≡◌, ◌⊎◌, ℕ, zero, suc, ◌+◌, ◌-◌, ◌*◌, ◌/◌, ◌%◌, ◌^◌, ◌<◌, ◌≤◌, Bool, true, false, ◌&&◌, List, [], ◌∷◌, length, map, Some, None, refl, sym, ◌∙◌, ap, subst, inl, inr, ⊎_elim, arith, nat_lt, if◌then◌else◌, slice_range, option_map, flat_map}
use Rattle.std.specs.Int.{w16, to_be_bytes}
use Rattle.std.proofs.lemmas.Nat.{from_be_bytes-to_be_bytes_2}
use Rattle.std.proofs.lemmas.Bool.{cases_lt, cases_Bool, lt-ltb, le-ltb, or_cases, or_parts, and_parts, and_from, ltb-true}
use Rattle.std.proofs.lemmas.Grind.{same_number_lists}
use Rattle.std.proofs.lemmas.List.{length-append, get_or-append_right}
use Rattle.std.proofs.lemmas.List.Elements.{All-head, All-tail, All-map, All-weaker}
use Rattle.std.proofs.lemmas.List.FromFn.{fill_by_all, get_or-map-range_with_len}
use Rattle.list_laws.proofs.SliceRangeLemmas.{length-range, get_or-range}
use Rattle.list_laws.specs.Patches.{patched}
use Rattle.list_laws.proofs.PatchesLemmas.{length-patched, patched_before, patched_inside, patched_after}
use Rattle.uicc_types.specs.Told.{Becomes}
use Rattle.store_form.specs.Pieces.{Piece, applied, IsUsablePiece}
use Rattle.store_form.specs.Spared.{AreUsable, Spare}
use Rattle.store_form.proofs.SparedLemmas.{Rewritten_applied, length-applied}
use Rattle.page_store.specs.Pages.{number_at, entries_of, is_in_pool, place_of, through, map_of, content_of, content}
use Rattle.page_store.specs.Laws.{length-through, get_or-through, place_low}
use Rattle.page_store.specs.Tables.{Kept, IsPool, IsKept}
use Rattle.page_store.specs.Commits.{touches, is_touched, is_done, bytes_of_page, first_page, end_page, entries_piece, inner_piece, IsMoving, Moves}
use Rattle.page_store.proofs.IsWellFormedLemmas.{pool_bounds}
use Rattle.page_store.proofs.PlaceOfLemmas.{place_in, page_high, in_pool, content_through}
use Rattle.page_store.proofs.InPageLemmas.{Told, HasLength}

abbrev pub bytes_of : List ℕ → List ℕ
bytes_of entries = flat_map (to_be_bytes w16) entries

pub length-bytes_of : (entries : List ℕ) → length (bytes_of entries) ≡ 2 * length entries
length-bytes_of [] = refl
length-bytes_of (entry ∷ entries) = omega (arith, length-append (to_be_bytes w16 entry) (bytes_of entries), length-bytes_of entries)

-- two bytes that agree spell one number
same_number : (xs ys : List ℕ) (i j : ℕ) → get_or xs i 0 ≡ get_or ys j 0 → get_or xs (i + 1) 0 ≡ get_or ys (j + 1) 0 → number_at xs i ≡ number_at ys j
same_number xs ys i j first second = omega (arith, first, second)

behind_first : (entry : ℕ) (entries : List ℕ) (n : ℕ) → get_or (bytes_of (entry ∷ entries)) (2 + n) 0 ≡ get_or (bytes_of entries) n 0
behind_first entry entries n = get_or-append_right (to_be_bytes w16 entry) (bytes_of entries) 2 (2 + n) 0 refl (omega arith) ∙ ap (λ m. get_or (bytes_of entries) m 0) (let on : 2 + n - 2 ≡ n = omega arith in on)

-- the two bytes of an entry spell it
number_spelled : (entries : List ℕ) (k : ℕ) → k < length entries → get_or entries k 0 < 2 ^ 16 → number_at (bytes_of entries) (2 * k) ≡ get_or entries k 0
number_spelled [] k there fits = absurd (omega arith)
number_spelled (entry ∷ entries) zero there fits = from_be_bytes-to_be_bytes_2 entry fits
number_spelled (entry ∷ entries) (suc k) there fits =
    let first : 2 * suc k ≡ 2 + 2 * k = omega arith in
    let second : 2 * suc k + 1 ≡ 2 + (2 * k + 1) = omega arith in
    same_number (bytes_of (entry ∷ entries)) (bytes_of entries) (2 * suc k) (2 * k) (ap (λ n. get_or (bytes_of (entry ∷ entries)) n 0) first ∙ behind_first entry entries (2 * k))
    (ap (λ n. get_or (bytes_of (entry ∷ entries)) n 0) second ∙ behind_first entry entries (2 * k + 1))
    ∙ number_spelled entries k (omega arith) fits

-- the pages that a piece of mapped pages touches, by their entries
record Span (piece : Piece) (a b : ℕ) : Type 0 where
  order : a < b
  fits : b ≤ 1011
  start_is : a ≡ first_page piece - 13
  end_is : b ≡ end_page piece - 13
  touching : (i : ℕ) → touches (13 + i) piece ≡ true → (a ≤ i) × (i < b)

span_of : (piece : Piece) → IsUsablePiece 65536 piece → 832 ≤ piece.place → Span piece (first_page piece - 13) (end_page piece - 13)
span_of piece usable high =
    let some : 0 < length piece.bytes = usable.some in
    let inside : piece.place + length piece.bytes ≤ 65536 = usable.range.inside in
    record {
      order = omega arith;
      fits = omega arith;
      start_is = refl;
      end_is = refl;
      touching = λ i touched.
          let both = and_parts _ _ touched in
          let first = ltb-true (64 * (13 + i)) (piece.place + length piece.bytes) both.0 in
          let second = ltb-true piece.place (64 * (13 + i) + 64) both.1 in
          (omega arith, omega arith);
    }

module _ (entries : List ℕ) (many : length entries ≡ 1011) (small : (k : ℕ) → k < 1011 → get_or entries k 0 < 2 ^ 16) where
  abbrev inner : List Piece → List Piece
  inner pieces = map (inner_piece entries) pieces

  -- a piece that a commit may have lies in the first page, or in mapped ones
  pub low_or_high : (piece : Piece) → IsUsablePiece 65536 piece → ((piece.place < 64) × (piece.place + length piece.bytes ≤ 64) × (inner_piece entries piece ≡ piece)) ⊎ ((832 ≤ piece.place) × (inner_piece entries piece ≡ entries_piece entries piece))
  low_or_high piece usable =
      let some : 0 < length piece.bytes = usable.some in
      let outside : piece.place < 832 → piece.place + length piece.bytes ≤ 64 = usable.range.outside some in
      elim (cases_lt piece.place 64) [
        | inl low ↦ inl (low, outside (omega arith), if_so (nat_lt piece.place 64) piece (entries_piece entries piece) (lt-ltb piece.place 64 low))
        | inr high ↦ inr (⊎_elim {C = 832 ≤ piece.place} (λ below. absurd (let fits = outside below in omega arith)) (λ above. above) (cases_lt piece.place 832), if_not (nat_lt piece.place 64) piece (entries_piece entries piece) (le-ltb piece.place 64 high))
      ]
    where
      if_so : (b : Bool) (x y : Piece) → b ≡ true → (if b then x else y) ≡ x
      if_so true x y e = refl
      if_so false x y e = absurd (cc e)

      if_not : (b : Bool) (x y : Piece) → b ≡ false → (if b then x else y) ≡ y
      if_not true x y e = absurd (cc e)
      if_not false x y e = refl

  abbrev part : ℕ → ℕ → List ℕ
  part a b = bytes_of (slice_range entries a b)

  part_length : (a b : ℕ) → a < b → b ≤ 1011 → length (part a b) ≡ 2 * (b - a)
  part_length a b order fits =
      let end : b ≡ a + (b - a) = omega arith in
      length-bytes_of (slice_range entries a b) ∙ ap (λ n. 2 * n) (ap (λ e. length (slice_range entries a e)) end ∙ length-range entries a (b - a) (omega (arith, many)))

  part_number : (a b i : ℕ) → a ≤ i → i < b → b ≤ 1011 → number_at (part a b) (2 * (i - a)) ≡ get_or entries i 0
  part_number a b i low high fits =
      let end : b ≡ a + (b - a) = omega arith in
      let long : length (slice_range entries a b) ≡ b - a = ap (λ e. length (slice_range entries a e)) end ∙ length-range entries a (b - a) (omega (arith, many)) in
      let at : get_or (slice_range entries a b) (i - a) 0 ≡ get_or entries i 0 = ap (λ e. get_or (slice_range entries a e) (i - a) 0) end ∙ get_or-range entries a (b - a) (i - a) (omega arith) ∙ ap (λ n. get_or entries n 0) (let on : a + (i - a) ≡ i = omega arith in on) in
      number_spelled (slice_range entries a b) (i - a) (omega (arith, long)) (omega (arith, at, small i (omega arith))) ∙ at

  -- the piece of entries, written out
  pub entries_are : (piece : Piece) → entries_piece entries piece ≡ record { place = 832 + 2 * (first_page piece - 13); bytes = part (first_page piece - 13) (end_page piece - 13) }
  unfolding entries_piece
  entries_are piece = refl

  -- after one piece of entries
  module _ (image : List ℕ) (long : length image ≡ 71680) (a b : ℕ) (order : a < b) (fits : b ≤ 1011) where
    abbrev now : List ℕ
    now = patched (832 + 2 * a) (part a b) image

    inside : 832 + 2 * a + length (part a b) ≤ length image
    inside = omega (arith, long, part_length a b order fits)

    here_too : (i : ℕ) → a ≤ i → i < b → number_at now (832 + 2 * i) ≡ get_or entries i 0
    here_too i low high =
        let count = part_length a b order fits in
        let back : 832 + 2 * i - (832 + 2 * a) ≡ 2 * (i - a) = omega arith in
        let back' : 832 + 2 * i + 1 - (832 + 2 * a) ≡ 2 * (i - a) + 1 = omega arith in
        same_number now (part a b) (832 + 2 * i) (2 * (i - a)) (patched_inside (832 + 2 * a) (part a b) image inside (832 + 2 * i) (omega arith) (omega arith) ∙ ap (λ n. get_or (part a b) n 0) back)
        (patched_inside (832 + 2 * a) (part a b) image inside (832 + 2 * i + 1) (omega arith) (omega arith) ∙ ap (λ n. get_or (part a b) n 0) back') ∙ part_number a b i low high fits

    kept_too : (k : ℕ) → (k < 832 + 2 * a) ⊎ (832 + 2 * b ≤ k) → get_or now k 0 ≡ get_or image k 0
    kept_too k out = ⊎_elim {C = get_or now k 0 ≡ get_or image k 0} (λ before. patched_before (832 + 2 * a) (part a b) image inside k before)
        (λ after. patched_after (832 + 2 * a) (part a b) image inside k (omega (arith, part_length a b order fits))) out

    other_number : (i : ℕ) → (i < a) ⊎ (b ≤ i) → number_at now (832 + 2 * i) ≡ number_at image (832 + 2 * i)
    other_number i out = ⊎_elim {C = number_at now (832 + 2 * i) ≡ number_at image (832 + 2 * i)}
        (λ before. same_number now image (832 + 2 * i) (832 + 2 * i) (kept_too (832 + 2 * i) (inl (omega arith))) (kept_too (832 + 2 * i + 1) (inl (omega arith))))
        (λ after. same_number now image (832 + 2 * i) (832 + 2 * i) (kept_too (832 + 2 * i) (inr (omega arith))) (kept_too (832 + 2 * i + 1) (inr (omega arith)))) out

  -- each piece below is one that a commit below may have
  pub usable_inner : (piece : Piece) → IsUsablePiece 65536 piece → IsUsablePiece 71680 (inner_piece entries piece)
  usable_inner piece usable = ⊎_elim {C = IsUsablePiece 71680 (inner_piece entries piece)}
      (λ low. subst (IsUsablePiece 71680) (sym low.2) (record { some = usable.some; range = record { inside = omega (arith, low.1); outside = λ some below. low.1 } }))
      (λ high.
      let span = span_of piece usable high.0 in
      let count = part_length (first_page piece - 13) (end_page piece - 13) span.order span.fits in
      subst (IsUsablePiece 71680) (sym (high.1 ∙ entries_are piece)) (record { some = omega (arith, count, span.order); range = record { inside = omega (arith, count, span.fits, span.order); outside = λ some below. absurd (omega arith) } }))
      (low_or_high piece usable)

  pub all_inner : (pieces : List Piece) → AreUsable pieces 65536 → AreUsable (inner pieces) 71680
  all_inner pieces usable = All-map (IsUsablePiece 71680) (inner_piece entries) pieces (All-weaker (IsUsablePiece 65536) (λ piece. IsUsablePiece 71680 (inner_piece entries piece)) usable_inner pieces usable)

  -- the image after the first piece, whichever it is
  abbrev data_of : (piece : Piece) (image : List ℕ) → List ℕ
  data_of piece image = patched (inner_piece entries piece).place (inner_piece entries piece).bytes image

  data_length : (piece : Piece) (image : List ℕ) → IsUsablePiece 65536 piece → length image ≡ 71680 → length (data_of piece image) ≡ 71680
  data_length piece image usable long = length-patched (inner_piece entries piece).place (inner_piece entries piece).bytes image (omega (arith, long, (usable_inner piece usable).range.inside)) ∙ long

  high_is : (piece : Piece) (image : List ℕ) → inner_piece entries piece ≡ entries_piece entries piece → data_of piece image ≡ patched (832 + 2 * (first_page piece - 13)) (part (first_page piece - 13) (end_page piece - 13)) image
  high_is piece image is = ap (λ (p : Piece). patched p.place p.bytes image) (is ∙ entries_are piece)

  low_is : (piece : Piece) (image : List ℕ) → inner_piece entries piece ≡ piece → data_of piece image ≡ patched piece.place piece.bytes image
  low_is piece image is = ap (λ (p : Piece). patched p.place p.bytes image) is

  -- after the map nothing changes
  pub behind_map : (pieces : List Piece) (image : List ℕ) → AreUsable pieces 65536 → length image ≡ 71680 → (k : ℕ) → 2854 ≤ k → get_or (applied (inner pieces) image) k 0 ≡ get_or image k 0
  behind_map [] image usable long k high = refl
  behind_map (piece ∷ pieces) image usable long k high =
      let first = All-head (IsUsablePiece 65536) piece pieces usable in
      behind_map pieces (data_of piece image) (All-tail (IsUsablePiece 65536) piece pieces usable) (data_length piece image first long) k high ∙ ⊎_elim {C = get_or (data_of piece image) k 0 ≡ get_or image k 0}
      (λ low. ap (λ (l : List ℕ). get_or l k 0) (low_is piece image low.2) ∙ patched_after piece.place piece.bytes image (omega (arith, low.1, long)) k (omega (arith, low.1)))
      (λ up. let span = span_of piece first up.0 in ap (λ (l : List ℕ). get_or l k 0) (high_is piece image up.1) ∙ kept_too image long (first_page piece - 13) (end_page piece - 13) span.order span.fits k (inr (omega (arith, span.fits))))
      (low_or_high piece first)

  -- the pages that lie at their own place
  pub own_pages : (pieces : List Piece) (image held : List ℕ) → AreUsable pieces 65536 → length image ≡ 71680 → length held ≡ 65536 → ((k : ℕ) → k < 832 → get_or image k 0 ≡ get_or held k 0)
      → (k : ℕ) → k < 832 → get_or (applied (inner pieces) image) k 0 ≡ get_or (applied pieces held) k 0
  own_pages [] image held usable long long' same k below = same k below
  own_pages (piece ∷ pieces) image held usable long long' same k below =
      let first = All-head (IsUsablePiece 65536) piece pieces usable in
      let fits : piece.place + length piece.bytes ≤ length held = omega (arith, first.range.inside) in
      let held_long : length (patched piece.place piece.bytes held) ≡ 65536 = length-patched piece.place piece.bytes held fits ∙ long' in
      own_pages pieces (data_of piece image) (patched piece.place piece.bytes held) (All-tail (IsUsablePiece 65536) piece pieces usable) (data_length piece image first long) held_long (λ n under. ⊎_elim {C = get_or (data_of piece image) n 0 ≡ get_or (patched piece.place piece.bytes held) n 0}
      (λ low. ap (λ (l : List ℕ). get_or l n 0) (low_is piece image low.2) ∙ both piece image held n (omega (arith, low.1, long)) fits (same n under))
      (λ up. let span = span_of piece first up.0 in ap (λ (l : List ℕ). get_or l n 0) (high_is piece image up.1) ∙ kept_too image long (first_page piece - 13) (end_page piece - 13) span.order span.fits n (inl (omega arith)) ∙ same n under
      ∙ sym (patched_before piece.place piece.bytes held fits n (omega (arith, up.0))))
      (low_or_high piece first)) k below
    where
      both : (piece : Piece) (image held : List ℕ) (n : ℕ) → piece.place + length piece.bytes ≤ length image → piece.place + length piece.bytes ≤ length held → get_or image n 0 ≡ get_or held n 0
          → get_or (patched piece.place piece.bytes image) n 0 ≡ get_or (patched piece.place piece.bytes held) n 0
      both piece image held n fits fits' same = ⊎_elim {C = get_or (patched piece.place piece.bytes image) n 0 ≡ get_or (patched piece.place piece.bytes held) n 0}
          (λ before. patched_before piece.place piece.bytes image fits n before ∙ same ∙ sym (patched_before piece.place piece.bytes held fits' n before))
          (λ from. ⊎_elim {C = get_or (patched piece.place piece.bytes image) n 0 ≡ get_or (patched piece.place piece.bytes held) n 0} (λ to. patched_inside piece.place piece.bytes image fits n from to ∙ sym (patched_inside piece.place piece.bytes held fits' n from to))
          (λ after. patched_after piece.place piece.bytes image fits n after ∙ same ∙ sym (patched_after piece.place piece.bytes held fits' n after)) (cases_lt n (piece.place + length piece.bytes))) (cases_lt n piece.place)

  -- each entry is that of the table, where it was or a piece touches its page
  pub named_pages : (pieces : List Piece) (image : List ℕ) → AreUsable pieces 65536 → length image ≡ 71680 → (i : ℕ) → i < 1011 → (number_at image (832 + 2 * i) ≡ get_or entries i 0) ⊎ (is_touched pieces (13 + i) ≡ true)
      → number_at (applied (inner pieces) image) (832 + 2 * i) ≡ get_or entries i 0
  named_pages [] image usable long i there (inl is) = is
  named_pages [] image usable long i there (inr touched) = absurd (cc touched)
  named_pages (piece ∷ pieces) image usable long i there so_far =
      let first = All-head (IsUsablePiece 65536) piece pieces usable in
      named_pages pieces (data_of piece image) (All-tail (IsUsablePiece 65536) piece pieces usable) (data_length piece image first long) i there
      (⊎_elim {C = (number_at (data_of piece image) (832 + 2 * i) ≡ get_or entries i 0) ⊎ (is_touched pieces (13 + i) ≡ true)}
      (λ low.
      let same : number_at (data_of piece image) (832 + 2 * i) ≡ number_at image (832 + 2 * i) = ap (λ (l : List ℕ). number_at l (832 + 2 * i)) (low_is piece image low.2)
      ∙ same_number (patched piece.place piece.bytes image) image (832 + 2 * i) (832 + 2 * i) (patched_after piece.place piece.bytes image (omega (arith, low.1, long)) (832 + 2 * i) (omega (arith, low.1)))
      (patched_after piece.place piece.bytes image (omega (arith, low.1, long)) (832 + 2 * i + 1) (omega (arith, low.1))) in
      ⊎_elim (λ is. inl (same ∙ is)) (λ touched. ⊎_elim (λ here. absurd (let bound = ltb-true (64 * (13 + i)) (piece.place + length piece.bytes) (and_parts _ _ here).0 in omega (arith, low.1, bound))) (λ later. inr later) (or_cases (touches (13 + i) piece) (is_touched pieces (13 + i)) touched)) so_far)
      (λ up.
      let span = span_of piece first up.0 in
      let a = first_page piece - 13 in
      let b = end_page piece - 13 in
      let outside : (i < a) ⊎ (b ≤ i) → (number_at (data_of piece image) (832 + 2 * i) ≡ get_or entries i 0) ⊎ (is_touched pieces (13 + i) ≡ true) = λ out.
      let same : number_at (data_of piece image) (832 + 2 * i) ≡ number_at image (832 + 2 * i) = ap (λ (l : List ℕ). number_at l (832 + 2 * i)) (high_is piece image up.1) ∙ other_number image long a b span.order span.fits i out in
      ⊎_elim (λ is. inl (same ∙ is)) (λ touched. ⊎_elim (λ here. absurd (let range = span.touching i here in ⊎_elim {C = ⊥} (λ before. omega (arith, range.0)) (λ after. omega (arith, range.1)) out)) (λ later. inr later) (or_cases (touches (13 + i) piece) (is_touched pieces (13 + i)) touched)) so_far in
      ⊎_elim (λ before. outside (inl before)) (λ from. ⊎_elim (λ to. inl (ap (λ (l : List ℕ). number_at l (832 + 2 * i)) (high_is piece image up.1) ∙ here_too image long a b span.order span.fits i from to)) (λ after. outside (inr after)) (cases_lt i b)) (cases_lt i a))
      (low_or_high piece first))

-- a page that no piece touches
spare_page : (pieces : List Piece) (page k : ℕ) → is_touched pieces page ≡ false → 64 * page ≤ k → k < 64 * page + 64 → Spare pieces k
spare_page [] page k none low high = tt
spare_page (piece ∷ pieces) page k none low high =
    let both = or_parts (touches page piece) (is_touched pieces page) none in (
      ⊎_elim {C = (k < piece.place) ⊎ (piece.place + length piece.bytes ≤ k)} (λ before. inl before) (λ from. inr (⊎_elim {C = piece.place + length piece.bytes ≤ k}
          (λ to. absurd (let touched = and_from (nat_lt (64 * page) (piece.place + length piece.bytes)) (nat_lt piece.place (64 * page + 64)) (lt-ltb (64 * page) (piece.place + length piece.bytes) (omega arith)) (lt-ltb piece.place (64 * page + 64) (omega arith)) in cc (touched, both.0)))
          (λ after. after) (cases_lt k (piece.place + length piece.bytes)))) (cases_lt k piece.place),
      spare_page pieces page k both.1 low high,
    )

map_number : (image : List ℕ) (k : ℕ) → k < 1011 → number_at (slice_range image 832 2854) (2 * k) ≡ number_at image (832 + 2 * k)
map_number image k low =
    let on : 832 + (2 * k + 1) ≡ 832 + 2 * k + 1 = omega arith in
    same_number (slice_range image 832 (832 + 2022)) image (2 * k) (832 + 2 * k) (get_or-range image 832 2022 (2 * k) (omega arith)) (get_or-range image 832 2022 (2 * k + 1) (omega arith) ∙ ap (λ n. get_or image n 0) on)

map_entry : (image : List ℕ) (k : ℕ) → k < 1011 → get_or (map_of image) k 0 ≡ number_at image (832 + 2 * k)
unfolding entries_of
map_entry image k low = get_or-map-range_with_len (λ n. number_at (slice_range image 832 2854) (2 * n)) 0 1011 k k 0 low (zero-add k) ∙ map_number image k low

map_by : (image entries : List ℕ) → length entries ≡ 1011 → ((k : ℕ) → k < 1011 → number_at image (832 + 2 * k) ≡ get_or entries k 0) → map_of image ≡ entries
unfolding entries_of
map_by image entries many each = sym (fill_by_all (λ n. number_at (slice_range image 832 2854) (2 * n)) entries 1011 0 many (λ k low. sym (map_number image k low ∙ each k low)))

small_page : (page : ℕ) → is_in_pool page ≡ true → page < 2 ^ 16
small_page page inside = let bounds = pool_bounds page inside in omega (arith, bounds.1)

pub small_entries : (kept : Kept) → IsPool kept → (k : ℕ) → k < 1011 → get_or kept.entries k 0 < 2 ^ 16
small_entries kept pool k low =
    let many : length kept.entries ≡ 1011 = pool.count in
    small_page (get_or kept.entries k 0) (pool.inside k 0 (omega arith))

module _ (pieces : List Piece) (start kept : Kept) (usable : AreUsable pieces 65536) (begun : IsPool start) (pool : IsPool kept)
    (unmoved : (page : ℕ) → 13 ≤ page → page < 1024 → is_done pieces 1024 page ≡ false → get_or kept.entries (page - 13) 0 ≡ get_or start.entries (page - 13) 0) where
  many : length kept.entries ≡ 1011
  many = pool.count

  small : (k : ℕ) → k < 1011 → get_or kept.entries k 0 < 2 ^ 16
  small = small_entries kept pool

  abbrev below : List Piece
  below = map (inner_piece kept.entries) pieces

  done_is : (page : ℕ) → page < 1024 → is_done pieces 1024 page ≡ is_touched pieces page
  done_is page low = ap (λ b. b && is_touched pieces page) (lt-ltb page 1024 low)

  module _ (old mid : List ℕ) (long : length old ≡ 71680) (same : map_of old ≡ start.entries) (moving : IsMoving pieces 1024 start kept old mid) where
    abbrev new : List ℕ
    new = applied below mid

    mid_long : length mid ≡ 71680
    mid_long = moving.long ∙ long

    abbrev held : List ℕ
    held = through start.entries old

    entry_so_far : (k : ℕ) → k < 1011 → (number_at mid (832 + 2 * k) ≡ get_or kept.entries k 0) ⊎ (is_touched pieces (13 + k) ≡ true)
    entry_so_far k low = elim (cases_Bool (is_touched pieces (13 + k))) [
      | inl touched ↦ inr touched
      | inr not_touched ↦
          let before : number_at mid (832 + 2 * k) ≡ number_at old (832 + 2 * k) = same_number mid old (832 + 2 * k) (832 + 2 * k) (moving.low (832 + 2 * k) (omega arith)) (moving.low (832 + 2 * k + 1) (omega arith)) in
          let back : 13 + k - 13 ≡ k = omega arith in
          let stays = unmoved (13 + k) (omega arith) (omega arith) (done_is (13 + k) (omega arith) ∙ not_touched) in
          inl (before ∙ sym (map_entry old k low) ∙ ap (λ (l : List ℕ). get_or l k 0) same ∙ ap (λ n. get_or start.entries n 0) (sym back) ∙ sym stays ∙ ap (λ n. get_or kept.entries n 0) back)
    ]

    pub map_finished : map_of new ≡ kept.entries
    map_finished = map_by new kept.entries many (λ k low. named_pages kept.entries many small pieces mid usable mid_long k low (entry_so_far k low))

    held_long : length held ≡ 65536
    held_long = length-through start.entries old

    own_before : (k : ℕ) → k < 832 → get_or mid k 0 ≡ get_or held k 0
    own_before k low = moving.low k (omega arith) ∙ sym (get_or-through start.entries old k (omega arith) ∙ ap (λ n. get_or old n 0) (place_low start.entries k low))

    applied_long : length (applied pieces held) ≡ 65536
    applied_long = length-applied pieces held (subst (λ n. AreUsable pieces n) (sym held_long) usable) ∙ held_long

    byte_moved : (k : ℕ) → 832 ≤ k → k < 65536 → get_or mid (place_of kept.entries k) 0 ≡ get_or (applied pieces held) k 0
    byte_moved k low high =
        let page = k / 64 in
        let r = k % 64 in
        let whole : 64 * page + r ≡ k = omega arith in
        let place : place_of kept.entries k ≡ 64 * get_or kept.entries (page - 13) 0 + r = place_in kept.entries k ∙ ap (λ n. 64 * n + r) (page_high kept pool page (omega arith)) in
        let after : (b : Bool) → is_done pieces 1024 page ≡ b → get_or (bytes_of_page (if b then applied pieces held else held) page) r 0 ≡ get_or (applied pieces held) k 0 = byte_after k page r whole (omega arith) (omega arith) in
        ap (λ n. get_or mid n 0) place ∙ sym (get_or-range mid (64 * get_or kept.entries (page - 13) 0) 64 r (omega arith)) ∙ ap (λ (l : List ℕ). get_or l r 0) (moving.there page (omega arith) (omega arith)) ∙ after (is_done pieces 1024 page) refl
      where
        byte_after : (k page r : ℕ) → 64 * page + r ≡ k → r < 64 → page < 1024 → (b : Bool) → is_done pieces 1024 page ≡ b → get_or (bytes_of_page (if b then applied pieces held else held) page) r 0 ≡ get_or (applied pieces held) k 0
        byte_after k page r whole low high true done = get_or-range (applied pieces held) (64 * page) 64 r low ∙ ap (λ n. get_or (applied pieces held) n 0) whole
        byte_after k page r whole low high false done =
            let spare = spare_page pieces page k (sym (done_is page high) ∙ done) (omega arith) (omega arith) in
            get_or-range held (64 * page) 64 r low ∙ ap (λ n. get_or held n 0) whole ∙ sym ((Rewritten_applied 65536 pieces held held_long usable).spared k spare)

    pub content_finished : content_of new ≡ applied pieces (content_of old)
    content_finished =
        content_through kept pool new map_finished ∙ same_number_lists (through kept.entries new) (applied pieces held) (length-through kept.entries new ∙ sym applied_long) (λ k there.
        let fits : k < 65536 = omega (arith, length-through kept.entries new) in
        get_or-through kept.entries new k fits ∙ ⊎_elim {C = get_or new (place_of kept.entries k) 0 ≡ get_or (applied pieces held) k 0}
        (λ low. ap (λ n. get_or new n 0) (place_low kept.entries k low) ∙ own_pages kept.entries many small pieces mid held usable mid_long held_long own_before k low)
        (λ high. behind_map kept.entries many small pieces mid usable mid_long (place_of kept.entries k) (above k high fits) ∙ byte_moved k high fits) (cases_lt k 832))
        ∙ ap (λ (l : List ℕ). applied pieces l) (sym (content_through start begun old same))
      where
        above : (k : ℕ) → 832 ≤ k → k < 65536 → 2854 ≤ place_of kept.entries k
        above k high fits = let named = in_pool kept pool (k / 64) (omega arith) (omega arith) in omega (arith, place_in kept.entries k, named.0)

-- the commit below is done
pub commit_done : (pieces : List Piece) (start kept : Kept) (told mid new : Told) → AreUsable pieces 65536 → HasLength told 71680 → IsKept start told → Moves pieces 1024 start kept told mid
    → new ≡ option_map (applied (map (inner_piece kept.entries) pieces)) mid → (content new ≡ option_map (applied pieces) (content told)) × IsKept kept new
commit_done pieces start kept told mid new usable long is moves put = subst (λ o. (content o ≡ option_map (applied pieces) (content told)) × IsKept kept o) (sym put) (go told mid long is moves.images)
  where
    go : (told mid : Told) → HasLength told 71680 → IsKept start told → Becomes (IsMoving pieces 1024 start kept) told mid
        → (content (option_map (applied (map (inner_piece kept.entries) pieces)) mid) ≡ option_map (applied pieces) (content told)) × IsKept kept (option_map (applied (map (inner_piece kept.entries) pieces)) mid)
    go None None long is moving = (refl, record { pool = moves.pool; same = tt })
    go None (Some mid) long is moving = absurd moving
    go (Some old) None long is moving = absurd moving
    go (Some old) (Some mid) long is moving = (
      ap (λ (l : List ℕ). Some l) (content_finished pieces start kept usable is.pool moves.pool moves.unmoved old mid long is.same moving),
      record { pool = moves.pool; same = map_finished pieces start kept usable is.pool moves.pool moves.unmoved old mid long is.same moving },
    )

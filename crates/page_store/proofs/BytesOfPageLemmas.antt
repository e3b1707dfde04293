-- Pieces that are put into the bytes of one page.
use Rattle.std.proofs.Common.{get_or, ◌≡◌, ℕ, ◌+◌, ◌-◌, ◌*◌, ◌<◌, ◌≤◌, true, min, max, List, length, take, drop, Some, sym, ◌∙◌, ap, subst, ⊎_elim, arith, slice_range, slice_get}
use borrow.Rule.Slice.PartMut.{put_mid}
use Rattle.std.proofs.lemmas.Bool.{cases_lt}
use Rattle.std.proofs.lemmas.Grind.{common_steps, same_number_lists}
use Rattle.std.proofs.lemmas.List.{length-take, length-drop, get_or-take, get_or-drop, get_or_append_left, get_or-append_right}
use Rattle.std.proofs.lemmas.List.Elements.{All-take}
use Rattle.std.proofs.lemmas.List.Folds.{list_any_at}
use Rattle.std.proofs.lemmas.Option.{get_or_from_slice_get, slice_get_within}
use Rattle.list_laws.proofs.SliceRangeLemmas.{length-range, get_or-range}
use Rattle.list_laws.specs.Patches.{patched}
use Rattle.list_laws.proofs.PatchesLemmas.{length-patched, patched_before, patched_inside, patched_after}
use Rattle.store_form.specs.Pieces.{Piece, applied, IsUsablePiece}
use Rattle.store_form.specs.Spared.{AreUsable}
use Rattle.store_form.proofs.SparedLemmas.{length-applied}
use Rattle.update_journal.proofs.IsUnderWayLemmas.{one_more}
use Rattle.page_store.specs.Commits.{touches, is_touched, bytes_of_page}

module _ (held bytes : List ℕ) (place start : ℕ) (fits : place + length bytes ≤ length held) (inside : start + 64 ≤ length held) where
  abbrev now : List ℕ
  now = patched place bytes held

  inside' : start + 64 ≤ length now
  inside' = omega (arith, length-patched place bytes held fits)

  -- no byte of the piece lies there
  pub nothing_there : (page : List ℕ) → min (place + length bytes) (start + 64) ≤ max place start → page ≡ slice_range held start (start + 64) → page ≡ slice_range now start (start + 64)
  nothing_there page none is = is ∙ same_number_lists (slice_range held start (start + 64)) (slice_range now start (start + 64)) (length-range held start 64 inside ∙ sym (length-range now start 64 inside')) (λ k low.
      let low' : k < 64 = omega (arith, length-range held start 64 inside) in
      get_or-range held start 64 k low' ∙ ⊎_elim {C = get_or held (start + k) 0 ≡ get_or now (start + k) 0} (λ before. sym (patched_before place bytes held fits (start + k) before))
      (λ from. sym (patched_after place bytes held fits (start + k) (omega arith))) (cases_lt (start + k) place) ∙ sym (get_or-range now start 64 k low'))

  -- some bytes of it do
  pub something_there : (page part : List ℕ) (from to : ℕ) → from ≡ max place start → to ≡ min (place + length bytes) (start + 64) → from < to → page ≡ slice_range held start (start + 64) → part ≡ slice_range bytes (from - place) (to - place)
      → put_mid (from - start) (to - start - (from - start)) page part ≡ slice_range now start (start + 64)
  something_there page part from to from_is to_is some is copied =
      let a = from - start in
      let width = to - start - a in
      let long : length page ≡ 64 = ap (λ (l : List ℕ). length l) is ∙ length-range held start 64 inside in
      let end : to - place ≡ from - place + (to - from) = omega arith in
      let part_long : length part ≡ to - from = ap (λ (l : List ℕ). length l) copied ∙ ap (λ n. length (slice_range bytes (from - place) n)) end ∙ length-range bytes (from - place) (to - from) (omega arith) in
      let front : length (take a page) ≡ a = omega (arith, length-take a page) in
      let back : length (drop (a + width) page) ≡ 64 - (a + width) = omega (arith, length-drop (a + width) page) in
      let whole : length (put_mid a width page part) ≡ 64 = grind (arith, common_steps) in
      same_number_lists (put_mid a width page part) (slice_range now start (start + 64)) (whole ∙ sym (length-range now start 64 inside')) (λ k low.
      let low' : k < 64 = omega (arith, whole) in
      at_index page part from to k from_is to_is some is copied long part_long low' ∙ sym (get_or-range now start 64 k low'))
    where
      of_page : (page : List ℕ) (k : ℕ) → page ≡ slice_range held start (start + 64) → k < 64 → get_or page k 0 ≡ get_or held (start + k) 0
      of_page page k is low = ap (λ (l : List ℕ). get_or l k 0) is ∙ get_or-range held start 64 k low

      of_part : (part : List ℕ) (from to j : ℕ) → part ≡ slice_range bytes (from - place) (to - place) → place ≤ from → from ≤ to → j < to - from → get_or part j 0 ≡ get_or bytes (from - place + j) 0
      of_part part from to j copied low order inside =
          let end : to - place ≡ from - place + (to - from) = omega arith in
          ap (λ (l : List ℕ). get_or l j 0) (copied ∙ ap (λ n. slice_range bytes (from - place) n) end) ∙ get_or-range bytes (from - place) (to - from) j inside

      at_index : (page part : List ℕ) (from to k : ℕ) → from ≡ max place start → to ≡ min (place + length bytes) (start + 64) → from < to → page ≡ slice_range held start (start + 64) → part ≡ slice_range bytes (from - place) (to - place)
          → length page ≡ 64 → length part ≡ to - from → k < 64 → get_or (put_mid (from - start) (to - start - (from - start)) page part) k 0 ≡ get_or now (start + k) 0
      at_index page part from to k from_is to_is some is copied long part_long low =
          let a = from - start in
          let front : length (take a page) ≡ a = omega (arith, length-take a page) in
          let mid = take a page in
          ⊎_elim {C = get_or (put_mid a (to - start - a) page part) k 0 ≡ get_or now (start + k) 0}
          (λ before. get_or_append_left (take a page) _ 0 k (omega arith) ∙ get_or-take a page k 0 before ∙ of_page page k is low ∙ sym (patched_before place bytes held fits (start + k) (omega arith)))
          (λ from_on. get_or-append_right (take a page) _ a k 0 front from_on ∙ ⊎_elim
          (λ inside. get_or_append_left part _ 0 (k - a) (omega arith) ∙ of_part part from to (k - a) copied (omega arith) (omega arith) inside
          ∙ ap (λ n. get_or bytes n 0) (let on : from - place + (k - a) ≡ start + k - place = omega arith in on) ∙ sym (patched_inside place bytes held fits (start + k) (omega arith) (omega arith)))
          (λ after. get_or-append_right part _ (to - from) (k - a) 0 part_long after ∙ get_or-drop-drop page a (to - start - a) (k - a - (to - from)) ∙ ap (λ n. get_or page n 0) (let on : a + (to - start - a + (k - a - (to - from))) ≡ k = omega arith in on)
          ∙ of_page page k is low ∙ sym (patched_after place bytes held fits (start + k) (omega arith))) (cases_lt (k - a) (to - from)))
          (cases_lt k a)
        where
          get_or-drop-drop : (xs : List ℕ) (a b i : ℕ) → get_or (drop b (drop a xs)) i 0 ≡ get_or xs (a + (b + i)) 0
          get_or-drop-drop xs a b i = get_or-drop b (drop a xs) i 0 ∙ get_or-drop a xs (b + i) 0

-- the pieces up to one are put in, and then that one
pub put_next : (pieces : List Piece) (at page place : ℕ) (piece : Piece) (new held : List ℕ) → slice_get pieces at ≡ Some piece → place ≡ piece.place
    → new ≡ slice_range (patched place piece.bytes (applied (take at pieces) held)) (64 * page) (64 * page + 64) → new ≡ bytes_of_page (applied (take (at + 1) pieces) held) page
put_next pieces at page place piece new held there is put =
    put ∙ ap (λ p. slice_range (patched p piece.bytes (applied (take at pieces) held)) (64 * page) (64 * page + 64)) is ∙ ap (λ (l : List ℕ). slice_range l (64 * page) (64 * page + 64)) (sym (one_more pieces at piece held there))

pub front_length : (pieces : List Piece) (at : ℕ) (held : List ℕ) → length held ≡ 65536 → AreUsable pieces 65536 → length (applied (take at pieces) held) ≡ 65536
front_length pieces at held long usable =
    let P : ℕ → Type 0 = λ n. AreUsable (take at pieces) n in
    length-applied (take at pieces) held (subst P (sym long) (All-take (IsUsablePiece 65536) at pieces usable)) ∙ long

pub touched_at : (pieces : List Piece) (at page : ℕ) (piece : Piece) → slice_get pieces at ≡ Some piece → touches page piece ≡ true → is_touched pieces page ≡ true
touched_at pieces at page piece there touched =
    let P : Piece → Type 0 = λ p. touches page p ≡ true in
    list_any_at (touches page) pieces at piece (slice_get_within pieces at piece there) (subst P (sym (get_or_from_slice_get pieces at piece piece there)) touched)

-- Reads and writes of one page, on a store below that may tell its bytes, or may not.
use Rattle.std.proofs.Common.{get_or, ◌≡◌, ◌⊎◌, ℕ, ◌+◌, ◌-◌, ◌<◌, ◌≤◌, List, length, Option, Some, None, refl, sym, ◌∙◌, ap, subst, inl, inr, ⊎_elim, arith, ◌++◌, take, drop, option_map, slice_range, IfSome}
use borrow.Rule.Slice.PartMut.{put_mid}
use Rattle.std.proofs.lemmas.Grind.{common_steps, same_number_lists}
use Rattle.std.proofs.lemmas.List.{length-append, length-drop, length-take, length-take-le, get_or-take, get_or_append_left, get_or-append_right}
use Rattle.std.proofs.lemmas.Slice.{take-put_mid}
use Rattle.std.proofs.lemmas.Bool.{cases_lt}
use Rattle.list_laws.proofs.SliceRangeLemmas.{length-range, get_or-range, next_range}
use Rattle.list_laws.specs.Patches.{patched, Torn}
use Rattle.list_laws.proofs.PatchesLemmas.{Torn_patched}
use Rattle.uicc_types.specs.Told.{Becomes}
use Rattle.store_form.specs.Pieces.{IsUsable}
use Rattle.update_journal.proofs.PatchedLemmas.{patched_on, torn_on}
use Rattle.update_journal.proofs.IsUnderWayLemmas.{some_same}
use Rattle.page_store.specs.Below.{InPage}
use Rattle.page_store.specs.Pages.{place_of, through, map_of, content_of, content}
use Rattle.page_store.specs.Tables.{Kept, IsPool, IsKept}
use Rattle.page_store.proofs.PlaceOfLemmas.{place_fits, range_through, patched_through, torn_through, clear_of_map, content_through, same_map}

abbrev pub Told : Type 0
Told = Option (List ℕ)

abbrev pub HasLength : Told → ℕ → Type 0
HasLength told size = IfSome told (λ held. length held ≡ size)

module _ (kept : Kept) (at n : ℕ) (part : InPage at n) where
  -- what is read of the page is read of the content
  pub read_of : (told : Told) (out : List ℕ) → HasLength told 71680 → IsKept kept told → IfSome told (λ held. out ≡ slice_range held (place_of kept.entries at) (place_of kept.entries at + n))
      → IfSome (content told) (λ held. out ≡ slice_range held at (at + n))
  read_of None out long is seen = tt
  read_of (Some image) out long is seen =
      seen ∙ sym (range_through kept is.pool image at n long part.usable.inside part.some part.one_page) ∙ ap (λ (l : List ℕ). slice_range l at (at + n)) (sym (content_through kept is.pool image is.same))

  -- the range on the device is beside the map
  away : (k place : ℕ) → (place + n ≤ 64) ⊎ (2880 ≤ place) → 832 ≤ k → k < 2854 → (k < place) ⊎ (place + n ≤ k)
  away k place clear low high = ⊎_elim (λ below. inr (omega arith)) (λ above. inl (omega arith)) clear

  torn_map : (image new : List ℕ) → length image ≡ 71680 → IsPool kept → Torn (place_of kept.entries at) n image new → map_of new ≡ map_of image
  torn_map image new long pool torn =
      let place = place_of kept.entries at in
      same_map image new long (torn.same_length ∙ long) (λ k low high.
      ⊎_elim {C = get_or new k 0 ≡ get_or image k 0} (λ before. torn.before k before) (λ after. torn.after k after) (away k place (clear_of_map kept pool at n part.usable part.some) low high))

  pub torn_of : (old new : Told) → HasLength old 71680 → IsKept kept old → Becomes (Torn (place_of kept.entries at) n) old new → Becomes (Torn at n) (content old) (content new)
  torn_of None None long is torn = tt
  torn_of None (Some image) long is torn = torn
  torn_of (Some image) None long is torn = torn
  torn_of (Some image) (Some new) long is torn =
      let same = torn_map image new long is.pool torn ∙ is.same in
      let T : List ℕ → List ℕ → Type 0 = λ a b. Torn at n a b in
      subst (λ a. T a (content_of new)) (sym (content_through kept is.pool image is.same))
      (subst (λ b. T (through kept.entries image) b) (sym (content_through kept is.pool new same)) (torn_through kept is.pool image new at n part.usable.inside part.some part.one_page torn))

-- bytes that are put into one page
pub put_of : (kept : Kept) (at : ℕ) (bytes : List ℕ) (old new : Told) → InPage at (length bytes) → HasLength old 71680 → IsKept kept old → new ≡ option_map (patched (place_of kept.entries at) bytes) old
    → (content new ≡ option_map (patched at bytes) (content old)) × IsKept kept new
put_of kept at bytes None new part long is put = let P : Told → Type 0 = λ o. (content o ≡ None) × IsKept kept o in subst P (sym put) (refl, is)
put_of kept at bytes (Some image) new part long is put =
    let place = place_of kept.entries at in
    let fits : place + length bytes ≤ length image = omega (arith, place_fits kept is.pool at (length bytes) part.usable.inside part.some part.one_page) in
    let now = patched place bytes image in
    let torn = Torn_patched place (length bytes) bytes image refl fits in
    let same = torn_map kept at (length bytes) part image now long is.pool torn ∙ is.same in
    let P : Told → Type 0 = λ o. (content o ≡ option_map (patched at bytes) (content (Some image))) × IsKept kept o in
    subst P (sym put) (
      some_same _ _ (content_through kept is.pool now same ∙ patched_through kept is.pool image bytes at long part.usable.inside part.some part.one_page ∙ ap (λ (l : List ℕ). patched at bytes l) (sym (content_through kept is.pool image is.same))),
      record { pool = is.pool; same = same },
    )

-- The same for a place that was computed, on a store of the size that is asked for.
module _ (kept : Kept) (at n size place : ℕ) (part : InPage at n) (sized : size ≡ 71680) (there : place ≡ place_of kept.entries at) where
  sized_to : (told : Told) → HasLength told size → HasLength told 71680
  sized_to told long = subst (λ count. HasLength told count) sized long

  pub usable_place : IsPool kept → IsUsable size place n
  usable_place pool =
      let fits : place + n ≤ 71680 = omega (arith, place_fits kept pool at n part.usable.inside part.some part.one_page) in
      let clear = clear_of_map kept pool at n part.usable part.some in
      record { inside = omega arith; outside = λ some low. ⊎_elim {C = place + n ≤ 64} (λ below. omega arith) (λ above. absurd (omega arith)) clear }

  pub read_part : (told : Told) (out : List ℕ) → HasLength told size → IsKept kept told → IfSome told (λ held. out ≡ slice_range held place (place + n)) → IfSome (content told) (λ held. out ≡ slice_range held at (at + n))
  read_part told out long is seen =
      let P : ℕ → Type 0 = λ p. IfSome told (λ held. out ≡ slice_range held p (p + n)) in read_of kept at n part told out (sized_to told long) is (subst P there seen)

  pub torn_part : (old new : Told) → HasLength old size → IsKept kept old → Becomes (Torn place n) old new → Becomes (Torn at n) (content old) (content new)
  torn_part old new long is torn = let P : ℕ → Type 0 = λ p. Becomes (Torn p n) old new in torn_of kept at n part old new (sized_to old long) is (subst P there torn)

pub put_part : (kept : Kept) (at size place : ℕ) (bytes : List ℕ) (old new : Told) → InPage at (length bytes) → size ≡ 71680 → place ≡ place_of kept.entries at → HasLength old size → IsKept kept old → new ≡ option_map (patched place bytes) old
    → (content new ≡ option_map (patched at bytes) (content old)) × IsKept kept new
put_part kept at size place bytes old new part sized there long is put =
    put_of kept at bytes old new part (subst (λ count. HasLength old count) sized long) is (put ∙ ap (λ p. option_map (patched p bytes) old) there)

pub next_take : (bytes : List ℕ) (done count : ℕ) → done + count ≤ length bytes → take done bytes ++ slice_range bytes done (done + count) ≡ take (done + count) bytes
next_take bytes done count fits =
    let width : done + count - done ≡ count = omega arith in
    let first : length (take done bytes) ≡ done = length-take-le done bytes (omega arith) in
    let second : length (slice_range bytes done (done + count)) ≡ count = length-range bytes done count fits in
    let whole : length (take (done + count) bytes) ≡ done + count = length-take-le (done + count) bytes fits in
    let both = length-append (take done bytes) (slice_range bytes done (done + count)) in
    same_number_lists _ _ (omega arith) (λ k low. ⊎_elim {C = get_or (take done bytes ++ slice_range bytes done (done + count)) k 0 ≡ get_or (take (done + count) bytes) k 0}
    (λ before. get_or_append_left (take done bytes) (slice_range bytes done (done + count)) 0 k (omega arith) ∙ get_or-take done bytes k 0 before ∙ sym (get_or-take (done + count) bytes k 0 (omega arith)))
    (λ after. get_or-append_right (take done bytes) (slice_range bytes done (done + count)) done k 0 first after ∙ get_or-range bytes done count (k - done) (omega arith)
    ∙ ap (λ n. get_or bytes n 0) (let on : done + (k - done) ≡ k = omega arith in on) ∙ sym (get_or-take (done + count) bytes k 0 (omega arith))) (cases_lt k done))

-- the part of a slice that a call was given
pub part_length : (out part : List ℕ) (done count : ℕ) → done + count ≤ length out → length part ≡ length (take (done + count - done) (drop done out)) → length part ≡ count
part_length out part done count fits same = omega (arith, same, length-take (done + count - done) (drop done out), length-drop done out)

pub mid_length : (out part : List ℕ) (done count : ℕ) → done + count ≤ length out → length part ≡ count → length (put_mid done (done + count - done) out part) ≡ length out
mid_length out part done count fits same = grind (arith, common_steps)

pub seen_on : (told : Told) (at done count width size : ℕ) (out part : List ℕ) → HasLength told size → at + (done + count) ≤ size → done ≤ length out → length part ≡ count
    → IfSome told (λ held. take done out ≡ slice_range held at (at + done)) → IfSome told (λ held. part ≡ slice_range held (at + done) (at + done + count))
    → IfSome told (λ held. take (done + count) (put_mid done width out part) ≡ slice_range held at (at + (done + count)))
seen_on None at done count width size out part long fits within short before next = tt
seen_on (Some held) at done count width size out part long fits within short before next =
    take-put_mid done width out part (done + count) (omega arith) within ∙ ap (λ (l : List ℕ). l ++ part) before ∙ ap (λ (l : List ℕ). slice_range held at (at + done) ++ l) next
    ∙ next_range held at done count (omega arith)

pub put_on : (at done count from size : ℕ) (bytes : List ℕ) (old mid new : Told) → HasLength old size → done + count ≤ length bytes → at + length bytes ≤ size → from ≡ at + done
    → mid ≡ option_map (patched at (take done bytes)) old → new ≡ option_map (patched from (slice_range bytes done (done + count))) mid → new ≡ option_map (patched at (take (done + count) bytes)) old
put_on at done count from size bytes old mid new long inside fits is before put =
    let front : length (take done bytes) ≡ done = length-take-le done bytes (omega arith) in
    let part = length-range bytes done count inside in
    put ∙ ap (λ (o : Told). option_map (patched from (slice_range bytes done (done + count))) o) before
    ∙ patched_on at from size (take done bytes) (slice_range bytes done (done + count)) old long (omega arith) (omega arith)
    ∙ ap (λ (l : List ℕ). option_map (patched at l) old) (next_take bytes done count inside)

pub torn_next : (at done count from size : ℕ) (bytes : List ℕ) (old mid new : Told) → HasLength old size → done + count ≤ length bytes → at + length bytes ≤ size → from ≡ at + done
    → mid ≡ option_map (patched at (take done bytes)) old → Becomes (Torn from count) mid new → Becomes (Torn at (length bytes)) old new
torn_next at done count from size bytes old mid new long inside fits is before torn =
    let front : length (take done bytes) ≡ done = length-take-le done bytes (omega arith) in
    let P : Told → Type 0 = λ o. Becomes (Torn from count) o new in
    torn_on at from count size bytes (take done bytes) old new long fits (omega arith) (omega arith) (subst P before torn)

-- What a recovery learns of the map, and what is read where there is none.
use Rattle.std.proofs.Common.{get_or, ◌≡◌, ℕ, ◌+◌, ◌<◌, Bool, true, false, List, length, Some, None, refl, sym, ◌∙◌, ap, ◌^◌, ⊎_elim, arith, slice_range, replicate, IfSome, if◌then◌else◌}
use Rattle.std.proofs.lemmas.Grind.{same_number_lists}
use Rattle.std.proofs.lemmas.Bool.{cases_lt}
use Rattle.std.proofs.lemmas.List.{length-replicate, get_or-replicate, get_or_past}
use Rattle.std.proofs.lemmas.List.Elements.{All-replicate, All-from_get_or}
use Rattle.list_laws.proofs.SliceRangeLemmas.{length-range, get_or-range}
use Rattle.uicc_types.specs.Told.{AreBytes}
use Rattle.store_form.specs.Pieces.{IsUsable}
use Rattle.page_store.specs.Pages.{entries_of, map_of, is_well_formed, place_of, through, content_of, content}
use Rattle.page_store.specs.Laws.{length-through, get_or-through}
use Rattle.page_store.specs.Paged.{IsKnown, known_of}
use Rattle.page_store.specs.declared.paged.Known.TheVariants.{Blank, Mapped}
use Rattle.page_store.specs.Tables.{loaded}
use Rattle.page_store.proofs.IsWellFormedLemmas.{pool_of}
use Rattle.page_store.proofs.InPageLemmas.{Told}
use Rattle.page_store.proofs.BlanksLemmas.{HasNoMap, blank_content, entries_count}

-- the map that was read is the one that is kept
pub known_read : (told : Told) (bytes : List ℕ) → IfSome told (λ held. bytes ≡ slice_range held 832 2854) → IsKnown (known_of (entries_of bytes)) told
known_read told bytes seen = by_test (is_well_formed (entries_of bytes)) refl
  where
    same_map : (told : Told) → IfSome told (λ held. bytes ≡ slice_range held 832 2854) → IfSome told (λ image. map_of image ≡ entries_of bytes)
    same_map None seen = tt
    same_map (Some image) seen = ap (λ (l : List ℕ). entries_of l) (sym seen)

    none_formed : (told : Told) → IfSome told (λ image. map_of image ≡ entries_of bytes) → is_well_formed (entries_of bytes) ≡ false → HasNoMap told
    none_formed None same none = tt
    none_formed (Some image) same none = ap (λ pages. is_well_formed pages) same ∙ none

    by_test : (b : Bool) → is_well_formed (entries_of bytes) ≡ b → IsKnown (if b then Mapped (loaded (entries_of bytes)) else Blank) told
    by_test true formed = record { pool = pool_of (entries_of bytes) formed (entries_count bytes); same = same_map told seen }
    by_test false none = none_formed told (same_map told seen) none

-- a content of FF is read
pub blank_read : (told : Told) (at n : ℕ) (out : List ℕ) → HasNoMap told → IsUsable 65536 at n → out ≡ replicate n 255 → IfSome (content told) (λ held. out ≡ slice_range held at (at + n))
blank_read None at n out none usable is = tt
blank_read (Some image) at n out none usable is =
    let byte : ℕ = 255 in
    let held = replicate 65536 byte in
    let long : length held ≡ 65536 = length-replicate {A = ℕ} 65536 byte in
    let part : length (slice_range held at (at + n)) ≡ n = length-range held at n (omega (arith, usable.inside)) in
    let short : length (replicate n byte) ≡ n = length-replicate {A = ℕ} n byte in
    is ∙ same_number_lists (replicate n byte) (slice_range held at (at + n)) (short ∙ sym part) (λ k there.
    let low : k < n = omega arith in
    get_or-replicate n k byte 0 low ∙ sym (get_or-range held at n k low ∙ get_or-replicate 65536 (at + k) byte 0 (omega (arith, usable.inside))))
    ∙ ap (λ (l : List ℕ). slice_range l at (at + n)) (sym (blank_content image none))

-- what is read through a map are bytes, where the image is of bytes
byte_at : (image : List ℕ) → AreBytes image → (k : ℕ) → get_or image k 0 < 2 ^ 8
byte_at image held k = ⊎_elim {C = get_or image k 0 < 2 ^ 8} (λ there. held k 0 there) (λ past. omega (arith, get_or_past image k 0 past)) (cases_lt k (length image))

through_bytes : (pages image : List ℕ) → AreBytes image → AreBytes (through pages image)
through_bytes pages image held =
    All-from_get_or (λ byte. byte < 2 ^ 8) (through pages image) 0 (λ k there. let fits : k < 65536 = omega (arith, length-through pages image) in omega (arith, get_or-through pages image k fits, byte_at image held (place_of pages k)))

if_bytes : (b : Bool) (pages image : List ℕ) → AreBytes image → AreBytes (if b then through pages image else replicate 65536 255)
if_bytes true pages image held = through_bytes pages image held
if_bytes false pages image held = All-replicate (λ byte. byte < 2 ^ 8) 65536 255 (omega arith)

content_bytes : (image : List ℕ) → AreBytes image → AreBytes (content_of image)
unfolding content_of
content_bytes image held = if_bytes (is_well_formed (map_of image)) (map_of image) image held

pub told_bytes : (told : Told) → IfSome told AreBytes → IfSome (content told) AreBytes
told_bytes None held = tt
told_bytes (Some image) held = content_bytes image held

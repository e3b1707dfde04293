-- What bytes that were put in a list at a place leave, and what is left of a range whose write was cut short.
use Rattle.std.proofs.Common.{◌≡◌, ℕ, ◌+◌, ◌-◌, ◌<◌, ◌≤◌, List, [], ◌++◌, length, take, drop, slice_range, ◌⊎◌, All, add-zero, get_or, sym, ◌∙◌, ap, inl, inr, ⊎_elim, arith, length-append}
use Rattle.std.proofs.lemmas.List.{append-nil, length-take, length-drop, places, take-append-drop, drop_all}
use Rattle.std.proofs.lemmas.List.Elements.{All-append, All-drop, All-take}
use Rattle.std.proofs.lemmas.Bool.{cases_lt}
use Rattle.std.proofs.lemmas.Grind.{same_number_lists}
use Rattle.list_laws.proofs.SliceRangeLemmas.{length-range, get_or-range}
use Rattle.list_laws.specs.Patches.{patched, Torn, IsApart}

pub length-patched : (at : ℕ) (bytes image : List ℕ) → at + length bytes ≤ length image → length (patched at bytes image) ≡ length image
unfolding patched
length-patched at bytes image fits =
    omega (arith, length-append (take at image ++ bytes) (drop (at + length bytes) image), length-append (take at image) bytes, length-take at image, length-drop (at + length bytes) image)

pub patched_before : (at : ℕ) (bytes image : List ℕ) → at + length bytes ≤ length image → (k : ℕ) → k < at → get_or (patched at bytes image) k 0 ≡ get_or image k 0
unfolding patched
patched_before at bytes image fits k low = grind (arith, places)

pub patched_inside : (at : ℕ) (bytes image : List ℕ) → at + length bytes ≤ length image → (k : ℕ) → at ≤ k → k < at + length bytes → get_or (patched at bytes image) k 0 ≡ get_or bytes (k - at) 0
unfolding patched
patched_inside at bytes image fits k from to = grind (arith, places)

pub patched_after : (at : ℕ) (bytes image : List ℕ) → at + length bytes ≤ length image → (k : ℕ) → at + length bytes ≤ k → get_or (patched at bytes image) k 0 ≡ get_or image k 0
unfolding patched
patched_after at bytes image fits k high = grind (arith, places)

-- what holds of each byte put in, and of each of the image, holds of each afterwards
pub All-patched : (P : ℕ → Type 0) (at : ℕ) (bytes image : List ℕ) → All P bytes → All P image → All P (patched at bytes image)
unfolding patched
All-patched P at bytes image put held =
    All-append P (take at image ++ bytes) (drop (at + length bytes) image) (All-append P (take at image) bytes (All-take P at image held) put) (All-drop P (at + length bytes) image held)

-- two lists of bytes are equal where they have one length and agree at each place
same_bytes : (a b : List ℕ) → length a ≡ length b → ((k : ℕ) → k < length a → get_or a k 0 ≡ get_or b k 0) → a ≡ b
same_bytes a b long each = same_number_lists a b long each

pub patched-nil : (at : ℕ) (image : List ℕ) → patched at [] image ≡ image
unfolding patched
patched-nil at image = rw (append-nil, add-zero) (take-append-drop at image)

-- one range after the other is the range of both
pub patched-patched : (at next : ℕ) (front back image : List ℕ) → next ≡ at + length front → next + length back ≤ length image → patched next back (patched at front image) ≡ patched at (front ++ back) image
patched-patched at next front back image is fits =
    let first : at + length front ≤ length image = omega arith in
    let kept : length (patched at front image) ≡ length image = length-patched at front image first in
    let both : length (front ++ back) ≡ length front + length back = length-append front back in
    let second : next + length back ≤ length (patched at front image) = omega arith in
    let whole : at + length (front ++ back) ≤ length image = omega arith in
    same_bytes _ _ (length-patched next back (patched at front image) second ∙ kept ∙ sym (length-patched at (front ++ back) image whole)) (λ k h. grind (arith, places, patched_before, patched_inside, patched_after))

pub Torn_patched : (at count : ℕ) (bytes image : List ℕ) → length bytes ≡ count → at + length bytes ≤ length image → Torn at count image (patched at bytes image)
Torn_patched at count bytes image long fits = record {
  same_length = length-patched at bytes image fits;
  before = patched_before at bytes image fits;
  after = λ k h. patched_after at bytes image fits k (omega arith);
}

-- torn in a range is torn in a wider one
pub Torn_wider : (at count low high : ℕ) (old new : List ℕ) → low ≤ at → at + count ≤ low + high → Torn at count old new → Torn low high old new
Torn_wider at count low high old new from to torn = record {
  same_length = torn.same_length;
  before = λ k h. torn.before k (omega arith);
  after = λ k h. torn.after k (omega arith);
}

-- torn twice in a range is torn in it
pub Torn_again : (at count : ℕ) (old mid new : List ℕ) → Torn at count old mid → Torn at count mid new → Torn at count old new
Torn_again at count old mid new first second = record {
  same_length = second.same_length ∙ first.same_length;
  before = λ k h. second.before k h ∙ first.before k h;
  after = λ k h. second.after k h ∙ first.after k h;
}

-- ---- a range after bytes were put in

-- bytes put over as many
pub patched-all : (bytes old : List ℕ) → length bytes ≡ length old → patched 0 bytes old ≡ bytes
unfolding patched
patched-all bytes old long = rw (drop_all (0 + length bytes) old (omega arith)) (append-nil bytes)

module _ (place : ℕ) (bytes image : List ℕ) (fits : place + length bytes ≤ length image) where
  long : length (patched place bytes image) ≡ length image
  long = length-patched place bytes image fits

  -- a byte beside the ones that were put in stays
  pub get_or-patched_apart : (k : ℕ) → (k < place) ⊎ (place + length bytes ≤ k) → get_or (patched place bytes image) k 0 ≡ get_or image k 0
  get_or-patched_apart k = ⊎_elim (patched_before place bytes image fits k) (patched_after place bytes image fits k)

  -- a range beside them stays
  pub range-patched_apart : (at count : ℕ) → at + count ≤ length image → IsApart at count place (length bytes)
      → slice_range (patched place bytes image) at (at + count) ≡ slice_range image at (at + count)
  range-patched_apart at count inside apart =
      let here : length (slice_range image at (at + count)) ≡ count = length-range image at count inside in
      let there : length (slice_range (patched place bytes image) at (at + count)) ≡ count = length-range (patched place bytes image) at count (omega (arith, long)) in
      same_bytes _ _ (there ∙ sym here)
      (λ k h.
      let low : k < count = omega (arith, there) in
      get_or-range (patched place bytes image) at count k low
      ∙ get_or-patched_apart (at + k) (⊎_elim {C = (at + k < place) ⊎ (place + length bytes ≤ at + k)} (λ before. inl (omega arith)) (λ after. inr (omega arith)) apart)
      ∙ sym (get_or-range image at count k low))

  -- their own range is what was put in
  pub range-patched_there : slice_range (patched place bytes image) place (place + length bytes) ≡ bytes
  range-patched_there =
      let whole : length (slice_range (patched place bytes image) place (place + length bytes)) ≡ length bytes = length-range (patched place bytes image) place (length bytes) (omega (arith, long)) in
      same_bytes _ _ whole
      (λ k h.
      let low : k < length bytes = omega (arith, whole) in
      let shift : place + k - place ≡ k = omega arith in
      get_or-range (patched place bytes image) place (length bytes) k low ∙ patched_inside place bytes image fits (place + k) (omega arith) (omega arith) ∙ ap (λ (n : ℕ). get_or bytes n 0) shift)

-- bytes put into a range of the image are put into the bytes of that range
pub range-patched_inside : (at from count : ℕ) (bytes image : List ℕ) → from + length bytes ≤ count → at + count ≤ length image
    → slice_range (patched (at + from) bytes image) at (at + count) ≡ patched from bytes (slice_range image at (at + count))
range-patched_inside at from count bytes image inside fits =
    let old : List ℕ = slice_range image at (at + count) in
    let old_long : length old ≡ count = length-range image at count fits in
    let old_fits : from + length bytes ≤ length old = omega arith in
    let part_fits : at + from + length bytes ≤ length image = omega arith in
    let now : List ℕ = patched (at + from) bytes image in
    let now_long : length now ≡ length image = length-patched (at + from) bytes image part_fits in
    let whole : length (slice_range now at (at + count)) ≡ count = length-range now at count (omega (arith, now_long)) in
    same_bytes _ _ (whole ∙ sym (length-patched from bytes old old_fits ∙ old_long))
    (λ k h.
    let low : k < count = omega (arith, whole) in
    get_or-range now at count k low
    ∙ ⊎_elim {C = get_or now (at + k) 0 ≡ get_or (patched from bytes old) k 0}
    (λ before. patched_before (at + from) bytes image part_fits (at + k) (omega arith) ∙ sym (get_or-range image at count k low) ∙ sym (patched_before from bytes old old_fits k before))
    (λ first. ⊎_elim {C = get_or now (at + k) 0 ≡ get_or (patched from bytes old) k 0}
    (λ within.
    let shift : at + k - (at + from) ≡ k - from = omega arith in
    patched_inside (at + from) bytes image part_fits (at + k) (omega arith) (omega arith) ∙ ap (λ (n : ℕ). get_or bytes n 0) shift ∙ sym (patched_inside from bytes old old_fits k first within))
    (λ last. patched_after (at + from) bytes image part_fits (at + k) (omega arith) ∙ sym (get_or-range image at count k low) ∙ sym (patched_after from bytes old old_fits k last))
    (cases_lt k (from + length bytes))) (cases_lt k from))

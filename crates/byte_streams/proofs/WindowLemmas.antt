-- The bytes that a window holds, after a write past them or a step of their start.
use Rattle.std.proofs.Common.{◌≡◌, ◌<◌, ◌==◌, true, slice_index, Option, Some, None, MatchOption, ℕ, ◌+◌, ◌-◌, ◌≤◌, List, ◌++◌, length, take, drop, get_or, slice_range, inl, inr, sym, ap, ◌∙◌, refl, arith, take-add, length-append, append_assoc}
use Rattle.std.proofs.lemmas.List.{take_at, drop_at, take-append-le, drop-append-le, drop-take, drop-drop, length-take-le, length-drop, get_or-drop}
use Rattle.std.proofs.lemmas.Bool.{cases_lt}
use Rattle.memchr.specs.Find.{IsFirstByte, is_byte}
use Rattle.std.specs.Io.KnownBytes.{prepend_known}
use Rattle.byte_streams.specs.Search.{IsFirstEnd, NoEndBelow, TakesMore}
use Rattle.arrayvec.specs.ArrayVec.{ArrayVec, array_vec_len, with_items}
use Rattle.arrayvec.proofs.ArrayVecLemmas.{items-with_items}
use borrow.Rule.Slice.PartMut.{put_mid, mid_of, post_of, same_len_mid}

pub grown : (xs ys : List ℕ) (start end k n : ℕ) → start ≤ end → end ≤ length xs → n ≤ length ys
    → slice_range (put_mid end k xs ys) start (end + n) ≡ slice_range xs start end ++ take n ys
grown xs ys start end k n ordered within fits =
    let front = length-take-le end xs within in
    let held = drop start (take end xs) in
    let len : length held ≡ end - start = omega (arith, length-drop start (take end xs)) in
    let sum : end + n - start ≡ (end - start) + n = omega arith in
    let parts : end ≡ start + (end - start) = omega arith in
    let same : held ≡ take (end - start) (drop start xs) = ap (λ j. drop start (take j xs)) parts ∙ drop-take start (end - start) xs in
    let after = ys ++ post_of end k xs in
    ap (take (end + n - start)) (drop-append-le start (take end xs) after (omega arith))
    ∙ ap (λ j. take j (held ++ after)) sum ∙ take-add (end - start) n (held ++ after)
    ∙ (rw (take_at held after _ len, drop_at held after _ len, take-append-le n ys (post_of end k xs) fits, same) refl)

-- the same where all places of a list are in use: bytes were moved in it, and others then written after them
pub refilled : (bytes : ArrayVec ℕ) (moved shown out : List ℕ) (end room count : ℕ)
    → length moved ≡ array_vec_len bytes → shown ≡ (with_items bytes moved).items → length out ≡ length (mid_of end room shown)
    → end ≤ length moved → count ≤ length out
    → slice_range (with_items (with_items bytes moved) (put_mid end room shown out)).items 0 (end + count) ≡ slice_range moved 0 end ++ take count out
refilled bytes moved shown out end room count full lent whole within fits =
    let written = items-with_items bytes moved full in
    let same = lent ∙ written in
    let size : length (put_mid end room shown out) ≡ array_vec_len (with_items bytes moved) =
    same_len_mid end room shown out whole ∙ ap (λ (xs : List ℕ). length xs) lent in
    ap (λ (xs : List ℕ). slice_range xs 0 (end + count)) (items-with_items (with_items bytes moved) (put_mid end room shown out) size)
    ∙ ap (λ (xs : List ℕ). slice_range (put_mid end room xs out) 0 (end + count)) same
    ∙ grown moved out 0 end room count (omega arith) within fits

pub let_go : (xs : List ℕ) (start end count : ℕ) → start + count ≤ end
    → slice_range xs (start + count) end ≡ drop count (slice_range xs start end)
let_go xs start end count inside =
    let parts : end - start ≡ count + (end - (start + count)) = omega arith in
    sym (ap (λ j. drop count (take j (drop start xs))) parts ∙ drop-take count _ (drop start xs)
    ∙ ap (take (end - (start + count))) (drop-drop count start xs))

prepended : (front back : List ℕ) (known : Option (List ℕ)) → prepend_known front (prepend_known back known) ≡ prepend_known (front ++ back) known
prepended front back None = refl
prepended front back (Some bytes) = ap Some (sym (append_assoc front back bytes))

-- what is held grew once more, by the part that was taken last
pub takes_more : (old middle new : List ℕ) (left passed left_then : Option (List ℕ)) (part : List ℕ) → TakesMore old left middle passed
    → new ≡ middle ++ part → passed ≡ prepend_known part left_then → TakesMore old left new left_then
takes_more old middle new left passed left_then part before held handed = record {
  part = before.part ++ part;
  held = held ∙ ap (λ (xs : List ℕ). xs ++ part) before.held ∙ append_assoc old before.part part;
  handed = before.handed ∙ ap (prepend_known before.part) handed ∙ prepended before.part part left_then;
}

-- no more bytes are held than there was room for
pub stays_small : (middle part new shown : List ℕ) (count most : ℕ) → new ≡ middle ++ part → length part ≡ count → shown ≡ middle
    → length shown < most → count ≤ most - length shown → length new ≤ most
stays_small middle part new shown count most held size same room within =
    let longer : length new ≡ length middle + length part = ap (λ (xs : List ℕ). length xs) held ∙ length-append middle part in
    let as_long = ap (λ (xs : List ℕ). length xs) same in
    omega (arith, longer, as_long, size, room, within)

-- no line ends in a front, and none in the bytes after it
pub none_joined : (held : List ℕ) (from count : ℕ) → NoEndBelow held from → NoEndBelow (drop from held) count → NoEndBelow held (from + count)
none_joined held from count before after place below =
    elim (cases_lt place from) [
      | inl early ↦ before place early
      | inr late ↦
          let same : from + (place - from) ≡ place = omega arith in
          let here = after (place - from) (omega arith) in
          λ ends. here (get_or-drop from held (place - from) 0 ∙ ap (λ (k : ℕ). get_or held k 0) same ∙ ends)
    ]

pub first_joined : (held : List ℕ) (from place : ℕ) → NoEndBelow held from → IsFirstEnd (drop from held) place → IsFirstEnd held (from + place)
first_joined held from place before found = record {
  inside = omega (arith, length-drop from held, found.inside);
  ends = sym (get_or-drop from held place 0) ∙ found.ends;
  first = none_joined held from place before found.first;
}

is_end : (byte : ℕ) → byte ≡ 10 → (byte == 10) ≡ true
is_end byte same = grind (arith, same)

end_is : (byte : ℕ) → (byte == 10) ≡ true → byte ≡ 10
end_is byte same = grind (arith, same)

-- what a search for the byte of a line's end comes to
pub ends_found : (bytes : List ℕ) (found : Option ℕ) → IsFirstByte (is_byte 10) bytes found → MatchOption found (NoEndBelow bytes (length bytes)) (IsFirstEnd bytes)
ends_found bytes None none = λ place low ends. none place (omega arith) low (is_end (slice_index bytes place) ends)
ends_found bytes (Some place) found = record {
  inside = found.0.high;
  ends = end_is (slice_index bytes place) found.1;
  first = λ earlier low ends. found.0.before earlier (omega arith) low (is_end (slice_index bytes earlier) ends);
}

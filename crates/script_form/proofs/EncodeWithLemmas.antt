-- Bytes written in hexadecimal digits, one after the other.
use Rattle.std.proofs.Common.{◌≡◌, ℕ, zero, suc, ◌+◌, ◌*◌, ◌/◌, ◌%◌, ◌<◌, ◌≤◌, List, [], ◌∷◌, ◌++◌, length, take, map, slice_index, slice_set, refl, sym, ap, ◌∙◌, arith}
use Rattle.std.specs.Char.{to_ascii_uppercase}
use Rattle.std.proofs.lemmas.List.{append-nil, append_assoc, map-append, take-map, take-take, take_at}
use Rattle.std.proofs.lemmas.Slice.{take-put_mid}
use borrow.Rule.Slice.PartMut.{put_mid}
use Rattle.hex.proofs.HexLemmas.{length-encode_with}
use Rattle.hex.specs.Hex.{encode_lower, encode_upper, encode_with, lower_digits, upper_digits}

-- of no bytes there is no digit
pub encode_none : (t front : List ℕ) → front ++ encode_with t [] ≡ front
unfolding encode_with
encode_none t front = append-nil front

-- the digits of two lists of bytes stand one after the other
pub encode_with-append : (t first second : List ℕ) → encode_with t (first ++ second) ≡ encode_with t first ++ encode_with t second
unfolding encode_with
encode_with-append t [] second = refl
encode_with-append t (byte ∷ first) second =
    ap (λ (rest : List ℕ). slice_index t (byte / 16) ∷ slice_index t (byte % 16) ∷ rest) (encode_with-append t first second)

-- of the bytes that are left a few more are written
pub few_more : (t front few behind rest after total : List ℕ) → few ++ behind ≡ rest → after ≡ front ++ encode_with t few
    → front ++ encode_with t rest ≡ total → after ++ encode_with t behind ≡ total
few_more t front few behind rest after total parts more so_far =
    ap (λ (xs : List ℕ). xs ++ encode_with t behind) more ∙ append_assoc front (encode_with t few) (encode_with t behind)
    ∙ ap (λ (xs : List ℕ). front ++ xs) (sym (encode_with-append t few behind) ∙ ap (λ (xs : List ℕ). encode_with t xs) parts) ∙ so_far

-- every byte is written
pub all_written : (t front rest total : List ℕ) → length rest ≡ 0 → front ++ encode_with t rest ≡ total → front ≡ total
all_written t front [] total none so_far = sym (encode_none t front) ∙ so_far
all_written t front (byte ∷ rest) total none so_far = absurd (omega (arith, none))

pub ruleset joined_digits = (encode_with-append, append_assoc)

-- a letter that is raised is the one of the other table
digit_raised : (place : ℕ) → to_ascii_uppercase (slice_index lower_digits place) ≡ slice_index upper_digits place
digit_raised place = sym (at_place lower_digits place)
  where
    at_place : (digits : List ℕ) (place : ℕ) → slice_index (map to_ascii_uppercase digits) place ≡ to_ascii_uppercase (slice_index digits place)
    at_place [] place = refl
    at_place (digit ∷ digits) zero = refl
    at_place (digit ∷ digits) (suc place) = at_place digits place

-- digits that are written in lower case are those of the upper case, once their letters are raised
pub raised : (bytes : List ℕ) → map to_ascii_uppercase (encode_lower bytes) ≡ encode_upper bytes
unfolding encode_with
raised [] = refl
raised (byte ∷ bytes) = rw (digit_raised (byte / 16), digit_raised (byte % 16), raised bytes) refl

-- the same of digits at the front of a list
pub front_raised : (bytes out rest : List ℕ) → out ≡ encode_lower bytes
    → take (2 * length bytes) (map to_ascii_uppercase (out ++ rest)) ≡ encode_upper bytes
front_raised bytes out rest written =
    let size : length out ≡ 2 * length bytes = ap (λ (xs : List ℕ). length xs) written ∙ length-encode_with lower_digits bytes in
    take-map to_ascii_uppercase (2 * length bytes) (out ++ rest)
    ∙ ap (map to_ascii_uppercase) (take_at out rest (2 * length bytes) size ∙ written) ∙ raised bytes

-- the front of a list up to a place that was set
take_set : (xs : List ℕ) (place byte : ℕ) → place < length xs → take (suc place) (slice_set xs place byte) ≡ take place xs ++ byte ∷ []
take_set [] place byte inside = absurd (omega (arith, inside))
take_set (x ∷ xs) zero byte inside = refl
take_set (x ∷ xs) (suc place) byte inside = ap (λ (rest : List ℕ). x ∷ rest) (take_set xs place byte (omega (arith, inside)))

-- a mark and a space stand at the front of a list
marked : (text : List ℕ) (mark : ℕ) → 2 < length text → take 2 (slice_set (slice_set text 0 mark) 1 32) ≡ mark ∷ 32 ∷ []
marked [] mark room = absurd (omega (arith, room))
marked (one ∷ []) mark room = absurd (omega (arith, room))
marked (one ∷ two ∷ text) mark room = refl

-- what a line ends with is filled in from its front on: two parts, and the end
pub digits_filled : (text first second : List ℕ) (middle end room more : ℕ) → middle ≡ length first → end ≡ middle + length second
    → let longer = put_mid 0 room text first in
    let filled = put_mid middle more longer second in
    middle < length longer → end < length filled
    → take (end + 1) (slice_set filled end 10) ≡ (first ++ second) ++ 10 ∷ []
digits_filled text first second middle end room more first_fits second_fits within inside =
    let longer = put_mid 0 room text first in
    let filled = put_mid middle more longer second in
    let behind : end + 1 ≡ suc end = omega arith in
    ap (λ (count : ℕ). take count (slice_set filled end 10)) behind ∙ take_set filled end 10 inside
    ∙ ap (λ (front : List ℕ). front ++ 10 ∷ [])
    (take-put_mid middle more longer second end second_fits (omega (arith, within))
    ∙ ap (λ (front : List ℕ). front ++ second) (take-put_mid 0 room text first middle (omega (arith, first_fits)) (omega arith)))

-- the same once all letters are raised
pub digits_raised : (text body status : List ℕ) (end : ℕ)
    → take (end + 1) text ≡ (encode_lower body ++ encode_lower status) ++ 10 ∷ []
    → take (end + 1) (map to_ascii_uppercase text) ≡ encode_upper (body ++ status) ++ 10 ∷ []
digits_raised text body status end filled =
    take-map to_ascii_uppercase (end + 1) text ∙ ap (map to_ascii_uppercase) filled
    ∙ map-append to_ascii_uppercase (encode_lower body ++ encode_lower status) (10 ∷ [])
    ∙ ap (λ (digits : List ℕ). map to_ascii_uppercase digits ++ 10 ∷ []) (sym (encode_with-append lower_digits body status))
    ∙ ap (λ (digits : List ℕ). digits ++ 10 ∷ []) (raised (body ++ status))

-- and a line with its mark and a space before them
pub line_marked : (text behind : List ℕ) (mark room count : ℕ) → 2 < length text
    → let marked_text = slice_set (slice_set text 0 mark) 1 32 in
    2 ≤ length marked_text → count ≤ length behind
    → take (2 + count) (put_mid 2 room marked_text behind) ≡ mark ∷ 32 ∷ take count behind
line_marked text behind mark room count some enough within =
    let marked_text = slice_set (slice_set text 0 mark) 1 32 in
    let line = put_mid 2 room marked_text behind in
    let two : 2 + count ≡ suc (suc count) = omega arith in
    sym (take-take (2 + count) (2 + length behind) line (omega (arith, within)))
    ∙ ap (take (2 + count)) (take-put_mid 2 room marked_text behind (2 + length behind) refl enough
    ∙ ap (λ (front : List ℕ). front ++ behind) (marked text mark some))
    ∙ ap (λ (n : ℕ). take n (mark ∷ 32 ∷ behind)) two

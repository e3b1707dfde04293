-- The digits of one half byte and of one byte after the other.
use Rattle.std.proofs.Common.{◌≡◌, ℕ, ◌+◌, ◌*◌, ◌<◌, ◌≤◌, ◌/◌, ◌%◌, Bool, true, false, ◌&&◌, List, [], ◌∷◌, ◌++◌, length, map, drop, get_or, refl, ap, sym, ◌∙◌, arith, add-one, drop-cons, append_assoc, length-append, if◌then◌else◌, take_while}
use Rattle.std.proofs.lemmas.List.{append-nil, at_drop_all}
use Rattle.std.proofs.lemmas.List.Sums.{take_while-cons}
use Rattle.std.proofs.lemmas.Bool.{and_parts}
use Rattle.applet_trait.specs.Tables.{is_digit_half, halves}
use Rattle.boxed_applets.specs.Numbers.{digit_of, digits_of, digits_up_to, has_two_digits}

abbrev digits : List ℕ → List ℕ
digits half_bytes = map (λ half. 0x30 + half) half_bytes

nil : digits_up_to [] ≡ []
unfolding digits_up_to
nil = refl

digit_first : (half : ℕ) (others : List ℕ) → is_digit_half half ≡ true → digits_up_to (half ∷ others) ≡ (0x30 + half) ∷ digits_up_to others
unfolding digits_up_to
digit_first half others is =
    ap digits (take_while-cons is_digit_half half others) ∙ ap (λ b. digits (if b then half ∷ take_while is_digit_half others else [])) is

filler_first : (half : ℕ) (others : List ℕ) → is_digit_half half ≡ false → digits_up_to (half ∷ others) ≡ []
unfolding digits_up_to
filler_first half others is =
    ap digits (take_while-cons is_digit_half half others) ∙ ap (λ b. digits (if b then half ∷ take_while is_digit_half others else [])) is

last : (half : ℕ) (b : Bool) → is_digit_half half ≡ b → digits_up_to (half ∷ []) ≡ (if b then (0x30 + half) ∷ [] else [])
last half true is = digit_first half [] is ∙ ap (λ xs. (0x30 + half) ∷ xs) nil
last half false is = filler_first half [] is

-- a digit and one more half byte
pair : (low high : ℕ) → is_digit_half low ≡ true → digits_up_to (low ∷ high ∷ []) ≡ ((0x30 + low) ∷ []) ++ digit_of high
pair low high is = digit_first low (high ∷ []) is ∙ ap (λ xs. (0x30 + low) ∷ xs) (last high (is_digit_half high) refl)

pub low_half : (byte : ℕ) (old mid : List ℕ) → is_digit_half (byte % 16) ≡ false → mid ≡ old ++ digit_of (byte % 16) → mid ≡ old ++ digits_up_to (halves byte)
low_half byte old mid is e = e ∙ ap (λ b. old ++ (if b then (0x30 + byte % 16) ∷ [] else [])) is ∙ ap (λ xs. old ++ xs) (sym (filler_first _ _ is))

pub two_halves : (byte : ℕ) (old mid new : List ℕ) → is_digit_half (byte % 16) ≡ true → mid ≡ old ++ digit_of (byte % 16) → new ≡ mid ++ digit_of (byte / 16) → new ≡ old ++ digits_up_to (halves byte)
two_halves byte old mid new is first second =
    let mid_is : mid ≡ old ++ ((0x30 + byte % 16) ∷ []) = first ∙ ap (λ b. old ++ (if b then (0x30 + byte % 16) ∷ [] else [])) is in
    second ∙ ap (λ xs. xs ++ digit_of (byte / 16)) mid_is ∙ append_assoc old ((0x30 + byte % 16) ∷ []) (digit_of (byte / 16)) ∙ ap (λ xs. old ++ xs) (sym (pair (byte % 16) (byte / 16) is))

-- one byte, and the bytes after it

goes_on : (byte : ℕ) (others : List ℕ) → is_digit_half (byte % 16) ≡ true → is_digit_half (byte / 16) ≡ true → digits_of (byte ∷ others) ≡ digits_up_to (halves byte) ++ digits_of others
goes_on byte others low high =
    digit_first _ _ low ∙ ap (λ xs. (0x30 + byte % 16) ∷ xs) (digit_first _ _ high) ∙ sym (ap (λ xs. xs ++ digits_of others) (digit_first _ _ low ∙ ap (λ xs. (0x30 + byte % 16) ∷ xs) (digit_first _ _ high ∙ ap (λ xs. (0x30 + byte / 16) ∷ xs) nil)))

ends_low : (byte : ℕ) (others : List ℕ) → is_digit_half (byte % 16) ≡ false → digits_of (byte ∷ others) ≡ digits_up_to (halves byte)
ends_low byte others low = filler_first _ _ low ∙ sym (filler_first _ _ low)

ends_high : (byte : ℕ) (others : List ℕ) → is_digit_half (byte % 16) ≡ true → is_digit_half (byte / 16) ≡ false → digits_of (byte ∷ others) ≡ digits_up_to (halves byte)
ends_high byte others low high =
    digit_first _ _ low ∙ ap (λ xs. (0x30 + byte % 16) ∷ xs) (filler_first _ _ high ∙ sym (filler_first _ _ high)) ∙ sym (digit_first _ _ low)

ends : (byte : ℕ) (others : List ℕ) → has_two_digits byte ≡ false → digits_of (byte ∷ others) ≡ digits_up_to (halves byte)
ends byte others is = by_low (is_digit_half (byte % 16)) (is_digit_half (byte / 16)) refl refl is
  where
    by_low : (low high : Bool) → is_digit_half (byte % 16) ≡ low → is_digit_half (byte / 16) ≡ high → low && high ≡ false → digits_of (byte ∷ others) ≡ digits_up_to (halves byte)
    by_low false high l h e = ends_low byte others l
    by_low true false l h e = ends_high byte others l h
    by_low true true l h e = absurd cc

-- what is left at a place is the byte there and what is left after it
left_at : (bytes : List ℕ) (at : ℕ) → at < length bytes → drop at bytes ≡ get_or bytes at 0 ∷ drop (at + 1) bytes
left_at bytes at within = rw (add-one, drop-cons bytes at 0) refl

pub number_ends : (bytes : List ℕ) (at : ℕ) (old new : List ℕ) → at < length bytes → has_two_digits (get_or bytes at 0) ≡ false → new ≡ old ++ digits_up_to (halves (get_or bytes at 0)) → old ++ digits_of (drop at bytes) ≡ digits_of bytes → new ≡ digits_of bytes
number_ends bytes at old new within is after same =
    after ∙ ap (λ xs. old ++ xs) (sym (ap digits_of (left_at bytes at within) ∙ ends _ _ is)) ∙ same

pub number_goes_on : (bytes : List ℕ) (at : ℕ) (old new : List ℕ) → at < length bytes → has_two_digits (get_or bytes at 0) ≡ true → new ≡ old ++ digits_up_to (halves (get_or bytes at 0)) → old ++ digits_of (drop at bytes) ≡ digits_of bytes → new ++ digits_of (drop (at + 1) bytes) ≡ digits_of bytes
number_goes_on bytes at old new within is after same =
    let halves_are = and_parts _ _ is in
    ap (λ xs. xs ++ digits_of (drop (at + 1) bytes)) after ∙ append_assoc old (digits_up_to (halves (get_or bytes at 0))) (digits_of (drop (at + 1) bytes)) ∙ ap (λ xs. old ++ xs) (sym (ap digits_of (left_at bytes at within) ∙ goes_on _ _ halves_are.0 halves_are.1)) ∙ same

pub whole_number : (bytes : List ℕ) (at : ℕ) (old : List ℕ) → length bytes ≤ at → old ++ digits_of (drop at bytes) ≡ digits_of bytes → old ≡ digits_of bytes
whole_number bytes at old over same =
    sym (append-nil old) ∙ ap (λ xs. old ++ xs) (sym (at_drop_all digits_of bytes at over ∙ nil)) ∙ same

digit_is : (half : ℕ) (b : Bool) → is_digit_half half ≡ b → digit_of half ≡ (if b then (0x30 + half) ∷ [] else [])
digit_is half b e = ap (λ v. if v then (0x30 + half) ∷ [] else []) e

length-digit : (half : ℕ) → length (digit_of half) ≤ 1
length-digit half = by_half (is_digit_half half) refl
  where
    by_half : (b : Bool) → is_digit_half half ≡ b → length (digit_of half) ≤ 1
    by_half true e = omega (arith, ap length (digit_is half true e))
    by_half false e = omega (arith, ap length (digit_is half false e))

two_more : (byte : ℕ) → length (digits_up_to (halves byte)) ≤ 2
two_more byte = by_low (is_digit_half (byte % 16)) refl
  where
    by_low : (low : Bool) → is_digit_half (byte % 16) ≡ low → length (digits_up_to (halves byte)) ≤ 2
    by_low false l = omega (arith, ap length (filler_first (byte % 16) (byte / 16 ∷ []) l))
    by_low true l = omega (arith, ap length (pair (byte % 16) (byte / 16) l), length-digit (byte / 16))

pub room_after : (old new : List ℕ) (byte at : ℕ) → new ≡ old ++ digits_up_to (halves byte) → length old ≤ 2 * at → length new ≤ 2 * (at + 1)
room_after old new byte at after room = omega (arith, ap length after, length-append old (digits_up_to (halves byte)), two_more byte)

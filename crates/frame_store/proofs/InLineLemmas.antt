-- Frames that lie one after the other.
use Rattle.std.proofs.Common.{◌≡◌, refl, ap, ap₂, ◌∙◌, ℕ, zero, suc, ◌+◌, ◌*◌, ◌^◌, ◌<◌, List, [], ◌∷◌, ◌++◌, length, take, drop, map, get_or, remove, arith, length-append, append_assoc, append-nil, w64}
use Rattle.std.specs.Int.{to_le_bytes, from_le_bytes}
use Rattle.std.proofs.Math.Seq.{take-append_seam, drop-append_seam}
use Rattle.std.proofs.lemmas.List.Concat.{flat_map-append}
use Rattle.std.proofs.lemmas.List.Sums.{sum_by-cons}
use Rattle.std.proofs.lemmas.Nat.{from_le_bytes-to_le_bytes_8}
use Rattle.frame_store.specs.Model.{bytes_in, length_bytes, length_in, laid, in_line, frames_of}

pub length-length_bytes : (size : ℕ) → length (length_bytes size) ≡ 8
unfolding length_bytes
length-length_bytes size = refl

-- a length is read back as it was written
pub length_in-length_bytes : (size : ℕ) (later : List ℕ) → size < 2 ^ 64 → length_in (length_bytes size ++ later) ≡ size
unfolding length_bytes length_in
length_in-length_bytes size later short =
    ap (λ (bytes : List ℕ). from_le_bytes w64 bytes) (take-append_seam (to_le_bytes w64 size) later) ∙ from_le_bytes-to_le_bytes_8 size short

pub behind_length : (size : ℕ) (later : List ℕ) → drop 8 (length_bytes size ++ later) ≡ later
unfolding length_bytes
behind_length size later = drop-append_seam (to_le_bytes w64 size) later

pub length-laid : (part : List ℕ) → length (laid part) ≡ 8 + length part
unfolding laid
length-laid part = length-append (length_bytes (length part)) part ∙ ap (λ (k : ℕ). k + length part) (length-length_bytes (length part))

pub laid-append : (part later : List ℕ) → laid part ++ later ≡ length_bytes (length part) ++ (part ++ later)
unfolding laid
laid-append part later = append_assoc (length_bytes (length part)) part later

pub in_line-none : in_line [] ≡ []
unfolding in_line
in_line-none = refl

pub in_line-cons : (part : List ℕ) (parts : List (List ℕ)) → in_line (part ∷ parts) ≡ laid part ++ in_line parts
unfolding in_line
in_line-cons part parts = refl

pub in_line-append : (parts others : List (List ℕ)) → in_line (parts ++ others) ≡ in_line parts ++ in_line others
unfolding in_line
in_line-append parts others = flat_map-append laid parts others

pub in_line-one : (part : List ℕ) → in_line (part ∷ []) ≡ laid part
unfolding in_line
in_line-one part = append-nil (laid part)

pub bytes_in-cons : (part : List ℕ) (parts : List (List ℕ)) → bytes_in (part ∷ parts) ≡ length part + bytes_in parts
bytes_in-cons part parts = sum_by-cons (λ k. k) (length part) (map length parts)

-- so many bytes as are in the frames, and eight for each
pub length-in_line : (parts : List (List ℕ)) → length (in_line parts) ≡ length parts * 8 + bytes_in parts
length-in_line [] = ap length in_line-none
length-in_line (part ∷ parts) =
    let rest = length-in_line parts in
    ap length (in_line-cons part parts)
    ∙ omega (arith, length-append (laid part) (in_line parts), length-laid part, rest, bytes_in-cons part parts)

pub none_of : (bytes : List ℕ) → frames_of 0 bytes ≡ []
unfolding frames_of
none_of bytes = refl

pub count_of : (count : ℕ) (bytes : List ℕ) → length (frames_of count bytes) ≡ count
unfolding frames_of
count_of zero bytes = refl
count_of (suc count) bytes = ap suc (count_of count (drop (length_in bytes) (drop 8 bytes)))

first_of : (count : ℕ) (part later : List ℕ) → length part < 2 ^ 64 → frames_of (suc count) (length_bytes (length part) ++ (part ++ later)) ≡ part ∷ frames_of count later
unfolding frames_of
first_of count part later short =
    ap₂ (λ (size : ℕ) (rest : List ℕ). take size rest ∷ frames_of count (drop size rest))
    (length_in-length_bytes (length part) (part ++ later) short) (behind_length (length part) (part ++ later))
    ∙ ap₂ (λ (first : List ℕ) (rest : List ℕ). first ∷ frames_of count rest) (take-append_seam part later) (drop-append_seam part later)

-- frames that lie one after the other are read back, whatever lies after them
pub frames_of-in_line : (parts : List (List ℕ)) (later : List ℕ) → length (in_line parts) < 2 ^ 64 → frames_of (length parts) (in_line parts ++ later) ≡ parts
frames_of-in_line [] later short = none_of (in_line [] ++ later)
frames_of-in_line (part ∷ parts) later short =
    let long = ap length (in_line-cons part parts) ∙ length-append (laid part) (in_line parts) in
    let first = length-laid part in
    ap (λ (bytes : List ℕ). frames_of (suc (length parts)) (bytes ++ later)) (in_line-cons part parts)
    ∙ ap (λ (bytes : List ℕ). frames_of (suc (length parts)) bytes) (append_assoc (laid part) (in_line parts) later ∙ laid-append part (in_line parts ++ later))
    ∙ first_of (length parts) part (in_line parts ++ later) (omega (arith, short, long, first))
    ∙ ap (λ (others : List (List ℕ)). part ∷ others) (frames_of-in_line parts later (omega (arith, short, long)))

-- one frame among the others
pub parted_at : (parts : List (List ℕ)) (at : ℕ) → at < length parts → parts ≡ take at parts ++ (get_or parts at [] ∷ drop (suc at) parts)
parted_at [] at inside = absurd (omega (arith, inside))
parted_at (part ∷ parts) zero inside = refl
parted_at (part ∷ parts) (suc at) inside = ap (λ (others : List (List ℕ)). part ∷ others) (parted_at parts at (omega (arith, inside)))

pub remove_is : (parts : List (List ℕ)) (at : ℕ) → at < length parts → remove parts at ≡ take at parts ++ drop (suc at) parts
remove_is [] at inside = absurd (omega (arith, inside))
remove_is (part ∷ parts) zero inside = refl
remove_is (part ∷ parts) (suc at) inside = ap (λ (others : List (List ℕ)). part ∷ others) (remove_is parts at (omega (arith, inside)))

pub in_line_at : (parts : List (List ℕ)) (at : ℕ) → at < length parts
    → in_line parts ≡ in_line (take at parts) ++ (laid (get_or parts at []) ++ in_line (drop (suc at) parts))
in_line_at parts at inside =
    ap in_line (parted_at parts at inside) ∙ in_line-append (take at parts) (get_or parts at [] ∷ drop (suc at) parts)
    ∙ ap (λ (bytes : List ℕ). in_line (take at parts) ++ bytes) (in_line-cons (get_or parts at []) (drop (suc at) parts))

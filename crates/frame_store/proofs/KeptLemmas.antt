-- What a change of the block makes of the frames in it.
use Rattle.std.proofs.Common.{◌≡◌, refl, sym, ap, ap₂, subst, ◌∙◌, ℕ, zero, suc, ◌+◌, ◌-◌, ◌*◌, ◌^◌, ◌<◌, ◌≤◌, List, [], ◌∷◌, ◌++◌, length, take, drop, get_or, remove, slice_range, arith, length-append, length-drop, append_assoc, take-append-drop, append-nil}
use Rattle.std.proofs.Math.Seq.{take-append_seam, take-append-add, drop-append_seam, drop-append-add, paste}
use Rattle.std.proofs.lemmas.List.{drop-drop, length-take-le, take-take, take_all, take_at, drop-take}
use Rattle.frame_store.specs.Model.{Frames, bytes_in, length_bytes, length_in, laid, in_line, frames_of, AreKept}
use Rattle.frame_store.proofs.InLineLemmas.{length-length_bytes, length_in-length_bytes, behind_length, length-laid, laid-append, in_line-append, in_line-one, length-in_line, bytes_in-cons, count_of, none_of, in_line-none, frames_of-in_line, remove_is, in_line_at}

-- a store as its fields have it
abbrev pub held : ℕ → List ℕ → ℕ → ℕ → Frames
held count block most room = record { parts = frames_of count block; most = most; room = room }

-- these frames, which lie in the used bytes, are those that the store holds
pub kept : (parts : List (List ℕ)) (count used most room : ℕ) (block : List ℕ)
    → in_line parts ≡ take used block → used ≤ length block → length parts ≡ count → count ≤ most → bytes_in parts ≤ room → most * 8 + room ≤ length block
    → length block < 2 ^ 63 → (held count block most room ≡ record { parts = parts; most = most; room = room }) × AreKept (held count block most room) used block
kept parts count used most room block lies inside counted few small roomy short =
    let long : length (in_line parts) ≡ used = ap length lies ∙ length-take-le used block inside in
    let same : frames_of count block ≡ parts =
    ap₂ (λ (n : ℕ) (bytes : List ℕ). frames_of n bytes) (sym counted) (sym (take-append-drop used block) ∙ ap (λ (bytes : List ℕ). bytes ++ drop used block) (sym lies))
    ∙ frames_of-in_line parts (drop used block) (omega (arith, long, inside, short)) in (
      ap (λ (ps : List (List ℕ)). record { parts = ps; most = most; room = room }) same,
      record {
        in_place = ap in_line same ∙ lies;
        inside = inside;
        few = omega (arith, count_of count block, few);
        small = subst (λ (ps : List (List ℕ)). bytes_in ps ≤ room) (sym same) small;
        roomy = roomy;
      },
    )

pub none_kept : (most room : ℕ) (block : List ℕ) → most * 8 + room ≤ length block → AreKept (held 0 block most room) 0 block
none_kept most room block roomy =
    record {
      in_place = ap in_line (none_of block) ∙ in_line-none;
      inside = omega arith;
      few = omega (arith, count_of 0 block);
      small = subst (λ (ps : List (List ℕ)). bytes_in ps ≤ room) (sym (none_of block)) (omega arith);
      roomy = roomy;
    }

-- the used bytes are those of the frames and eight for each
pub used_is : (frames : Frames) (used : ℕ) (block : List ℕ) → AreKept frames used block → used ≡ length frames.parts * 8 + bytes_in frames.parts
used_is frames used block kept = sym (length-take-le used block kept.inside) ∙ ap length (sym kept.in_place) ∙ length-in_line frames.parts

-- a frame lies in the used bytes
pub fits_at : (frames : Frames) (used : ℕ) (block : List ℕ) → AreKept frames used block → (at : ℕ) → at < length frames.parts
    → (length (in_line (take at frames.parts)) + length (laid (get_or frames.parts at [])) ≤ used) × (length (laid (get_or frames.parts at [])) ≡ 8 + length (get_or frames.parts at []))
    × (used ≤ length block)
fits_at frames used block kept at inside =
    let before = in_line (take at frames.parts) in let part = laid (get_or frames.parts at []) in let after = in_line (drop (suc at) frames.parts) in (
      omega (arith, ap length kept.in_place, length-take-le used block kept.inside, ap length (in_line_at frames.parts at inside), length-append before (part ++ after), length-append part after),
      length-laid (get_or frames.parts at []),
      kept.inside,
    )

-- bytes were written after the first of a list
pub begins : (block bytes next : List ℕ) (at : ℕ) → next ≡ take at block ++ (bytes ++ drop (at + length bytes) block) → at ≤ length block
    → take (at + length bytes) next ≡ take at block ++ bytes
begins block bytes next at written inside =
    let first = take at block in let later = drop (at + length bytes) block in
    let long : at + length bytes ≡ length first + length bytes = ap (λ (k : ℕ). k + length bytes) (sym (length-take-le at block inside)) in
    ap₂ (λ (k : ℕ) (bs : List ℕ). take k bs) long written ∙ take-append-add first (bytes ++ later) (length bytes)
    ∙ ap (λ (bs : List ℕ). first ++ bs) (take-append_seam bytes later)

-- one more frame was written after the others: its length, and then its bytes
pub pushed : (parts : List (List ℕ)) (part block first next size : List ℕ) (used : ℕ)
    → in_line parts ≡ take used block → used + 8 + length part ≤ length block → size ≡ length_bytes (length part)
    → first ≡ take used block ++ (size ++ drop (used + length size) block)
    → next ≡ take (used + 8) first ++ (part ++ drop (used + 8 + length part) first) → length first ≡ length block
    → in_line (parts ++ part ∷ []) ≡ take (used + 8 + length part) next
pushed parts part block first next size used lies inside spelled wrote wrote_part long =
    let eight : length size ≡ 8 = ap length spelled ∙ length-length_bytes (length part) in
    let then : take (used + 8) first ≡ take used block ++ size =
    ap (λ (k : ℕ). take (used + k) first) (sym eight) ∙ begins block size first used wrote (omega (arith, inside)) in
    sym (begins first part next (used + 8) wrote_part (omega (arith, inside, long))
    ∙ ap (λ (bs : List ℕ). bs ++ part) (then ∙ ap₂ (λ (xs ys : List ℕ). xs ++ ys) (sym lies) spelled)
    ∙ append_assoc (in_line parts) (length_bytes (length part)) part
    ∙ sym (in_line-append parts (part ∷ []) ∙ ap (λ (bs : List ℕ). in_line parts ++ bs) (in_line-one part ∙ laid_is part)))
  where
    laid_is : (p : List ℕ) → laid p ≡ length_bytes (length p) ++ p
    laid_is p = sym (append-nil (laid p)) ∙ laid-append p [] ∙ ap (λ (bs : List ℕ). length_bytes (length p) ++ bs) (append-nil p)

-- where a frame lies in the block
pub from_frame : (parts : List (List ℕ)) (at used : ℕ) (block : List ℕ) → in_line parts ≡ take used block → at < length parts
    → drop (length (in_line (take at parts))) block ≡ laid (get_or parts at []) ++ (in_line (drop (suc at) parts) ++ drop used block)
from_frame parts at used block lies inside =
    let before = in_line (take at parts) in let part = get_or parts at [] in let after = in_line (drop (suc at) parts) in
    ap (λ (bs : List ℕ). drop (length before) bs)
    (sym (take-append-drop used block) ∙ ap (λ (bs : List ℕ). bs ++ drop used block) (sym lies ∙ in_line_at parts at inside)
    ∙ append_assoc before (laid part ++ after) (drop used block))
    ∙ drop-append_seam before ((laid part ++ after) ++ drop used block)
    ∙ append_assoc (laid part) after (drop used block)

-- where a frame begins and ends
pub within : (parts : List (List ℕ)) (at : ℕ) → at < length parts
    → length (in_line (take at parts)) + length (laid (get_or parts at [])) ≤ length (in_line parts)
within parts at inside =
    let before = in_line (take at parts) in let part = laid (get_or parts at []) in let after = in_line (drop (suc at) parts) in
    omega (arith, ap length (in_line_at parts at inside), length-append before (part ++ after), length-append part after)

pub next_place : (parts : List (List ℕ)) (at : ℕ) → at < length parts
    → length (in_line (take (at + 1) parts)) ≡ length (in_line (take at parts)) + length (laid (get_or parts at []))
next_place parts at inside =
    ap (λ (ps : List (List ℕ)). length (in_line ps)) (take-at parts at inside)
    ∙ ap length (in_line-append (take at parts) (get_or parts at [] ∷ []) ∙ ap (λ (bs : List ℕ). in_line (take at parts) ++ bs) (in_line-one (get_or parts at [])))
    ∙ length-append (in_line (take at parts)) (laid (get_or parts at []))
  where
    take-at : (ps : List (List ℕ)) (i : ℕ) → i < length ps → take (i + 1) ps ≡ take i ps ++ get_or ps i [] ∷ []
    take-at [] i low = absurd (omega (arith, low))
    take-at (p ∷ ps) zero low = refl
    take-at (p ∷ ps) (suc i) low =
        let more : suc i + 1 ≡ suc (i + 1) = omega arith in
        ap (λ (k : ℕ). take k (p ∷ ps)) more ∙ ap (λ (others : List (List ℕ)). p ∷ others) (take-at ps i (omega (arith, low)))

-- the length that is read where a frame begins
pub length_read : (parts : List (List ℕ)) (at used : ℕ) (block : List ℕ) → in_line parts ≡ take used block → used ≤ length block → length block < 2 ^ 63 → at < length parts
    → 8 + length_in (drop (length (in_line (take at parts))) block) ≡ length (laid (get_or parts at []))
length_read parts at used block lies fits short inside =
    let part = get_or parts at [] in let later = in_line (drop (suc at) parts) ++ drop used block in
    let small : length part < 2 ^ 64 = omega (arith, within parts at inside, length-laid part, ap length lies, length-take-le used block fits, fits, short) in
    ap (λ (bs : List ℕ). 8 + length_in bs) (from_frame parts at used block lies inside ∙ laid-append part later)
    ∙ ap (λ (n : ℕ). 8 + n) (length_in-length_bytes (length part) (part ++ later) small) ∙ sym (length-laid part)

-- the bytes that are read after the length
pub got : (parts : List (List ℕ)) (at used start end : ℕ) (block : List ℕ) → in_line parts ≡ take used block → at < length parts
    → start ≡ length (in_line (take at parts)) → end ≡ start + length (laid (get_or parts at []))
    → take (end - (start + 8)) (drop (start + 8) block) ≡ get_or parts at []
got parts at used start end block lies inside starts ends =
    let part = get_or parts at [] in let later = in_line (drop (suc at) parts) ++ drop used block in
    let long : end - (start + 8) ≡ length part = omega (arith, ends, length-laid part) in
    ap₂ (λ (k : ℕ) (bs : List ℕ). take k bs) long
    (sym (drop-behind 8 start block) ∙ ap (λ (k : ℕ). drop 8 (drop k block)) starts
    ∙ ap (λ (bs : List ℕ). drop 8 bs) (from_frame parts at used block lies inside ∙ laid-append part later) ∙ behind_length (length part) (part ++ later))
    ∙ take-append_seam part later
  where
    drop-behind : (n m : ℕ) (xs : List ℕ) → drop n (drop m xs) ≡ drop (m + n) xs
    drop-behind n m xs = drop-drop n m xs

-- bytes that were moved to the front, and what lies after them still
moved_down : (later : List ℕ) (n : ℕ) → paste later 0 (drop n later) (length later - n) ≡ drop n later ++ drop (length later - n) later
moved_down later n =
    let k = length later - n in
    let none : 0 + k ≡ k = omega arith in
    ap₂ (λ (xs : List ℕ) (j : ℕ). xs ++ drop j later) (take_all k (drop n later) (omega (arith, length-drop n later))) none

-- bytes were written over those from a place on, and the list is as long as before
placed : (block part : List ℕ) (len start : ℕ) → len ≡ length block → start + length part ≤ length block
    → (let next = take start block ++ (part ++ drop (length part) (drop start block)) in take len (next ++ drop (length next) block) ≡ next)
placed block part len start all fits =
    let next = take start block ++ (part ++ drop (length part) (drop start block)) in let later = drop (length part) (drop start block) in
    let long : len ≡ length next = omega (arith, all, length-append (take start block) (part ++ later), length-take-le start block (omega (arith, fits)), length-append part later, length-drop (length part) (drop start block), length-drop start block) in
    ap (λ (k : ℕ). take k (next ++ drop (length next) block)) long ∙ take-append_seam next (drop (length next) block)

-- the used bytes after a gap were moved down over it
pub closed_up : (block later moved : List ℕ) (len start end used : ℕ) → len ≡ length block → start ≤ end → end ≤ used → used ≤ length block
    → later ≡ slice_range block start used → moved ≡ paste later 0 (drop (end - start) later) (length later - (end - start)) → length moved ≡ length later
    → (let next = take start block ++ (moved ++ drop (length moved) (drop start block)) in
    take (used - (end - start)) (take len (next ++ drop (length next) block)) ≡ take start block ++ slice_range block end used)
closed_up block later moved len start end used all low high fits is_later is_moved as_long =
    let n = end - start in
    let behind = drop (length later - n) later in
    let past = drop (length moved) (drop start block) in
    let first = take start block in
    let taken : length later ≡ used - start = ap length is_later ∙ length-take-le (used - start) (drop start block) (omega (arith, length-drop start block)) in
    let kept_long : length (drop n later) ≡ used - end = omega (arith, length-drop n later, taken, low, high) in
    let long : used - n ≡ length first + length (drop n later) = omega (arith, length-take-le start block (omega (arith, low, high, fits)), kept_long) in
    let rest : used - start ≡ n + (used - end) = omega (arith, low, high) in
    let back : start + n ≡ end = omega (arith, low) in
    let tail : drop n later ≡ slice_range block end used =
    ap (λ (bs : List ℕ). drop n bs) (is_later ∙ ap (λ (k : ℕ). take k (drop start block)) rest) ∙ drop-take n (used - end) (drop start block)
    ∙ ap (λ (bs : List ℕ). take (used - end) bs) (drop-drop n start block ∙ ap (λ (k : ℕ). drop k block) back) in
    ap₂ (λ (k : ℕ) (bs : List ℕ). take k bs) long
    (placed block moved len start all (omega (arith, as_long, taken, low, high, fits)) ∙ ap (λ (bs : List ℕ). first ++ (bs ++ past)) (is_moved ∙ moved_down later n))
    ∙ take-append-add first ((drop n later ++ behind) ++ past) (length (drop n later))
    ∙ ap (λ (bs : List ℕ). first ++ bs)
    (ap (λ (bs : List ℕ). take (length (drop n later)) bs) (append_assoc (drop n later) behind past) ∙ take-append_seam (drop n later) (behind ++ past) ∙ tail)

-- without the frame whose place was closed up
pub removed : (parts : List (List ℕ)) (at used start end : ℕ) (block next : List ℕ) → in_line parts ≡ take used block → at < length parts
    → start ≡ length (in_line (take at parts)) → end ≡ start + length (laid (get_or parts at [])) → end ≤ used → used ≤ length block
    → take (used - (end - start)) next ≡ take start block ++ slice_range block end used
    → in_line (remove parts at) ≡ take (used - (end - start)) next
removed parts at used start end block next lies inside starts ends high fits closed =
    let before = in_line (take at parts) in let part = laid (get_or parts at []) in let after = in_line (drop (suc at) parts) in
    let all : take used block ≡ before ++ (part ++ after) = sym lies ∙ in_line_at parts at inside in
    let rest : used ≡ end + (used - end) = omega (arith, high) in
    let first : take start block ≡ before =
    sym (take-take start used block (omega (arith, ends, high))) ∙ ap₂ (λ (k : ℕ) (bs : List ℕ). take k bs) starts all ∙ take-append_seam before (part ++ after) in
    let last : slice_range block end used ≡ after =
    sym (drop-take end (used - end) block) ∙ ap (λ (k : ℕ). drop end (take k block)) (sym rest)
    ∙ ap₂ (λ (k : ℕ) (bs : List ℕ). drop k bs) (ends ∙ ap (λ (k : ℕ). k + length part) starts) all
    ∙ drop-append-add before (part ++ after) (length part) ∙ drop-append_seam part after in
    ap in_line (remove_is parts at inside) ∙ in_line-append (take at parts) (drop (suc at) parts)
    ∙ ap₂ (λ (xs ys : List ℕ). xs ++ ys) (sym first) (sym last) ∙ sym closed

-- how many bytes are left of the frames without one
pub bytes_in_removed : (parts : List (List ℕ)) (at : ℕ) → at < length parts → bytes_in (remove parts at) ≤ bytes_in parts
bytes_in_removed [] at inside = absurd (omega (arith, inside))
bytes_in_removed (part ∷ parts) zero inside = omega (arith, bytes_in-cons part parts)
bytes_in_removed (part ∷ parts) (suc at) inside =
    let rest = bytes_in_removed parts at (omega (arith, inside)) in
    omega (arith, bytes_in-cons part parts, bytes_in-cons part (remove parts at), rest)

pub bytes_in_pushed : (parts : List (List ℕ)) (part : List ℕ) → bytes_in (parts ++ part ∷ []) ≡ bytes_in parts + length part
bytes_in_pushed [] part = omega (arith, bytes_in-cons part [])
bytes_in_pushed (first ∷ parts) part =
    let rest = bytes_in_pushed parts part in
    omega (arith, bytes_in-cons first parts, bytes_in-cons first (parts ++ part ∷ []), rest)

pub length_removed : (parts : List (List ℕ)) (at : ℕ) → at < length parts → length (remove parts at) ≡ length parts - 1
length_removed [] at inside = absurd (omega (arith, inside))
length_removed (part ∷ parts) zero inside = omega arith
length_removed (part ∷ parts) (suc at) inside =
    let rest = length_removed parts at (omega (arith, inside)) in omega (arith, rest, inside)

pub length_pushed : (parts : List (List ℕ)) (part : List ℕ) → length (parts ++ part ∷ []) ≡ length parts + 1
length_pushed parts part = length-append parts (part ∷ [])

-- what stands in a block after bytes were written over those from a place on
pub overwritten : (items bytes new : List ℕ) (at len : ℕ) → len ≡ length items → at + length bytes ≤ len → new ≡ bytes
    → take len (take at items ++ (new ++ drop (length new) (drop at items)) ++ drop (length (take at items ++ (new ++ drop (length new) (drop at items)))) items)
    ≡ take at items ++ (bytes ++ drop (at + length bytes) items)
overwritten items bytes new at len whole inside same =
    let front = take at items in
    let back = drop (length new) (drop at items) in
    let size = ap (λ (xs : List ℕ). length xs) same in
    let front_size = length-take-le at items (omega (arith, whole, inside)) in
    let back_size : length back ≡ length items - at - length new = length-drop (length new) (drop at items) ∙ ap (λ (n : ℕ). n - length new) (length-drop at items) in
    let all : length (front ++ (new ++ back)) ≡ len =
    omega (arith, length-append front (new ++ back), length-append new back, front_size, back_size, size, whole, inside) in
    take_at (front ++ (new ++ back)) (drop (length (front ++ (new ++ back))) items) len all
    ∙ ap (λ (xs : List ℕ). front ++ (xs ++ drop (length xs) (drop at items))) same
    ∙ ap (λ (rest : List ℕ). front ++ (bytes ++ rest)) (drop-drop (length bytes) at items)

pub overwritten_length : (items bytes : List ℕ) (at : ℕ) → at + length bytes ≤ length items
    → length (take at items ++ (bytes ++ drop (at + length bytes) items)) ≡ length items
overwritten_length items bytes at inside =
    let rest = drop (at + length bytes) items in
    omega (arith, length-append (take at items) (bytes ++ rest), length-append bytes rest, length-take-le at items (omega (arith, inside)), length-drop (at + length bytes) items)

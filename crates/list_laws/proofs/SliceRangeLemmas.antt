-- Ranges of numbers, and of the elements of a list of numbers.
use Rattle.std.proofs.Common.{get_or, ◌≡◌, ℕ, ◌+◌, ◌<◌, ◌≤◌, List, length, drop, sym, ◌∙◌, ap, ⊎_elim, arith, ◌*◌, ◌-◌, ◌++◌, slice_range}
use Rattle.std.proofs.lemmas.Bool.{cases_lt}
use Rattle.std.proofs.lemmas.List.{length-append, length-take, length-drop, get_or-take, get_or-drop, get_or_append_left, get_or-append_right}
use Rattle.std.proofs.lemmas.Grind.{same_number_lists}

-- things of one width, one after the other: an earlier one ends before a later one begins
pub one_behind : (width a b : ℕ) → a < b → a * width + width ≤ b * width
one_behind width a b less = grind arith

-- some things of some width take some room
pub some_product : (a b : ℕ) → 1 ≤ a → 1 ≤ b → 1 ≤ a * b
some_product a b some other = grind arith

-- a range inside a list has as many elements as it says
pub length-range : (list : List ℕ) (at count : ℕ) → at + count ≤ length list → length (slice_range list at (at + count)) ≡ count
length-range list at count inside = omega (arith, length-take (at + count - at) (drop at list), length-drop at list)

pub length-between : (list : List ℕ) (from to : ℕ) → from ≤ to → to ≤ length list → length (slice_range list from to) ≡ to - from
length-between list from to order inside = omega (arith, length-take (to - from) (drop from list), length-drop from list)

-- an element of a range
pub get_or-range : (list : List ℕ) (at count k : ℕ) → k < count → get_or (slice_range list at (at + count)) k 0 ≡ get_or list (at + k) 0
get_or-range list at count k low = get_or-take (at + count - at) (drop at list) k 0 (omega arith) ∙ get_or-drop at list k 0

-- a range, and the one after it
pub next_range : (list : List ℕ) (at done count : ℕ) → at + (done + count) ≤ length list
    → slice_range list at (at + done) ++ slice_range list (at + done) (at + done + count) ≡ slice_range list at (at + (done + count))
next_range list at done count fits =
    let first = length-range list at done (omega arith) in
    let second = length-range list (at + done) count (omega arith) in
    let whole = length-range list at (done + count) fits in
    let both = length-append (slice_range list at (at + done)) (slice_range list (at + done) (at + done + count)) in
    same_number_lists _ _ (omega arith) (λ k low. ⊎_elim {C = get_or (slice_range list at (at + done) ++ slice_range list (at + done) (at + done + count)) k 0 ≡ get_or (slice_range list at (at + (done + count))) k 0}
    (λ before. get_or_append_left (slice_range list at (at + done)) (slice_range list (at + done) (at + done + count)) 0 k (omega arith) ∙ get_or-range list at done k before ∙ sym (get_or-range list at (done + count) k (omega arith)))
    (λ behind. get_or-append_right (slice_range list at (at + done)) (slice_range list (at + done) (at + done + count)) done k 0 first behind ∙ get_or-range list (at + done) count (k - done) (omega arith)
    ∙ ap (λ n. get_or list n 0) (let on : at + done + (k - done) ≡ at + k = omega arith in on) ∙ sym (get_or-range list at (done + count) k (omega arith))) (cases_lt k done))

-- Records that lie one after the other, and a ring of records with its head.
use Rattle.std.proofs.Common.{◌≡◌, ◌⊎◌, ℕ, ◌+◌, ◌-◌, ◌%◌, ◌<◌, List, [], ◌∷◌, ◌++◌, length, take, drop, set, sym, ◌∙◌, ap, inl, inr, ⊎_elim, arith, length-append}
use Rattle.std.proofs.lemmas.Bool.{cases_lt}
use Rattle.std.proofs.lemmas.List.{length-take, length-drop, take-take, drop-set, take-set, drop_all, append-nil}
use Rattle.std.proofs.Math.Seq.{take-append-add}
use Rattle.std.proofs.Math.Nat.{add-mod_left, mod-eq_of_lt}
use Rattle.card_state.specs.States.{from_head}
use Rattle.layout_laws.specs.ChangeLaws.{oldest}

-- the record before the head, or the last where the head is the first, becomes record 1; the others move up by one
ring_written : (count head new : ℕ) (records : List (List ℕ)) (added : List ℕ) → head < count → length records ≡ count → ((head ≡ 0) × (new + 1 ≡ count)) ⊎ (new + 1 ≡ head)
    → from_head new (set records new added) ≡ added ∷ take (count - 1) (from_head head records)
ring_written count head new records added low long where_to =
    let inside : new < length records = ⊎_elim {C = new < length records} (λ last. omega (arith, last.1)) (λ before. omega arith) where_to in
    let front : drop new (set records new added) ≡ added ∷ drop (new + 1) records = drop-set records new added inside in
    let back : take new (set records new added) ≡ take new records = take-set records new added in
    ap (λ (l : List (List ℕ)). l ++ take new (set records new added)) front ∙ ap (λ (l : List (List ℕ)). added ∷ (drop (new + 1) records ++ l)) back
    ∙ ap (λ (l : List (List ℕ)). added ∷ l)
    (⊎_elim {C = drop (new + 1) records ++ take new records ≡ take (count - 1) (from_head head records)}
    (λ last.
    let all : drop (new + 1) records ≡ [] = drop_all (new + 1) records (omega (arith, last.1)) in
    ap (λ (l : List (List ℕ)). l ++ take new records) all ∙ ap (λ (n : ℕ). take n records) (omega (arith, last.1)) ∙ ap (λ (l : List (List ℕ)). take (count - 1) l) (sym (append-nil records))
    ∙ ap (λ (n : ℕ). take (count - 1) (drop n records ++ take n records)) (sym last.0))
    (λ before.
    let rest : length (drop head records) ≡ count - head = omega (arith, length-drop head records) in
    ap (λ (n : ℕ). drop n records ++ take new records) before
    ∙ sym (ap (λ (n : ℕ). take n (from_head head records)) (omega (arith, rest)) ∙ take-append-add (drop head records) (take head records) new
    ∙ ap (λ (l : List (List ℕ)). drop head records ++ l) (take-take new head records (omega arith))))
    where_to)

-- the oldest record is the one before the head, or the last where the head is the first
oldest_where : (head count : ℕ) → head < count → ((head ≡ 0) × (oldest head count + 1 ≡ count)) ⊎ (oldest head count + 1 ≡ head)
oldest_where head count low =
    ⊎_elim {C = ((head ≡ 0) × (oldest head count + 1 ≡ count)) ⊎ (oldest head count + 1 ≡ head)}
    (λ first.
    let small : head + count - 1 < count = omega arith in
    let is : oldest head count ≡ head + count - 1 = mod-eq_of_lt small in
    inl (omega arith, omega arith))
    (λ later.
    let sum : head + count - 1 ≡ count + (head - 1) = omega arith in
    let is : oldest head count ≡ head - 1 = ap (λ (n : ℕ). n % count) sum ∙ add-mod_left count (head - 1) ∙ mod-eq_of_lt (omega arith) in
    inr (omega arith))
    (cases_lt head 1)

pub oldest_low : (head count : ℕ) → head < count → oldest head count < count
oldest_low head count low = ⊎_elim {C = oldest head count < count} (λ last. omega (arith, last.1)) (λ before. omega arith) (oldest_where head count low)

pub length-from_head : (head : ℕ) (records : List (List ℕ)) → length (from_head head records) ≡ length records
length-from_head head records = omega (arith, length-append (drop head records) (take head records), length-drop head records, length-take head records)

pub newest_written : (count head : ℕ) (records : List (List ℕ)) (added : List ℕ) → head < count → length records ≡ count
    → from_head (oldest head count) (set records (oldest head count) added) ≡ added ∷ take (count - 1) (from_head head records)
newest_written count head records added low long = ring_written count head (oldest head count) records added low long (oldest_where head count low)

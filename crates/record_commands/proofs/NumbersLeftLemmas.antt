-- The records that are left of a search, one after the other, and those of them that are read together.
use Rattle.std.proofs.Common.{length, take_all, zero-mul, ◌≢◌, inl, inr, mul-le-mul_right, ◌≡◌, ℕ, zero, suc, ◌+◌, ◌-◌, ◌*◌, ◌<◌, ◌≤◌, Bool, true, false, cond, List, [], ◌∷◌, ◌++◌, reverse, refl, sym, ap, ◌∙◌, arith, append_assoc, ◌==◌, filter, take, drop, slice_index_or, All}
use Rattle.std.specs.List.{range_with_len}
use Rattle.std.proofs.lemmas.List.{reverse-append, append-nil}
use Rattle.std.proofs.lemmas.List.Elements.{All-append, All-cons, All-nil, filter-append}
use Rattle.std.proofs.lemmas.Bool.{cases_lt}
use Rattle.apdu_form.specs.Model.{Apdu}
use Rattle.card_state.specs.Kinds.{linear_kind}
use Rattle.card_state.specs.Persistent.{Persistent}
use Rattle.file_model.specs.declared.descriptors.Descriptor.{Descriptor}
use Rattle.file_model.specs.Holdings.{records_in}
use Rattle.file_model.specs.Records.{mode_bits, forward_mode, has_within, numbers_matched}
use Rattle.file_tree.specs.Tables.{IsNumbered}
use Rattle.card_commits.specs.Reading.{StandInARow}
use Rattle.record_commands.specs.Searching.{number_left, numbers_left, first_left, left_from, is_match, AreRecords, IsRecord}

longer_range : (a n : ℕ) → range_with_len a (suc n) ≡ range_with_len a n ++ (a + n) ∷ []
longer_range a zero = ap (λ (k : ℕ). k ∷ []) (omega arith)
longer_range a (suc n) = ap (λ (l : List ℕ). a ∷ l) (longer_range (a + 1) n ∙ ap (λ (k : ℕ). range_with_len (a + 1) n ++ k ∷ []) (omega arith))

parted_range : (a n m : ℕ) → range_with_len a (n + m) ≡ range_with_len a n ++ range_with_len (a + n) m
parted_range a zero m =
    let none : 0 + m ≡ m = omega arith in
    let here : a ≡ a + 0 = omega arith in
    ap (λ (k : ℕ). range_with_len a k) none ∙ ap (λ (k : ℕ). range_with_len k m) here
parted_range a (suc n) m =
    let more : suc n + m ≡ suc (n + m) = omega arith in
    let after : a + 1 + n ≡ a + suc n = omega arith in
    ap (λ (k : ℕ). range_with_len a k) more ∙ ap (λ (l : List ℕ). a ∷ l) (parted_range (a + 1) n m ∙ ap (λ (k : ℕ). range_with_len (a + 1) n ++ range_with_len k m) after)

pub next_left : (forward : Bool) (first count left : ℕ) → suc left ≤ count → numbers_left forward first count (suc left) ≡ number_left forward first count (suc left) ∷ numbers_left forward first count left
next_left true first count left low = ap (λ (k : ℕ). (first + (count - suc left)) ∷ range_with_len k left) (omega (arith, low))
next_left false first count left low =
    ap (λ (l : List ℕ). reverse l) (longer_range first left) ∙ reverse-append (range_with_len first left) ((first + left) ∷ []) ∙ ap (λ (k : ℕ). k ∷ reverse (range_with_len first left)) (omega arith)

pub all_left : (forward : Bool) (count from : ℕ) → 1 ≤ from → from ≤ count → numbers_left forward 1 count (left_from forward count from) ≡ cond forward (range_with_len from (count + 1 - from)) (reverse (range_with_len 1 from))
all_left true count from low high = ap (λ (k : ℕ). range_with_len k (count + 1 - from)) (omega (arith, low, high))
all_left false count from low high = refl

-- those that are left are the next ones that are read together, and the others
pub parted_left : (forward : Bool) (count left size : ℕ) → left ≤ count → size ≤ left
    → numbers_left forward 1 count left ≡ numbers_left forward (first_left forward count left size) size size ++ numbers_left forward 1 count (left - size)
parted_left true count left size few fits =
    let from : ℕ = 1 + (count - left) in
    ap (λ (n : ℕ). range_with_len from n) (let whole : left ≡ size + (left - size) = omega (arith, fits) in whole)
    ∙ parted_range from size (left - size)
    ∙ ap (λ (n : ℕ). range_with_len n size ++ range_with_len (from + size) (left - size)) (let same : from ≡ from + (size - size) = omega arith in same)
    ∙ ap (λ (n : ℕ). range_with_len (from + (size - size)) size ++ range_with_len n (left - size)) (let next : from + size ≡ 1 + (count - (left - size)) = omega (arith, few, fits) in next)
parted_left false count left size few fits =
    ap (λ (n : ℕ). reverse (range_with_len 1 n)) (let whole : left ≡ left - size + size = omega (arith, fits) in whole)
    ∙ ap (λ (l : List ℕ). reverse l) (parted_range 1 (left - size) size)
    ∙ reverse-append (range_with_len 1 (left - size)) (range_with_len (1 + (left - size)) size)

module _ (p : ℕ → Bool) (found : List ℕ) where
  taken : (b : Bool) (number : ℕ) (rest : List ℕ) → (found ++ cond b (number ∷ []) []) ++ filter p rest ≡ found ++ cond b (number ∷ filter p rest) (filter p rest)
  taken true number rest = append_assoc found (number ∷ []) (filter p rest)
  taken false number rest = append_assoc found [] (filter p rest)

  looked_at : (forward : Bool) (first count left : ℕ) → suc left ≤ count
      → (found ++ cond (p (number_left forward first count (suc left))) (number_left forward first count (suc left) ∷ []) []) ++ filter p (numbers_left forward first count left) ≡ found ++ filter p (numbers_left forward first count (suc left))
  looked_at forward first count left low =
      taken (p (number_left forward first count (suc left))) (number_left forward first count (suc left)) (numbers_left forward first count left)
      ∙ ap (λ (l : List ℕ). found ++ filter p l) (sym (next_left forward first count left low))

  -- one more was looked at
  pub one_looked_at : (forward : Bool) (first count left : ℕ) → 1 ≤ left → left ≤ count
      → (found ++ cond (p (number_left forward first count left)) (number_left forward first count left ∷ []) []) ++ filter p (numbers_left forward first count (left - 1)) ≡ found ++ filter p (numbers_left forward first count left)
  one_looked_at forward first count zero some low = absurd (omega (arith, some))
  one_looked_at forward first count (suc left) some low =
      ap (λ (k : ℕ). (found ++ cond (p (number_left forward first count (suc left))) (number_left forward first count (suc left) ∷ []) []) ++ filter p (numbers_left forward first count k)) (omega arith) ∙ looked_at forward first count left low

  -- those that are read together were looked at
  pub some_looked_at : (forward : Bool) (count left size : ℕ) → left ≤ count → size ≤ left
      → (found ++ filter p (numbers_left forward (first_left forward count left size) size size)) ++ filter p (numbers_left forward 1 count (left - size)) ≡ found ++ filter p (numbers_left forward 1 count left)
  some_looked_at forward count left size few fits =
      append_assoc found _ _
      ∙ ap (λ (l : List ℕ). found ++ l) (sym (filter-append p (numbers_left forward (first_left forward count left size) size size) (numbers_left forward 1 count (left - size))))
      ∙ ap (λ (l : List ℕ). found ++ filter p l) (sym (parted_left forward count left size few fits))

  -- and none is left
  pub none_left : (forward : Bool) (first count left : ℕ) → left ≤ 0 → found ++ filter p (numbers_left forward first count left) ≡ found
  none_left true first count zero low = append-nil found
  none_left false first count zero low = append-nil found
  none_left forward first count (suc left) low = absurd (omega (arith, low))

-- ---- records that are read together

module _ (p : ℕ → Bool) (first count : ℕ) (none : (k : ℕ) → k < count → p (first + k) ≡ false) where
  next_fails : (forward : Bool) (left : ℕ) → suc left ≤ count → p (number_left forward first count (suc left)) ≡ false
  next_fails true left low = none (count - suc left) (omega (arith, low))
  next_fails false left low = none (suc left - 1) (omega (arith, low))

  none_passes : (forward : Bool) (left : ℕ) → left ≤ count → filter p (numbers_left forward first count left) ≡ []
  none_passes true zero low = refl
  none_passes false zero low = refl
  none_passes forward (suc left) low =
      let number : ℕ = number_left forward first count (suc left) in
      let rest : List ℕ = filter p (numbers_left forward first count left) in
      ap (filter p) (next_left forward first count left low)
      ∙ ap (λ (b : Bool). cond b (number ∷ rest) rest) (next_fails forward left low)
      ∙ none_passes forward left (omega (arith, low))

  -- where none of them passes, none is found
  pub none_found : (forward : Bool) (found : List ℕ) → found ≡ found ++ filter p (numbers_left forward first count count)
  none_found forward found = sym (append-nil found) ∙ ap (λ (l : List ℕ). found ++ l) (sym (none_passes forward count (omega arith)))

-- the bytes at its place say whether a record matches
pub matches_there : (state : Persistent) (file : Descriptor) (wanted held : List ℕ) (first count number : ℕ) → AreRecords state file first count held → first ≤ number → number < first + count
    → has_within wanted (take file.width (drop ((number - first) * file.width) held)) ≡ is_match state file wanted number
unfolding is_match
matches_there state file wanted held first count number are from to =
    ap (has_within wanted) (are (number - first) (omega (arith, from, to)))
    ∙ ap (λ (n : ℕ). has_within wanted (slice_index_or (records_in state file.number) n [])) (let same : first + (number - first) - 1 ≡ number - 1 = omega (arith, from) in same)

-- so none does where the bytes aren't there
pub none_there : (state : Persistent) (file : Descriptor) (wanted held : List ℕ) (first count : ℕ) → AreRecords state file first count held
    → ((at width : ℕ) → has_within wanted (take width (drop at held)) ≡ false) → (k : ℕ) → k < count → is_match state file wanted (first + k) ≡ false
none_there state file wanted held first count are nowhere k low =
    sym (matches_there state file wanted held first count (first + k) are (omega arith) (omega (arith, low))) ∙ nowhere ((first + k - first) * file.width) file.width

-- one that is read alone
pub one_read : (state : Persistent) (file : Descriptor) (first count : ℕ) (held : List ℕ) → count ≡ 1 → length held ≡ file.width → held ≡ slice_index_or (records_in state file.number) (first - 1) []
    → AreRecords state file first count held
one_read state file first count held one long is k low =
    let none : k ≡ 0 = omega (arith, one, low) in
    ap (λ (n : ℕ). take file.width (drop n held)) (let start : k * file.width ≡ 0 = ap (λ (n : ℕ). n * file.width) none ∙ zero-mul file.width in start)
    ∙ take_all file.width held (omega (arith, long))
    ∙ is
    ∙ ap (λ (n : ℕ). slice_index_or (records_in state file.number) n []) (let same : first - 1 ≡ first + k - 1 = omega (arith, none) in same)

-- several that stand one after the other
pub several_read : (state : Persistent) (files : List Descriptor) (file : Descriptor) (first count : ℕ) (held : List ℕ) → IsNumbered files file → 1 ≤ first → length held ≡ count * file.width
    → StandInARow state files file.number (first - 1) held → AreRecords state file first count held
several_read state files file first count held numbered some long stand k low =
    let inside : (k + 1) * file.width ≤ count * file.width = mul-le-mul_right file.width (omega (arith, low)) in
    let split : (k + 1) * file.width ≡ k * file.width + file.width = grind arith in
    stand file numbered k (omega (arith, inside, split, long))
    ∙ ap (λ (n : ℕ). slice_index_or (records_in state file.number) n []) (let same : first - 1 + k ≡ first + k - 1 = omega (arith, some) in same)

-- of a file that isn't linear fixed one is read alone
pub alone : (count kind : ℕ) → 1 ≤ count → (1 < count → kind ≡ linear_kind) → kind ≢ linear_kind → count ≡ 1
alone count kind some in_a_row other = elim (cases_lt 1 count) [
  | inl more ↦ absurd (other (in_a_row more))
  | inr few ↦ omega (arith, few, some)
]

-- they lie in the file
pub in_file : (first count all width : ℕ) → 1 ≤ first → first + count ≤ all + 1 → (first - 1) * width + count * width ≤ all * width
in_file first count all width from to =
    let inside : (first - 1 + count) * width ≤ all * width = mul-le-mul_right width (omega (arith, from, to)) in
    let split : (first - 1 + count) * width ≡ (first - 1) * width + count * width = grind arith in
    omega (arith, inside, split)

-- one that matches is put behind the others
pub among_more : (P : ℕ → Type 0) (b : Bool) (found : List ℕ) (number : ℕ) → All P found → P number → All P (found ++ cond b (number ∷ []) [])
among_more P true found number all one = All-append P found (number ∷ []) all (All-cons P number [] one (All-nil P))
among_more P false found number all one = All-append P found [] all (All-nil P)

-- what matches among them is what is searched for
pub matched_left : (state : Persistent) (file : Descriptor) (apdu : Apdu) (from : ℕ) → IsRecord file from
    → filter (is_match state file apdu.body) (numbers_left (mode_bits apdu == forward_mode) 1 file.count (left_from (mode_bits apdu == forward_mode) file.count from)) ≡ numbers_matched state file apdu from
unfolding numbers_matched is_match
matched_left state file apdu from within =
    ap (filter (λ number. has_within apdu.body (slice_index_or (records_in state file.number) (number - 1) []))) (all_left (mode_bits apdu == forward_mode) file.count from within.0 within.1)

-- What is computed of a record is what the pairs that spell it grant.
use Rattle.std.proofs.Common.{◌≡◌, ℕ, zero, suc, ◌<◌, ◌≤◌, ◌&&◌, ◌||◌, ◌↔◌, Bool, true, false, IsTrue, nat_eq, All, List, [], ◌∷◌, ◌++◌, length, replicate, Option, Some, None, unwrap_or, ⊎_elim, refl, sym, ap, ◌∙◌, append_assoc, length-append, arith, option_map, option_and_then}
use Rattle.std.specs.List.{flat_map, list_any}
use Rattle.std.proofs.lemmas.Option.{option_and_then_some, cond_some, same_Some}
use Rattle.std.proofs.lemmas.List.Elements.{All-nil, All-head, All-tail}
use Rattle.std.proofs.lemmas.Bool.{false_from_ne_true, and_parts}
use Rattle.list_laws.proofs.CondLemmas.{chosen, mapped_Some}
use Rattle.access_rules.specs.Objects.{object}
use Rattle.access_rules.specs.Conditions.{IsProper, condition_object}
use Rattle.access_rules.specs.Rules.{Mode, by_bits, by_instruction, mode_tag, mode_value, names, Pair, spelled_pair, pair_grants, IsRecord, IsGranted}
use Rattle.access_rules.specs.Reading.{Part, part_in, condition_in, group_truth, mode_of, named_truth, pair_in, is_filling, pairs_truth, grants}
use Rattle.access_rules.specs.declared.rules.Op.{Op}
use Rattle.access_rules.specs.declared.rules.Verified.{Verified}
use Rattle.access_rules.proofs.ObjectLemmas.{object_longer}
use Rattle.access_rules.proofs.PairLemmas.{IsProperPair, pair_joined, with_pair, no_pair_in_filling}
use Rattle.access_rules.proofs.PartInLemmas.{part_found, part_only}
use Rattle.access_rules.proofs.ConditionsTruthLemmas.{same_number, condition_found, condition_only, group_reads}

mode_found : (tag : ℕ) (value : List ℕ) (mode : Mode) → mode_of tag value ≡ Some mode → (tag ≡ mode_tag mode) × (value ≡ mode_value mode)
unfolding mode_of
mode_found tag [] mode h = cc
mode_found tag (byte ∷ []) mode h =
    ⊎_elim
    (λ p. by_cases (by_bits byte) 0x80 p.0 (same_Some _ _ p.1) refl refl)
    (λ p. let read = cond_some _ _ _ p.1 in by_cases (by_instruction byte) 0x84 read.0 read.1 refl refl)
    (chosen _ _ _ _ h)
  where
    by_cases : (read : Mode) (wanted : ℕ) → nat_eq tag wanted ≡ true → read ≡ mode → wanted ≡ mode_tag read → byte ∷ [] ≡ mode_value read
        → (tag ≡ mode_tag mode) × (byte ∷ [] ≡ mode_value mode)
    by_cases read wanted tagged same t v = (same_number tag wanted tagged ∙ t ∙ ap mode_tag same, v ∙ ap mode_value same)
mode_found tag (byte ∷ (next ∷ bytes)) mode h = cc

mode_only : (mode : Mode) → mode_of (mode_tag mode) (mode_value mode) ≡ Some mode
unfolding mode_of
mode_only (by_bits bits) = refl
mode_only (by_instruction instruction) = refl

mode_fits : (mode : Mode) → length (mode_value mode) < 256
mode_fits (by_bits bits) = omega arith
mode_fits (by_instruction instruction) = omega arith

pair_found : (op : Op) (seen : Verified) (bytes rest : List ℕ) (truth : Bool) → pair_in op seen bytes ≡ Some (truth, rest)
    → (pair : Pair) × IsProper pair.condition 4 × (bytes ≡ spelled_pair pair ++ rest) × (truth ≡ pair_grants op seen pair)
unfolding pair_in named_truth
pair_found op seen bytes rest truth h =
    option_and_then_some (λ (part : Part). option_and_then (λ mode. named_truth op mode (condition_in (group_truth seen 4) seen part.rest)) (mode_of part.tag part.value)) (part_in bytes) (truth, rest) h (λ part is_part is_mode.
    option_and_then_some (λ mode. named_truth op mode (condition_in (group_truth seen 4) seen part.rest)) (mode_of part.tag part.value) (truth, rest) is_mode (λ mode is_named is_read.
    let front = part_found bytes part is_part in
    let named = mode_found part.tag part.value mode is_named in
    let read = mapped_Some (λ (condition : Bool × List ℕ). (names mode op && condition.0, condition.1)) (condition_in (group_truth seen 4) seen part.rest) (truth, rest) is_read in
    let condition = condition_found (group_truth seen 4) 4 seen part.rest read.0.1 read.0.0 (group_reads seen 4) read.1 in
    let left : read.0.1 ≡ rest = ap (λ (pair : Bool × List ℕ). pair.1) read.2 in
    let same : (names mode op && read.0.0) ≡ truth = ap (λ (pair : Bool × List ℕ). pair.0) read.2 in (
      record { mode = mode; condition = condition.0 },
      condition.1,
      pair_joined mode condition.0 bytes part.rest rest part.value part.tag front.1 named.0 named.1 (condition.2 ∙ ap (λ more. condition_object condition.0 ++ more) left),
      sym same ∙ ap (λ truth. names mode op && truth) condition.3,
    )))

pair_only : (op : Op) (seen : Verified) (pair : Pair) (rest : List ℕ) → IsProper pair.condition 4
    → pair_in op seen (spelled_pair pair ++ rest) ≡ Some (pair_grants op seen pair, rest)
unfolding pair_in named_truth
pair_only op seen pair rest proper =
    rw (
      append_assoc (object (mode_tag pair.mode) (mode_value pair.mode)) (condition_object pair.condition) rest,
      part_only (mode_tag pair.mode) (mode_value pair.mode) (condition_object pair.condition ++ rest) (mode_fits pair.mode),
      mode_only pair.mode,
      condition_only (group_truth seen 4) 4 seen (group_reads seen 4) pair.condition rest proper,
    ) refl

filling_found : (bytes : List ℕ) → is_filling bytes ≡ true → bytes ≡ replicate (length bytes) 0xFF
filling_found [] h = refl
filling_found (byte ∷ bytes) h =
    let both = and_parts (nat_eq byte 0xFF) (is_filling bytes) h in
    rw (same_number byte 0xFF both.0) (ap (λ more. 0xFF ∷ more) (filling_found bytes both.1))

filling_only : (n : ℕ) → is_filling (replicate n 0xFF) ≡ true
filling_only zero = refl
filling_only (suc n) = filling_only n

filling_truth : (op : Op) (seen : Verified) (most : ℕ) (bytes : List ℕ) → is_filling bytes ≡ true → pairs_truth op seen most bytes ≡ Some false
unfolding pairs_truth
filling_truth op seen zero bytes h = rw h refl
filling_truth op seen (suc most) bytes h = rw h refl

pair_step : (op : Op) (seen : Verified) (most : ℕ) (bytes : List ℕ) → is_filling bytes ≡ false
    → pairs_truth op seen (suc most) bytes ≡ option_and_then (λ found. option_map (λ others. found.0 || others) (pairs_truth op seen most found.1)) (pair_in op seen bytes)
unfolding pairs_truth
pair_step op seen most bytes h = rw h refl

pairs_found : (op : Op) (seen : Verified) (most : ℕ) (bytes : List ℕ) (truth : Bool) → pairs_truth op seen most bytes ≡ Some truth
    → (pairs : List Pair) × (filling : ℕ) × IsRecord pairs filling bytes × (truth ≡ list_any (pair_grants op seen) pairs)
unfolding pairs_truth
pairs_found op seen zero bytes truth h =
    let read = cond_some _ _ _ h in
    ([], length bytes, record { proper = All-nil _; spelled = filling_found bytes read.0 }, sym read.1)
pairs_found op seen (suc most) bytes truth h =
    ⊎_elim
    (λ p. ([], length bytes, record { proper = All-nil _; spelled = filling_found bytes p.0 }, sym (same_Some _ _ p.1)))
    (λ p. option_and_then_some (λ (found : Bool × List ℕ). option_map (λ others. found.0 || others) (pairs_truth op seen most found.1)) (pair_in op seen bytes) truth p.1 (λ found is_first is_rest.
    let first = pair_found op seen bytes found.1 found.0 is_first in
    let rest = mapped_Some (λ others. found.0 || others) (pairs_truth op seen most found.1) truth is_rest in
    let others = pairs_found op seen most found.1 rest.0 rest.1 in (
      first.0 ∷ others.0,
      others.1,
      with_pair first.0 others.0 others.1 bytes found.1 first.1 first.2 others.2,
      sym rest.2 ∙ either found.0 rest.0 _ _ first.3 others.3,
    )))
    (chosen _ _ _ _ h)
  where
    either : (a b c d : Bool) → a ≡ c → b ≡ d → a || b ≡ c || d
    either a b c d first second = rw (first, second) refl

pair_longer : (pair : Pair) (rest : List ℕ) → length rest < length (spelled_pair pair ++ rest)
pair_longer pair rest =
    omega (
      arith,
      ap length (append_assoc (object (mode_tag pair.mode) (mode_value pair.mode)) (condition_object pair.condition) rest),
      object_longer (mode_tag pair.mode) (mode_value pair.mode) (condition_object pair.condition ++ rest),
      length-append (condition_object pair.condition) rest,
    )

abbrev written : List Pair → ℕ → List ℕ
written pairs filling = flat_map spelled_pair pairs ++ replicate filling 0xFF

pairs_only : (op : Op) (seen : Verified) (pairs : List Pair) (filling most : ℕ) → All (λ pair. IsProper pair.condition 4) pairs
    → length (written pairs filling) ≤ most → pairs_truth op seen most (written pairs filling) ≡ Some (list_any (pair_grants op seen) pairs)
pairs_only op seen [] filling most proper enough = filling_truth op seen most (replicate filling 0xFF) (filling_only filling)
pairs_only op seen (pair ∷ others) filling zero proper enough =
    let regrouped = append_assoc (spelled_pair pair) (flat_map spelled_pair others) (replicate filling 0xFF) in
    absurd (omega (arith, ap length regrouped, pair_longer pair (written others filling)))
pairs_only op seen (pair ∷ others) filling (suc most) proper enough =
    let regrouped : written (pair ∷ others) filling ≡ spelled_pair pair ++ written others filling =
    append_assoc (spelled_pair pair) (flat_map spelled_pair others) (replicate filling 0xFF) in
    let fewer : length (written others filling) ≤ most =
    omega (arith, ap length regrouped, pair_longer pair (written others filling)) in
    let unfilled : is_filling (spelled_pair pair ++ written others filling) ≡ false =
    false_from_ne_true _ (λ h. no_pair_in_filling pair _ _ (sym (filling_found _ h))) in
    let first_proper : IsProper pair.condition 4 = All-head IsProperPair pair others proper in
    let read_first = pair_only op seen pair (written others filling) first_proper in
    let read_others = pairs_only op seen others filling most (All-tail IsProperPair pair others proper) fewer in
    rw regrouped
    (pair_step op seen most (spelled_pair pair ++ written others filling) unfilled
    ∙ rw (read_first, read_others) refl)

or_else : (o : Option Bool) → unwrap_or o false ≡ true → o ≡ Some true
or_else None h = cc
or_else (Some true) h = refl
or_else (Some false) h = cc

granted_found : (rule : List ℕ) (op : Op) (seen : Verified) → IsTrue (grants rule op seen) → IsGranted rule op seen
unfolding grants
granted_found rule op seen h =
    let found = pairs_found op seen (length rule) rule true (or_else _ h) in
    record { pairs = found.0; filling = found.1; form = found.2; granted = sym found.3 }

granted_only : (rule : List ℕ) (op : Op) (seen : Verified) → IsGranted rule op seen → IsTrue (grants rule op seen)
unfolding grants
granted_only rule op seen granted =
    let read : pairs_truth op seen (length (written granted.pairs granted.filling)) (written granted.pairs granted.filling) ≡ Some (list_any (pair_grants op seen) granted.pairs) =
    pairs_only op seen granted.pairs granted.filling _ granted.form.proper (omega arith) in
    rw (granted.form.spelled, read, granted.granted) refl

-- what is computed is the meaning, and so whatever else is the meaning is what is computed
pub grants_is : (rule : List ℕ) (op : Op) (seen : Verified) (result : Bool) → (IsTrue result ↔ IsGranted rule op seen) → result ≡ grants rule op seen
grants_is rule op seen true same = sym (granted_only rule op seen (same.0 refl))
grants_is rule op seen false same = sym (false_from_ne_true _ (λ h. let never : false ≡ true = same.1 (granted_found rule op seen h) in cc))

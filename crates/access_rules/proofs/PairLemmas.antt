-- A run over the pairs of a record.
use Rattle.std.proofs.Common.{◌≡◌, ℕ, zero, suc, ◌<◌, ◌≤◌, ◌||◌, Bool, true, false, List, [], ◌∷◌, ◌++◌, length, replicate, get_or, refl, sym, ap, ◌∙◌, append_assoc, arith}
use Rattle.std.specs.List.{flat_map, list_any}
use Rattle.std.proofs.lemmas.List.{length-replicate}
use Rattle.std.proofs.lemmas.List.Elements.{All-nil, All-cons, All-head, All-tail}
use Rattle.std.proofs.Math.Bool.{or-false}
use Rattle.access_rules.specs.Objects.{object}
use Rattle.access_rules.specs.Conditions.{Condition, IsProper, condition_object}
use Rattle.access_rules.specs.Rules.{Pair, Mode, by_bits, by_instruction, mode_tag, mode_value, IsRecord, pair_grants, spelled_pair}
use Rattle.access_rules.specs.declared.rules.Op.{Op}
use Rattle.access_rules.specs.declared.rules.Verified.{Verified}
use Rattle.access_rules.proofs.ObjectLemmas.{object-parts}

pub one_byte : (bytes : List ℕ) → 1 ≤ length bytes → length bytes < 2 → bytes ≡ get_or bytes 0 0 ∷ []
one_byte [] some few = absurd (omega arith)
one_byte (byte ∷ []) some few = refl
one_byte (byte ∷ (next ∷ bytes)) some few = absurd (omega arith)

abbrev pub IsProperPair : Pair → Type 0
IsProperPair pair = IsProper pair.condition 4

-- The whole is a record exactly where the rest is: then what the whole grants is what the passed pairs granted, or what
-- the rest grants.
pub record PassedPairs (op : Op) (seen : Verified) (whole rest : List ℕ) (truth : Bool) : Type 0 where
  pub found : (left : List Pair) (filling : ℕ) → IsRecord left filling rest
      → (all : List Pair) × IsRecord all filling whole × (list_any (pair_grants op seen) all ≡ truth || list_any (pair_grants op seen) left)
  pub only : (all : List Pair) (filling : ℕ) → IsRecord all filling whole
      → (left : List Pair) × IsRecord left filling rest × (list_any (pair_grants op seen) all ≡ truth || list_any (pair_grants op seen) left)

-- what a reader of the pair at the front ensures where it found one
pub record IsFirstPair (op : Op) (seen : Verified) (bytes behind : List ℕ) (truth : Bool) : Type 0 where
  pub found : (pair : Pair) × IsProper pair.condition 4 × (bytes ≡ spelled_pair pair ++ behind) × (truth ≡ pair_grants op seen pair)
  pub only : (pair : Pair) (rest : List ℕ) → IsProper pair.condition 4 → bytes ≡ spelled_pair pair ++ rest → (truth ≡ pair_grants op seen pair) × (behind ≡ rest)

or_assoc : (a b c : Bool) → a || (b || c) ≡ (a || b) || c
or_assoc true b c = refl
or_assoc false b c = refl

pub with_pair : (pair : Pair) (pairs : List Pair) (filling : ℕ) (bytes behind : List ℕ)
    → IsProper pair.condition 4 → bytes ≡ spelled_pair pair ++ behind → IsRecord pairs filling behind → IsRecord (pair ∷ pairs) filling bytes
with_pair pair pairs filling bytes behind proper spells form = record {
  proper = All-cons IsProperPair pair pairs proper form.proper;
  spelled = spells ∙ ap (λ more. spelled_pair pair ++ more) form.spelled ∙ sym (append_assoc (spelled_pair pair) (flat_map spelled_pair pairs) (replicate filling 0xFF));
}

pub pair_spells : (pair : Pair) (pairs : List Pair) (filling : ℕ) (bytes : List ℕ)
    → IsRecord (pair ∷ pairs) filling bytes → bytes ≡ spelled_pair pair ++ (flat_map spelled_pair pairs ++ replicate filling 0xFF)
pair_spells pair pairs filling bytes form =
    form.spelled ∙ append_assoc (spelled_pair pair) (flat_map spelled_pair pairs) (replicate filling 0xFF)

without_pair : (pair : Pair) (pairs : List Pair) (filling : ℕ) (bytes behind : List ℕ)
    → behind ≡ flat_map spelled_pair pairs ++ replicate filling 0xFF → IsRecord (pair ∷ pairs) filling bytes → IsRecord pairs filling behind
without_pair pair pairs filling bytes behind spells form = record {
  proper = All-tail IsProperPair pair pairs form.proper;
  spelled = spells;
}

same_heads : (first second : ℕ) (xs ys : List ℕ) → first ∷ xs ≡ second ∷ ys → first ≡ second
same_heads first second xs ys h = cc

-- a mode object begins with 80 or 84
mode_not_filling : (mode : Mode) (rest more : List ℕ) → 0xFF ∷ more ≡ mode_tag mode ∷ rest → ⊥
mode_not_filling (by_bits bits) rest more h = absurd (omega (arith, same_heads _ _ _ _ h))
mode_not_filling (by_instruction instruction) rest more h = absurd (omega (arith, same_heads _ _ _ _ h))

mode_not_empty : (mode : Mode) (rest : List ℕ) → [] ≡ mode_tag mode ∷ rest → ⊥
mode_not_empty mode rest h = cc

pair-parts : (pair : Pair) (rest : List ℕ) → (more : List ℕ) × (spelled_pair pair ++ rest ≡ mode_tag pair.mode ∷ more)
pair-parts pair rest =
    (_, append_assoc (object (mode_tag pair.mode) (mode_value pair.mode)) (condition_object pair.condition) rest ∙ object-parts (mode_tag pair.mode) (mode_value pair.mode) (condition_object pair.condition ++ rest))

-- no pair is at the front of filling
pub no_pair_in_filling : (pair : Pair) (n : ℕ) (rest : List ℕ) → replicate n 0xFF ≡ spelled_pair pair ++ rest → ⊥
no_pair_in_filling pair zero rest h = mode_not_empty pair.mode _ (h ∙ (pair-parts pair rest).1)
no_pair_in_filling pair (suc n) rest h = mode_not_filling pair.mode _ _ (h ∙ (pair-parts pair rest).1)

pub filled : {filling : ℕ} {bytes : List ℕ} → IsRecord [] filling bytes → bytes ≡ replicate (length bytes) 0xFF
filled {filling} form = form.spelled ∙ ap (λ n. replicate n 0xFF) (sym (ap length form.spelled ∙ length-replicate filling 0xFF))

pub pair_passed : (op : Op) (seen : Verified) (whole rest behind : List ℕ) (truth next : Bool)
    → PassedPairs op seen whole rest truth → (rest ≡ replicate (length rest) 0xFF → ⊥) → IsFirstPair op seen rest behind next
    → PassedPairs op seen whole behind (truth || next)
pair_passed op seen whole rest behind truth next passed unfilled first = record {
  found = λ left filling form.
      let pair : Pair = first.found.0 in
      let all = passed.found (pair ∷ left) filling (with_pair pair left filling rest behind first.found.1 first.found.2 form) in
      (all.0, all.1, all.2 ∙ or_assoc truth (pair_grants op seen pair) _ ∙ ap (λ b. (truth || b) || list_any (pair_grants op seen) left) (sym first.found.3));
  only = λ all filling form.
      let left = passed.only all filling form in split_off left.0 filling left.1 left.2;
} where
  split_off : {whole_grants : Bool} (left : List Pair) (filling : ℕ) → IsRecord left filling rest → whole_grants ≡ truth || list_any (pair_grants op seen) left
      → (others : List Pair) × IsRecord others filling behind × (whole_grants ≡ (truth || next) || list_any (pair_grants op seen) others)
  split_off [] filling form says = absurd (unfilled (filled form))
  split_off (pair ∷ others) filling form says =
      let same = first.only pair _ (All-head IsProperPair pair others form.proper) (pair_spells pair others filling rest form) in (
        others,
        without_pair pair others filling rest behind same.1 form,
        says ∙ or_assoc truth (pair_grants op seen pair) _ ∙ ap (λ b. (truth || b) || list_any (pair_grants op seen) others) (sym same.0),
      )

pub passed_granted : (op : Op) (seen : Verified) (whole rest behind : List ℕ) (truth next : Bool)
    → PassedPairs op seen whole rest truth → (rest ≡ replicate (length rest) 0xFF → ⊥) → IsFirstPair op seen rest behind next
    → truth ≡ true → PassedPairs op seen whole behind truth
passed_granted op seen whole rest behind true next passed unfilled first granted = pair_passed op seen whole rest behind true next passed unfilled first
passed_granted op seen whole rest behind false next passed unfilled first granted = cc

pub passed_not_granted : (op : Op) (seen : Verified) (whole rest behind : List ℕ) (truth next : Bool)
    → PassedPairs op seen whole rest truth → (rest ≡ replicate (length rest) 0xFF → ⊥) → IsFirstPair op seen rest behind next
    → truth ≡ false → PassedPairs op seen whole behind next
passed_not_granted op seen whole rest behind true next passed unfilled first granted = cc
passed_not_granted op seen whole rest behind false next passed unfilled first granted = pair_passed op seen whole rest behind false next passed unfilled first

-- where only filling is left, all is said
pub pairs_found : (op : Op) (seen : Verified) (whole rest : List ℕ) (truth : Bool)
    → PassedPairs op seen whole rest truth → rest ≡ replicate (length rest) 0xFF
    → (pairs : List Pair) × (filling : ℕ) × IsRecord pairs filling whole × (truth ≡ list_any (pair_grants op seen) pairs)
pairs_found op seen whole rest truth passed filled_up =
    let all = passed.found [] (length rest) (record { proper = All-nil IsProperPair; spelled = filled_up }) in
    (all.0, length rest, all.1, sym (all.2 ∙ or-false truth))

pub pairs_only : (op : Op) (seen : Verified) (whole rest : List ℕ) (truth : Bool)
    → PassedPairs op seen whole rest truth → rest ≡ replicate (length rest) 0xFF
    → (pairs : List Pair) (filling : ℕ) → IsRecord pairs filling whole → truth ≡ list_any (pair_grants op seen) pairs
pairs_only op seen whole rest truth passed filled_up pairs filling form =
    let left = passed.only pairs filling form in at_end left.0 left.1 left.2
  where
    at_end : (left : List Pair) → IsRecord left filling rest → list_any (pair_grants op seen) pairs ≡ truth || list_any (pair_grants op seen) left
        → truth ≡ list_any (pair_grants op seen) pairs
    at_end [] form' says = sym (says ∙ or-false truth)
    at_end (pair ∷ others) form' says =
        absurd (no_pair_in_filling pair (length rest) _ (sym filled_up ∙ pair_spells pair others filling rest form'))

-- where no pair is at the front of what is left, and it isn't filling, the whole is no record
pub no_record : (op : Op) (seen : Verified) (whole rest : List ℕ) (truth : Bool)
    → PassedPairs op seen whole rest truth → (rest ≡ replicate (length rest) 0xFF → ⊥)
    → ((pair : Pair) (behind : List ℕ) → IsProper pair.condition 4 → rest ≡ spelled_pair pair ++ behind → ⊥)
    → (pairs : List Pair) (filling : ℕ) → IsRecord pairs filling whole → ⊥
no_record op seen whole rest truth passed unfilled none pairs filling form =
    let left = passed.only pairs filling form in go left.0 left.1
  where
    go : (left : List Pair) → IsRecord left filling rest → ⊥
    go [] form' = unfilled (filled form')
    go (pair ∷ others) form' = none pair _ (All-head IsProperPair pair others form'.proper) (pair_spells pair others filling rest form')

pub pair_joined : (mode : Mode) (condition : Condition) (bytes behind rest value : List ℕ) (tag : ℕ)
    → bytes ≡ object tag value ++ behind → tag ≡ mode_tag mode → value ≡ mode_value mode → behind ≡ condition_object condition ++ rest
    → bytes ≡ spelled_pair (record { mode = mode; condition = condition }) ++ rest
pair_joined mode condition bytes behind rest value tag front tagged valued spells =
    front ∙ rw (tagged, valued, spells) (sym (append_assoc (object (mode_tag mode) (mode_value mode)) (condition_object condition) rest))

-- A run over the conditions of a group.
use Rattle.std.proofs.Common.{◌≡◌, ℕ, ◌<◌, Bool, true, false, List, [], ◌∷◌, ◌++◌, length, refl, sym, ap, ◌∙◌, arith}
use Rattle.access_rules.specs.Conditions.{Condition, Conditions, end, also, IsProper, AreProper, condition_object, spelled_all, holds, tag_of, value_of}
use Rattle.access_rules.specs.Needs.{hold_by, joined}
use Rattle.access_rules.specs.declared.conditions.Needs.{Needs}
use Rattle.access_rules.specs.declared.conditions.Needs.TheVariants.{One, Each}
use Rattle.access_rules.specs.declared.rules.Verified.{Verified}
use Rattle.access_rules.proofs.ObjectLemmas.{object_not_empty}

-- The whole is spelled by conditions exactly where the rest is: then what the whole says is what the passed ones said,
-- joined with what the rest says.
pub record Passed (needs : Needs) (levels : ℕ) (seen : Verified) (whole rest : List ℕ) (truth : Bool) : Type 0 where
  pub found : (left : Conditions) → AreProper left levels → rest ≡ spelled_all left
      → (all : Conditions) × AreProper all levels × (whole ≡ spelled_all all) × (hold_by needs all seen ≡ joined needs truth (hold_by needs left seen))
  pub only : (all : Conditions) → AreProper all levels → whole ≡ spelled_all all
      → (left : Conditions) × AreProper left levels × (rest ≡ spelled_all left) × (hold_by needs all seen ≡ joined needs truth (hold_by needs left seen))

joined-end : (needs : Needs) (seen : Verified) (b : Bool) → joined needs b (hold_by needs end seen) ≡ b
joined-end One seen true = refl
joined-end One seen false = refl
joined-end Each seen true = refl
joined-end Each seen false = refl

joined-also : (needs : Needs) (seen : Verified) (condition : Condition) (others : Conditions) (b : Bool)
    → joined needs b (hold_by needs (also condition others) seen) ≡ joined needs (joined needs b (holds condition seen)) (hold_by needs others seen)
joined-also One seen condition others true = refl
joined-also One seen condition others false = refl
joined-also Each seen condition others true = refl
joined-also Each seen condition others false = refl

-- what a reader of the condition at the front ensures where it found one
pub record IsFirst (levels : ℕ) (seen : Verified) (bytes behind : List ℕ) (truth : Bool) : Type 0 where
  pub found : (condition : Condition) × IsProper condition levels × (bytes ≡ condition_object condition ++ behind) × (truth ≡ holds condition seen)
  pub only : (condition : Condition) (rest : List ℕ) → IsProper condition levels → bytes ≡ condition_object condition ++ rest → (truth ≡ holds condition seen) × (behind ≡ rest)

pub passed_one : (needs : Needs) (levels : ℕ) (seen : Verified) (whole rest behind : List ℕ) (truth next : Bool)
    → Passed needs levels seen whole rest truth → IsFirst levels seen rest behind next
    → Passed needs levels seen whole behind (joined needs truth next)
passed_one needs levels seen whole rest behind truth next passed first = record {
  found = λ left proper spells.
      let c : Condition = first.found.0 in
      let all = passed.found (also c left) (first.found.1, proper) (first.found.2 ∙ ap (λ more. condition_object c ++ more) spells) in
      (all.0, all.1, all.2, all.3 ∙ joined-also needs seen c left truth ∙ ap (λ b. joined needs (joined needs truth b) (hold_by needs left seen)) (sym first.found.3));
  only = λ all proper spells. split_off (passed.only all proper spells).0 (passed.only all proper spells).1 (passed.only all proper spells).2 (passed.only all proper spells).3;
} where
  split_off : {whole_says : Bool} (left : Conditions) → AreProper left levels → rest ≡ spelled_all left → whole_says ≡ joined needs truth (hold_by needs left seen)
      → (others : Conditions) × AreProper others levels × (behind ≡ spelled_all others) × (whole_says ≡ joined needs (joined needs truth next) (hold_by needs others seen))
  split_off end proper spells says =
      absurd (object_not_empty (tag_of first.found.0) (value_of first.found.0) behind (sym spells ∙ first.found.2))
  split_off (also condition others) proper spells says =
      let same = first.only condition (spelled_all others) proper.0 spells in
      (others, proper.1, same.1, says ∙ joined-also needs seen condition others truth ∙ ap (λ b. joined needs (joined needs truth b) (hold_by needs others seen)) (sym same.0))

-- where nothing is left, all is said
pub passed_all : (needs : Needs) (levels : ℕ) (seen : Verified) (whole rest : List ℕ) (truth : Bool) → Passed needs levels seen whole rest truth → length rest ≡ 0
    → (all : Conditions) × AreProper all levels × (whole ≡ spelled_all all) × (truth ≡ hold_by needs all seen)
passed_all needs levels seen whole [] truth passed empty =
    let all = passed.found end tt refl in
    (all.0, all.1, all.2, sym (all.3 ∙ joined-end needs seen truth))
passed_all needs levels seen whole (byte ∷ rest) truth passed empty = absurd (omega arith)

pub passed_only : (needs : Needs) (levels : ℕ) (seen : Verified) (whole rest : List ℕ) (truth : Bool) → Passed needs levels seen whole rest truth → length rest ≡ 0
    → (all : Conditions) → AreProper all levels → whole ≡ spelled_all all → truth ≡ hold_by needs all seen
passed_only needs levels seen whole (byte ∷ rest) truth passed empty all proper spells = absurd (omega arith)
passed_only needs levels seen whole [] truth passed empty all proper spells =
    let left = passed.only all proper spells in at_end left.0 left.2 left.3
  where
    at_end : (left : Conditions) → [] ≡ spelled_all left → hold_by needs all seen ≡ joined needs truth (hold_by needs left seen) → truth ≡ hold_by needs all seen
    at_end end spells' says = sym (says ∙ joined-end needs seen truth)
    at_end (also condition others) spells' says = absurd (object_not_empty (tag_of condition) (value_of condition) (spelled_all others) spells')

-- where no condition is at the front of what is left, nothing spells the whole
pub passed_not : (needs : Needs) (levels : ℕ) (seen : Verified) (whole rest : List ℕ) (truth : Bool) → Passed needs levels seen whole rest truth
    → 0 < length rest → ((condition : Condition) (behind : List ℕ) → IsProper condition levels → rest ≡ condition_object condition ++ behind → ⊥)
    → (all : Conditions) → AreProper all levels → whole ≡ spelled_all all → ⊥
passed_not needs levels seen whole rest truth passed some none all proper spells =
    let left = passed.only all proper spells in go left.0 left.1 left.2
  where
    go : (left : Conditions) → AreProper left levels → rest ≡ spelled_all left → ⊥
    go end proper' spells' = let empty : length rest ≡ 0 = ap length spells' in omega arith
    go (also condition others) proper' spells' = none condition (spelled_all others) proper'.0 spells'

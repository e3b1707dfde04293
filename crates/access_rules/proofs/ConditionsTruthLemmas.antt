-- The truth of conditions that is computed is that of the conditions that spell the bytes.
use Rattle.std.proofs.Common.{◌≡◌, ℕ, zero, suc, ◌<◌, ◌≤◌, Bool, true, nat_eq, ⊎_elim, List, [], ◌∷◌, ◌++◌, length, Option, Some, refl, sym, ap, ◌∙◌, arith, option_map, option_and_then}
use Rattle.std.proofs.lemmas.Option.{option_and_then_some, cond_some, same_Some}
use Rattle.std.proofs.lemmas.Grind.{common_steps}
use Rattle.std.proofs.lemmas.Bool.{and_parts}
use Rattle.list_laws.proofs.CondLemmas.{chosen, mapped_Some}
use Rattle.access_rules.specs.Objects.{object}
use Rattle.access_rules.specs.Conditions.{Condition, always, never, key, some_of, all_of, Conditions, end, also, IsProper, AreProper, condition_object, spelled_all, holds, is_satisfied, tag_of, value_of}
use Rattle.access_rules.specs.Needs.{Says, IsGroup, hold_by, joined}
use Rattle.access_rules.specs.Reading.{Part, part_in, truth_of_nothing, key_truth, part_truth, condition_in, conditions_truth, group_truth}
use Rattle.access_rules.specs.declared.conditions.Needs.{Needs}
use Rattle.access_rules.specs.declared.conditions.Needs.TheVariants.{One, Each}
use Rattle.access_rules.specs.declared.rules.Verified.{Verified}
use Rattle.access_rules.proofs.ObjectLemmas.{object_longer}
use Rattle.access_rules.proofs.SaysLemmas.{some_of_group, all_of_group, group_in_some, group_in_all, value_fits}
use Rattle.access_rules.proofs.PartInLemmas.{part_found, part_only}

pub same_number : (m n : ℕ) → nat_eq m n ≡ true → m ≡ n
same_number m n h = grind (arith, common_steps)

nothing_found : (truth found : Bool) (value : List ℕ) → truth_of_nothing truth value ≡ Some found → (value ≡ []) × (found ≡ truth)
unfolding truth_of_nothing
nothing_found truth found [] h = (refl, sym (same_Some _ _ h))
nothing_found truth found (byte ∷ bytes) h = cc

key_found : (seen : Verified) (value : List ℕ) (truth : Bool) → key_truth seen value ≡ Some truth
    → (reference : ℕ) × (value ≡ value_of (key reference)) × (truth ≡ is_satisfied reference seen)
unfolding key_truth
key_found seen (a ∷ (b ∷ (reference ∷ (c ∷ (d ∷ (e ∷ [])))))) truth h =
    let read = cond_some _ _ _ h in
    let first = and_parts _ _ read.0 in
    let second = and_parts _ _ first.1 in
    let third = and_parts _ _ second.1 in
    let fourth = and_parts _ _ third.1 in
    (reference, rw (same_number a _ first.0, same_number b _ second.0, same_number c _ third.0, same_number d _ fourth.0, same_number e _ fourth.1) refl, sym read.1)
key_found seen _ truth h = cc

-- what a reading of groups has to find
pub record ReadsGroups (group : Needs → List ℕ → Option Bool) (levels : ℕ) (seen : Verified) : Type 0 where
  pub found : (needs : Needs) (value : List ℕ) (truth : Bool) → length value < 256 → group needs value ≡ Some truth
      → (conditions : Conditions) × IsGroup conditions levels × (value ≡ spelled_all conditions) × (truth ≡ hold_by needs conditions seen)
  pub only : (needs : Needs) (conditions : Conditions) → IsGroup conditions levels → group needs (spelled_all conditions) ≡ Some (hold_by needs conditions seen)

truth_found : (group : Needs → List ℕ → Option Bool) (levels : ℕ) (seen : Verified) (tag : ℕ) (value : List ℕ) (truth : Bool)
    → ReadsGroups group levels seen → length value < 256 → part_truth group seen tag value ≡ Some truth → Says tag value levels seen truth
unfolding part_truth
truth_found group levels seen tag value truth reads fits h0 =
    ⊎_elim
    (λ p. let found = nothing_found _ _ _ p.1 in (always, tt, same_number tag _ p.0, found.0, found.1))
    (λ p. ⊎_elim
    (λ p. let found = nothing_found _ _ _ p.1 in (never, tt, same_number tag _ p.0, found.0, found.1))
    (λ p. ⊎_elim
    (λ p. let found = key_found _ _ _ p.1 in (key found.0, tt, same_number tag _ p.0, found.1, found.2))
    (λ p. ⊎_elim
    (λ p. let found = reads.found One value truth fits p.1 in (some_of found.0, some_of_group _ _ found.1, same_number tag _ p.0, found.2, found.3))
    (λ p. ⊎_elim
    (λ p. let found = reads.found Each value truth fits p.1 in (all_of found.0, all_of_group _ _ found.1, same_number tag _ p.0, found.2, found.3))
    (λ p. cc)
    (chosen _ _ _ _ p.1))
    (chosen _ _ _ _ p.1))
    (chosen _ _ _ _ p.1))
    (chosen _ _ _ _ p.1))
    (chosen _ _ _ _ h0)

truth_only : (group : Needs → List ℕ → Option Bool) (levels : ℕ) (seen : Verified) → ReadsGroups group levels seen
    → (condition : Condition) → IsProper condition levels → part_truth group seen (tag_of condition) (value_of condition) ≡ Some (holds condition seen)
unfolding part_truth truth_of_nothing key_truth
truth_only group levels seen reads always proper = refl
truth_only group levels seen reads never proper = refl
truth_only group levels seen reads (key reference) proper = refl
truth_only group levels seen reads (some_of conditions) proper = reads.only One conditions (group_in_some conditions levels proper)
truth_only group levels seen reads (all_of conditions) proper = reads.only Each conditions (group_in_all conditions levels proper)

spelled_by : (condition : Condition) (bytes value behind rest : List ℕ) (tag : ℕ)
    → bytes ≡ object tag value ++ behind → tag ≡ tag_of condition → value ≡ value_of condition → behind ≡ rest → bytes ≡ condition_object condition ++ rest
spelled_by condition bytes value behind rest tag front tagged valued left = front ∙ rw (tagged, valued, left) refl

pub condition_found : (group : Needs → List ℕ → Option Bool) (levels : ℕ) (seen : Verified) (bytes rest : List ℕ) (truth : Bool)
    → ReadsGroups group levels seen → condition_in group seen bytes ≡ Some (truth, rest)
    → (condition : Condition) × IsProper condition levels × (bytes ≡ condition_object condition ++ rest) × (truth ≡ holds condition seen)
unfolding condition_in
condition_found group levels seen bytes rest truth reads h =
    option_and_then_some (λ (part : Part). option_map (λ truth. (truth, part.rest)) (part_truth group seen part.tag part.value)) (part_in bytes) (truth, rest) h (λ part is_part is_read.
    let front = part_found bytes part is_part in
    let read = mapped_Some (λ (truth : Bool). (truth, part.rest)) (part_truth group seen part.tag part.value) (truth, rest) is_read in
    let says = truth_found group levels seen part.tag part.value read.0 reads front.0 read.1 in
    let left : part.rest ≡ rest = ap (λ (pair : Bool × List ℕ). pair.1) read.2 in
    let same : read.0 ≡ truth = ap (λ (pair : Bool × List ℕ). pair.0) read.2 in
    (says.0, says.1, spelled_by says.0 _ _ _ _ _ front.1 says.2 says.3 left, sym same ∙ says.4))

pub condition_only : (group : Needs → List ℕ → Option Bool) (levels : ℕ) (seen : Verified) → ReadsGroups group levels seen
    → (condition : Condition) (rest : List ℕ) → IsProper condition levels → condition_in group seen (condition_object condition ++ rest) ≡ Some (holds condition seen, rest)
unfolding condition_in
condition_only group levels seen reads condition rest proper =
    rw (part_only (tag_of condition) (value_of condition) rest (value_fits condition levels proper), truth_only group levels seen reads condition proper) refl

hold_by-also : (needs : Needs) (condition : Condition) (others : Conditions) (seen : Verified)
    → hold_by needs (also condition others) seen ≡ joined needs (holds condition seen) (hold_by needs others seen)
hold_by-also One condition others seen = refl
hold_by-also Each condition others seen = refl

joined_holds : (needs : Needs) (condition : Condition) (others : Conditions) (seen : Verified) (first rest : Bool)
    → first ≡ holds condition seen → rest ≡ hold_by needs others seen → joined needs first rest ≡ hold_by needs (also condition others) seen
joined_holds needs condition others seen first rest one all = rw (one, all) (sym (hold_by-also needs condition others seen))

run_found : (group : Needs → List ℕ → Option Bool) (levels : ℕ) (seen : Verified) → ReadsGroups group levels seen
    → (needs : Needs) (most : ℕ) (bytes : List ℕ) (truth : Bool) → conditions_truth (condition_in group seen) needs most bytes ≡ Some truth
    → (conditions : Conditions) × AreProper conditions levels × (bytes ≡ spelled_all conditions) × (truth ≡ hold_by needs conditions seen)
unfolding conditions_truth
run_found group levels seen reads One most [] truth h = (end, tt, refl, sym (same_Some _ _ h))
run_found group levels seen reads Each most [] truth h = (end, tt, refl, sym (same_Some _ _ h))
run_found group levels seen reads needs zero (byte ∷ bytes) truth h = cc
run_found group levels seen reads needs (suc most) (byte ∷ bytes) truth h =
    option_and_then_some (λ found. option_map (joined needs found.0) (conditions_truth (condition_in group seen) needs most found.1)) (condition_in group seen (byte ∷ bytes)) truth h (λ found is_first is_rest.
    let first = condition_found group levels seen (byte ∷ bytes) found.1 found.0 reads is_first in
    let rest = mapped_Some (joined needs found.0) (conditions_truth (condition_in group seen) needs most found.1) truth is_rest in
    let others = run_found group levels seen reads needs most found.1 rest.0 rest.1 in (
      also first.0 others.0,
      (first.1, others.1),
      first.2 ∙ ap (λ more. condition_object first.0 ++ more) others.2,
      sym rest.2 ∙ joined_holds needs first.0 others.0 seen _ _ first.3 others.3,
    ))

run_step : (first : List ℕ → Option (Bool × List ℕ)) (needs : Needs) (most : ℕ) (bytes : List ℕ) → 0 < length bytes
    → conditions_truth first needs (suc most) bytes ≡ option_and_then (λ found. option_map (joined needs found.0) (conditions_truth first needs most found.1)) (first bytes)
unfolding conditions_truth
run_step first needs most [] some = absurd (omega arith)
run_step first needs most (byte ∷ bytes) some = refl

run_only : (group : Needs → List ℕ → Option Bool) (levels : ℕ) (seen : Verified) → ReadsGroups group levels seen
    → (needs : Needs) (conditions : Conditions) (most : ℕ) → length (spelled_all conditions) ≤ most → AreProper conditions levels
    → conditions_truth (condition_in group seen) needs most (spelled_all conditions) ≡ Some (hold_by needs conditions seen)
unfolding conditions_truth
run_only group levels seen reads One end most enough proper = refl
run_only group levels seen reads Each end most enough proper = refl
run_only group levels seen reads needs (also condition others) zero enough proper =
    absurd (omega (arith, object_longer (tag_of condition) (value_of condition) (spelled_all others)))
run_only group levels seen reads needs (also condition others) (suc most) enough proper =
    let longer = object_longer (tag_of condition) (value_of condition) (spelled_all others) in
    run_step (condition_in group seen) needs most (spelled_all (also condition others)) (omega arith)
    ∙ rw (condition_only group levels seen reads condition (spelled_all others) proper.0, run_only group levels seen reads needs others most (omega arith) proper.1)
    (ap Some (sym (hold_by-also needs condition others seen)))

group_step : (seen : Verified) (levels : ℕ) (needs : Needs) (bytes : List ℕ) → 0 < length bytes
    → group_truth seen (suc levels) needs bytes ≡ conditions_truth (condition_in (group_truth seen levels) seen) needs (length bytes) bytes
unfolding group_truth
group_step seen levels needs [] some = absurd (omega arith)
group_step seen levels needs (byte ∷ bytes) some = refl

group_reads_more : (seen : Verified) (levels : ℕ) → ReadsGroups (group_truth seen levels) levels seen → ReadsGroups (group_truth seen (suc levels)) (suc levels) seen
unfolding group_truth
group_reads_more seen levels reads = record { found = found; only = only } where
  found : (needs : Needs) (value : List ℕ) (truth : Bool) → length value < 256 → group_truth seen (suc levels) needs value ≡ Some truth
      → (conditions : Conditions) × IsGroup conditions (suc levels) × (value ≡ spelled_all conditions) × (truth ≡ hold_by needs conditions seen)
  found needs [] truth fits h = cc
  found needs (byte ∷ bytes) truth fits h =
      let run = run_found (group_truth seen levels) levels seen reads needs (length (byte ∷ bytes)) (byte ∷ bytes) truth h in
      let some : 0 < length (byte ∷ bytes) = omega arith in
      (run.0, (rw (← run.2) some, rw (← run.2) fits, run.1), run.2, run.3)

  only : (needs : Needs) (conditions : Conditions) → IsGroup conditions (suc levels) → group_truth seen (suc levels) needs (spelled_all conditions) ≡ Some (hold_by needs conditions seen)
  only needs conditions group =
      group_step seen levels needs (spelled_all conditions) group.0
      ∙ run_only (group_truth seen levels) levels seen reads needs conditions (length (spelled_all conditions)) (omega arith) group.2

pub group_reads : (seen : Verified) (levels : ℕ) → ReadsGroups (group_truth seen levels) levels seen
unfolding group_truth
group_reads seen zero = record { found = λ needs value truth fits h. cc; only = λ needs conditions group. absurd group }
group_reads seen (suc levels) = group_reads_more seen levels (group_reads seen levels)

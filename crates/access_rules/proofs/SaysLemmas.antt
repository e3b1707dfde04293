-- What a reader of a value found, whose tag is known.
use Rattle.std.proofs.Common.{◌≡◌, ℕ, zero, suc, ◌<◌, Bool, true, false, Option, Some, None, IfSome, List, [], length, arith}
use Rattle.access_rules.specs.Conditions.{Condition, always, never, key, some_of, all_of, Conditions, IsProper, value_of, spelled_all, is_satisfied}
use Rattle.access_rules.specs.Needs.{IsGroup, Says, hold_by}
use Rattle.access_rules.specs.declared.conditions.Needs.TheVariants.{One, Each}
use Rattle.access_rules.specs.declared.rules.Verified.{Verified}

pub some_of_group : (conditions : Conditions) (levels : ℕ) → IsGroup conditions levels → IsProper (some_of conditions) levels
some_of_group conditions zero group = group
some_of_group conditions (suc levels) group = group

pub all_of_group : (conditions : Conditions) (levels : ℕ) → IsGroup conditions levels → IsProper (all_of conditions) levels
all_of_group conditions zero group = group
all_of_group conditions (suc levels) group = group

pub group_in_some : (conditions : Conditions) (levels : ℕ) → IsProper (some_of conditions) levels → IsGroup conditions levels
group_in_some conditions zero proper = proper
group_in_some conditions (suc levels) proper = proper

pub group_in_all : (conditions : Conditions) (levels : ℕ) → IsProper (all_of conditions) levels → IsGroup conditions levels
group_in_all conditions zero proper = proper
group_in_all conditions (suc levels) proper = proper

group_fits : (conditions : Conditions) (levels : ℕ) → IsGroup conditions levels → length (spelled_all conditions) < 256
group_fits conditions zero group = absurd group
group_fits conditions (suc levels) group = group.1

-- the length of a proper condition's value has a spelling
pub value_fits : (condition : Condition) (levels : ℕ) → IsProper condition levels → length (value_of condition) < 256
value_fits always levels proper = omega arith
value_fits never levels proper = omega arith
value_fits (key reference) levels proper = omega arith
value_fits (some_of conditions) levels proper = group_fits conditions levels (group_in_some conditions levels proper)
value_fits (all_of conditions) levels proper = group_fits conditions levels (group_in_all conditions levels proper)

pub says_always : (result : Option Bool) (tag : ℕ) (value : List ℕ) (levels : ℕ) (seen : Verified)
    → tag ≡ 0x90 → IfSome result (λ truth. (value ≡ []) × (truth ≡ true)) → IfSome result (Says tag value levels seen)
says_always None tag value levels seen tagged found = tt
says_always (Some truth) tag value levels seen tagged found = (always, tt, tagged, found.0, found.1)

pub says_never : (result : Option Bool) (tag : ℕ) (value : List ℕ) (levels : ℕ) (seen : Verified)
    → tag ≡ 0x97 → IfSome result (λ truth. (value ≡ []) × (truth ≡ false)) → IfSome result (Says tag value levels seen)
says_never None tag value levels seen tagged found = tt
says_never (Some truth) tag value levels seen tagged found = (never, tt, tagged, found.0, found.1)

pub says_key : (result : Option Bool) (tag : ℕ) (value : List ℕ) (levels : ℕ) (seen : Verified)
    → tag ≡ 0xA4 → IfSome result (λ truth. (reference : ℕ) × (value ≡ value_of (key reference)) × (truth ≡ is_satisfied reference seen))
    → IfSome result (Says tag value levels seen)
says_key None tag value levels seen tagged found = tt
says_key (Some truth) tag value levels seen tagged found = (key found.0, tt, tagged, found.1, found.2)

pub says_some : (result : Option Bool) (tag : ℕ) (value : List ℕ) (levels : ℕ) (seen : Verified)
    → tag ≡ 0xA0 → IfSome result (λ truth. (conditions : Conditions) × IsGroup conditions levels × (value ≡ spelled_all conditions) × (truth ≡ hold_by One conditions seen))
    → IfSome result (Says tag value levels seen)
says_some None tag value levels seen tagged found = tt
says_some (Some truth) tag value levels seen tagged found =
    (some_of found.0, some_of_group found.0 levels found.1, tagged, found.2, found.3)

pub says_all : (result : Option Bool) (tag : ℕ) (value : List ℕ) (levels : ℕ) (seen : Verified)
    → tag ≡ 0xAF → IfSome result (λ truth. (conditions : Conditions) × IsGroup conditions levels × (value ≡ spelled_all conditions) × (truth ≡ hold_by Each conditions seen))
    → IfSome result (Says tag value levels seen)
says_all None tag value levels seen tagged found = tt
says_all (Some truth) tag value levels seen tagged found =
    (all_of found.0, all_of_group found.0 levels found.1, tagged, found.2, found.3)

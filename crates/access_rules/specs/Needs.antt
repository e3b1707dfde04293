-- What a tag and a value say as a condition, and the conditions inside A0 and AF as one: how many of them have to hold.
use Rattle.std.specs.Prelude.{◌≡◌, ℕ, List, zero, suc, ◌<◌, ◌&&◌, ◌||◌, Bool, true, false, length}
use Rattle.access_rules.specs.Conditions.{Condition, IsProper, tag_of, value_of, holds, Conditions, spelled_all, AreProper, some_hold, all_hold}
use Rattle.access_rules.specs.declared.conditions.Needs.{Needs}
use Rattle.access_rules.specs.declared.conditions.Needs.TheVariants.{One, Each}
use Rattle.access_rules.specs.declared.rules.Verified.{Verified}

-- a condition of this tag and this value, with A0 and AF at most so many levels deep, has this truth
abbrev pub Says : ℕ → List ℕ → ℕ → Verified → Bool → Type 0
Says tag value levels seen truth =
    (condition : Condition) × IsProper condition levels × (tag ≡ tag_of condition) × (value ≡ value_of condition) × (truth ≡ holds condition seen)

-- one or more conditions that may stand inside A0 or AF where so many levels are left
abbrev pub IsGroup : Conditions → ℕ → Type 0
IsGroup conditions zero = ⊥
IsGroup conditions (suc levels) = (0 < length (spelled_all conditions)) × (length (spelled_all conditions) < 256) × AreProper conditions levels

-- one of the conditions is met (A0), or each of them (AF)
abbrev pub hold_by : Needs → Conditions → Verified → Bool
hold_by One conditions seen = some_hold conditions seen
hold_by Each conditions seen = all_hold conditions seen

-- of no conditions it is false that one holds, and true that each does
abbrev pub neutral : Needs → Bool
neutral One = false
neutral Each = true

-- of two conditions one has to hold (A0), or both (AF)
abbrev pub joined : Needs → Bool → Bool → Bool
joined One first second = first || second
joined Each first second = first && second

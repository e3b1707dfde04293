-- Security conditions (ISO 7816-4, 5.4.3.2; ETSI TS 102 221, 9.2.4), with the keys of TS 102 221, 9.5.1: what they are,
-- how they are written and when they hold.
use Rattle.std.specs.Prelude.{ℕ, zero, suc, ◌<◌, ◌==◌, ◌&&◌, ◌||◌, Bool, true, false, if◌then◌else◌, List, [], ◌∷◌, ◌++◌, length}
use Rattle.uicc_types.specs.declared.keys.TheConstants.{PIN_1, PIN_2, ADM_1}
use Rattle.access_rules.specs.Objects.{object}
use Rattle.access_rules.specs.declared.rules.Verified.{Verified}

mutual
  -- a condition: always or never met, the one of a key, or that one or each of several is met
  pub data Condition : Type 0 where
    always : Condition
    never : Condition
    key : ℕ → Condition
    some_of : Conditions → Condition
    all_of : Conditions → Condition

  -- one condition after the other
  pub data Conditions : Type 0 where
    end : Conditions
    also : Condition → Conditions → Conditions

-- the tag that tells which condition it is
abbrev pub tag_of : Condition → ℕ
tag_of always = 0x90
tag_of never = 0x97
tag_of (key reference) = 0xA4
tag_of (some_of conditions) = 0xA0
tag_of (all_of conditions) = 0xAF

-- a key is named in a control reference template, with the usage qualifier 08: user authentication by knowledge
abbrev mutual
  pub value_of : Condition → List ℕ
  value_of always = []
  value_of never = []
  value_of (key reference) = 0x83 ∷ 0x01 ∷ reference ∷ 0x95 ∷ 0x01 ∷ 0x08 ∷ []
  value_of (some_of conditions) = spelled_all conditions
  value_of (all_of conditions) = spelled_all conditions

  -- the objects of these conditions, one after the other
  pub spelled_all : Conditions → List ℕ
  spelled_all end = []
  spelled_all (also condition others) = object (tag_of condition) (value_of condition) ++ spelled_all others

-- the object that a condition is written as
abbrev pub condition_object : Condition → List ℕ
condition_object condition = object (tag_of condition) (value_of condition)

-- A0 and AF are nested at most so many levels deep, each around one or more conditions whose length has a spelling
abbrev mutual
  pub IsProper : Condition → ℕ → Type 0
  IsProper always levels = Unit {0}
  IsProper never levels = Unit {0}
  IsProper (key reference) levels = Unit {0}
  IsProper (some_of conditions) zero = ⊥
  IsProper (some_of conditions) (suc levels) = (0 < length (spelled_all conditions)) × (length (spelled_all conditions) < 256) × AreProper conditions levels
  IsProper (all_of conditions) zero = ⊥
  IsProper (all_of conditions) (suc levels) = (0 < length (spelled_all conditions)) × (length (spelled_all conditions) < 256) × AreProper conditions levels

  -- each of them may stand where so many levels are left
  pub AreProper : Conditions → ℕ → Type 0
  AreProper end levels = Unit {0}
  AreProper (also condition others) levels = IsProper condition levels × AreProper others levels

-- the condition of a key is satisfied; a key that is none of the three never is
abbrev pub is_satisfied : ℕ → Verified → Bool
is_satisfied reference seen =
    if reference == PIN_1 then seen.pin1 else if reference == PIN_2 then seen.pin2 else if reference == ADM_1 then seen.adm1 else false

abbrev mutual
  -- a condition is met where these keys count
  pub holds : Condition → Verified → Bool
  holds always seen = true
  holds never seen = false
  holds (key reference) seen = is_satisfied reference seen
  holds (some_of conditions) seen = some_hold conditions seen
  holds (all_of conditions) seen = all_hold conditions seen

  -- one of them is met
  pub some_hold : Conditions → Verified → Bool
  some_hold end seen = false
  some_hold (also condition others) seen = holds condition seen || some_hold others seen

  -- each of them is met
  pub all_hold : Conditions → Verified → Bool
  all_hold end seen = true
  all_hold (also condition others) seen = holds condition seen && all_hold others seen

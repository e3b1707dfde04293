-- The meaning of a rule, computed: what a record grants, read from its first byte to its last. What `allowed` ensures says
-- that this is the meaning by spellings, for every rule.
use Rattle.std.specs.Prelude.{ℕ, zero, suc, ◌==◌, ◌&&◌, ◌||◌, Bool, true, false, nat_le, if◌then◌else◌, List, [], ◌∷◌, length, take, drop, Option, Some, None, unwrap_or}
use Rattle.std.specs.Option.{option_map, option_and_then}
use Rattle.std.specs.List.{list_all}
use Rattle.access_rules.specs.Conditions.{is_satisfied}
use Rattle.access_rules.specs.Needs.{joined, neutral}
use Rattle.access_rules.specs.Rules.{Mode, by_bits, by_instruction, names}
use Rattle.access_rules.specs.declared.conditions.Needs.{Needs}
use Rattle.access_rules.specs.declared.conditions.Needs.TheVariants.{One, Each}
use Rattle.access_rules.specs.declared.rules.Op.{Op}
use Rattle.access_rules.specs.declared.rules.Verified.{Verified}

-- the byte after 81, from 128 on, and what follows it
unfoldable pub long_length_in : List ℕ → Option (ℕ × List ℕ)
long_length_in [] = None
long_length_in (n ∷ rest) = if nat_le 128 n && nat_le n 255 then Some (n, rest) else None

-- the length at the front, and what follows it
unfoldable pub length_in : List ℕ → Option (ℕ × List ℕ)
length_in [] = None
length_in (n ∷ rest) = if nat_le n 127 then Some (n, rest) else if n == 0x81 then long_length_in rest else None

-- an object at the front of some bytes: its tag, its value, and what follows it
pub record Part : Type 0 where
  pub tag : ℕ
  pub value : List ℕ
  pub rest : List ℕ

-- the object at the front, and what follows it
unfoldable pub part_of : ℕ → ℕ → List ℕ → Option Part
part_of tag n bytes = if nat_le n (length bytes) then Some (record { tag = tag; value = take n bytes; rest = drop n bytes }) else None

-- the object at the front, and what follows it: a tag of one byte, a length of at most 255, and as many bytes of value; None where it is cut short
unfoldable pub part_in : List ℕ → Option Part
part_in [] = None
part_in (tag ∷ bytes) = option_and_then (λ found. part_of tag found.0 found.1) (length_in bytes)

-- 'always' and 'never' have this truth, and no value
unfoldable pub truth_of_nothing : Bool → List ℕ → Option Bool
truth_of_nothing truth [] = Some truth
truth_of_nothing truth (byte ∷ bytes) = None

-- whether the condition of the key that a control reference template names is satisfied
unfoldable pub key_truth : Verified → List ℕ → Option Bool
key_truth seen (a ∷ (b ∷ (reference ∷ (c ∷ (d ∷ (e ∷ [])))))) =
    if a == 0x83 && (b == 0x01 && (c == 0x95 && (d == 0x01 && e == 0x08))) then Some (is_satisfied reference seen) else None
key_truth seen _ = None

-- the truth of an object as a condition, where the truth of the groups in it is known: always (90), never (97), the key of a control reference
-- template (A4), one of a group (A0), each of a group (AF) (ISO 7816-4, 5.4.3.2)
unfoldable pub part_truth : (Needs → List ℕ → Option Bool) → Verified → ℕ → List ℕ → Option Bool
part_truth group seen tag value =
    if tag == 0x90 then truth_of_nothing true value
    else if tag == 0x97 then truth_of_nothing false value
    else if tag == 0xA4 then key_truth seen value
    else if tag == 0xA0 then group One value
    else if tag == 0xAF then group Each value
    else None

-- the truth of the condition at the front, and what follows it
unfoldable pub condition_in : (Needs → List ℕ → Option Bool) → Verified → List ℕ → Option (Bool × List ℕ)
condition_in group seen bytes =
    option_and_then (λ part. option_map (λ truth. (truth, part.rest)) (part_truth group seen part.tag part.value)) (part_in bytes)

-- conditions up to the end of the bytes; the number bounds how many, and that of the bytes is enough
unfoldable pub conditions_truth : (List ℕ → Option (Bool × List ℕ)) → Needs → ℕ → List ℕ → Option Bool
conditions_truth first needs most [] = Some (neutral needs)
conditions_truth first needs zero (byte ∷ bytes) = None
conditions_truth first needs (suc most) (byte ∷ bytes) =
    option_and_then (λ found. option_map (joined needs found.0) (conditions_truth first needs most found.1)) (first (byte ∷ bytes))

-- one or more conditions, with groups in them at most so many levels deep
unfoldable pub group_truth : Verified → ℕ → Needs → List ℕ → Option Bool
group_truth seen zero needs bytes = None
group_truth seen (suc levels) needs [] = None
group_truth seen (suc levels) needs (byte ∷ bytes) =
    conditions_truth (condition_in (group_truth seen levels) seen) needs (length (byte ∷ bytes)) (byte ∷ bytes)

-- the access mode of an object: an access mode byte (80), or an instruction byte (84) (ISO 7816-4, 5.4.3.2)
unfoldable pub mode_of : ℕ → List ℕ → Option Mode
mode_of tag [] = None
mode_of tag (byte ∷ []) = if tag == 0x80 then Some (by_bits byte) else if tag == 0x84 then Some (by_instruction byte) else None
mode_of tag (byte ∷ (next ∷ bytes)) = None

-- a pair grants where its mode names the operation and its condition holds
unfoldable pub named_truth : Op → Mode → Option (Bool × List ℕ) → Option (Bool × List ℕ)
named_truth op mode found = option_map (λ condition. (names mode op && condition.0, condition.1)) found

-- Whether the pair at the front grants the operation, and what follows it. That A0 and AF stand at most four levels deep is a bound of this
-- card; the standard has none.
unfoldable pub pair_in : Op → Verified → List ℕ → Option (Bool × List ℕ)
pair_in op seen bytes =
    option_and_then
    (λ part. option_and_then (λ mode. named_truth op mode (condition_in (group_truth seen 4) seen part.rest)) (mode_of part.tag part.value))
    (part_in bytes)

-- bytes FF alone, or no bytes, which may follow the last pair of a record
abbrev pub is_filling : List ℕ → Bool
is_filling bytes = list_all (λ byte. byte == 0xFF) bytes

-- whether some pair grants the operation, up to the filling; the number bounds how many pairs there are
unfoldable pub pairs_truth : Op → Verified → ℕ → List ℕ → Option Bool
pairs_truth op seen zero bytes = if is_filling bytes then Some false else None
pairs_truth op seen (suc most) bytes =
    if is_filling bytes then Some false
    else option_and_then (λ found. option_map (λ others. found.0 || others) (pairs_truth op seen most found.1)) (pair_in op seen bytes)

-- whether a rule grants an operation; one of another form grants nothing
unfoldable pub grants : List ℕ → Op → Verified → Bool
grants rule op seen = unwrap_or (pairs_truth op seen (length rule) rule) false

-- Objects that are spelled one after the other are read back.
use Rattle.std.proofs.Common.{◌≡◌, ℕ, suc, zero, ◌+◌, ◌<◌, ◌≤◌, Bool, true, false, List, [], ◌∷◌, ◌++◌, length, Option, Some, refl, ap, ◌∙◌, arith, length-append, nat_le, if◌then◌else◌, option_map, option_and_then, All, flat_map}
use Rattle.std.proofs.lemmas.List.Elements.{All-head, All-tail}
use Rattle.access_rules.proofs.PartInLemmas.{part_only}
use Rattle.access_rules.specs.Objects.{length_bytes, object}
use Rattle.access_rules.specs.Reading.{Part, part_in}
use Rattle.card_laws.specs.Fcp.{Object, objects_in, objects_within}

abbrev pub spelled : Object → List ℕ
spelled one = object one.0 one.1

abbrev pub all_spelled : List Object → List ℕ
all_spelled objects = flat_map spelled objects

abbrev pub IsShortObject : Object → Type 0
IsShortObject one = length one.1 < 256

some_length : (b : Bool) (n : ℕ) → 1 ≤ length (if b then n ∷ [] else 0x81 ∷ n ∷ [])
some_length true n = omega arith
some_length false n = omega arith

-- an object has at least two bytes
pub object_long : (tag : ℕ) (value : List ℕ) → 2 + length value ≤ length (object tag value)
unfolding object
object_long tag value = omega (arith, some_length (nat_le (length value) 127) (length value), length-append (length_bytes (length value)) value)

many_bytes : (objects : List Object) → length objects ≤ length (all_spelled objects)
many_bytes [] = omega arith
many_bytes (one ∷ objects) = omega (arith, many_bytes objects, object_long one.0 one.1, length-append (spelled one) (all_spelled objects))

abbrev reading_on : ℕ → Option Part → Option (List Object)
reading_on most found = option_and_then (λ (part : Part). option_map (λ others. (part.tag, part.value) ∷ others) (objects_within most part.rest)) found

-- bytes that begin with an object are not empty
first_read : (most tag : ℕ) (value rest : List ℕ) → objects_within (suc most) (object tag value ++ rest) ≡ reading_on most (part_in (object tag value ++ rest))
unfolding object
first_read most tag value rest = refl

within_read : (objects : List Object) (most : ℕ) → length objects ≤ most → All IsShortObject objects → objects_within most (all_spelled objects) ≡ Some objects
within_read [] most few short = refl
within_read (one ∷ objects) zero few short = absurd (omega (arith, few))
within_read (one ∷ objects) (suc most) few short =
    first_read most one.0 one.1 (all_spelled objects)
    ∙ ap (reading_on most) (part_only one.0 one.1 (all_spelled objects) (All-head IsShortObject one objects short))
    ∙ ap (λ (o : Option (List Object)). option_map (λ others. (one.0, one.1) ∷ others) o) (within_read objects most (omega (arith, few)) (All-tail IsShortObject one objects short))

pub spelled_are_read : (objects : List Object) → All IsShortObject objects → objects_in (all_spelled objects) ≡ Some objects
unfolding objects_in
spelled_are_read objects short = within_read objects (length (all_spelled objects)) (many_bytes objects) short

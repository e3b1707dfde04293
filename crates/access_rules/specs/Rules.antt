-- Access rules in the expanded format (ISO 7816-4, 5.4.3.3; ETSI TS 102 221, 9.2.4): what a record of an EF_ARR says.
use Rattle.std.specs.Prelude.{◌≡◌, ℕ, ◌==◌, ◌&&◌, Bool, not, List, [], ◌∷◌, ◌++◌, IsTrue, All, bit_and, replicate}
use Rattle.std.specs.List.{flat_map, list_any}
use Rattle.access_rules.specs.Objects.{object}
use Rattle.access_rules.specs.Conditions.{Condition, condition_object, IsProper, holds}
use Rattle.access_rules.specs.declared.rules.Op.{Op}
use Rattle.access_rules.specs.declared.rules.Op.TheVariants.{ReadBinary, ReadRecord, Search, UpdateBinary, UpdateRecord, Increase, Deactivate, Activate}
use Rattle.access_rules.specs.declared.rules.Verified.{Verified}

-- how an access mode names an operation: by a bit of the access mode byte, 0 where none stands for it, and by the
-- instruction byte (ETSI TS 102 221, 10.1.2)
pub record Naming : Type 0 where
  pub bit : ℕ
  pub instruction : ℕ

-- the bit and the instruction byte of each operation: READ BINARY, READ RECORD and SEARCH RECORD share a bit, and so do UPDATE BINARY and UPDATE
-- RECORD; INCREASE has none
abbrev pub naming : Op → Naming
naming ReadBinary = record { bit = 0x01; instruction = 0xB0 }
naming ReadRecord = record { bit = 0x01; instruction = 0xB2 }
naming Search = record { bit = 0x01; instruction = 0xA2 }
naming UpdateBinary = record { bit = 0x02; instruction = 0xD6 }
naming UpdateRecord = record { bit = 0x02; instruction = 0xDC }
naming Increase = record { bit = 0; instruction = 0x32 }
naming Deactivate = record { bit = 0x08; instruction = 0x04 }
naming Activate = record { bit = 0x10; instruction = 0x44 }

-- what an access mode object names: operations by an access mode byte, or one by its instruction byte
pub data Mode : Type 0 where
  by_bits : ℕ → Mode
  by_instruction : ℕ → Mode

-- 80 for an access mode byte, 84 for an instruction byte
abbrev pub mode_tag : Mode → ℕ
mode_tag (by_bits bits) = 0x80
mode_tag (by_instruction instruction) = 0x84

-- the one byte of an access mode object
abbrev pub mode_value : Mode → List ℕ
mode_value (by_bits bits) = bits ∷ []
mode_value (by_instruction instruction) = instruction ∷ []

-- the mode names the operation: its bit is set in the access mode byte, or the instruction byte is its own
abbrev pub names : Mode → Op → Bool
names (by_bits bits) op = not (bit_and bits (naming op).bit == 0)
names (by_instruction instruction) op = instruction == (naming op).instruction

-- an access mode, and the condition under which it is allowed
pub record Pair : Type 0 where
  pub mode : Mode
  pub condition : Condition

-- the two objects of a pair: its access mode, and its condition
abbrev pub spelled_pair : Pair → List ℕ
spelled_pair pair = object (mode_tag pair.mode) (mode_value pair.mode) ++ condition_object pair.condition

-- a pair that names the operation and whose condition holds
abbrev pub pair_grants : Op → Verified → Pair → Bool
pair_grants op seen pair = names pair.mode op && holds pair.condition seen

-- the bytes are these pairs, each with A0 and AF at most four levels deep, followed by so many bytes FF
pub record IsRecord (pairs : List Pair) (filling : ℕ) (bytes : List ℕ) : Type 0 where
  pub proper : All (λ pair. IsProper pair.condition 4) pairs
  pub spelled : bytes ≡ flat_map spelled_pair pairs ++ replicate filling 0xFF

-- a rule allows an operation: it has the form of a record, and some pair that names the operation has a condition that
-- holds
pub record IsGranted (rule : List ℕ) (op : Op) (seen : Verified) : Type 0 where
  pub pairs : List Pair
  pub filling : ℕ
  pub form : IsRecord pairs filling rule
  pub granted : IsTrue (list_any (pair_grants op seen) pairs)

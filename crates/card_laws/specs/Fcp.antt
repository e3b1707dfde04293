-- How file control parameters are read back: BER-TLV objects, one after the other (ISO 7816-4, 5.2.2), and those that tell of a file (ETSI
-- TS 102 221, 11.1.1.3).
use Rattle.std.specs.Prelude.{ℕ, zero, suc, ◌*◌, ◌==◌, if◌then◌else◌, List, [], ◌∷◌, ◌++◌, length, map, Option, Some, None, option_map, option_and_then}
use Rattle.std.specs.Int.{to_be_bytes, w16}
use Rattle.card_state.specs.Persistent.{Pin}
use Rattle.access_rules.specs.Reading.{part_in}
use Rattle.file_model.specs.Fcp.{enabled_bits, kind_bytes}
use Rattle.file_model.specs.Files.{is_df}
use Rattle.file_model.specs.declared.descriptors.Descriptor.{Descriptor}
use Rattle.file_model.specs.declared.descriptors.RuleReference.{RuleReference}

-- ---- objects

-- a tag and a value
abbrev pub Object : Type 0
Object = ℕ × List ℕ

-- the objects that these bytes are, at most so many
abbrev pub objects_within : ℕ → List ℕ → Option (List Object)
objects_within most [] = Some []
objects_within zero (byte ∷ bytes) = None
objects_within (suc most) (byte ∷ bytes) = option_and_then (λ part. option_map (λ others. (part.tag, part.value) ∷ others) (objects_within most part.rest)) (part_in (byte ∷ bytes))

-- all of them; None where these bytes are no objects
unfoldable pub objects_in : List ℕ → Option (List Object)
objects_in bytes = objects_within (length bytes) bytes

-- ---- what is told of a file

-- the reference to the rule, if there is one
abbrev pub rule_told : Option RuleReference → List Object
rule_told None = []
rule_told (Some rule) = (0x8B, to_be_bytes w16 rule.arr.0 ++ rule.number ∷ []) ∷ []

-- the short file identifier in the upper five bits, or nothing where there is none
abbrev pub short_told : Descriptor → List ℕ
short_told file = if file.short == 0 then [] else file.short * 8 ∷ []

-- which PINs are enabled, and the key of each
abbrev pub pins_told : List Pin → List Object
pins_told pins = (0x90, enabled_bits 0x80 pins ∷ []) ∷ map (λ pin. (0x83, pin.key ∷ [])) pins

-- the file descriptor, the identifier, the life cycle status, and the rule; of an EF also its size and its short file identifier, and of a DF
-- the PINs, in an object of their own
abbrev pub file_told : List ℕ → Descriptor → List Object
file_told pins file =
    (0x82, kind_bytes file)
    ∷ (0x83, to_be_bytes w16 file.id.0)
    ∷ (0x8A, file.life ∷ [])
    ∷ (rule_told file.rule ++ (if is_df file then (0xC6, pins) ∷ [] else (0x80, to_be_bytes w16 file.size) ∷ (0x88, short_told file) ∷ []))

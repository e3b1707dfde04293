-- The file control parameters that SELECT and STATUS answer (ETSI TS 102 221, 11.1.1.3).
use Rattle.std.specs.Prelude.{ℕ, ◌+◌, ◌*◌, ◌/◌, ◌==◌, if◌then◌else◌, List, [], ◌∷◌, ◌++◌, Option, Some, None}
use Rattle.std.specs.List.{flat_map}
use Rattle.std.specs.Int.{to_be_bytes, w16}
use Rattle.card_state.specs.Kinds.{has_records}
use Rattle.card_state.specs.Persistent.{Pin}
use Rattle.access_rules.specs.Objects.{object}
use Rattle.file_model.specs.declared.descriptors.Descriptor.{Descriptor}
use Rattle.file_model.specs.declared.descriptors.RuleReference.{RuleReference}
use Rattle.file_model.specs.Files.{is_df}

-- the file descriptor: its kind and the data coding byte; with records also their length and their number (11.1.1.4.3)
abbrev pub kind_bytes : Descriptor → List ℕ
kind_bytes file = if has_records file.kind then file.kind ∷ 0x21 ∷ to_be_bytes w16 file.width ++ file.count ∷ [] else file.kind ∷ 0x21 ∷ []

-- the reference to the rule, if there is one (11.1.1.4.7)
abbrev pub rule_object : Option RuleReference → List ℕ
rule_object None = []
rule_object (Some rule) = object 0x8B (to_be_bytes w16 rule.arr.0 ++ rule.number ∷ [])

-- which of the PINs that are there are enabled: one bit each, from b8 on
abbrev pub enabled_bits : ℕ → List Pin → ℕ
enabled_bits weight [] = 0
enabled_bits weight (pin ∷ pins) = (if pin.is_enabled then weight else 0) + enabled_bits (weight / 2) pins

-- the PIN status template of a DF: which are enabled, and then the key of each (11.1.1.4.10)
abbrev pub pin_object : List Pin → List ℕ
pin_object pins = object 0xC6 (object 0x90 (enabled_bits 0x80 pins ∷ []) ++ flat_map (λ pin. object 0x83 (pin.key ∷ [])) pins)

-- the short file identifier in the upper five bits, or nothing where there is none (11.1.1.4.8)
abbrev pub short_object : Descriptor → List ℕ
short_object file = object 0x88 (if file.short == 0 then [] else file.short * 8 ∷ [])

-- what a DF tells besides: the PIN status
abbrev pub df_objects : List Pin → List ℕ
df_objects pins = pin_object pins

-- what an EF tells besides: its size (11.1.1.4.1) and its short file identifier
abbrev pub ef_objects : Descriptor → List ℕ
ef_objects file = object 0x80 (to_be_bytes w16 file.size) ++ short_object file

-- the FCP template: the file descriptor, the identifier, the life cycle status (11.1.1.4.9), the reference to the rule, and what a DF or an EF tells
-- besides
unfoldable pub fcp : List Pin → Descriptor → List ℕ
fcp pins file =
    object 0x62 (
    object 0x82 (kind_bytes file)
    ++ object 0x83 (to_be_bytes w16 file.id.0)
    ++ object 0x8A (file.life ∷ [])
    ++ rule_object file.rule
    ++ (if is_df file then df_objects pins else ef_objects file))

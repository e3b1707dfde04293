-- What CREATE FILE asks for, and how it is written (ETSI TS 102 222, 6.3): the file control parameters of the new file
-- (TS 102 221, 11.1.1.4), without the life cycle status and the PIN status.
use Rattle.std.specs.Prelude.{ℕ, ◌+◌, ◌*◌, ◌/◌, ◌^◌, ◌<◌, ◌==◌, ◌&&◌, nat_le, Bool, true, if◌then◌else◌, List, [], ◌∷◌, ◌++◌, slice_index, Option, Some, None, ⊤}
use Rattle.std.specs.Str.{bytes_eq}
use Rattle.uicc_types.specs.declared.identifiers.FileId.{FileId}
use Rattle.card_state.specs.declared.shapes.Shape.{Shape}
use Rattle.card_state.specs.declared.shapes.Shape.TheVariants.{Transparent, Linear, Cyclic}
use Rattle.card_state.specs.declared.sizes.TheConstants.{RECORD_LIMIT}
use Rattle.card_state.specs.Kinds.{df_kind, transparent_kind, linear_kind, cyclic_kind, has_records}
use Rattle.card_state.specs.Checks.{is_free_id}
use Rattle.card_state.specs.Decoding.{number_at}
use Rattle.card_state.specs.Sections.{size_of, is_shape}
use Rattle.card_state.specs.Numbers.{two_bytes}
use Rattle.access_rules.specs.Objects.{object}
use Rattle.file_model.specs.declared.descriptors.RuleReference.{RuleReference}
use Rattle.file_model.specs.Fcp.{rule_object}
use Rattle.file_model.specs.declared.asked.NewFile.{NewFile}
use Rattle.file_model.specs.declared.asked.NewFile.TheVariants.{Df, Ef}

-- ---- how it is written

-- the file descriptor of a DF: its kind and the data coding byte (11.1.1.4.3)
abbrev pub df_kind_bytes : List ℕ
df_kind_bytes = df_kind ∷ 0x21 ∷ []

-- the file descriptor of an EF: its kind and the data coding byte; with records also their length and their number (11.1.1.4.3)
abbrev pub ef_kind_bytes : Shape → List ℕ
ef_kind_bytes (Transparent size) = transparent_kind ∷ 0x21 ∷ []
ef_kind_bytes (Linear width count) = linear_kind ∷ 0x21 ∷ 0x00 ∷ width ∷ count ∷ []
ef_kind_bytes (Cyclic width count) = cyclic_kind ∷ 0x21 ∷ 0x00 ∷ width ∷ count ∷ []

-- the short file identifier in the upper five bits, or nothing where there is none (11.1.1.4.8)
abbrev pub short_value : ℕ → List ℕ
short_value short = if short == 0 then [] else short * 8 ∷ []

-- the file descriptor and the identifier; of an EF also the rule, if it has one, the size, and the short file identifier
abbrev pub template_objects : NewFile → List ℕ
template_objects (Df id) = object 0x82 df_kind_bytes ++ object 0x83 (two_bytes id.0)
template_objects (Ef id shape short rule) =
    object 0x82 (ef_kind_bytes shape) ++ object 0x83 (two_bytes id.0) ++ rule_object rule ++ object 0x80 (two_bytes (size_of shape)) ++ object 0x88 (short_value short)

-- the FCP template that asks for this file
unfoldable pub template : NewFile → List ℕ
template file = object 0x62 (template_objects file)

-- ---- which files may be asked for

-- a record of the EF_ARR that can be named
abbrev pub may_rule : Option RuleReference → Bool
may_rule None = true
may_rule (Some rule) = nat_le 1 rule.number && nat_le rule.number RECORD_LIMIT

-- the length of a record is told by one byte
abbrev pub has_short_records : Shape → Bool
has_short_records (Transparent size) = true
has_short_records (Linear width count) = nat_le width 0xFF
has_short_records (Cyclic width count) = nat_le width 0xFF

-- an identifier that a file other than the MF may have, a structure with bytes, a short file identifier of 1 to 30 or none
abbrev pub may_be_made : NewFile → Bool
may_be_made (Df id) = is_free_id id.0
may_be_made (Ef id shape short rule) = is_free_id id.0 && is_shape shape && has_short_records shape && nat_le short 30 && may_rule rule

-- its numbers fit where they are written
abbrev pub IsShortRule : Option RuleReference → Type 0
IsShortRule None = ⊤
IsShortRule (Some rule) = rule.arr.0 < 2 ^ 16

-- the numbers that are asked for fit into their bytes
abbrev pub IsInRange : NewFile → Type 0
IsInRange (Df id) = id.0 < 2 ^ 16
IsInRange (Ef id shape short rule) = (id.0 < 2 ^ 16) × IsShortRule rule

-- ---- how it is read

-- after the file descriptor, of five bytes where there are records and else of two, the identifier stands here
abbrev pub id_place : List ℕ → ℕ
id_place bytes = if has_records (slice_index bytes 4) then 11 else 8

-- a rule stands after the identifier
abbrev pub has_rule : List ℕ → ℕ → Bool
has_rule bytes behind = slice_index bytes behind == 0x8B

-- the rule, where one stands after the identifier: its EF_ARR and the number of its record
abbrev pub rule_told : List ℕ → ℕ → Option RuleReference
rule_told bytes behind = if has_rule bytes behind then Some (record { arr = record { 0 = number_at bytes (behind + 2) }; number = slice_index bytes (behind + 4) }) else None

-- and then the size
abbrev pub size_place : List ℕ → ℕ → ℕ
size_place bytes behind = if has_rule bytes behind then behind + 7 else behind + 2

-- the structure, by the file descriptor: with records their length and number stand there, and else the size at this place
abbrev pub shape_told : List ℕ → ℕ → Shape
shape_told bytes at =
    if slice_index bytes 4 == linear_kind then Linear (slice_index bytes 7) (slice_index bytes 8)
    else if slice_index bytes 4 == cyclic_kind then Cyclic (slice_index bytes 7) (slice_index bytes 8)
    else Transparent (number_at bytes at)

-- and after its two bytes the short file identifier
abbrev pub short_told : List ℕ → ℕ → ℕ
short_told bytes at = if slice_index bytes (at + 3) == 0 then 0 else slice_index bytes (at + 4) / 8

-- what the bytes at these places say, whether they are a template or not
unfoldable pub new_file_told : List ℕ → NewFile
new_file_told bytes =
    let id : FileId = record { 0 = number_at bytes (id_place bytes) } in
    let behind : ℕ = id_place bytes + 2 in
    if slice_index bytes 4 == df_kind then Df id else Ef id (shape_told bytes (size_place bytes behind)) (short_told bytes (size_place bytes behind)) (rule_told bytes behind)

-- the file that these bytes ask for: they are written just as its template is, and it may be asked for
unfoldable pub asked_in : List ℕ → Option NewFile
asked_in bytes = if may_be_made (new_file_told bytes) && bytes_eq (template (new_file_told bytes)) bytes then Some (new_file_told bytes) else None

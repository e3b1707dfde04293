-- Who may do what with a file (ETSI TS 102 221, 9.2 and 9.5).
use Rattle.std.specs.Prelude.{ℕ, zero, suc, ◌==◌, ◌-◌, not, ◌&&◌, ◌||◌, Bool, true, false, if◌then◌else◌, List, [], ◌∷◌, filter, slice_get, Option, Some, None, option_and_then}
use Rattle.std.specs.List.{flat_map, list_any}
use Rattle.uicc_types.specs.declared.identifiers.FileId.{FileId}
use Rattle.uicc_types.specs.declared.keys.TheConstants.{PIN_1, PIN_2, ADM_1}
use Rattle.card_state.specs.Kinds.{linear_kind}
use Rattle.card_state.specs.Persistent.{Pin, Persistent}
use Rattle.access_rules.specs.Reading.{grants}
use Rattle.access_rules.specs.declared.rules.Op.{Op}
use Rattle.access_rules.specs.declared.rules.Verified.{Verified}
use Rattle.file_model.specs.declared.descriptors.Descriptor.{Descriptor}
use Rattle.file_model.specs.declared.descriptors.RuleReference.{RuleReference}
use Rattle.file_model.specs.declared.descriptors.Wanted.TheVariants.{ChildEf}
use Rattle.file_model.specs.Files.{is_wanted, descriptors_in}
use Rattle.file_model.specs.Selections.{parent_of}
use Rattle.file_model.specs.Holdings.{records_in}

-- ---- keys

-- The condition of a key is satisfied: the PIN is there, and it is verified or disabled.
abbrev pub meets_condition : List Pin → ℕ → Bool → Bool
meets_condition pins key verified = list_any (λ pin. pin.key == key && (verified || not pin.is_enabled)) pins

-- the keys whose conditions are satisfied, where these are verified
unfoldable pub keys_seen : List Pin → Verified → Verified
keys_seen pins verified = record {
  pin1 = meets_condition pins PIN_1 verified.pin1;
  pin2 = meets_condition pins PIN_2 verified.pin2;
  adm1 = meets_condition pins ADM_1 verified.adm1;
}

-- ---- the record that rules a file

-- a DF and those above it, the nearest first; at most so many are above it
abbrev pub dfs_from : List Descriptor → ℕ → ℕ → List ℕ
dfs_from files zero df = df ∷ []
dfs_from files (suc levels) df = if df == 0 then df ∷ [] else df ∷ dfs_from files levels (parent_of files df)

-- the EFs with this identifier in a DF and in those above it, the nearest first (9.2.7)
abbrev pub efs_above : List Descriptor → ℕ → FileId → List Descriptor
efs_above files df id = flat_map (λ above. filter (is_wanted (ChildEf above id)) files) (dfs_from files df df)

-- the nearest of them
unfoldable pub arr_found : List Descriptor → ℕ → FileId → Option Descriptor
arr_found files df id = slice_get (efs_above files df id) 0

-- a record by its number, which counts from 1 on
abbrev pub record_numbered : List (List ℕ) → ℕ → Option (List ℕ)
record_numbered records number = if number == 0 then None else slice_get records (number - 1)

-- the record that rules a file: that of the nearest EF_ARR, which has to be linear fixed
unfoldable pub ruling_record : Persistent → Descriptor → RuleReference → Option (List ℕ)
ruling_record state file rule =
    option_and_then
    (λ arr. if arr.kind == linear_kind then record_numbered (records_in state arr.number) rule.number else None)
    (arr_found (descriptors_in state) file.parent rule.arr)

-- ---- access

-- a record that isn't there allows nothing
abbrev pub granted_by : Option (List ℕ) → Op → Verified → Bool
granted_by None op seen = false
granted_by (Some rule) op seen = grants rule op seen

-- a file without a rule may be used by everybody
abbrev pub allowed_by : Persistent → Descriptor → Option RuleReference → Op → Verified → Bool
allowed_by state file None op seen = true
allowed_by state file (Some rule) op seen = granted_by (ruling_record state file rule) op seen

-- this may be done with the file, where these keys' conditions are satisfied
unfoldable pub may : Persistent → Op → Verified → Descriptor → Bool
may state op seen file = allowed_by state file file.rule op seen

-- What commands on files are refused for (ETSI TS 102 221, 11.1.1 to 11.1.8, 11.1.14 and 11.1.15; ETSI TS 102 222, 6.3, 6.4 and 6.10): each
-- condition with its status, in the order in which they are tested.
use Rattle.std.specs.Prelude.{ℕ, ◌+◌, ◌^◌, ◌==◌, not, nat_lt, nat_le, Bool, List, [], ◌∷◌, length, Option, Some, None, is_none, unwrap_or}
use Rattle.uicc_types.specs.declared.answers.StatusWord.{StatusWord}
use Rattle.uicc_types.specs.declared.answers.TheConstants.StatusWord.{CONDITIONS_NOT_SATISFIED, FILE_ALREADY_THERE, FILE_NOT_FOUND, NO_CURRENT_FILE, NO_ROOM, OVERFLOW, RECORD_NOT_FOUND, SECURITY_NOT_SATISFIED, WRONG_DATA, WRONG_LENGTH, WRONG_OFFSET, WRONG_PARAMETERS, WRONG_STRUCTURE}
use Rattle.apdu_form.specs.Model.{Apdu}
use Rattle.card_state.specs.Kinds.{transparent_kind, has_records}
use Rattle.card_state.specs.Persistent.{Persistent}
use Rattle.access_rules.specs.declared.rules.Op.{Op}
use Rattle.access_rules.specs.declared.rules.Op.TheVariants.{ReadBinary, UpdateBinary, ReadRecord, UpdateRecord, Search, Increase}
use Rattle.access_rules.specs.declared.rules.Verified.{Verified}
use Rattle.file_model.specs.Creating.{is_there, made_in}
use Rattle.file_model.specs.Deleting.{is_in_use}
use Rattle.file_model.specs.TreeOutcomes.{child_named, df_on}
use Rattle.file_model.specs.Resizing.{has_no_room, may_have, size_asked}
use Rattle.file_model.specs.Templates.{asked_in}
use Rattle.file_model.specs.Access.{may}
use Rattle.file_model.specs.Binaries.{has_binary_parameters, offset_of, short_in_p1}
use Rattle.file_model.specs.Files.{descriptors_in, file_found}
use Rattle.apdu_form.specs.Fields.{has_no_parameters, has_data, has_le_alone, has_no_data}
use Rattle.file_model.specs.Outcomes.{is_deactivated, pointer_before}
use Rattle.file_model.specs.Records.{absolute_record, has_increase_length, has_increase_parameters, has_record_parameters, has_search_parameters, is_record_length, may_be_increased, may_be_updated, number_updated, other_length, record_named, short_in_p2, short_to_increase, sum_of}
use Rattle.file_model.specs.Selecting.{has_select_length, has_select_parameters, has_status_parameters}
use Rattle.file_model.specs.Selections.{chosen, current_ef}
use Rattle.file_model.specs.declared.descriptors.Descriptor.{Descriptor}
use Rattle.file_model.specs.declared.descriptors.Wanted.TheVariants.{Number, Short}
use Rattle.file_model.specs.declared.selections.Selection.{Selection}

-- where this is so, a command is refused with this status
abbrev pub Refusal : Type 0
Refusal = Bool × StatusWord

-- ---- the file that a command works on

-- with a short file identifier the EF of the current DF that has it, or else the current EF
abbrev pub file_meant : Persistent → Selection → Option ℕ → Option Descriptor
file_meant state selection None = current_ef (descriptors_in state) selection
file_meant state selection (Some short) = file_found (descriptors_in state) (Short selection.df short)

-- the status where no EF is addressed: no current EF (6986), or none with the short file identifier (6A82)
abbrev pub without_file : Option ℕ → StatusWord
without_file None = NO_CURRENT_FILE
without_file (Some short) = FILE_NOT_FOUND

-- what a command is refused for by what was found; nothing more where there is none
abbrev pub of_found : {X : Type 0} → Option X → (X → List Refusal) → List Refusal
of_found None refusals = []
of_found (Some x) refusals = refusals x

-- there is no such file; or else what it refuses
abbrev pub of_file : Persistent → Selection → Option ℕ → (Descriptor → List Refusal) → List Refusal
of_file state selection short refusals = (is_none (file_meant state selection short), without_file short) ∷ of_found (file_meant state selection short) refusals

-- ---- commands on what a file holds

-- READ BINARY (11.1.3)
abbrev pub refusals_of_read_binary : Persistent → Verified → Selection → Apdu → List Refusal
refusals_of_read_binary state seen selection apdu =
    (not (has_binary_parameters apdu), WRONG_PARAMETERS)
    ∷ (not (has_le_alone apdu), WRONG_LENGTH)
    ∷ of_file state selection (short_in_p1 apdu) (λ file.
    (not (file.kind == transparent_kind), WRONG_STRUCTURE)
    ∷ (is_deactivated file, CONDITIONS_NOT_SATISFIED)
    ∷ (not (may state ReadBinary seen file), SECURITY_NOT_SATISFIED)
    ∷ (nat_le file.size (offset_of apdu), WRONG_OFFSET)
    ∷ [])

-- UPDATE BINARY (11.1.4)
abbrev pub refusals_of_update_binary : Persistent → Verified → Selection → Apdu → List Refusal
refusals_of_update_binary state seen selection apdu =
    (not (has_binary_parameters apdu), WRONG_PARAMETERS)
    ∷ (not (has_data apdu), WRONG_LENGTH)
    ∷ of_file state selection (short_in_p1 apdu) (λ file.
    (not (file.kind == transparent_kind), WRONG_STRUCTURE)
    ∷ (is_deactivated file, CONDITIONS_NOT_SATISFIED)
    ∷ (not (may state UpdateBinary seen file), SECURITY_NOT_SATISFIED)
    ∷ (nat_lt file.size (offset_of apdu + length apdu.body), WRONG_OFFSET)
    ∷ [])

-- READ RECORD (11.1.5)
abbrev pub refusals_of_read_record : Persistent → Verified → Selection → Apdu → List Refusal
refusals_of_read_record state seen selection apdu =
    (not (has_record_parameters apdu), WRONG_PARAMETERS)
    ∷ (not (has_le_alone apdu), WRONG_LENGTH)
    ∷ of_file state selection (short_in_p2 apdu) (λ file.
    (not (has_records file.kind), WRONG_STRUCTURE)
    ∷ (is_deactivated file, CONDITIONS_NOT_SATISFIED)
    ∷ (not (may state ReadRecord seen file), SECURITY_NOT_SATISFIED)
    ∷ (is_none (record_named file apdu (pointer_before selection (short_in_p2 apdu))), RECORD_NOT_FOUND)
    ∷ (not (is_record_length file (unwrap_or apdu.expected 0)), other_length file.width)
    ∷ [])

-- UPDATE RECORD (11.1.6)
abbrev pub refusals_of_update_record : Persistent → Verified → Selection → Apdu → List Refusal
refusals_of_update_record state seen selection apdu =
    (not (has_record_parameters apdu), WRONG_PARAMETERS)
    ∷ (not (has_data apdu), WRONG_LENGTH)
    ∷ of_file state selection (short_in_p2 apdu) (λ file.
    (not (may_be_updated file apdu), WRONG_STRUCTURE)
    ∷ (is_deactivated file, CONDITIONS_NOT_SATISFIED)
    ∷ (not (may state UpdateRecord seen file), SECURITY_NOT_SATISFIED)
    ∷ (is_none (number_updated file apdu (pointer_before selection (short_in_p2 apdu))), RECORD_NOT_FOUND)
    ∷ (not (length apdu.body == file.width), WRONG_LENGTH)
    ∷ [])

-- SEARCH RECORD (11.1.7)
abbrev pub refusals_of_search_record : Persistent → Verified → Selection → Apdu → List Refusal
refusals_of_search_record state seen selection apdu =
    (not (has_search_parameters apdu), WRONG_PARAMETERS)
    ∷ (not (has_data apdu), WRONG_LENGTH)
    ∷ of_file state selection (short_in_p2 apdu) (λ file.
    (not (has_records file.kind), WRONG_STRUCTURE)
    ∷ (is_deactivated file, CONDITIONS_NOT_SATISFIED)
    ∷ (not (may state Search seen file), SECURITY_NOT_SATISFIED)
    ∷ (is_none (absolute_record file apdu.p1 (pointer_before selection (short_in_p2 apdu))), RECORD_NOT_FOUND)
    ∷ (nat_lt file.width (length apdu.body), WRONG_LENGTH)
    ∷ [])

-- INCREASE (11.1.8)
abbrev pub refusals_of_increase : Persistent → Verified → Selection → Apdu → List Refusal
refusals_of_increase state seen selection apdu =
    (not (has_increase_parameters apdu), WRONG_PARAMETERS)
    ∷ (not (has_increase_length apdu), WRONG_LENGTH)
    ∷ of_file state selection (short_to_increase apdu) (λ file.
    (not (may_be_increased file), WRONG_STRUCTURE)
    ∷ (is_deactivated file, CONDITIONS_NOT_SATISFIED)
    ∷ (not (may state Increase seen file), SECURITY_NOT_SATISFIED)
    ∷ (nat_lt file.width (length apdu.body), WRONG_LENGTH)
    ∷ (nat_le (256 ^ file.width) (sum_of state file apdu), OVERFLOW)
    ∷ [])

-- ---- commands that select a file, or tell of one

-- SELECT (11.1.1)
abbrev pub refusals_of_select : Persistent → Verified → Selection → Apdu → List Refusal
refusals_of_select state seen selection apdu =
    (not (has_select_parameters apdu), WRONG_PARAMETERS)
    ∷ (not (has_select_length apdu), WRONG_LENGTH)
    ∷ (is_none (chosen (descriptors_in state) selection apdu), FILE_NOT_FOUND)
    ∷ []

-- on a good card
abbrev pub refusals_of_status : Persistent → Verified → Selection → Apdu → List Refusal
refusals_of_status state seen selection apdu =
    (not (has_status_parameters apdu), WRONG_PARAMETERS)
    ∷ (not (has_no_data apdu), WRONG_LENGTH)
    ∷ []

-- Beside these STATUS is refused where the current DF isn't there, which is so on no good card.
abbrev pub without_current_df : Persistent → Selection → List Refusal
without_current_df state selection = (is_none (file_found (descriptors_in state) (Number selection.df)), FILE_NOT_FOUND) ∷ []

-- ---- commands on the life cycle of a file

-- of DEACTIVATE FILE and of ACTIVATE FILE, each with what a rule has to let be done
abbrev pub refusals_of_life_cycle : Op → Persistent → Verified → Selection → Apdu → List Refusal
refusals_of_life_cycle op state seen selection apdu =
    (not (has_no_parameters apdu), WRONG_PARAMETERS)
    ∷ (not (has_no_data apdu), WRONG_LENGTH)
    ∷ of_file state selection None (λ file.
    (not (may state op seen file), SECURITY_NOT_SATISFIED)
    ∷ [])

-- ---- commands that make, delete and resize files, on a channel

-- CREATE FILE (TS 102 222, 6.3)
abbrev pub refusals_of_create : Persistent → Verified → List (Option Selection) → ℕ → Apdu → List Refusal
refusals_of_create state seen channels channel apdu =
    (not (has_no_parameters apdu), WRONG_PARAMETERS)
    ∷ (not (has_data apdu), WRONG_LENGTH)
    ∷ (not seen.adm1, SECURITY_NOT_SATISFIED)
    ∷ (is_none (asked_in apdu.body), WRONG_DATA)
    ∷ of_found (asked_in apdu.body) (λ asked.
    (is_there (descriptors_in state) (df_on channels channel) asked, FILE_ALREADY_THERE)
    ∷ (is_none (made_in state (df_on channels channel) asked), NO_ROOM)
    ∷ [])

-- the file of the channel's current DF that the command names
abbrev pub child_of : Persistent → List (Option Selection) → ℕ → Apdu → Option Descriptor
child_of state channels channel apdu = child_named (descriptors_in state) (df_on channels channel) apdu.body

-- DELETE FILE (TS 102 222, 6.4)
abbrev pub refusals_of_delete : Persistent → Verified → List (Option Selection) → ℕ → Apdu → List Refusal
refusals_of_delete state seen channels channel apdu =
    (not (has_no_parameters apdu), WRONG_PARAMETERS)
    ∷ (not (length apdu.body == 2), WRONG_LENGTH)
    ∷ (is_none (child_of state channels channel apdu), FILE_NOT_FOUND)
    ∷ of_found (child_of state channels channel apdu) (λ file.
    (not seen.adm1, SECURITY_NOT_SATISFIED)
    ∷ (is_in_use (descriptors_in state) channels file, CONDITIONS_NOT_SATISFIED)
    ∷ [])

-- RESIZE FILE (TS 102 222, 6.10)
abbrev pub refusals_of_resize : Persistent → Verified → List (Option Selection) → ℕ → Apdu → List Refusal
refusals_of_resize state seen channels channel apdu =
    (not (has_no_parameters apdu), WRONG_PARAMETERS)
    ∷ (not (length apdu.body == 4), WRONG_LENGTH)
    ∷ (is_none (child_of state channels channel apdu), FILE_NOT_FOUND)
    ∷ of_found (child_of state channels channel apdu) (λ file.
    (not (file.kind == transparent_kind), WRONG_STRUCTURE)
    ∷ (is_deactivated file, CONDITIONS_NOT_SATISFIED)
    ∷ (not seen.adm1, SECURITY_NOT_SATISFIED)
    ∷ (not (may_have (size_asked apdu)), WRONG_DATA)
    ∷ (has_no_room state (size_asked apdu) file, NO_ROOM)
    ∷ [])

-- RESIZE FILE (ETSI TS 102 222, 6.10) of a transparent EF.
use Rattle.std.specs.Prelude.{ℕ, ◌-◌, ◌==◌, ◌&&◌, nat_lt, nat_le, Bool, if◌then◌else◌, List, [], ◌∷◌, ◌++◌, length, take, replicate, Option, is_none, option_map, unwrap_or, Result, Ok}
use Rattle.uicc_types.specs.declared.answers.StatusWord.{StatusWord}
use Rattle.uicc_types.specs.declared.answers.TheConstants.StatusWord.{WRONG_PARAMETERS, WRONG_LENGTH, FILE_NOT_FOUND, WRONG_STRUCTURE, CONDITIONS_NOT_SATISFIED, SECURITY_NOT_SATISFIED, WRONG_DATA, NO_ROOM}
use Rattle.apdu_form.specs.Model.{Apdu}
use Rattle.card_state.specs.declared.sizes.TheConstants.{SIZE_LIMIT}
use Rattle.card_state.specs.Changes.{FitFile}
use Rattle.card_state.specs.Decoding.{number_at}
use Rattle.card_state.specs.Kinds.{transparent_kind}
use Rattle.card_state.specs.Persistent.{Contents, Files, Bytes, Records, File, Persistent}
use Rattle.card_state.specs.Changing.{with_file_at}
use Rattle.card_state.specs.StateLaws.{file_with_number}
use Rattle.access_rules.specs.declared.rules.Verified.{Verified}
use Rattle.file_model.specs.declared.descriptors.Descriptor.{Descriptor}
use Rattle.file_model.specs.declared.selections.Selection.{Selection}
use Rattle.file_model.specs.Chains.{refused_if, given, needs}
use Rattle.file_model.specs.Files.{descriptors_in}
use Rattle.apdu_form.specs.Fields.{has_no_parameters}
use Rattle.file_model.specs.Outcomes.{is_deactivated}
use Rattle.file_model.specs.TreeOutcomes.{TreeOutcome, df_on, child_named}
use Rattle.file_model.specs.Rooms.{room_at}

-- after the identifier
abbrev pub size_asked : Apdu → ℕ
size_asked apdu = number_at apdu.body 2

-- a size that a transparent EF may have: 1 to 32,767 bytes
abbrev pub may_have : ℕ → Bool
may_have size = nat_le 1 size && nat_le size SIZE_LIMIT

-- ---- the file afterwards

-- so many bytes: those that there were, as far as there is room for them, and then FF
abbrev pub refitted : ℕ → List ℕ → List ℕ
refitted size bytes = take size bytes ++ replicate (size - length bytes) 0xFF

-- a transparent EF with so many bytes; any other stays as it is
abbrev pub contents_refitted : ℕ → Contents → Contents
contents_refitted size Files = Files
contents_refitted size (Bytes bytes) = Bytes (refitted size bytes)
contents_refitted size (Records records) = Records records

-- a file that grows moves to where there is room for all of its bytes
abbrev pub has_no_room : Persistent → ℕ → Descriptor → Bool
has_no_room state size file = nat_lt file.size size && is_none (room_at state size)

-- the file with another size: where it was, or where there is room for it if it grows
abbrev pub file_resized : Option ℕ → ℕ → File → File
file_resized room size file = record file {
  place = if nat_lt file.size size then unwrap_or room file.place else file.place;
  size = size;
  contents = contents_refitted size file.contents;
}

-- ---- the command

-- nothing is committed where the file has so many bytes already
unfoldable pub resizing : Persistent → List (Option Selection) → ℕ → Descriptor → TreeOutcome
resizing state channels size file = record {
  channels = channels;
  passed = if file.size == size then [] else with_file_at state file.number (option_map (file_resized (room_at state size) size) (file_with_number state file.number)) ∷ [];
  changes = if file.size == size then [] else FitFile file.number (option_map (file_resized (room_at state size) size) (file_with_number state file.number)) ∷ [];
}

-- the command, where nothing but the lack of room can refuse it
abbrev pub resized_if_room : Persistent → List (Option Selection) → ℕ → Descriptor → Result TreeOutcome StatusWord
resized_if_room state channels size file = refused_if (has_no_room state size file) NO_ROOM (Ok (resizing state channels size file))

-- RESIZE FILE: what it comes to. Its data are the card's own, an identifier and a size. It is refused where P1 and P2 are not 00 (6A86), where the
-- data are not four bytes (6700) or name no file of the current DF (6A82), where the file is not transparent (6981) or is deactivated (6985), where
-- the condition of ADM1 is not satisfied (6982), where no file has that size (6A80), and where there is no room (6A84).
unfoldable pub resized : Persistent → Verified → List (Option Selection) → ℕ → Apdu → Result TreeOutcome StatusWord
resized state seen channels channel apdu =
    needs (has_no_parameters apdu) WRONG_PARAMETERS (
    needs (length apdu.body == 4) WRONG_LENGTH (
    given (child_named (descriptors_in state) (df_on channels channel) apdu.body) FILE_NOT_FOUND (λ file.
    needs (file.kind == transparent_kind) WRONG_STRUCTURE (
    refused_if (is_deactivated file) CONDITIONS_NOT_SATISFIED (
    needs seen.adm1 SECURITY_NOT_SATISFIED (
    needs (may_have (size_asked apdu)) WRONG_DATA (
    resized_if_room state channels (size_asked apdu) file)))))))

-- READ BINARY and UPDATE BINARY (ETSI TS 102 221, 11.1.3 and 11.1.4).
use Rattle.std.specs.Prelude.{ℕ, ◌+◌, ◌-◌, ◌*◌, ◌==◌, not, ◌&&◌, ◌||◌, nat_lt, nat_le, Bool, if◌then◌else◌, List, [], ◌∷◌, length, take, drop, Option, Some, None, unwrap_or, Result, Ok}
use Rattle.uicc_types.specs.declared.answers.StatusWord.{StatusWord}
use Rattle.uicc_types.specs.declared.answers.TheConstants.StatusWord.{DONE, END_OF_FILE, WRONG_PARAMETERS, WRONG_LENGTH, WRONG_STRUCTURE, CONDITIONS_NOT_SATISFIED, SECURITY_NOT_SATISFIED, WRONG_OFFSET}
use Rattle.apdu_form.specs.Model.{Apdu}
use Rattle.card_state.specs.Changes.{PutBytes}
use Rattle.card_state.specs.Kinds.{transparent_kind}
use Rattle.card_state.specs.Persistent.{Persistent}
use Rattle.card_state.specs.Changing.{with_bytes}
use Rattle.access_rules.specs.declared.rules.Op.TheVariants.{ReadBinary, UpdateBinary}
use Rattle.access_rules.specs.declared.rules.Verified.{Verified}
use Rattle.file_model.specs.declared.descriptors.Descriptor.{Descriptor}
use Rattle.file_model.specs.declared.selections.Selection.{Selection}
use Rattle.file_model.specs.Chains.{refused_if, and_given, needs}
use Rattle.file_model.specs.Files.{descriptors_in}
use Rattle.file_model.specs.Access.{may}
use Rattle.file_model.specs.Holdings.{bytes_in}
use Rattle.apdu_form.specs.Fields.{has_data, has_le_alone}
use Rattle.file_model.specs.Outcomes.{FileOutcome, addressed, is_deactivated, pointer_before, worked_on}

-- ---- which file, and where in it

-- b8 of P1 says that the other bits are 00 and a short file identifier
abbrev pub p1_has_short : ℕ → Bool
p1_has_short p1 = nat_le 0x80 p1

-- a short file identifier of 1 to 30, or no such bit
abbrev pub has_binary_parameters : Apdu → Bool
has_binary_parameters apdu = not (p1_has_short apdu.p1) || nat_le 0x81 apdu.p1 && nat_le apdu.p1 0x9E

-- the short file identifier in P1, where b8 says that there is one
abbrev pub short_in_p1 : Apdu → Option ℕ
short_in_p1 apdu = if p1_has_short apdu.p1 then Some (apdu.p1 - 0x80) else None

-- the offset: P2 after a short file identifier, else P1 and P2
abbrev pub offset_of : Apdu → ℕ
offset_of apdu = if p1_has_short apdu.p1 then apdu.p2 else apdu.p1 * 256 + apdu.p2

-- ---- before access is tested

-- the transparent EF that a command works on, or what refuses it; whether its data and Le are as they have to be is given
unfoldable pub binary_file : Bool → List Descriptor → Selection → Apdu → Result Descriptor StatusWord
binary_file has_length files selection apdu =
    needs (has_binary_parameters apdu) WRONG_PARAMETERS (
    needs has_length WRONG_LENGTH (
    and_given (addressed files selection (short_in_p1 apdu)) (λ file.
    needs (file.kind == transparent_kind) WRONG_STRUCTURE (
    refused_if (is_deactivated file) CONDITIONS_NOT_SATISFIED (
    Ok file)))))

-- the file of READ BINARY, which has a Le and no data, or what refuses it
abbrev pub binary_to_read : List Descriptor → Selection → Apdu → Result Descriptor StatusWord
binary_to_read files selection apdu = binary_file (has_le_alone apdu) files selection apdu

-- the file of UPDATE BINARY, which has data, or what refuses it
abbrev pub binary_to_update : List Descriptor → Selection → Apdu → Result Descriptor StatusWord
binary_to_update files selection apdu = binary_file (has_data apdu) files selection apdu

-- ---- READ BINARY

-- Le bytes from the offset on; fewer at the end of the file, with a warning unless as many as there are were asked for
unfoldable pub reading : Persistent → Selection → Apdu → Descriptor → ℕ → FileOutcome
reading state selection apdu file count =
    let bytes = take count (drop (offset_of apdu) (bytes_in state file.number)) in
    record {
      body = bytes;
      status = if count == 256 || length bytes == count then DONE else END_OF_FILE;
      selection = worked_on selection file (pointer_before selection (short_in_p1 apdu));
      passed = [];
      changes = [];
    }

-- from the test of access on
unfoldable pub read_from : Persistent → Verified → Selection → Apdu → Descriptor → Result FileOutcome StatusWord
read_from state seen selection apdu file =
    needs (may state ReadBinary seen file) SECURITY_NOT_SATISFIED (
    refused_if (nat_le file.size (offset_of apdu)) WRONG_OFFSET (
    Ok (reading state selection apdu file (unwrap_or apdu.expected 0))))

-- READ BINARY: what it comes to, or its refusal
unfoldable pub binary_read : Persistent → Verified → Selection → Apdu → Result FileOutcome StatusWord
binary_read state seen selection apdu = and_given (binary_to_read (descriptors_in state) selection apdu) (read_from state seen selection apdu)

-- ---- UPDATE BINARY

-- the data stand in the file from the offset on, and the file is the current EF
unfoldable pub updating : Persistent → Selection → Apdu → Descriptor → FileOutcome
updating state selection apdu file = record {
  body = [];
  status = DONE;
  selection = worked_on selection file (pointer_before selection (short_in_p1 apdu));
  passed = with_bytes file.number (offset_of apdu) apdu.body state ∷ [];
  changes = PutBytes file.number (offset_of apdu) apdu.body ∷ [];
}

-- from the test of access on: the data have to end where the file does or before
unfoldable pub update_in : Persistent → Verified → Selection → Apdu → Descriptor → Result FileOutcome StatusWord
update_in state seen selection apdu file =
    needs (may state UpdateBinary seen file) SECURITY_NOT_SATISFIED (
    refused_if (nat_lt file.size (offset_of apdu + length apdu.body)) WRONG_OFFSET (
    Ok (updating state selection apdu file)))

-- UPDATE BINARY: what it comes to, or its refusal
unfoldable pub binary_updated : Persistent → Verified → Selection → Apdu → Result FileOutcome StatusWord
binary_updated state seen selection apdu = and_given (binary_to_update (descriptors_in state) selection apdu) (update_in state seen selection apdu)

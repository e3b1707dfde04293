-- SELECT and STATUS (ETSI TS 102 221, 11.1.1 and 11.1.2).
use Rattle.std.specs.Prelude.{◌==◌, ◌%◌, ◌&&◌, ◌||◌, nat_le, Bool, if◌then◌else◌, [], length, Result, Ok}
use Rattle.uicc_types.specs.declared.answers.StatusWord.{StatusWord}
use Rattle.uicc_types.specs.declared.answers.TheConstants.StatusWord.{DONE, FILE_DEACTIVATED, WRONG_PARAMETERS, WRONG_LENGTH, FILE_NOT_FOUND}
use Rattle.apdu_form.specs.Model.{Apdu}
use Rattle.card_state.specs.Persistent.{Persistent}
use Rattle.file_model.specs.declared.descriptors.Descriptor.{Descriptor}
use Rattle.file_model.specs.declared.descriptors.Wanted.TheVariants.{Number}
use Rattle.file_model.specs.declared.selections.Selection.{Selection}
use Rattle.file_model.specs.Chains.{given, needs}
use Rattle.file_model.specs.Files.{descriptors_in, file_found}
use Rattle.file_model.specs.Selections.{chosen, selection_of}
use Rattle.file_model.specs.Fcp.{fcp}
use Rattle.apdu_form.specs.Fields.{has_no_data}
use Rattle.file_model.specs.Outcomes.{FileOutcome, is_deactivated}

-- ---- SELECT

-- by file identifier, the DF above, an AID, a path from the MF or from the current DF; with the FCP, or without data
abbrev pub has_select_parameters : Apdu → Bool
has_select_parameters apdu =
    (apdu.p1 == 0x00 || apdu.p1 == 0x03 || apdu.p1 == 0x04 || apdu.p1 == 0x08 || apdu.p1 == 0x09) && (apdu.p2 == 0x04 || apdu.p2 == 0x0C)

-- a file identifier; nothing; an AID; a path of one identifier or more
abbrev pub has_select_length : Apdu → Bool
has_select_length apdu =
    if apdu.p1 == 0x00 then length apdu.body == 2
    else if apdu.p1 == 0x03 then length apdu.body == 0
    else if apdu.p1 == 0x04 then nat_le 1 (length apdu.body) && nat_le (length apdu.body) 16
    else nat_le 2 (length apdu.body) && length apdu.body % 2 == 0

-- the FCP where they are asked for; a deactivated EF is selected with a warning
unfoldable pub selecting : Persistent → Apdu → Descriptor → FileOutcome
selecting state apdu file = record {
  body = if apdu.p2 == 0x04 then fcp state.pins file else [];
  status = if is_deactivated file then FILE_DEACTIVATED else DONE;
  selection = selection_of file;
  passed = [];
  changes = [];
}

-- SELECT: what it comes to; it is refused for P1 and P2 (6A86), for the length of the data (6700), and where no such file is found (6A82)
unfoldable pub file_selected : Persistent → Selection → Apdu → Result FileOutcome StatusWord
file_selected state selection apdu =
    needs (has_select_parameters apdu) WRONG_PARAMETERS (
    needs (has_select_length apdu) WRONG_LENGTH (
    given (chosen (descriptors_in state) selection apdu) FILE_NOT_FOUND (λ file.
    Ok (selecting state apdu file))))

-- ---- STATUS

-- P1 says what the terminal does with the application, which changes nothing here; P2 asks for the FCP (00) or for no data (0C)
abbrev pub has_status_parameters : Apdu → Bool
has_status_parameters apdu = (apdu.p1 == 0x00 || apdu.p1 == 0x01 || apdu.p1 == 0x02) && (apdu.p2 == 0x00 || apdu.p2 == 0x0C)

-- the FCP of the current DF where they are asked for
unfoldable pub telling : Persistent → Selection → Apdu → Descriptor → FileOutcome
telling state selection apdu df = record {
  body = if apdu.p2 == 0x00 then fcp state.pins df else [];
  status = DONE;
  selection = selection;
  passed = [];
  changes = [];
}

-- STATUS: what it comes to; it is refused for P1 and P2 (6A86), with data (6700), and where the current DF isn't there (6A82), as on no good card
unfoldable pub status_told : Persistent → Selection → Apdu → Result FileOutcome StatusWord
status_told state selection apdu =
    needs (has_status_parameters apdu) WRONG_PARAMETERS (
    needs (has_no_data apdu) WRONG_LENGTH (
    given (file_found (descriptors_in state) (Number selection.df)) FILE_NOT_FOUND (λ df.
    Ok (telling state selection apdu df))))

-- DELETE FILE (ETSI TS 102 222, 6.4).
use Rattle.std.specs.Prelude.{ℕ, ◌==◌, ◌&&◌, ◌||◌, Bool, List, [], ◌∷◌, length, Option, None, Result, Ok}
use Rattle.std.specs.List.{list_any}
use Rattle.uicc_types.specs.declared.answers.StatusWord.{StatusWord}
use Rattle.uicc_types.specs.declared.answers.TheConstants.StatusWord.{WRONG_PARAMETERS, WRONG_LENGTH, FILE_NOT_FOUND, SECURITY_NOT_SATISFIED, CONDITIONS_NOT_SATISFIED}
use Rattle.apdu_form.specs.Model.{Apdu}
use Rattle.card_state.specs.Changes.{TakeFile}
use Rattle.card_state.specs.Persistent.{Persistent}
use Rattle.card_state.specs.Changing.{with_file_at}
use Rattle.access_rules.specs.declared.rules.Verified.{Verified}
use Rattle.file_model.specs.declared.descriptors.Descriptor.{Descriptor}
use Rattle.file_model.specs.declared.selections.Selection.{Selection}
use Rattle.file_model.specs.Chains.{refused_if, given, needs}
use Rattle.file_model.specs.Files.{descriptors_in, is_df, lies_in}
use Rattle.apdu_form.specs.Fields.{has_no_parameters}
use Rattle.file_model.specs.TreeOutcomes.{TreeOutcome, df_on, is_current, all_without_ef, child_named}

-- a DF in which a file lies, or that is the current one of some channel
abbrev pub is_in_use : List Descriptor → List (Option Selection) → Descriptor → Bool
is_in_use files channels file = is_df file && (list_any (lies_in file.number) files || is_current channels file.number)

-- an EF goes from each channel that has it
unfoldable pub deleting : Persistent → List (Option Selection) → Descriptor → TreeOutcome
deleting state channels file = record {
  channels = all_without_ef file.number channels;
  passed = with_file_at state file.number None ∷ [];
  changes = TakeFile file.number ∷ [];
}

-- DELETE FILE: what it comes to; it is refused where P1 and P2 are not 00 (6A86), where the data are not two bytes (6700) or name no file of the
-- current DF (6A82), where the condition of ADM1 is not satisfied (6982), and where the file is a DF in use (6985)
unfoldable pub deleted : Persistent → Verified → List (Option Selection) → ℕ → Apdu → Result TreeOutcome StatusWord
deleted state seen channels channel apdu =
    needs (has_no_parameters apdu) WRONG_PARAMETERS (
    needs (length apdu.body == 2) WRONG_LENGTH (
    given (child_named (descriptors_in state) (df_on channels channel) apdu.body) FILE_NOT_FOUND (λ file.
    needs seen.adm1 SECURITY_NOT_SATISFIED (
    refused_if (is_in_use (descriptors_in state) channels file) CONDITIONS_NOT_SATISFIED (
    Ok (deleting state channels file))))))

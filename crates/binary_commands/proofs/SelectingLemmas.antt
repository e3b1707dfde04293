-- What a command comes to, by its parts.
use Rattle.std.proofs.Common.{◌≡◌, Bool, true, false, List, Option, Some, None, refl, not, ◌≤◌, Result, Ok, Err}
use Rattle.std.proofs.lemmas.List.Elements.{All-contains}
use Rattle.list_laws.proofs.FindLemmas.{find_Some}
use Rattle.uicc_types.specs.declared.answers.StatusWord.{StatusWord}
use Rattle.uicc_types.specs.declared.answers.TheConstants.StatusWord.{WRONG_PARAMETERS, WRONG_LENGTH, FILE_NOT_FOUND}
use Rattle.apdu_form.specs.Model.{Apdu}
use Rattle.card_state.specs.Persistent.{Persistent}
use Rattle.file_model.specs.declared.descriptors.Descriptor.{Descriptor}
use Rattle.file_model.specs.declared.descriptors.Wanted.TheVariants.{Number}
use Rattle.file_model.specs.declared.selections.Selection.{Selection}
use Rattle.file_model.specs.Chains.{refused_if, given}
use Rattle.file_model.specs.Files.{is_wanted, file_found, descriptors_in}
use Rattle.file_model.specs.Selections.{IsSelection, selection_of, chosen}
use Rattle.file_model.specs.Selecting.{has_select_parameters, has_select_length, has_status_parameters, selecting, telling, file_selected, status_told}
use Rattle.apdu_form.specs.Fields.{has_no_data}
use Rattle.file_model.specs.Outcomes.{FileOutcome}
use Rattle.file_tree.specs.Tables.{IsNumbered, HaveShortIds, MayBeSelected}

-- each file that is found by its number may be selected
pub selected_lawful : (files : List Descriptor) (file : Descriptor) → MayBeSelected files → IsNumbered files file → IsSelection files (selection_of file)
unfolding file_found
selected_lawful files file may numbered = All-contains (λ (f : Descriptor). IsSelection files (selection_of f)) files file may (find_Some (is_wanted (Number file.number)) files file numbered).0

-- and has a short file identifier that fits
pub short_fits : (files : List Descriptor) (file : Descriptor) → HaveShortIds files → IsNumbered files file → file.short ≤ 30
unfolding file_found
short_fits files file fit numbered = All-contains (λ (f : Descriptor). f.short ≤ 30) files file fit (find_Some (is_wanted (Number file.number)) files file numbered).0

module _ (state : Persistent) (selection : Selection) (apdu : Apdu) where
  abbrev select_tested : Bool → Bool → Option Descriptor → Result FileOutcome StatusWord
  select_tested parameters fits found = refused_if (not parameters) WRONG_PARAMETERS (refused_if (not fits) WRONG_LENGTH (given found FILE_NOT_FOUND (λ file. Ok (selecting state apdu file))))

  select_is : (parameters fits : Bool) (found : Option Descriptor) → has_select_parameters apdu ≡ parameters → has_select_length apdu ≡ fits → chosen (descriptors_in state) selection apdu ≡ found
      → file_selected state selection apdu ≡ select_tested parameters fits found
  unfolding file_selected
  select_is parameters fits found p l f = λ i. select_tested (p i) (l i) (f i)

  pub select_bad : has_select_parameters apdu ≡ false → file_selected state selection apdu ≡ Err WRONG_PARAMETERS
  unfolding refused_if
  select_bad bad = select_is false (has_select_length apdu) (chosen (descriptors_in state) selection apdu) bad refl refl

  pub select_long : has_select_parameters apdu ≡ true → has_select_length apdu ≡ false → file_selected state selection apdu ≡ Err WRONG_LENGTH
  unfolding refused_if
  select_long good long = select_is true false (chosen (descriptors_in state) selection apdu) good long refl

  pub select_none : has_select_parameters apdu ≡ true → has_select_length apdu ≡ true → chosen (descriptors_in state) selection apdu ≡ None → file_selected state selection apdu ≡ Err FILE_NOT_FOUND
  unfolding refused_if given
  select_none good fits none = select_is true true None good fits none

  pub select_found : (file : Descriptor) → has_select_parameters apdu ≡ true → has_select_length apdu ≡ true → chosen (descriptors_in state) selection apdu ≡ Some file
      → file_selected state selection apdu ≡ Ok (selecting state apdu file)
  unfolding refused_if given
  select_found file good fits found = select_is true true (Some file) good fits found

  abbrev status_tested : Bool → Bool → Option Descriptor → Result FileOutcome StatusWord
  status_tested parameters empty found = refused_if (not parameters) WRONG_PARAMETERS (refused_if (not empty) WRONG_LENGTH (given found FILE_NOT_FOUND (λ df. Ok (telling state selection apdu df))))

  status_is : (parameters empty : Bool) (found : Option Descriptor) → has_status_parameters apdu ≡ parameters → has_no_data apdu ≡ empty → file_found (descriptors_in state) (Number selection.df) ≡ found
      → status_told state selection apdu ≡ status_tested parameters empty found
  unfolding status_told
  status_is parameters empty found p l f = λ i. status_tested (p i) (l i) (f i)

  pub status_bad : has_status_parameters apdu ≡ false → status_told state selection apdu ≡ Err WRONG_PARAMETERS
  unfolding refused_if
  status_bad bad = status_is false (has_no_data apdu) (file_found (descriptors_in state) (Number selection.df)) bad refl refl

  pub status_long : has_status_parameters apdu ≡ true → has_no_data apdu ≡ false → status_told state selection apdu ≡ Err WRONG_LENGTH
  unfolding refused_if
  status_long good long = status_is true false (file_found (descriptors_in state) (Number selection.df)) good long refl

  pub status_none : has_status_parameters apdu ≡ true → has_no_data apdu ≡ true → file_found (descriptors_in state) (Number selection.df) ≡ None → status_told state selection apdu ≡ Err FILE_NOT_FOUND
  unfolding refused_if given
  status_none good empty none = status_is true true None good empty none

  pub status_found : (df : Descriptor) → has_status_parameters apdu ≡ true → has_no_data apdu ≡ true → file_found (descriptors_in state) (Number selection.df) ≡ Some df
      → status_told state selection apdu ≡ Ok (telling state selection apdu df)
  unfolding refused_if given
  status_found df good empty found = status_is true true (Some df) good empty found

-- DEACTIVATE FILE and ACTIVATE FILE (ETSI TS 102 221, 11.1.14 and 11.1.15).
use Rattle.std.specs.Prelude.{ℕ, ◌==◌, if◌then◌else◌, List, [], ◌∷◌, None, Result, Ok}
use Rattle.uicc_types.specs.declared.answers.StatusWord.{StatusWord}
use Rattle.uicc_types.specs.declared.answers.TheConstants.StatusWord.{DONE, WRONG_PARAMETERS, WRONG_LENGTH, SECURITY_NOT_SATISFIED}
use Rattle.apdu_form.specs.Model.{Apdu}
use Rattle.card_state.specs.Changes.{PutLife}
use Rattle.card_state.specs.Kinds.{activated, deactivated}
use Rattle.card_state.specs.Persistent.{Persistent}
use Rattle.card_state.specs.Changing.{with_life}
use Rattle.access_rules.specs.declared.rules.Op.{Op}
use Rattle.access_rules.specs.declared.rules.Op.TheVariants.{Deactivate, Activate}
use Rattle.access_rules.specs.declared.rules.Verified.{Verified}
use Rattle.file_model.specs.declared.descriptors.Descriptor.{Descriptor}
use Rattle.file_model.specs.declared.selections.Selection.{Selection}
use Rattle.file_model.specs.Chains.{and_given, needs}
use Rattle.file_model.specs.Files.{descriptors_in}
use Rattle.file_model.specs.Access.{may}
use Rattle.apdu_form.specs.Fields.{has_no_data, has_no_parameters}
use Rattle.file_model.specs.Outcomes.{FileOutcome, addressed}

-- nothing is committed where the file has this life cycle status already
unfoldable pub bringing : Persistent → Selection → ℕ → Descriptor → FileOutcome
bringing state selection life file = record {
  body = [];
  status = DONE;
  selection = selection;
  passed = if file.life == life then [] else with_life file.number life state ∷ [];
  changes = if file.life == life then [] else PutLife file.number life ∷ [];
}

-- the current EF, or what refuses the command before access is tested
unfoldable pub life_file : List Descriptor → Selection → Apdu → Result Descriptor StatusWord
life_file files selection apdu =
    needs (has_no_parameters apdu) WRONG_PARAMETERS (
    needs (has_no_data apdu) WRONG_LENGTH (
    addressed files selection None))

-- from the test of access on
unfoldable pub life_in : Op → ℕ → Persistent → Verified → Selection → Descriptor → Result FileOutcome StatusWord
life_in op life state seen selection file =
    needs (may state op seen file) SECURITY_NOT_SATISFIED (Ok (bringing state selection life file))

-- the current EF gets this life cycle status
unfoldable pub life_changed : Op → ℕ → Persistent → Verified → Selection → Apdu → Result FileOutcome StatusWord
life_changed op life state seen selection apdu = and_given (life_file (descriptors_in state) selection apdu) (life_in op life state seen selection)

-- DEACTIVATE FILE: what it comes to, or its refusal
abbrev pub file_deactivated : Persistent → Verified → Selection → Apdu → Result FileOutcome StatusWord
file_deactivated = life_changed Deactivate deactivated

-- ACTIVATE FILE: what it comes to, or its refusal
abbrev pub file_activated : Persistent → Verified → Selection → Apdu → Result FileOutcome StatusWord
file_activated = life_changed Activate activated

-- CREATE FILE (ETSI TS 102 222, 6.3).
use Rattle.std.specs.Prelude.{ℕ, ◌==◌, not, ◌&&◌, ◌||◌, Bool, List, [], ◌∷◌, Option, Some, is_some, option_map, option_and_then, slice_set, Result, Ok}
use Rattle.uicc_types.specs.declared.answers.StatusWord.{StatusWord}
use Rattle.uicc_types.specs.declared.answers.TheConstants.StatusWord.{WRONG_PARAMETERS, WRONG_LENGTH, SECURITY_NOT_SATISFIED, WRONG_DATA, NO_ROOM, FILE_ALREADY_THERE}
use Rattle.apdu_form.specs.Model.{Apdu}
use Rattle.card_state.specs.Changes.{MakeFile}
use Rattle.card_state.specs.Kinds.{activated}
use Rattle.card_state.specs.Persistent.{Rule, File, Persistent}
use Rattle.card_state.specs.Changing.{with_file_at}
use Rattle.card_state.specs.Sections.{kind_of, size_of, blank_contents}
use Rattle.card_state.specs.Soundness.{mf}
use Rattle.access_rules.specs.declared.rules.Verified.{Verified}
use Rattle.file_model.specs.declared.descriptors.Descriptor.{Descriptor}
use Rattle.file_model.specs.declared.descriptors.RuleReference.{RuleReference}
use Rattle.file_model.specs.declared.descriptors.Wanted.TheVariants.{Child, Short}
use Rattle.file_model.specs.declared.selections.Selection.{Selection}
use Rattle.file_model.specs.Chains.{refused_if, given, needs}
use Rattle.file_model.specs.Files.{descriptor_in, descriptors_in, file_found}
use Rattle.apdu_form.specs.Fields.{has_no_parameters, has_data}
use Rattle.file_model.specs.Selections.{selection_of}
use Rattle.file_model.specs.declared.asked.NewFile.{NewFile}
use Rattle.file_model.specs.declared.asked.NewFile.TheVariants.{Df, Ef}
use Rattle.file_model.specs.TreeOutcomes.{TreeOutcome, df_on}
use Rattle.file_model.specs.Rooms.{room_at, free_number}
use Rattle.file_model.specs.Templates.{asked_in}

-- ---- whether it is there already

-- the DF has a file with this identifier
abbrev pub has_id : List Descriptor → ℕ → ℕ → Bool
has_id files df id = is_some (file_found files (Child df (record { 0 = id })))

-- the DF has an EF with this short file identifier, where 0 is none
abbrev pub has_short : List Descriptor → ℕ → ℕ → Bool
has_short files df short = not (short == 0) && is_some (file_found files (Short df short))

-- the DF has a file with the identifier of the new one, or an EF with its short file identifier
abbrev pub is_there : List Descriptor → ℕ → NewFile → Bool
is_there files df (Df id) = has_id files df id.0
is_there files df (Ef id shape short rule) = has_id files df id.0 || has_short files df short

-- ---- the file that is made

-- the rule that the command names, as a file has it
abbrev pub rule_in : RuleReference → Rule
rule_in rule = record { arr = rule.arr.0; number = rule.number }

-- an EF is activated, and each of its bytes is FF
abbrev pub file_made : ℕ → ℕ → ℕ → NewFile → File
file_made number df place (Df id) = record mf { number = number; parent = df; id = id.0 }
file_made number df place (Ef id shape short rule) = record {
  number = number;
  parent = df;
  kind = kind_of shape;
  id = id.0;
  short = short;
  life = activated;
  rule = option_map rule_in rule;
  place = place;
  size = size_of shape;
  contents = blank_contents shape;
}

-- a DF has no bytes
abbrev pub place_for : Persistent → NewFile → Option ℕ
place_for state (Df id) = Some 0
place_for state (Ef id shape short rule) = room_at state (size_of shape)

-- in this DF, at the smallest place where it has room, under the smallest number that is free
abbrev pub made_in : Persistent → ℕ → NewFile → Option File
made_in state df asked = option_and_then (λ place. option_map (λ number. file_made number df place asked) (free_number state df)) (place_for state asked)

-- ---- the command

-- the new file is selected on the channel of the command
unfoldable pub creating : Persistent → List (Option Selection) → ℕ → File → TreeOutcome
creating state channels channel file = record {
  channels = slice_set channels channel (Some (selection_of (descriptor_in file)));
  passed = with_file_at state file.number (Some file) ∷ [];
  changes = MakeFile file ∷ [];
}

-- the command, where nothing but the lack of room can refuse it
abbrev pub created_if_room : Persistent → List (Option Selection) → ℕ → NewFile → Result TreeOutcome StatusWord
created_if_room state channels channel asked = given (made_in state (df_on channels channel) asked) NO_ROOM (λ file. Ok (creating state channels channel file))

-- CREATE FILE: what it comes to; it is refused where P1 and P2 are not 00 (6A86), without data (6700), where the condition of ADM1 is not satisfied
-- (6982), where the data are no template (6A80), and where the current DF has the file already (6A89) or the card no room (6A84)
unfoldable pub created : Persistent → Verified → List (Option Selection) → ℕ → Apdu → Result TreeOutcome StatusWord
created state seen channels channel apdu =
    needs (has_no_parameters apdu) WRONG_PARAMETERS (
    needs (has_data apdu) WRONG_LENGTH (
    needs seen.adm1 SECURITY_NOT_SATISFIED (
    given (asked_in apdu.body) WRONG_DATA (λ asked.
    refused_if (is_there (descriptors_in state) (df_on channels channel) asked) FILE_ALREADY_THERE (
    created_if_room state channels channel asked)))))

-- What a command comes to.
use Rattle.std.specs.Prelude.{ℕ, ◌==◌, Bool, List, [], ◌∷◌, Option, Some, None, Result, Ok, Err}
use Rattle.uicc_types.specs.declared.answers.StatusWord.{StatusWord}
use Rattle.uicc_types.specs.declared.answers.TheConstants.StatusWord.{NO_CURRENT_FILE, FILE_NOT_FOUND}
use Rattle.card_state.specs.Changes.{Change}
use Rattle.card_state.specs.Kinds.{deactivated}
use Rattle.card_state.specs.Persistent.{Pin, Persistent}
use Rattle.access_rules.specs.declared.rules.Verified.{Verified}
use Rattle.file_model.specs.declared.descriptors.Descriptor.{Descriptor}
use Rattle.file_model.specs.declared.descriptors.Wanted.TheVariants.{Short}
use Rattle.file_model.specs.declared.selections.Selection.{Selection}
use Rattle.file_model.specs.Files.{file_found}
use Rattle.file_model.specs.Chains.{given}
use Rattle.file_model.specs.Selections.{current_ef}

-- A command on files was carried out: the data of its answer and the status, what is selected then, the persistent state after
-- each of its commits, in order, and the change that each of these makes.
pub record FileOutcome : Type 0 where
  pub body : List ℕ
  pub status : StatusWord
  pub selection : Selection
  pub passed : List Persistent
  pub changes : List Change

-- A PIN command was carried out: the status, which keys are verified then, and the PINs after each of its commits, in order.
pub record PinOutcome : Type 0 where
  pub status : StatusWord
  pub verified : Verified
  pub passed : List (List Pin)

-- the state after all commits
abbrev pub last_of : {X : Type 0} → X → List X → X
last_of state [] = state
last_of state (next ∷ passed) = last_of next passed

-- a refused command has no data and changes nothing
abbrev pub settled_file : Selection → Result FileOutcome StatusWord → FileOutcome
settled_file selection (Err status) = record { body = []; status = status; selection = selection; passed = []; changes = [] }
settled_file selection (Ok outcome) = outcome

-- a refused PIN command answers its status, and changes nothing
abbrev pub settled_pin : Verified → Result PinOutcome StatusWord → PinOutcome
settled_pin verified (Err status) = record { status = status; verified = verified; passed = [] }
settled_pin verified (Ok outcome) = outcome

-- ---- the file that a command works on

-- with a short file identifier the EF of the current DF that has it, or else the current EF
unfoldable pub addressed : List Descriptor → Selection → Option ℕ → Result Descriptor StatusWord
addressed files selection None = given (current_ef files selection) NO_CURRENT_FILE (λ file. Ok file)
addressed files selection (Some short) = given (file_found files (Short selection.df short)) FILE_NOT_FOUND (λ file. Ok file)

-- the life cycle status is 04 (ETSI TS 102 221, 11.1.1.4.9)
abbrev pub is_deactivated : Descriptor → Bool
is_deactivated file = file.life == deactivated

-- the record pointer where a command begins: none in a file that is addressed by its short file identifier
abbrev pub pointer_before : Selection → Option ℕ → Option ℕ
pointer_before selection None = selection.pointer
pointer_before selection (Some short) = None

-- the file that a command worked on is the current one, with this record pointer
abbrev pub worked_on : Selection → Descriptor → Option ℕ → Selection
worked_on selection file pointer = record { df = selection.df; ef = Some file.number; pointer = pointer }

-- A command on files, or one that makes, deletes or resizes one, commits once at most; one that reads changes nothing.
use Rattle.std.proofs.Common.{◌≤◌, ℕ, Bool, true, false, if◌then◌else◌, List, [], ◌∷◌, length, Option, Result, Ok, Err, refl, ◌≡◌, arith, MatchResult}
use Rattle.uicc_types.specs.declared.answers.StatusWord.{StatusWord}
use Rattle.apdu_form.specs.Model.{Apdu}
use Rattle.card_state.specs.Persistent.{Persistent}
use Rattle.access_rules.specs.declared.rules.Verified.{Verified}
use Rattle.file_model.specs.TreeCommands.{tree_outcome}
use Rattle.file_model.specs.Creating.{created, creating}
use Rattle.file_model.specs.Deleting.{deleted, deleting}
use Rattle.file_model.specs.TreeOutcomes.{TreeOutcome}
use Rattle.file_model.specs.Resizing.{resized, resizing}
use Rattle.file_model.specs.declared.tree_commands.TreeCommand.{TreeCommand}
use Rattle.file_model.specs.declared.tree_commands.TreeCommand.TheVariants.{Create, Delete, Resize}
use Rattle.file_model.specs.Binaries.{binary_read, read_from, reading, binary_updated, update_in, updating}
use Rattle.file_model.specs.Commands.{contents_outcome, file_outcome}
use Rattle.file_model.specs.LifeCycles.{life_changed, life_in, bringing}
use Rattle.file_model.specs.Outcomes.{FileOutcome, settled_file}
use Rattle.file_model.specs.Records.{record_read, record_read_from, record_reading, record_updated, record_update_in, record_updating, searched, search_in, searching, increased, increase_in, increasing}
use Rattle.file_model.specs.Selecting.{file_selected, selecting, status_told, telling}
use Rattle.file_model.specs.declared.commands.ContentsCommand.{ContentsCommand}
use Rattle.file_model.specs.declared.commands.ContentsCommand.TheVariants.{ReadBinary, UpdateBinary, ReadRecord, UpdateRecord, SearchRecord, Increase, Deactivate, Activate}
use Rattle.file_model.specs.declared.commands.FileCommand.{FileCommand}
use Rattle.file_model.specs.declared.commands.FileCommand.TheVariants.{Select, Status, Contents}
use Rattle.file_model.specs.declared.selections.Selection.{Selection}
use Rattle.file_admin.specs.Outcomes.{passed_by}
use Rattle.card_model.specs.Chained.{Any}
use Rattle.card_model.proofs.ChainedLemmas.{past, past_given, past_result}

abbrev CommitsOnce : FileOutcome → Type 0
CommitsOnce outcome = length outcome.passed ≤ 1

abbrev TreesOnce : TreeOutcome → Type 0
TreesOnce outcome = length outcome.passed ≤ 1

-- one state, or none
once : {X : Type 0} (none : Bool) (x : X) → length (if none then [] else x ∷ []) ≤ 1
once true x = omega arith
once false x = omega arith

module _ (state : Persistent) (seen : Verified) (selection : Selection) (apdu : Apdu) where
  by_contents : (command : ContentsCommand) → MatchResult (contents_outcome command state seen selection apdu) CommitsOnce Any
  unfolding contents_outcome binary_read read_from reading binary_updated update_in updating record_read record_read_from record_reading record_updated record_update_in record_updating searched search_in searching increased increase_in increasing life_changed life_in bringing
  by_contents ReadBinary = past_result CommitsOnce _ _ (λ file. past CommitsOnce _ _ _ (past CommitsOnce _ _ _ (omega arith)))
  by_contents UpdateBinary = past_result CommitsOnce _ _ (λ file. past CommitsOnce _ _ _ (past CommitsOnce _ _ _ (omega arith)))
  by_contents ReadRecord = past_result CommitsOnce _ _ (λ file. past CommitsOnce _ _ _ (past_result CommitsOnce _ _ (λ number. omega arith)))
  by_contents UpdateRecord = past_result CommitsOnce _ _ (λ file. past CommitsOnce _ _ _ (past_result CommitsOnce _ _ (λ number. omega arith)))
  by_contents SearchRecord = past_result CommitsOnce _ _ (λ file. past CommitsOnce _ _ _ (past_result CommitsOnce _ _ (λ number. omega arith)))
  by_contents Increase = past_result CommitsOnce _ _ (λ file. past CommitsOnce _ _ _ (past_result CommitsOnce _ _ (λ sum. omega arith)))
  by_contents Deactivate = past_result CommitsOnce _ _ (λ file. past CommitsOnce _ _ _ (once _ _))
  by_contents Activate = past_result CommitsOnce _ _ (λ file. past CommitsOnce _ _ _ (once _ _))

  by_files : (command : FileCommand) → MatchResult (file_outcome command state seen selection apdu) CommitsOnce Any
  unfolding file_outcome file_selected selecting status_told telling
  by_files Select = past CommitsOnce _ _ _ (past CommitsOnce _ _ _ (past_given CommitsOnce _ _ _ (λ file. omega arith)))
  by_files Status = past CommitsOnce _ _ _ (past CommitsOnce _ _ _ (past_given CommitsOnce _ _ _ (λ df. omega arith)))
  by_files (Contents command) = by_contents command

  settled_once : (outcome : Result FileOutcome StatusWord) → MatchResult outcome CommitsOnce Any → length (settled_file selection outcome).passed ≤ 1
  settled_once (Ok outcome) once = once
  settled_once (Err status) once = omega arith

  pub files_once : (command : FileCommand) → length (settled_file selection (file_outcome command state seen selection apdu)).passed ≤ 1
  files_once command = settled_once (file_outcome command state seen selection apdu) (by_files command)

-- ---- what changes nothing

abbrev ChangesNone : FileOutcome → Type 0
ChangesNone outcome = outcome.changes ≡ []

-- READ BINARY, READ RECORD and SEARCH RECORD, SELECT and STATUS
abbrev pub IsReading : ContentsCommand → Type 0
IsReading ReadBinary = Unit {0}
IsReading ReadRecord = Unit {0}
IsReading SearchRecord = Unit {0}
IsReading _ = ⊥

abbrev pub IsTelling : FileCommand → Type 0
IsTelling Select = Unit {0}
IsTelling Status = Unit {0}
IsTelling _ = ⊥

module _ (state : Persistent) (seen : Verified) (selection : Selection) (apdu : Apdu) where
  settled_none : (outcome : Result FileOutcome StatusWord) → MatchResult outcome ChangesNone Any → (settled_file selection outcome).changes ≡ []
  settled_none (Ok outcome) none = none
  settled_none (Err status) none = refl

  none_read : (command : ContentsCommand) → IsReading command → MatchResult (contents_outcome command state seen selection apdu) ChangesNone Any
  unfolding contents_outcome binary_read read_from reading record_read record_read_from record_reading searched search_in searching
  none_read ReadBinary reads = past_result ChangesNone _ _ (λ file. past ChangesNone _ _ _ (past ChangesNone _ _ _ refl))
  none_read ReadRecord reads = past_result ChangesNone _ _ (λ file. past ChangesNone _ _ _ (past_result ChangesNone _ _ (λ number. refl)))
  none_read SearchRecord reads = past_result ChangesNone _ _ (λ file. past ChangesNone _ _ _ (past_result ChangesNone _ _ (λ number. refl)))
  none_read UpdateBinary reads = absurd reads
  none_read UpdateRecord reads = absurd reads
  none_read Increase reads = absurd reads
  none_read Deactivate reads = absurd reads
  none_read Activate reads = absurd reads

  none_told : (command : FileCommand) → IsTelling command → MatchResult (file_outcome command state seen selection apdu) ChangesNone Any
  unfolding file_outcome file_selected selecting status_told telling
  none_told Select tells = past ChangesNone _ _ _ (past ChangesNone _ _ _ (past_given ChangesNone _ _ _ (λ file. refl)))
  none_told Status tells = past ChangesNone _ _ _ (past ChangesNone _ _ _ (past_given ChangesNone _ _ _ (λ df. refl)))
  none_told (Contents command) tells = absurd tells

  pub reading_changes : (command : ContentsCommand) → IsReading command → (settled_file selection (contents_outcome command state seen selection apdu)).changes ≡ []
  reading_changes command reads = settled_none (contents_outcome command state seen selection apdu) (none_read command reads)

  pub telling_changes : (command : FileCommand) → IsTelling command → (settled_file selection (file_outcome command state seen selection apdu)).changes ≡ []
  telling_changes command tells = settled_none (file_outcome command state seen selection apdu) (none_told command tells)

module _ (state : Persistent) (seen : Verified) (channels : List (Option Selection)) (channel : ℕ) (apdu : Apdu) where
  by_tree : (command : TreeCommand) → MatchResult (tree_outcome command state seen channels channel apdu) TreesOnce Any
  unfolding tree_outcome created creating deleted deleting resized resizing
  by_tree Create = past TreesOnce _ _ _ (past TreesOnce _ _ _ (past TreesOnce _ _ _ (past_given TreesOnce _ _ _ (λ asked. past TreesOnce _ _ _ (past_given TreesOnce _ _ _ (λ file. omega arith))))))
  by_tree Delete = past TreesOnce _ _ _ (past TreesOnce _ _ _ (past_given TreesOnce _ _ _ (λ file. past TreesOnce _ _ _ (past TreesOnce _ _ _ (omega arith)))))
  by_tree Resize =
      past TreesOnce _ _ _ (past TreesOnce _ _ _ (past_given TreesOnce _ _ _ (λ file.
      past TreesOnce _ _ _ (past TreesOnce _ _ _ (past TreesOnce _ _ _ (past TreesOnce _ _ _ (past TreesOnce _ _ _ (once _ _))))))))

  passed_once : (outcome : Result TreeOutcome StatusWord) → MatchResult outcome TreesOnce Any → length (passed_by channels outcome) ≤ 1
  passed_once (Ok outcome) once = once
  passed_once (Err status) once = omega arith

  pub trees_once : (command : TreeCommand) → length (passed_by channels (tree_outcome command state seen channels channel apdu)) ≤ 1
  trees_once command = passed_once (tree_outcome command state seen channels channel apdu) (by_tree command)

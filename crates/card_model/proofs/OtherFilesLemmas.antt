-- Commands on files, and those that make, delete and resize files, change no more than files.
use Rattle.std.proofs.Common.{ℕ, Bool, true, false, List, [], ◌∷◌, Option, refl, ◌==◌, if◌then◌else◌, MatchResult, Result}
use Rattle.uicc_types.specs.declared.answers.StatusWord.{StatusWord}
use Rattle.apdu_form.specs.Model.{Apdu}
use Rattle.card_state.specs.Changing.{with_file_changed, with_life, with_newest_record, with_record}
use Rattle.card_state.specs.Kinds.{activated, deactivated}
use Rattle.card_state.specs.Persistent.{Persistent}
use Rattle.access_rules.specs.declared.rules.Op.{Op}
use Rattle.access_rules.specs.declared.rules.Op.TheVariants as op
use Rattle.access_rules.specs.declared.rules.Verified.{Verified}
use Rattle.file_model.specs.declared.descriptors.Descriptor.{Descriptor}
use Rattle.file_model.specs.declared.selections.Selection.{Selection}
use Rattle.file_model.specs.Outcomes.{FileOutcome}
use Rattle.file_model.specs.Selecting.{selecting, file_selected, telling, status_told}
use Rattle.file_model.specs.Binaries.{reading, read_from, binary_read, updating, update_in, binary_updated}
use Rattle.file_model.specs.Records.{is_cyclic, record_reading, record_read_from, record_read, record_updating, record_update_in, record_updated, searching, search_in, searched, increasing, increase_in, increased}
use Rattle.file_model.specs.LifeCycles.{bringing, life_in, life_changed}
use Rattle.file_model.specs.Commands.{contents_outcome, file_outcome}
use Rattle.file_model.specs.declared.commands.ContentsCommand.TheVariants.{ReadBinary, UpdateBinary, ReadRecord, UpdateRecord, SearchRecord, Increase, Deactivate, Activate}
use Rattle.file_model.specs.declared.commands.FileCommand.{FileCommand}
use Rattle.file_model.specs.declared.commands.FileCommand.TheVariants.{Select, Status, Contents}
use Rattle.file_model.specs.declared.tree_commands.TreeCommand.{TreeCommand}
use Rattle.file_model.specs.declared.tree_commands.TreeCommand.TheVariants.{Create, Delete, Resize}
use Rattle.file_model.specs.TreeCommands.{tree_outcome}
use Rattle.file_model.specs.TreeOutcomes.{TreeOutcome}
use Rattle.file_model.specs.Creating.{creating, created}
use Rattle.file_model.specs.Deleting.{deleting, deleted}
use Rattle.file_model.specs.Resizing.{size_asked, resizing, resized}
use Rattle.card_model.specs.Chained.{Any}
use Rattle.card_model.proofs.ChainedLemmas.{past, past_given, past_result}
use Rattle.card_model.specs.OtherFiles.{HaveOtherFiles, IsWithFiles}

-- nothing is committed where nothing changes
one_or_none : (state : Persistent) (same : Bool) (next : Persistent) → IsWithFiles state next → HaveOtherFiles state (if same then [] else next ∷ [])
one_or_none state true next is = tt
one_or_none state false next is = (is, tt)

module _ (state : Persistent) (seen : Verified) (selection : Selection) (apdu : Apdu) where
  abbrev pub Leaves : Result FileOutcome StatusWord → Type 0
  Leaves result = MatchResult result (λ outcome. HaveOtherFiles state outcome.passed) Any

  abbrev P : FileOutcome → Type 0
  P outcome = HaveOtherFiles state outcome.passed

  record_leaves : (cyclic : Bool) (file : Descriptor) (number : ℕ) → IsWithFiles state (if cyclic then with_newest_record file.number apdu.body state else with_record file.number number apdu.body state)
  unfolding with_file_changed
  record_leaves true file number = refl
  record_leaves false file number = refl

  life_leaves : (op : Op) (life : ℕ) → Leaves (life_changed op life state seen selection apdu)
  unfolding life_changed life_in bringing with_file_changed
  life_leaves op life = past_result P _ _ (λ file. past P _ _ _ (one_or_none state (file.life == life) (with_life file.number life state) refl))

  pub file_leaves : (command : FileCommand) → Leaves (file_outcome command state seen selection apdu)
  unfolding file_outcome contents_outcome file_selected selecting status_told telling binary_read read_from reading binary_updated update_in updating record_read record_read_from record_reading record_updated record_update_in record_updating searched search_in searching increased increase_in increasing with_file_changed
  file_leaves Select = past P _ _ _ (past P _ _ _ (past_given P _ _ _ (λ file. tt)))
  file_leaves Status = past P _ _ _ (past P _ _ _ (past_given P _ _ _ (λ file. tt)))
  file_leaves (Contents ReadBinary) = past_result P _ _ (λ file. past P _ _ _ (past P _ _ _ tt))
  file_leaves (Contents UpdateBinary) = past_result P _ _ (λ file. past P _ _ _ (past P _ _ _ (refl, tt)))
  file_leaves (Contents ReadRecord) = past_result P _ _ (λ file. past P _ _ _ (past_result P _ _ (λ number. tt)))
  file_leaves (Contents UpdateRecord) = past_result P _ _ (λ file. past P _ _ _ (past_result P _ _ (λ number. (record_leaves (is_cyclic file) file _, tt))))
  file_leaves (Contents SearchRecord) = past_result P _ _ (λ file. past P _ _ _ (past_result P _ _ (λ from. tt)))
  file_leaves (Contents Increase) = past_result P _ _ (λ file. past P _ _ _ (past_result P _ _ (λ sum. (refl, tt))))
  file_leaves (Contents Deactivate) = life_leaves op.Deactivate deactivated
  file_leaves (Contents Activate) = life_leaves op.Activate activated

-- ---- commands that make, delete and resize files

module _ (state : Persistent) (seen : Verified) (channels : List (Option Selection)) (channel : ℕ) (apdu : Apdu) where
  abbrev pub TreeLeaves : Result TreeOutcome StatusWord → Type 0
  TreeLeaves result = MatchResult result (λ outcome. HaveOtherFiles state outcome.passed) Any

  abbrev T : TreeOutcome → Type 0
  T outcome = HaveOtherFiles state outcome.passed

  pub tree_leaves : (command : TreeCommand) → TreeLeaves (tree_outcome command state seen channels channel apdu)
  unfolding tree_outcome created creating deleted deleting resized resizing
  tree_leaves Create = past T _ _ _ (past T _ _ _ (past T _ _ _ (past_given T _ _ _ (λ asked. past T _ _ _ (past_given T _ _ _ (λ file. (refl, tt)))))))
  tree_leaves Delete = past T _ _ _ (past T _ _ _ (past_given T _ _ _ (λ file. past T _ _ _ (past T _ _ _ (refl, tt)))))
  tree_leaves Resize =
      past T _ _ _ (past T _ _ _ (past_given T _ _ _ (λ file. past T _ _ _ (past T _ _ _ (past T _ _ _ (past T _ _ _ (past T _ _ _
      (one_or_none state (file.size == size_asked apdu) _ refl))))))))

-- What a command that makes, deletes or resizes a file has done to a card.
use Rattle.std.specs.Prelude.{◌≡◌, ◌≢◌, ℕ, List, [], length, Option, Some, IfSome, Result, Ok, Err, IfOk, OnOk, OnErr}
use Rattle.uicc_types.specs.Counts.{raised_by}
use Rattle.uicc_types.specs.declared.answers.Answer.{Answer}
use Rattle.uicc_types.specs.declared.answers.StatusWord.{StatusWord}
use Rattle.uicc_types.specs.declared.answers.TheConstants.StatusWord.{DONE, MEMORY_PROBLEM}
use Rattle.apdu_form.specs.Model.{Apdu}
use Rattle.store_form.specs.declared.store.StoreFault.{StoreFault}
use Rattle.card_state.specs.declared.entries.Loaded.{Loaded}
use Rattle.card_state.specs.Changes.{Change}
use Rattle.card_state.specs.Persistent.{Persistent}
use Rattle.card_state.specs.Memory.{Memory, held, Keeps}
use Rattle.card_state.specs.Standing.{Stands}
use Rattle.access_rules.specs.declared.rules.Verified.{Verified}
use Rattle.file_model.specs.declared.descriptors.Descriptor.{Descriptor}
use Rattle.file_model.specs.declared.selections.Selection.{Selection}
use Rattle.apdu_form.specs.Classes.{channel_of}
use Rattle.file_model.specs.Files.{descriptors_of, descriptors_in}
use Rattle.file_model.specs.Outcomes.{last_of}
use Rattle.file_model.specs.Creating.{created}
use Rattle.file_model.specs.Deleting.{deleted}
use Rattle.file_model.specs.LawfulTrees.{AreSelected}
use Rattle.file_model.specs.TreeOutcomes.{TreeOutcome, settled_tree, child_named}
use Rattle.file_model.specs.Resizing.{resized}
use Rattle.card_commits.specs.Performing.{PassesOne}

-- 9000, or the status that refuses the command
abbrev pub tree_status_of : {X : Type 0} → Result X StatusWord → StatusWord
tree_status_of (Ok outcome) = DONE
tree_status_of (Err status) = status

-- the states that it passes; a refused command passes none
abbrev pub passed_by : List (Option Selection) → Result TreeOutcome StatusWord → List Persistent
passed_by channels meaning = (settled_tree channels meaning).passed

-- the changes that it makes; a refused command makes none
abbrev pub changes_by : List (Option Selection) → Result TreeOutcome StatusWord → List Change
changes_by channels meaning = (settled_tree channels meaning).changes

-- a command can name it by the identifier in its data, as the child of some DF
pub record IsNamedIn (files : List Descriptor) (file : Descriptor) : Type 0 where
  pub df : ℕ
  pub bytes : List ℕ
  pub named : child_named files df bytes ≡ Some file

-- so it is on each state with the files of this table
abbrev pub WithFilesOf : Loaded → (Persistent → Type 0) → Type 0
WithFilesOf table Holds = (state : Persistent) → descriptors_in state ≡ descriptors_of table → Holds state

-- ---- what the commands come to on a state, by the data, by the keys that are verified and by what is selected

-- what a CREATE FILE comes to, by the state of the card
abbrev pub creation_by : Apdu → Verified → List (Option Selection) → Persistent → Result TreeOutcome StatusWord
creation_by apdu seen channels = λ state. created state seen channels (channel_of apdu.class) apdu

-- what a DELETE FILE comes to, by the state of the card
abbrev pub deletion_by : Apdu → Verified → List (Option Selection) → Persistent → Result TreeOutcome StatusWord
deletion_by apdu seen channels = λ state. deleted state seen channels (channel_of apdu.class) apdu

-- what a RESIZE FILE comes to, by the state of the card
abbrev pub resizing_by : Apdu → Verified → List (Option Selection) → Persistent → Result TreeOutcome StatusWord
resizing_by apdu seen channels = λ state. resized state seen channels (channel_of apdu.class) apdu

-- ---- over a store that tells its bytes

-- carried out: the answer, what is selected, and the state are those of the outcome, and there was one commit for each state that
-- it passes
pub record IsTreeOutcome (state : Persistent) (meaning : Result TreeOutcome StatusWord) (old : List (Option Selection)) (answer : Answer) (new : List (Option Selection)) (before after : Memory) : Type 0 where
  pub body : answer.body ≡ []
  pub status : answer.status ≡ tree_status_of meaning
  pub channels : new ≡ (settled_tree old meaning).channels
  pub state_is : held after ≡ Some (last_of state (passed_by old meaning))
  pub commits : after.commits ≡ raised_by (length (passed_by old meaning)) before.commits

-- carried out, or stopped by a fault, where the state before it stands or the one that it passes
abbrev pub PerformsTree : {E : Type 0} → Result Unit E → Memory → Memory → Answer → List (Option Selection) → List (Option Selection) → (Persistent → Result TreeOutcome StatusWord) → Type 0
PerformsTree (Ok done) before after answer old new meaning = IfSome (held before) (λ state. IsTreeOutcome state (meaning state) old answer new before after)
PerformsTree (Err fault) before after answer old new meaning = PassesOne (held before) (held after) (λ state. passed_by old (meaning state))

-- ---- over any store: for each memory that the table may be of, and the state that it stands for

-- The status and what is selected are those of the outcome, and the table is that of a memory that stands for its state.
pub record IsTreeAnswer (store_mark : ℕ) (state : Persistent) (meaning : Result TreeOutcome StatusWord) (old : List (Option Selection)) (status : StatusWord) (new : List (Option Selection)) (table : Loaded) : Type 0 where
  pub status_is : status ≡ tree_status_of meaning
  pub channels : new ≡ (settled_tree old meaning).channels
  pub content : List ℕ
  pub stands : Stands store_mark content table (last_of state (passed_by old meaning))

-- what a command comes to is told for each state that the table may stand for
abbrev pub AnswersTree : Loaded → Loaded → StatusWord → List (Option Selection) → List (Option Selection) → (Persistent → Result TreeOutcome StatusWord) → Type 0
AnswersTree before after status old new meaning =
    (store_mark : ℕ) (content : List ℕ) (state : Persistent) → Stands store_mark content before state → IsTreeAnswer store_mark state (meaning state) old status new after

-- There was one commit for each state that the command passes, and none where a fault stopped it.
abbrev pub CommitsTree : {T : Type 0} → Result T StoreFault → Memory → Memory → List (Option Selection) → (Persistent → Result TreeOutcome StatusWord) → Type 0
CommitsTree (Ok value) before after old meaning =
    (store_mark : ℕ) (content : List ℕ) (state : Persistent) → Stands store_mark content before.table state → after.commits ≡ raised_by (length (passed_by old (meaning state))) before.commits
CommitsTree (Err fault) before after old meaning = after.commits ≡ before.commits

-- the command comes to the same as this
abbrev pub TreeComesTo : Loaded → (Persistent → Result TreeOutcome StatusWord) → (Persistent → Result TreeOutcome StatusWord) → Type 0
TreeComesTo table meaning other = (store_mark : ℕ) (content : List ℕ) (state : Persistent) → Stands store_mark content table state → meaning state ≡ other state

-- it passes no state
abbrev pub PassesNothing : Loaded → List (Option Selection) → (Persistent → Result TreeOutcome StatusWord) → Type 0
PassesNothing table old meaning = (store_mark : ℕ) (content : List ℕ) (state : Persistent) → Stands store_mark content table state → passed_by old (meaning state) ≡ []

-- where it passes no state this holds
abbrev pub IfNothingPasses : Loaded → List (Option Selection) → (Persistent → Result TreeOutcome StatusWord) → Type 0 → Type 0
IfNothingPasses table old meaning Holds = (store_mark : ℕ) (content : List ℕ) (state : Persistent) → Stands store_mark content table state → passed_by old (meaning state) ≡ [] → Holds

-- ---- however it ends

-- No data are answered, and never 6581. What is selected on each channel is there afterwards. PINs and rows of the table are as they
-- were; after a fault all of it is, and what is selected.
pub record EndsTree (result : Result Unit StoreFault) (before after : Memory) (answer : Answer) (old new : List (Option Selection)) : Type 0 where
  pub empty : answer.body ≡ []
  pub usual : OnOk result (answer.status.0 ≢ MEMORY_PROBLEM.0)
  pub selected : OnOk result (AreSelected (descriptors_of after.table) new)
  pub nodes : after.table ≡ record before.table { nodes = after.table.nodes }
  pub kept : OnErr result (after.table ≡ before.table)
  pub channels_kept : OnErr result (new ≡ old)
  pub keeps : Keeps before after result

-- what is known of status and table before that: never 6581, and only entries of files change, none at a fault
pub record ChangesNodes (result : Result StatusWord StoreFault) (before after : Loaded) : Type 0 where
  pub usual : IfOk result (λ status. status.0 ≢ MEMORY_PROBLEM.0)
  pub nodes : after ≡ record before { nodes = after.nodes }
  pub kept : OnErr result (after ≡ before)

-- ---- all of it, where the status is known

-- what a command has done to a card over any store, after Ok or where a fault stopped it
pub record IsDone (result : Result StatusWord StoreFault) (before after : Memory) (old new : List (Option Selection)) (meaning : Persistent → Result TreeOutcome StatusWord) : Type 0 where
  pub answers : IfOk result (λ status. AnswersTree before.table after.table status old new meaning)
  pub leaves : OnOk result (IfSome (held before) (λ state. held after ≡ Some (last_of state (passed_by old (meaning state)))))
  pub commits : CommitsTree result before after old meaning
  pub passes : OnErr result (PassesOne (held before) (held after) (λ state. passed_by old (meaning state)))
  pub channels_kept : OnErr result (new ≡ old)
  pub keeps : Keeps before after result

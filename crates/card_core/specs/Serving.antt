-- What the parts of a command do to a card's memory and boxes.
use Rattle.std.specs.Prelude.{◌≡◌, ◌≢◌, ◌⊎◌, ℕ, List, Option, None, option_map, IfSome, Result, Ok, Err, IsOk, OnOk, OnErr}
use Rattle.uicc_types.specs.declared.answers.Answer.{Answer}
use Rattle.uicc_types.specs.declared.answers.StatusWord.{StatusWord}
use Rattle.apdu_form.specs.Model.{Apdu}
use Rattle.store_form.specs.declared.store.StoreFault.{StoreFault}
use Rattle.card_state.specs.Changes.{Change}
use Rattle.card_state.specs.Memory.{Memory, held, Keeps}
use Rattle.card_state.specs.Persistent.{Persistent}
use Rattle.card_state.specs.Standing.{Agrees}
use Rattle.card_state.specs.States.{pins_of, rows_of}
use Rattle.access_rules.specs.declared.rules.Verified.{Verified}
use Rattle.file_model.specs.TreeOutcomes.{TreeOutcome}
use Rattle.file_model.specs.Access.{keys_seen}
use Rattle.file_model.specs.Commands.{file_outcome}
use Rattle.file_model.specs.declared.commands.FileCommand.{FileCommand}
use Rattle.file_model.specs.declared.selections.Selection.{Selection}
use Rattle.file_model.specs.Files.{descriptors_of}
use Rattle.file_model.specs.Outcomes.{settled_file}
use Rattle.card_commits.specs.Laws.{IsTold}
use Rattle.card_commits.specs.Entries.{HasRowOn}
use Rattle.card_commits.specs.Performing.{StopsAmong}
use Rattle.card_commits.specs.Writing.{all_written}
use Rattle.binary_commands.specs.Targets.{IsAnswer, IsRefused}
use Rattle.file_admin.specs.Outcomes.{AnswersTree, CommitsTree, changes_by}
use Rattle.file_admin.specs.Writes.{StopsPreparing}
use Rattle.event_dispatch.specs.Indexes.{StandsFor}
use Rattle.proactive_handler.specs.Boxes.{kinds_of}
use Rattle.proactive_handler.specs.Steps.{Scene}
use Rattle.card_model.specs.declared.instructions.Instruction.TheVariants.{File}
use Rattle.card_model.specs.declared.instructions.CatCommand.{CatCommand}
use Rattle.card_model.specs.declared.instructions.CatCommand.TheVariants.{InstallApplet, DeleteApplet}
use Rattle.cat_commands.specs.Deleting.{LeavesUnregistered}
use Rattle.card_core.specs.AnyStore.{NeedsNoContents, RefusesFile}
use Rattle.card_core.specs.Commands.{KindsKept}

-- What the table tells of a command on files, over what is selected. It meets no fault then.
pub record TellsOfFiles (result : Result Unit StoreFault) (command : FileCommand) (apdu : Apdu) (verified : Verified) (old new : Memory) (before after : Selection) (out : Answer) : Type 0 where
  -- SELECT and STATUS are answered so, and commit nothing
  pub answers : (state : Persistent) → NeedsNoContents (File command) → IsTold old.table state
      → IsOk result × IsAnswer (settled_file before (file_outcome command state (keys_seen (pins_of old.table) verified) before apdu)) out after × (new.table ≡ old.table) × (new.commits ≡ old.commits)
  -- and what is refused before access is tested, which leaves the memory alone
  pub denied : (status : StatusWord) → RefusesFile command (descriptors_of old.table) before apdu status
      → IsOk result × IsRefused status out before after × (new ≡ old)

-- What a command that makes, deletes or resizes a file has written over a store that tells its bytes: after Ok what its changes write, and
-- where a fault stopped it what some of them write, or a part of what is prepared for one.
abbrev pub WritesOnTree : {X E : Type 0} → Result X E → Memory → Memory → (Persistent → List Change) → Type 0
WritesOnTree (Ok done) old new changes = IfSome (held old) (λ state. new.told ≡ option_map (all_written (changes state)) old.told)
WritesOnTree (Err fault) old new changes = IfSome (held old) (λ state. StopsAmong (changes state) old new ⊎ StopsPreparing (changes state) old new)

-- What a memory of the table tells of a command that makes, deletes or resizes a file.
pub record TellsOfTree (result : Result Unit StoreFault) (before after : Memory) (old new : List (Option Selection)) (status : StatusWord) (meaning : Persistent → Result TreeOutcome StatusWord) : Type 0 where
  -- its answer, and what it leaves
  pub answers : OnOk result (AnswersTree before.table after.table status old new meaning)
  -- how often it commits
  pub commits : CommitsTree result before after old meaning
  -- what it writes
  pub writes : WritesOnTree result before after (λ state. changes_by old (meaning state))

-- What a command of the toolkit keeps, also where a fault stops it.
pub record KeepsToolkit {X : Type 0} (command : CatCommand) (apdu : Apdu) (old new : Scene) (result : Result X StoreFault) : Type 0 where
  -- boxes keep their kinds, but for that of an applet that is deleted; after a fault each keeps its kind
  pub kinds : KindsKept command apdu new.memory.table old.minds new.minds
  pub boxes : OnErr result (kinds_of new.minds ≡ kinds_of old.minds)
  -- where no row was and none is, the applet is as it was
  pub others : LeavesUnregistered old.memory.table new.memory.table old.minds new.minds
  -- who was registered still is, but for an applet that is deleted
  pub rows_stay : (other : ℕ) → (command ≡ DeleteApplet → other ≢ apdu.p2) → HasRowOn old.memory.table other
      → HasRowOn new.memory.table other
  -- after Ok the index is that of the rows
  pub indexed : OnOk result (StandsFor new.index (rows_of new.memory.table))
  -- the rows alone change in the table, and the next sequence number in an INSTALL
  pub table : new.memory.table ≡ record old.memory.table { rows = new.memory.table.rows; next = new.memory.table.next }
  pub next : (command ≡ InstallApplet → ⊥) → new.memory.table.next ≡ old.memory.table.next
  -- after a fault the table has its form
  pub kept : OnErr result (Agrees new.memory.mark None new.memory.table)
  pub keeps : Keeps old.memory new.memory result

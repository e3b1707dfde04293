-- How the commands end, and what was tried before that.
use Rattle.std.specs.Prelude.{◌≡◌, ◌≢◌, ◌⊎◌, List, [], IfOk, IfSome, OnOk, OnErr, option_map, Result, Ok, Err}
use Rattle.uicc_types.specs.declared.answers.Answer.{Answer}
use Rattle.uicc_types.specs.declared.answers.StatusWord.{StatusWord}
use Rattle.uicc_types.specs.declared.answers.TheConstants.StatusWord.{MEMORY_PROBLEM}
use Rattle.store_form.specs.declared.store.StoreFault.{StoreFault}
use Rattle.card_state.specs.Changes.{Change}
use Rattle.card_state.specs.Persistent.{Persistent}
use Rattle.card_state.specs.Memory.{Memory, Keeps, held}
use Rattle.file_model.specs.declared.selections.Selection.{Selection}
use Rattle.file_model.specs.Files.{descriptors_of}
use Rattle.file_model.specs.Selections.{IsSelection}
use Rattle.file_model.specs.Outcomes.{FileOutcome, settled_file}
use Rattle.card_commits.specs.Performing.{IsStopped, StaysStill}
use Rattle.card_commits.specs.Writing.{all_written}
use Rattle.binary_commands.specs.Targets.{Gives, EndsLawfully}

-- ---- a command

-- After Ok the card has the files that are selected, and the status isn't that of a failing memory. After a fault no data are
-- answered, and the table is as it was.
pub record EndsWell (result : Result Unit StoreFault) (old new : Memory) (answer : Answer) (selection : Selection) : Type 0 where
  pub selected : OnOk result (IsSelection (descriptors_of new.table) selection)
  pub usual : OnOk result (answer.status.0 ≢ MEMORY_PROBLEM.0)
  pub empty : OnErr result (answer.body ≡ [])
  pub table : OnErr result (new.table ≡ old.table)
  pub keeps : Keeps old new result

-- ---- what was tried: a selection, or the status that refuses the command

-- the files that are selected then, or the status of a refusal, or the fault that stopped it
abbrev pub Tried : Type 0
Tried = Result (Result Selection StatusWord) StoreFault

-- over a store that tells its bytes: it came to what the command means
abbrev pub GivesTried : Tried → Memory → Memory → Answer → (Persistent → Result FileOutcome StatusWord) → Type 0
GivesTried result old new answer meaning =
    IfOk result (λ tried. IfSome (held old) (λ state. Gives state (meaning state) tried answer old new))

-- Where a fault stops it, the states are those that the command passes by its meaning; where it passes none the bytes stay.
pub record Passes (result : Tried) (old new : Memory) (selection : Selection) (meaning : Persistent → Result FileOutcome StatusWord) : Type 0 where
  pub stopped : OnErr result (IsStopped old new (λ state. (settled_file selection (meaning state)).passed))
  pub still : StaysStill old new (λ state. (settled_file selection (meaning state)).passed)

-- What a command that was tried has written: nothing where it is refused; these changes where it is carried out; and where a fault stops it, nothing or these.
abbrev pub Puts : Tried → Memory → Memory → (Persistent → List Change) → Type 0
Puts (Ok (Ok selection)) old new changes = IfSome (held old) (λ state. new.told ≡ option_map (all_written (changes state)) old.told)
Puts (Ok (Err status)) old new changes = new.told ≡ old.told
Puts (Err fault) old new changes = IfSome (held old) (λ state. (new.told ≡ old.told) ⊎ (new.told ≡ option_map (all_written (changes state)) old.told))

-- It ends lawfully where no fault stops it; after one the data of the answer and the table are as they were.
pub record EndsTry (result : Tried) (old new : Memory) (answer after : Answer) : Type 0 where
  pub lawful : IfOk result (λ tried. EndsLawfully (descriptors_of new.table) tried after)
  pub body : OnErr result (after.body ≡ answer.body)
  pub table : OnErr result (new.table ≡ old.table)
  pub keeps : Keeps old new result

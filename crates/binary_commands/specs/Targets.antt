-- What a command comes to.
use Rattle.std.specs.Prelude.{◌≡◌, ◌≢◌, List, [], Some, Result, Ok, Err, IsOkAnd, MatchResult}
use Rattle.uicc_types.specs.declared.answers.StatusWord.{StatusWord}
use Rattle.uicc_types.specs.declared.answers.Answer.{Answer}
use Rattle.uicc_types.specs.declared.answers.TheConstants.StatusWord.{MEMORY_PROBLEM}
use Rattle.card_state.specs.Persistent.{Persistent}
use Rattle.card_state.specs.Memory.{Memory, held}
use Rattle.file_model.specs.declared.descriptors.Descriptor.{Descriptor}
use Rattle.file_model.specs.declared.selections.Selection.{Selection}
use Rattle.file_model.specs.Selections.{IsSelection}
use Rattle.file_model.specs.Outcomes.{FileOutcome}
use Rattle.card_commits.specs.Performing.{IsOutcome}

-- Carried out, with this selection then, or refused with this status, and nothing is committed.
abbrev pub Gives : Persistent → Result FileOutcome StatusWord → Result Selection StatusWord → Answer → Memory → Memory → Type 0
Gives state meaning (Ok selection) answer old new = IsOkAnd meaning (λ outcome. IsOutcome state outcome answer selection old new)
Gives state meaning (Err status) answer old new = (meaning ≡ Err status) × (held new ≡ Some state) × (new.commits ≡ old.commits)

-- The answer and the selection are those of an outcome that passes no state.
pub record IsAnswer (outcome : FileOutcome) (answer : Answer) (selection : Selection) : Type 0 where
  pub body : answer.body ≡ outcome.body
  pub status : answer.status ≡ outcome.status
  pub selected : selection ≡ outcome.selection
  pub passed : outcome.passed ≡ []

-- The same of a command that the table alone decides: it is carried out, with this selection then, or refused with this status.
abbrev pub Tells : Result FileOutcome StatusWord → Result Selection StatusWord → Answer → Type 0
Tells meaning (Ok selection) answer = IsOkAnd meaning (λ outcome. IsAnswer outcome answer selection)
Tells meaning (Err status) answer = meaning ≡ Err status

-- With a lawful selection, and not with the status of a failing memory.
abbrev pub EndsLawfully : List Descriptor → Result Selection StatusWord → Answer → Type 0
EndsLawfully files tried answer = MatchResult tried (λ selection. IsSelection files selection × (answer.status.0 ≢ MEMORY_PROBLEM.0)) (λ status. status.0 ≢ MEMORY_PROBLEM.0)

-- Refused with this status: no data are answered, and what is selected stays.
pub record IsRefused (status : StatusWord) (answer : Answer) (old new : Selection) : Type 0 where
  pub body : answer.body ≡ []
  pub status_is : answer.status ≡ status
  pub selected : new ≡ old

-- What a PIN command has done, on any card, and on one that tells its state.
use Rattle.std.specs.Prelude.{◌≡◌, ◌≢◌, ◌⊎◌, ℕ, ◌+◌, ◌<◌, ◌≤◌, ◌==◌, if◌then◌else◌, false, List, [], ◌∷◌, length, slice_index_or, None, Some, option_map, IfSome, IsSomeAnd, Result, IfOk, OnOk, OnErr}
use Rattle.uicc_types.specs.Counts.{raised_by}
use Rattle.uicc_types.specs.declared.answers.Answer.{Answer}
use Rattle.uicc_types.specs.declared.answers.StatusWord.{StatusWord}
use Rattle.uicc_types.specs.declared.answers.TheConstants.StatusWord.{MEMORY_PROBLEM}
use Rattle.apdu_form.specs.Model.{Apdu}
use Rattle.store_form.specs.declared.store.StoreFault.{StoreFault}
use Rattle.card_state.specs.Persistent.{Pin, Persistent}
use Rattle.card_state.specs.Memory.{Memory, held, Keeps}
use Rattle.card_state.specs.Standing.{Agrees}
use Rattle.card_state.specs.States.{pins_of}
use Rattle.access_rules.specs.declared.rules.Verified.{Verified}
use Rattle.file_model.specs.declared.commands.PinCommand.{PinCommand}
use Rattle.file_model.specs.declared.commands.PinCommand.TheVariants.{Verify, Change, Disable, Enable, Unblock}
use Rattle.file_model.specs.Commands.{pin_settled}
use Rattle.apdu_form.specs.Fields.{has_no_data}
use Rattle.file_model.specs.Outcomes.{PinOutcome, last_of}
use Rattle.file_model.specs.Pins.{pin_found, tries_left}
use Rattle.file_model.specs.Guards.{guard_of, tries_by, TakesATry}
use Rattle.card_commits.specs.Performing.{with_each}

-- the status and the marks are those of the outcome, and the PINs those after its last commit
pub record IsCarriedOut (outcome : PinOutcome) (before : List Pin) (status : StatusWord) (verified : Verified) (after : List Pin) : Type 0 where
  pub status_is : status ≡ outcome.status
  pub verified_is : verified ≡ outcome.verified
  pub pins_are : after ≡ last_of before outcome.passed

-- carried out, with a commit for each change that it passes
pub record IsSettled (outcome : PinOutcome) (old new : Memory) (status : StatusWord) (verified : Verified) : Type 0 where
  pub carried_out : IsCarriedOut outcome (pins_of old.table) status verified (pins_of new.table)
  pub commits : new.commits ≡ raised_by (length outcome.passed) old.commits

-- refused with this status: no data are answered, and the same keys are verified as before
pub record IsPinRefused (status : StatusWord) (answer : Answer) (old new : Verified) : Type 0 where
  pub body : answer.body ≡ []
  pub status_is : answer.status ≡ status
  pub verified : new ≡ old

-- There were these commits: where the store tells its state, it is that after the last of them.
pub record StandsLast (old new : Memory) (passed : List (List Pin)) : Type 0 where
  pub stands : IfSome (held old) (λ state. held new ≡ Some (last_of state (with_each state passed)))
  pub commits : new.commits ≡ raised_by (length passed) old.commits

-- the state after so many of the commits, which leave these PINs
abbrev pub state_after : List (List Pin) → ℕ → Persistent → Persistent
state_after passed count state = slice_index_or (state ∷ with_each state passed) count state

-- A fault stopped one of the commits. Those before it are counted, and no other; the table has the PINs after them, and is still
-- that of a card. Where the store tells its state, that is the one after them, or the one after the commit that was stopped.
-- The same keys are verified as before.
pub record IsPinCutShort (outcome : PinOutcome) (old new : Memory) (before after : Verified) : Type 0 where
  pub place : ℕ
  pub one_more : place < length outcome.passed
  pub table : pins_of new.table ≡ slice_index_or (pins_of old.table ∷ outcome.passed) place []
  pub stands : (held new ≡ option_map (state_after outcome.passed place) (held old))
      ⊎ (held new ≡ option_map (state_after outcome.passed (place + 1)) (held old))
  pub commits : new.commits ≡ raised_by place old.commits
  pub kept : Agrees new.mark None new.table
  pub unmoved : after ≡ before

-- What a test that nothing refused has done: it came to this outcome with a status that is never 6581, or a fault stopped it.
pub record IsTried (outcome : PinOutcome) (old new : Memory) (before after : Verified) (result : Result StatusWord StoreFault) : Type 0 where
  pub comes : IfOk result (λ status. IsCarriedOut outcome (pins_of old.table) status after (pins_of new.table))
  pub stands : OnOk result (StandsLast old new outcome.passed)
  pub usual : IfOk result (λ status. status.0 ≢ MEMORY_PROBLEM.0)
  pub stops : OnErr result (IsPinCutShort outcome old new before after)

-- However a command ends, nothing but PINs has changed in the table. After Ok the memory is mounted, and a fault has its cause.
pub record ChangesPins {T : Type 0} (old new : Memory) (result : Result T StoreFault) : Type 0 where
  pub others : new.table ≡ record old.table { pins = new.table.pins }
  pub keeps : Keeps old new result

-- The same, with the answer: no data, and never 6581.
pub record AnswersPins (old new : Memory) (answer : Answer) (result : Result Unit StoreFault) : Type 0 where
  pub others : new.table ≡ record old.table { pins = new.table.pins }
  pub keeps : Keeps old new result
  pub empty : answer.body ≡ []
  pub usual : OnOk result (answer.status.0 ≢ MEMORY_PROBLEM.0)

-- After an answer that tells how many tries are left, where a value was presented, they are one less than before; nothing else
-- of the PINs has changed.
abbrev pub LeavesOneLess : PinCommand → Apdu → StatusWord → List Pin → List Pin → Type 0
LeavesOneLess command apdu status before after =
    (tries : ℕ) → tries ≤ 10 → has_no_data apdu ≡ false → status ≡ tries_left tries
    → TakesATry (guard_of command) apdu.p2 before after × IsSomeAnd (pin_found after apdu.p2) (λ pin. tries_by (guard_of command) pin ≡ tries)

-- the command that an instruction byte names (ETSI TS 102 221, 10.1.2); each byte that is none of the other four's stands for UNBLOCK PIN
abbrev pub pin_by_byte : ℕ → PinCommand
pin_by_byte ins =
    if ins == 0x20 then Verify
    else if ins == 0x24 then Change
    else if ins == 0x26 then Disable
    else if ins == 0x28 then Enable
    else Unblock

-- what it comes to, refused or not
abbrev pub settled_by_byte : List Pin → Verified → Apdu → PinOutcome
settled_by_byte pins verified apdu = pin_settled (pin_by_byte apdu.ins) pins verified apdu

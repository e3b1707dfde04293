-- What the status of an answer tells of the command that there is to fetch (ETSI TS 102 221, 7.4.2.1).
use Rattle.std.specs.Prelude.{◌≡◌, ℕ, ◌+◌, ◌≤◌, Bool, true, List, Some, None}
use Rattle.uicc_types.specs.Told.{AreBytes}
use Rattle.uicc_types.specs.declared.answers.TheConstants.StatusWord.{DONE}
use Rattle.toolkit_model.specs.Commands.{pending}
use Rattle.card_model.specs.Answers.{Answered, answer_of}
use Rattle.card_model.specs.Instructions.{has_toolkit}
use Rattle.card_model.specs.States.{CardState, IsGood}
use Rattle.card_model.specs.declared.instructions.Instruction.{Instruction}

-- `91XX`: on the card after the answer a command waits to be fetched which is spelled in XX bytes. `9000`: none waits.
pub record TellsWhatWaits (answered : Answered) : Type 0 where
  pub waits : (size : ℕ) → size ≤ 255 → answered.status.0 ≡ 0x9100 + size → pending answered.state.session ≡ Some size
  pub none : answered.status ≡ DONE → pending answered.state.session ≡ None

-- so with each answer of a good card that runs applets
abbrev pub AnswersTellWhatWaits : Type 0
AnswersTellWhatWaits =
    (knows : Instruction → Bool) (card : CardState) (bytes : List ℕ) → has_toolkit knows ≡ true → IsGood card → AreBytes bytes → TellsWhatWaits (answer_of knows card bytes)

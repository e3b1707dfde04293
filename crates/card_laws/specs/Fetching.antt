-- What a card that runs applets answers to FETCH (ETSI TS 102 221, 11.2.3).
use Rattle.std.specs.Prelude.{◌≡◌, ◌≤◌, ℕ, Bool, true, List, length, Some}
use Rattle.uicc_types.specs.Told.{AreBytes}
use Rattle.uicc_types.specs.declared.answers.TheConstants.StatusWord.{DONE}
use Rattle.toolkit_model.specs.Commands.{unfetched, unanswered, as_fetched, command_bytes}
use Rattle.toolkit_model.specs.Sessions.{Outstanding}
use Rattle.toolkit_model.specs.Steps.{Fetch}
use Rattle.card_model.specs.Answers.{Answered, answer_of, is_carried_out}
use Rattle.card_model.specs.Instructions.{has_toolkit}
use Rattle.card_model.specs.States.{CardState, IsGood}
use Rattle.card_model.specs.declared.instructions.Instruction.{Instruction}
use Rattle.card_laws.specs.Moving.{taken}
use Rattle.card_laws.specs.Traces.{ins_of}

-- The data are the bytes of the command and the status is `9000`: there is no other to be fetched. From then on the handset has to
-- answer this one.
pub record GivesCommand (out : Outstanding) (answered : Answered) : Type 0 where
  pub body : answered.body ≡ command_bytes out
  pub status : answered.status ≡ DONE
  pub awaits : unanswered answered.state.session ≡ Some (as_fetched out)

-- where a card fetches a command that an answer has room for, as each that can be sent, its answer gives it
abbrev pub FetchesGiveCommands : Type 0
FetchesGiveCommands =
    (knows : Instruction → Bool) (card : CardState) (bytes : List ℕ) (out : Outstanding) → has_toolkit knows ≡ true → length (command_bytes out) ≤ 256 → taken knows card bytes ≡ Some (Fetch out)
    → GivesCommand out (answer_of knows card bytes)

-- the command that was outstanding is fetched
pub record FetchesCommand (knows : Instruction → Bool) (card : CardState) (bytes : List ℕ) : Type 0 where
  pub out : Outstanding
  pub waits : unfetched card.session ≡ Some out
  pub is : taken knows card bytes ≡ Some (Fetch out)
  pub gives : GivesCommand out (answer_of knows card bytes)

-- and where FETCH was carried out, one was
abbrev pub CarriedFetchesFetch : Type 0
CarriedFetchesFetch =
    (knows : Instruction → Bool) (card : CardState) (bytes : List ℕ) → has_toolkit knows ≡ true → IsGood card → AreBytes bytes → ins_of bytes ≡ 0x12
    → is_carried_out (answer_of knows card bytes).status ≡ true → FetchesCommand knows card bytes

-- Which commands a card takes: those of the toolkit that it carries out.
use Rattle.std.specs.Prelude.{◌≡◌, ℕ, ◌||◌, Bool, true, List, Some, is_some, Ok}
use Rattle.apdu_form.specs.Model.{Apdu, command_in}
use Rattle.card_model.specs.Answers.{answer_of, is_carried_out, is_status}
use Rattle.card_model.specs.Instructions.{instruction_tried, has_toolkit, is_of_toolkit}
use Rattle.card_model.specs.States.{CardState, IsGood}
use Rattle.card_model.specs.declared.instructions.Instruction.{Instruction}
use Rattle.card_laws.specs.Moving.{command_by, taken}

-- the instructions of the toolkit, and STATUS, of which applets are told
abbrev pub moves_toolkit : Instruction → Bool
moves_toolkit instruction = is_of_toolkit instruction || is_status instruction

-- What the card takes is what the instruction is with the data of the command: for those of the toolkit, and STATUS, there is one.
pub record TakesWhatItReads (knows : Instruction → Bool) (card : CardState) (bytes : List ℕ) : Type 0 where
  pub apdu : Apdu
  pub instruction : Instruction
  pub read : command_in bytes ≡ Some apdu
  pub named : instruction_tried knows card.channels apdu.class apdu.ins ≡ Ok instruction
  pub takes : taken knows card bytes ≡ command_by instruction card apdu
  pub is_one : moves_toolkit instruction ≡ true → is_some (command_by instruction card apdu) ≡ true

-- So it is with each command that a good card which runs applets carries out: an ENVELOPE that it carries out brings its event, and a
-- TERMINAL RESPONSE answers the command that was fetched.
abbrev pub CarriedCommandsAreTaken : Type 0
CarriedCommandsAreTaken =
    (knows : Instruction → Bool) (card : CardState) (bytes : List ℕ) → has_toolkit knows ≡ true → IsGood card → is_carried_out (answer_of knows card bytes).status ≡ true
    → TakesWhatItReads knows card bytes

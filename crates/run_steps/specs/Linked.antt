-- What a terminal has of a card over the T=0 link, beside what the card answers by itself.
use Rattle.std.specs.Prelude.{◌≡◌, ℕ, Bool, List, Option, Some, None, IsTrue}
use Rattle.uicc_types.specs.Told.{AreBytes}
use Rattle.uicc_types.specs.declared.answers.Answer.{Answer}
use Rattle.uicc_types.specs.declared.answers.TheConstants.StatusWord.{MEMORY_PROBLEM}
use Rattle.apdu_form.specs.Model.{Apdu, command_in}
use Rattle.t0_link.specs.Linking.{Linked, Course, Answers, Passes, status_alone}
use Rattle.t0_link.specs.Carrying.{is_carried, command_answer}
use Rattle.card_model.specs.Answers.{Answered, cut_answer, answer_of}
use Rattle.card_model.specs.States.{CardState, IsGood}
use Rattle.card_model.specs.declared.instructions.Instruction.{Instruction}

-- what a card shows of its answer: the data and the status
abbrev pub shown : Answered → Answer
shown answered = record { body = answered.body; status = answered.status }

-- what the terminal has in the end is this answer, and the link keeps nothing
abbrev pub HasAnswer : Linked → Answer → Type 0
HasAnswer linked answer = linked ≡ record { answer = answer; kept = None }

-- The card's own answer to a command, and its answer to the APDU that the link passes for it, of which the link makes this. Both
-- leave the same card, by the same commits and with the same status, and the data of the first are those of the second, cut to Le.
-- The terminal has the data and the status of the first. Where the memory fails, it has the status that tells it.
pub record HasOwnAnswer (own passed : Answered) (expected : Option ℕ) (linked : Answer → Linked) : Type 0 where
  pub same : own ≡ cut_answer expected passed
  pub given : HasAnswer (linked (shown passed)) (shown own)
  pub failed : HasAnswer (linked (status_alone MEMORY_PROBLEM)) (status_alone MEMORY_PROBLEM)

-- a command goes to the card, and has its own answer
abbrev pub GivesOwnAnswer : (Instruction → Bool) → CardState → List ℕ → Option ℕ → Course → Type 0
GivesOwnAnswer knows card bytes expected (Answers linked) = ⊥
GivesOwnAnswer knows card bytes expected (Passes apdu linked) = HasOwnAnswer (answer_of knows card bytes) (answer_of knows card apdu) expected linked

-- The link changes no answer of a good card, whatever commands the card knows and whatever the link keeps.
abbrev pub LinkChangesNoAnswer : Type 0
LinkChangesNoAnswer =
    (knows : Instruction → Bool) (card : CardState) (kept : Option Answer) (bytes : List ℕ) (command : Apdu)
    → IsGood card → AreBytes bytes → command_in bytes ≡ Some command → IsTrue (is_carried command)
    → GivesOwnAnswer knows card bytes command.expected (command_answer kept command)

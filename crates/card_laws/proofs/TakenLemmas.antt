-- What comes of the bytes of a command on a card that runs applets, and which command of the toolkit it takes by them.
use Rattle.std.proofs.Common.{◌≡◌, Bool, true, List, ℕ, Option, None, Result, Err, sym, subst}
use Rattle.uicc_types.specs.declared.answers.StatusWord.{StatusWord}
use Rattle.apdu_form.specs.Model.{Apdu}
use Rattle.toolkit_model.specs.Steps.{ToolkitInput}
use Rattle.card_model.specs.Answers.{Answered, carried_with, tried}
use Rattle.card_model.proofs.TriedLemmas.{cut_result, Refuses, IsRead, of_read}
use Rattle.card_model.specs.Instructions.{has_toolkit}
use Rattle.card_model.specs.States.{CardState}
use Rattle.card_model.specs.declared.instructions.Instruction.{Instruction}
use Rattle.card_laws.specs.Moving.{command_by, if_carried, taken}

module _ (knows : Instruction → Bool) (card : CardState) (bytes : List ℕ) (runs : has_toolkit knows ≡ true) where
  -- a command that is read, with its data cut to Le
  abbrev pub carried : Apdu → Instruction → Result Answered StatusWord
  carried apdu instruction = cut_result apdu.expected (carried_with true instruction card apdu)

  pub of_taken : (Q : Option ToolkitInput → Result Answered StatusWord → Type 0) → Refuses (λ status. Q None (Err status))
      → ((apdu : Apdu) (instruction : Instruction) → IsRead knows card bytes apdu instruction → Q (if_carried (carried_with true instruction card apdu) (command_by instruction card apdu)) (carried apdu instruction))
      → Q (taken knows card bytes) (tried knows card bytes)
  of_taken Q refuses carries =
      of_read knows card bytes None (λ apdu instruction. if_carried (carried_with true instruction card apdu) (command_by instruction card apdu)) Q refuses
      (λ apdu instruction read. subst (λ (runs_applets : Bool). Q (if_carried (carried_with true instruction card apdu) (command_by instruction card apdu)) (cut_result apdu.expected (carried_with runs_applets instruction card apdu))) (sym runs) (carries apdu instruction read))

  pub of_running : (Q : Result Answered StatusWord → Type 0) → Refuses (λ status. Q (Err status)) → ((apdu : Apdu) (instruction : Instruction) → IsRead knows card bytes apdu instruction → Q (carried apdu instruction)) → Q (tried knows card bytes)
  of_running Q refuses carries = of_taken (λ command result. Q result) refuses carries

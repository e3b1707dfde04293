-- From the commands to the answers: which instructions look at Le, and how Le cuts the data.
use Rattle.std.proofs.Common.{◌≡◌, ℕ, ◌≤◌, Bool, false, List, [], length, Option, Some, None, Result, Ok, Err, refl, sym, ◌∙◌, ap, subst, arith, IfSome, MatchResult, length-take}
use Rattle.uicc_types.specs.declared.answers.StatusWord.{StatusWord}
use Rattle.uicc_types.specs.declared.answers.TheConstants.StatusWord.{WRONG_LENGTH}
use Rattle.apdu_form.specs.Model.{Apdu, command_in, cut_to}
use Rattle.apdu_form.specs.Classes.{family}
use Rattle.file_model.specs.Chains.{given, and_given}
use Rattle.card_model.specs.Answers.{Answered, refused, carried_with, cut_answer, settled, tried, with_pending, answer_of}
use Rattle.card_model.specs.Chained.{Any}
use Rattle.card_model.specs.Instructions.{instruction_tried, has_toolkit}
use Rattle.card_model.specs.States.{CardState}
use Rattle.card_model.specs.declared.instructions.Instruction.{Instruction}
use Rattle.card_model.proofs.TriedLemmas.{cut_result}
use Rattle.card_model.proofs.RowNamedLemmas.{IsNamed, named_so, instruction_so}
use Rattle.card_core.proofs.ActsAsLemmas.{cut_nothing}
use Rattle.run_steps.specs.Le.{without_le, looks_at_le, asks_by_le}
use Rattle.run_steps.proofs.LooksAtLeLemmas.{carried_with_alike}

-- an instruction looks at Le where its byte says so
tells_of_le : (p1 : ℕ) (knows : Instruction → Bool) (class ins : ℕ) (instruction : Instruction) → IsNamed knows class ins instruction → looks_at_le instruction p1 ≡ asks_by_le ins p1
tells_of_le p1 =
    named_so (λ instruction class ins. looks_at_le instruction p1 ≡ asks_by_le ins p1)
    (refl, (refl, (refl, (refl, (refl, (refl, (refl, (refl, (refl, (refl, (refl, (refl, (refl, (refl, (refl, (refl, (refl, (refl, (refl, (refl, (refl, (refl, (refl, (refl, (refl, tt)))))))))))))))))))))))))

abbrev pub Keeps : Option ℕ → List ℕ → Type 0
Keeps expected body = IfSome expected (λ most. length body ≤ most)

cut_keeps : (expected : Option ℕ) (body : List ℕ) → Keeps expected (cut_to expected body)
cut_keeps None body = tt
cut_keeps (Some most) body = omega (arith, length-take most body)

module _ (knows : Instruction → Bool) (card : CardState) (command : Apdu) where
  abbrev found : Result Instruction StatusWord
  found = instruction_tried knows card.channels command.class command.ins

  abbrev carried : Option ℕ → Apdu → Instruction → Result Answered StatusWord
  carried expected each instruction = cut_result expected (carried_with (has_toolkit knows) instruction card each)

  -- the bytes of this command
  tried_so : (bytes : List ℕ) → command_in bytes ≡ Some command → tried knows card bytes ≡ and_given found (carried command.expected command)
  unfolding tried given
  tried_so bytes read =
      ap (λ (read : Option Apdu). given read WRONG_LENGTH (λ apdu. and_given (instruction_tried knows card.channels apdu.class apdu.ins) (λ instruction. cut_result apdu.expected (carried_with (has_toolkit knows) instruction card apdu)))) read

  -- and those of the command without Le
  bare_so : (bare : List ℕ) → command_in bare ≡ Some (without_le command) → tried knows card bare ≡ and_given found (carried None (without_le command))
  unfolding tried given
  bare_so bare read =
      ap (λ (read : Option Apdu). given read WRONG_LENGTH (λ apdu. and_given (instruction_tried knows card.channels apdu.class apdu.ins) (λ instruction. cut_result apdu.expected (carried_with (has_toolkit knows) instruction card apdu)))) read

  module _ (none : asks_by_le command.ins command.p1 ≡ false) where
    settled_cut : (result : Result Answered StatusWord) → settled card (cut_result command.expected result) ≡ cut_answer command.expected (settled card (cut_result None result))
    unfolding and_given
    settled_cut (Err status) = ap (λ (body : List ℕ). record (refused card status) { body = body }) (sym (cut_nothing command.expected))
    settled_cut (Ok answered) = refl

    by_found : (result : Result Instruction StatusWord) → MatchResult result (λ instruction. looks_at_le instruction command.p1 ≡ asks_by_le command.ins command.p1) Any
        → settled card (and_given result (carried command.expected command)) ≡ cut_answer command.expected (settled card (and_given result (carried None (without_le command))))
    unfolding and_given
    by_found (Err status) tells = ap (λ (body : List ℕ). record (refused card status) { body = body }) (sym (cut_nothing command.expected))
    by_found (Ok instruction) tells =
        ap (λ (result : Result Answered StatusWord). settled card (cut_result command.expected result)) (carried_with_alike card command (has_toolkit knows) instruction (tells ∙ none))
        ∙ settled_cut (carried_with (has_toolkit knows) instruction card (without_le command))

    pub answer_cut : (bytes bare : List ℕ) → command_in bytes ≡ Some command → command_in bare ≡ Some (without_le command) → answer_of knows card bytes ≡ cut_answer command.expected (answer_of knows card bare)
    unfolding answer_of
    answer_cut bytes bare read read_bare =
        ap with_pending (
        ap (settled card) (tried_so bytes read)
        ∙ by_found found (instruction_so (λ instruction. looks_at_le instruction command.p1 ≡ asks_by_le command.ins command.p1) Any knows card.channels command.class command.ins tt tt tt tt
        (tells_of_le command.p1 knows (family command.class) command.ins))
        ∙ ap (λ (result : Result Answered StatusWord). cut_answer command.expected (settled card result)) (sym (bare_so bare read_bare))
        )

  -- no answer has more data
  keeps : (result : Result Answered StatusWord) → Keeps command.expected (settled card (cut_result command.expected result)).body
  unfolding and_given
  keeps (Err status) = subst (Keeps command.expected) (cut_nothing command.expected) (cut_keeps command.expected [])
  keeps (Ok answered) = cut_keeps command.expected answered.body

  found_keeps : (result : Result Instruction StatusWord) → Keeps command.expected (settled card (and_given result (carried command.expected command))).body
  unfolding and_given
  found_keeps (Err status) = subst (Keeps command.expected) (cut_nothing command.expected) (cut_keeps command.expected [])
  found_keeps (Ok instruction) = keeps (carried_with (has_toolkit knows) instruction card command)

  pub answer_keeps : (bytes : List ℕ) → command_in bytes ≡ Some command → Keeps command.expected (answer_of knows card bytes).body
  unfolding answer_of
  answer_keeps bytes read = subst (λ (result : Result Answered StatusWord). Keeps command.expected (settled card result).body) (sym (tried_so bytes read)) (found_keeps found)

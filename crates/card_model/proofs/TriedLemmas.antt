-- What comes of the bytes of a command.
use Rattle.std.proofs.Common.{◌≡◌, ℕ, Bool, List, Option, Some, None, refl, ◌≤◌, length, subst, arith, MatchResult, Result, Ok, Err, IfSome, length-take}
use Rattle.std.specs.Prelude.{⊤}
use Rattle.uicc_types.specs.declared.answers.StatusWord.{StatusWord}
use Rattle.uicc_types.specs.declared.answers.TheConstants.StatusWord.{WRONG_LENGTH, NO_SUCH_CLASS, NO_SECURE_MESSAGING, NO_SUCH_CHANNEL, NO_SUCH_INSTRUCTION}
use Rattle.uicc_types.specs.Told.{AreBytes}
use Rattle.apdu_form.specs.Model.{Apdu, command_in, IsCommand, cut_to}
use Rattle.apdu_form.proofs.CommandInLemmas.{commands_are}
use Rattle.file_model.specs.Chains.{given, and_given}
use Rattle.apdu_form.specs.Classes.{family}
use Rattle.card_model.specs.Answers.{Answered, carried_with, cut_answer, tried}
use Rattle.card_model.specs.Instructions.{instruction_tried, has_toolkit}
use Rattle.card_model.proofs.RowNamedLemmas.{IsNamed, instruction_so}
use Rattle.card_model.specs.States.{CardState}
use Rattle.card_model.specs.declared.instructions.Instruction.{Instruction}

-- what comes of a command, with its data cut to Le
abbrev pub cut_result : Option ℕ → Result Answered StatusWord → Result Answered StatusWord
cut_result expected result = and_given result (λ answered. Ok (cut_answer expected answered))

-- what holds of an answer whatever its data are cut to
pub cut_so : (P : Answered → Type 0) (R : StatusWord → Type 0) (expected : Option ℕ) (result : Result Answered StatusWord)
    → ((answered : Answered) → P answered → P (cut_answer expected answered)) → MatchResult result P R → MatchResult (cut_result expected result) P R
unfolding and_given
cut_so P R expected (Err status) cuts holds = holds
cut_so P R expected (Ok answered) cuts holds = cuts answered holds

-- the five ways in which a command is refused before it is known
pub record Refuses (R : StatusWord → Type 0) : Type 0 where
  pub length_is : R WRONG_LENGTH
  pub class_is : R NO_SUCH_CLASS
  pub secure_is : R NO_SECURE_MESSAGING
  pub channel_is : R NO_SUCH_CHANNEL
  pub instruction_is : R NO_SUCH_INSTRUCTION

-- the command that is read in some bytes
pub record IsRead (knows : Instruction → Bool) (card : CardState) (bytes : List ℕ) (apdu : Apdu) (instruction : Instruction) : Type 0 where
  pub read : command_in bytes ≡ Some apdu
  pub tried_is : instruction_tried knows card.channels apdu.class apdu.ins ≡ Ok instruction
  pub named : IsNamed knows (family apdu.class) apdu.ins instruction

-- What holds of these refusals and of each command that is read, holds of what comes of the bytes, and of what is made of the command.
module _ {X : Type 0} (knows : Instruction → Bool) (card : CardState) (bytes : List ℕ) (none : X) (made : Apdu → Instruction → X) (Q : X → Result Answered StatusWord → Type 0) where
  abbrev carried : Apdu → Instruction → Result Answered StatusWord
  carried apdu instruction = cut_result apdu.expected (carried_with (has_toolkit knows) instruction card apdu)

  abbrev pub made_if : Apdu → Result Instruction StatusWord → X
  made_if apdu (Ok instruction) = made apdu instruction
  made_if apdu (Err status) = none

  abbrev pub made_of : Option Apdu → X
  made_of None = none
  made_of (Some apdu) = made_if apdu (instruction_tried knows card.channels apdu.class apdu.ins)

  module _ (refuses : Refuses (λ status. Q none (Err status))) (carries : (apdu : Apdu) (instruction : Instruction) → IsRead knows card bytes apdu instruction → Q (made apdu instruction) (carried apdu instruction)) where
    by_instruction : (apdu : Apdu) → command_in bytes ≡ Some apdu → (found : Result Instruction StatusWord) → instruction_tried knows card.channels apdu.class apdu.ins ≡ found
        → MatchResult found (IsNamed knows (family apdu.class) apdu.ins) (λ status. Q none (Err status)) → Q (made_if apdu found) (and_given found (carried apdu))
    unfolding and_given
    by_instruction apdu read (Err status) is holds = holds
    by_instruction apdu read (Ok instruction) is named = carries apdu instruction (record { read = read; tried_is = is; named = named })

    by_command : (found : Option Apdu) → command_in bytes ≡ found → Q (made_of found) (given found WRONG_LENGTH (λ apdu. and_given (instruction_tried knows card.channels apdu.class apdu.ins) (carried apdu)))
    unfolding given
    by_command None read = refuses.length_is
    by_command (Some apdu) read =
        by_instruction apdu read (instruction_tried knows card.channels apdu.class apdu.ins) refl
        (instruction_so (IsNamed knows (family apdu.class) apdu.ins) (λ status. Q none (Err status)) knows card.channels apdu.class apdu.ins refuses.class_is refuses.secure_is refuses.channel_is refuses.instruction_is
        (λ instruction named. named))

    pub of_read : Q (made_of (command_in bytes)) (tried knows card bytes)
    unfolding tried
    of_read = by_command (command_in bytes) refl

pub cut_low : (expected : Option ℕ) (body : List ℕ) → length (cut_to expected body) ≤ length body
cut_low None body = omega arith
cut_low (Some most) body = omega (arith, length-take most body)

pub command_is : (bytes : List ℕ) (apdu : Apdu) → AreBytes bytes → command_in bytes ≡ Some apdu → IsCommand bytes apdu
command_is bytes apdu are read = subst (λ (found : Option Apdu). IfSome found (IsCommand bytes)) read (commands_are bytes are)

-- each of them is so
pub all_so : (R : StatusWord → Type 0) → ((status : StatusWord) → R status) → Refuses R
all_so R so = record { length_is = so WRONG_LENGTH; class_is = so NO_SUCH_CLASS; secure_is = so NO_SECURE_MESSAGING; channel_is = so NO_SUCH_CHANNEL; instruction_is = so NO_SUCH_INSTRUCTION }

-- so of what comes of the bytes alone
pub of_tried : (knows : Instruction → Bool) (card : CardState) (bytes : List ℕ) (Q : Result Answered StatusWord → Type 0) → Refuses (λ status. Q (Err status))
    → ((apdu : Apdu) (instruction : Instruction) → IsRead knows card bytes apdu instruction → Q (cut_result apdu.expected (carried_with (has_toolkit knows) instruction card apdu))) → Q (tried knows card bytes)
of_tried knows card bytes Q refuses carries = of_read {X = ⊤} knows card bytes tt (λ apdu instruction. tt) (λ made result. Q result) refuses carries

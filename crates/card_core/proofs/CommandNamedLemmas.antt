-- Refusals that need nothing of what the store holds.
use Rattle.std.proofs.Common.{◌≡◌, ℕ, Bool, true, false, List, Option, Some, None, refl, sym, ap, subst, ◌≢◌, Result, Ok, Err, OnOk, true≢false}
use Rattle.uicc_types.specs.declared.answers.StatusWord.{StatusWord}
use Rattle.uicc_types.specs.declared.answers.TheConstants.StatusWord.{MEMORY_PROBLEM, WRONG_LENGTH}
use Rattle.apdu_form.specs.Model.{Apdu, command_in}
use Rattle.store_form.specs.declared.store.StoreFault.{StoreFault}
use Rattle.store_form.specs.declared.store.StoreFault.TheVariants as store
use Rattle.file_model.specs.declared.selections.Selection.{Selection}
use Rattle.file_model.specs.Chains.{given}
use Rattle.card_model.specs.Instructions.{instruction_tried, is_known}
use Rattle.card_model.specs.declared.instructions.Instruction.{Instruction}
use Rattle.card_core.specs.AnyStore.{command_named}
use Rattle.card_core.specs.declared.faults.CardFault.{CardFault}
use Rattle.card_core.specs.declared.faults.CardFault.TheVariants as card

is_done : {X Y : Type 0} → Result X Y → Bool
is_done (Ok x) = true
is_done (Err y) = false

pub ok_not_err : {X Y : Type 0} (x : X) (y : Y) → Ok x ≡ Err y → ⊥
unfolding is_done
ok_not_err x y is = true≢false (ap is_done is)

status_or : StatusWord → Result Instruction StatusWord → StatusWord
status_or otherwise (Ok instruction) = otherwise
status_or otherwise (Err status) = status

pub same_status : (one other : StatusWord) → ◌≡◌ {A = Result Instruction StatusWord} (Err one) (Err other) → one ≡ other
unfolding status_or
same_status one other is = ap (status_or one) is

instruction_or : Instruction → Result Instruction StatusWord → Instruction
instruction_or otherwise (Ok instruction) = instruction
instruction_or otherwise (Err status) = otherwise

pub same_instruction : (one other : Instruction) → ◌≡◌ {A = Result Instruction StatusWord} (Ok one) (Ok other) → one ≡ other
unfolding instruction_or
same_instruction one other is = ap (instruction_or one) is

-- the form is known
pub named_by : (channels : List (Option Selection)) (bytes : List ℕ) (apdu : Apdu) → Some apdu ≡ command_in bytes → instruction_tried is_known channels apdu.class apdu.ins ≡ command_named channels bytes
unfolding command_named given
named_by channels bytes apdu is = ap (λ (found : Option Apdu). given found WRONG_LENGTH (λ command. instruction_tried is_known channels command.class command.ins)) is

-- there is no such form
pub not_named : (channels : List (Option Selection)) (bytes : List ℕ) → None ≡ command_in bytes → Err WRONG_LENGTH ≡ command_named channels bytes
unfolding command_named given
not_named channels bytes is = ap (λ (found : Option Apdu). given found WRONG_LENGTH (λ command. instruction_tried is_known channels command.class command.ins)) is

-- what was due failed, or lost power
pub failed_first : (P : Type 0) (fault : StoreFault) (result : Result (Unit {0}) CardFault) (status : StatusWord)
    → (fault ≡ store.Failed → (result ≡ Ok tt) × (status ≡ MEMORY_PROBLEM)) → (fault ≡ store.PowerLost → result ≡ Err card.PowerLost) → OnOk result (status ≢ MEMORY_PROBLEM → P)
failed_first P store.Failed result status failed lost =
    subst (λ (came : Result (Unit {0}) CardFault). OnOk came (status ≢ MEMORY_PROBLEM → P)) (sym (failed refl).0) (λ other. absurd (other (failed refl).1))
failed_first P store.PowerLost result status failed lost = subst (λ (came : Result (Unit {0}) CardFault). OnOk came (status ≢ MEMORY_PROBLEM → P)) (sym (lost refl)) tt

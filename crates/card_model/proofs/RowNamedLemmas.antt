-- What holds of each command that a class and an instruction byte name.
use Rattle.std.proofs.Common.{◌≡◌, ℕ, zero, suc, Bool, true, List, [], ◌∷◌, Option, Some, refl, sym, ◌∙◌, subst, arith, ◌==◌, ◌&&◌, Contains, MatchResult}
use Rattle.std.specs.Prelude.{⊤}
use Rattle.std.specs.List.{list_all}
use Rattle.std.proofs.lemmas.Bool.{eqb-true, and_parts}
use Rattle.list_laws.proofs.FindLemmas.{find-filter, find_Some}
use Rattle.uicc_types.specs.declared.answers.StatusWord.{StatusWord}
use Rattle.uicc_types.specs.declared.answers.TheConstants.StatusWord.{NO_SUCH_CLASS, NO_SECURE_MESSAGING, NO_SUCH_CHANNEL, NO_SUCH_INSTRUCTION}
use Rattle.file_model.specs.declared.selections.Selection.{Selection}
use Rattle.file_model.proofs.ChainsLemmas.{unless_so, given_so}
use Rattle.apdu_form.specs.Classes.{family}
use Rattle.card_model.specs.Instructions.{InstructionRow, instructions, row_named, instruction_tried, is_of_tree, is_row_of_tree}
use Rattle.card_model.specs.declared.instructions.Instruction.{Instruction}

-- what holds of each element of a list, as one fact
abbrev pub Each : {X : Type 0} → (X → Type 0) → List X → Type 0
Each P [] = ⊤
Each P (x ∷ xs) = P x × Each P xs

-- holds of one that it contains
pub each_of : {X : Type 0} (P : X → Type 0) (xs : List X) → Each P xs → (x : X) → Contains xs x → P x
each_of P [] each x (k, low, is) = absurd (omega (arith, low))
each_of P (y ∷ ys) each x (zero, low, is) = subst P is each.0
each_of P (y ∷ ys) each x (suc k, low, is) = each_of P ys each.1 x (k, omega (arith, low), is)

-- what is tested of all elements holds of each
pub all_hold : {X : Type 0} (test : X → Bool) (xs : List X) → list_all test xs ≡ true → (x : X) → Contains xs x → test x ≡ true
all_hold test [] all x (k, low, is) = absurd (omega (arith, low))
all_hold test (y ∷ ys) all x (zero, low, is) = subst (λ z. test z ≡ true) is (and_parts (test y) (list_all test ys) all).0
all_hold test (y ∷ ys) all x (suc k, low, is) = all_hold test ys (and_parts (test y) (list_all test ys) all).1 x (k, omega (arith, low), is)

-- The command that a card knows at this class, without its channel, and this instruction byte: that of a row with both.
pub record IsNamed (knows : Instruction → Bool) (class ins : ℕ) (instruction : Instruction) : Type 0 where
  pub row : InstructionRow
  pub there : Contains instructions row
  pub instruction_is : row.instruction ≡ instruction
  pub class_is : row.class ≡ class
  pub ins_is : row.ins ≡ ins
  pub known : knows instruction ≡ true

-- what holds of each row holds of what it names
pub named_so : (R : Instruction → ℕ → ℕ → Type 0) → Each (λ row. R row.instruction row.class row.ins) instructions
    → (knows : Instruction → Bool) (class ins : ℕ) (instruction : Instruction) → IsNamed knows class ins instruction → R instruction class ins
named_so R each knows class ins instruction named =
    subst (λ (is : Instruction). R is class ins) named.instruction_is (
    subst (λ (is : ℕ). R named.row.instruction is ins) named.class_is (
    subst (λ (is : ℕ). R named.row.instruction named.row.class is) named.ins_is (each_of (λ row. R row.instruction row.class row.ins) instructions each named.row named.there)))

-- A command makes, deletes or resizes files exactly where its class and its instruction byte say so.
pub tree_named : (knows : Instruction → Bool) (class ins : ℕ) (instruction : Instruction) → IsNamed knows class ins instruction → is_of_tree instruction ≡ is_row_of_tree class ins
tree_named =
    named_so (λ instruction class ins. is_of_tree instruction ≡ is_row_of_tree class ins)
    (refl, (refl, (refl, (refl, (refl, (refl, (refl, (refl, (refl, (refl, (refl, (refl, (refl, (refl, (refl, (refl, (refl, (refl, (refl, (refl, (refl, (refl, (refl, (refl, (refl, tt)))))))))))))))))))))))))

row_found : (knows : Instruction → Bool) (class ins : ℕ) (row : InstructionRow) → row_named knows class ins ≡ Some row → IsNamed knows class ins row.instruction
row_found knows class ins row is =
    let test : InstructionRow → Bool = λ each. each.ins == ins && each.class == class in
    let found = find_Some (λ (each : InstructionRow). knows each.instruction && test each) instructions row (sym (find-filter test (λ each. knows each.instruction) instructions) ∙ is) in
    let known = and_parts (knows row.instruction) (test row) found.1 in
    let named = and_parts (row.ins == ins) (row.class == class) known.1 in
    record { row = row; there = found.0; instruction_is = refl; class_is = eqb-true row.class class named.1; ins_is = eqb-true row.ins ins named.0; known = known.0 }

-- A class, a channel and an instruction byte are refused in four ways, and what is left is a command that the card knows.
pub instruction_so : (P : Instruction → Type 0) (R : StatusWord → Type 0) (knows : Instruction → Bool) (channels : List (Option Selection)) (class ins : ℕ)
    → R NO_SUCH_CLASS → R NO_SECURE_MESSAGING → R NO_SUCH_CHANNEL → R NO_SUCH_INSTRUCTION
    → ((instruction : Instruction) → IsNamed knows (family class) ins instruction → P instruction) → MatchResult (instruction_tried knows channels class ins) P R
unfolding instruction_tried
instruction_so P R knows channels class ins no_class secure no_channel no_instruction holds =
    unless_so P R _ _ _ no_class (λ _.
    unless_so P R _ _ _ secure (λ _.
    unless_so P R _ _ _ no_channel (λ _.
    unless_so P R _ _ _ no_instruction (λ _.
    given_so P R (row_named knows (family class) ins) _ _ no_class (λ row is.
    unless_so P R _ _ _ no_channel (λ _. holds row.instruction (row_found knows (family class) ins row is)))))))

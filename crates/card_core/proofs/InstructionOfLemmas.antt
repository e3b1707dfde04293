-- A command that has a row in its class is not refused on the basic channel.
use Rattle.std.proofs.Common.{◌≡◌, ◌⊎◌, inl, inr, ℕ, ◌==◌, ◌&&◌, ◌||◌, Bool, true, false, List, [], ◌∷◌, Option, Some, Result, Ok, refl, sym, ◌∙◌, ap, subst, cond, find, is_some}
use Rattle.std.specs.List.{list_any}
use Rattle.std.proofs.lemmas.Bool.{false≢true}
use Rattle.uicc_types.specs.declared.answers.StatusWord.{StatusWord}
use Rattle.uicc_types.specs.declared.answers.TheConstants.StatusWord.{NO_SUCH_CLASS, NO_SUCH_CHANNEL, NO_SUCH_INSTRUCTION}
use Rattle.file_model.specs.Chains.{refused_if, given, needs}
use Rattle.file_model.specs.declared.selections.Selection.{Selection}
use Rattle.file_model.specs.Channels.{is_open}
use Rattle.card_model.specs.Instructions.{InstructionRow, instruction_tried, is_known, has_ins, row_named, rows_known}
use Rattle.card_model.specs.declared.instructions.Instruction.{Instruction}

row_has : (rows : List InstructionRow) (class ins : ℕ) (found : InstructionRow) → find (λ each. each.ins == ins && each.class == class) rows ≡ Some found → list_any (λ each. each.ins == ins) rows ≡ true
row_has [] class ins found is = absurd (false≢true (ap is_some is))
row_has (row ∷ rows) class ins found is = by_test (row.ins == ins) (row.class == class) (row_has rows class ins found) is
  where
    by_test : (named same : Bool) → (find (λ each. each.ins == ins && each.class == class) rows ≡ Some found → list_any (λ each. each.ins == ins) rows ≡ true)
        → cond (named && same) (Some row) (find (λ each. each.ins == ins && each.class == class) rows) ≡ Some found → (named || list_any (λ each. each.ins == ins) rows) ≡ true
    by_test true same rest is = refl
    by_test false same rest is = rest is

tested : Bool → Bool → Option InstructionRow → Result Instruction StatusWord
tested channel has row = needs channel NO_SUCH_CHANNEL (needs has NO_SUCH_INSTRUCTION (given row NO_SUCH_CLASS (λ found. refused_if (found.is_basic && false) NO_SUCH_CHANNEL (Ok found.instruction))))

passed : (basic : Bool) (instruction : Instruction) → refused_if (basic && false) NO_SUCH_CHANNEL (Ok instruction) ≡ Ok instruction
unfolding refused_if
passed true instruction = refl
passed false instruction = refl

basic_or_toolkit : (channels : List (Option Selection)) (class ins : ℕ) → (class ≡ 0x00) ⊎ (class ≡ 0x80) → instruction_tried is_known channels class ins ≡ tested (is_open channels 0) (has_ins is_known ins) (row_named is_known class ins)
unfolding instruction_tried refused_if given tested
basic_or_toolkit channels class ins (inl is) = subst (λ (each : ℕ). instruction_tried is_known channels each ins ≡ tested (is_open channels 0) (has_ins is_known ins) (row_named is_known each ins)) (sym is) refl
basic_or_toolkit channels class ins (inr is) = subst (λ (each : ℕ). instruction_tried is_known channels each ins ≡ tested (is_open channels 0) (has_ins is_known ins) (row_named is_known each ins)) (sym is) refl

pub known_alone : (channels : List (Option Selection)) (class ins : ℕ) (found : InstructionRow) → (class ≡ 0x00) ⊎ (class ≡ 0x80) → is_open channels 0 ≡ true → row_named is_known class ins ≡ Some found
    → instruction_tried is_known channels class ins ≡ Ok found.instruction
unfolding tested refused_if given
known_alone channels class ins found which there is =
    basic_or_toolkit channels class ins which
    ∙ ap (λ (each : Bool). tested each (has_ins is_known ins) (row_named is_known class ins)) there
    ∙ ap (λ (each : Bool). tested true each (row_named is_known class ins)) (row_has (rows_known is_known) class ins found is)
    ∙ ap (tested true true) is
    ∙ passed found.is_basic found.instruction

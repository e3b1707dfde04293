use Rattle.std.proofs.Common.{◌≡◌, ℕ, Some, sym, subst}
use Rattle.card_model.specs.Instructions.{is_known, row_named}
use Rattle.card_core.specs.Commands.{row_shown}
use Rattle.card_core.proofs.InstructionOfLemmas.{known_alone}
use Rattle.card_core.proofs.instructions.instruction_of.Goals as goal

pub returns-in-Some-clause-tried : goal.returns-in-Some-clause-tried
returns-in-Some-clause-tried c =
    let ins = c.args.command.now.ins in
    let named = subst (λ (class : ℕ). row_named is_known class ins ≡ Some (row_shown ins c.in-Some.row)) (c.has_plain_class.ensures.family c.if-has_plain_class.true) (sym c.in-Some.ensures.shown) in
    sym (known_alone c.args.channels.now c.args.command.now.class ins (row_shown ins c.in-Some.row) (c.has_plain_class.ensures.which c.if-has_plain_class.true) c.basic_is_open.ensures named)

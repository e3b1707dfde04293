use Rattle.std.proofs.Common.{sym, ◌∙◌}
use Rattle.boxed_applets.proofs.DigitsUpToLemmas.{low_half, two_halves}
use Rattle.boxed_applets.proofs.numbers.put_byte.Goals as goal

pub returns-then-put_half-clause-after : goal.returns-then-put_half-clause-after
returns-then-put_half-clause-after c =
    two_halves c.args.byte c.args.number.now c.put_half.new.number _ (sym c.put_half.ensures.goes_on ∙ c.if-put_half.true) c.put_half.ensures.after c.put_half-then-put_half.ensures.after

pub returns-else-put_half-clause-after : goal.returns-else-put_half-clause-after
returns-else-put_half-clause-after c =
    low_half c.args.byte c.args.number.now c.put_half.new.number (sym c.put_half.ensures.goes_on ∙ c.if-put_half.false) c.put_half.ensures.after

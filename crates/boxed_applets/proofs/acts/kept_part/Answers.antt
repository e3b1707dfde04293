use Rattle.std.proofs.Common.{arith, sym, length-take, take_all}
use Rattle.boxed_applets.proofs.acts.kept_part.Goals as goal

pub slice_bounds-result-end : goal.slice_bounds-result-end
slice_bounds-result-end c = omega (arith, length-take 32 c.args.text.now)

pub returns-then-text-gt-MOST_KEPT-clause-fits : goal.returns-then-text-gt-MOST_KEPT-clause-fits
returns-then-text-gt-MOST_KEPT-clause-fits c = omega (arith, length-take 32 c.args.text.now)

pub returns-else-text-gt-MOST_KEPT-clause-value : goal.returns-else-text-gt-MOST_KEPT-clause-value
returns-else-text-gt-MOST_KEPT-clause-value c = sym (take_all 32 c.args.text.now (omega arith))

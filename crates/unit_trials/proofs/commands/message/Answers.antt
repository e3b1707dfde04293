use Rattle.std.proofs.Common.{arith, length-take}
use Rattle.unit_trials.proofs.commands.message.Goals as goal

pub slice_bounds-result-end : goal.slice_bounds-result-end
slice_bounds-result-end c = omega (arith, length-take 256 c.args.bytes.now, c.if-bytes-gt-MOST_BYTES.true)

pub returns-then-bytes-gt-MOST_BYTES : goal.returns-then-bytes-gt-MOST_BYTES
returns-then-bytes-gt-MOST_BYTES c = omega (arith, length-take 256 c.args.bytes.now, c.if-bytes-gt-MOST_BYTES.true)

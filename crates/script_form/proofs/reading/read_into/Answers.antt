-- A line that begins with `apdu` and a space is a command's.
use Rattle.std.proofs.Common.{arith}
use Rattle.script_form.proofs.IsCommandLineLemmas.{begins, reads_line}
use Rattle.script_form.proofs.reading.read_into.Goals as goal

pub returns-in-97 : goal.returns-in-97
returns-in-97 c =
    let line = c.args.bytes.now in
    reads_line line _ (begins line c.in-97.len_at_least (grind arith) (grind arith) (grind arith) (grind arith) (grind arith))
    c.if-bytes-gt-LONGEST_LINE.false c.command.result c.command.new.line c.command.ensures

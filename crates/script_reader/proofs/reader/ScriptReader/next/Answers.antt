use Rattle.std.proofs.Common.{ap, None, Some, [], ◌∷◌, ◌+◌, ◌∙◌, sym, append_assoc, length-append}
use Rattle.script_reader.proofs.reader.ScriptReader.next.Goals as goal

pub returns-in-End-clause-next : goal.returns-in-End-clause-next
returns-in-End-clause-next g c = λ text given follows. ((c.in-End.ensures.found text given follows.reads).found, follows.counts)

pub returns-in-TooLong-clause-next : goal.returns-in-TooLong-clause-next
returns-in-TooLong-clause-next g c = λ text given follows.
    let found = c.in-TooLong.ensures.found text given follows.reads in
    let bad = found.found in
    rw c.next_is_bad.ensures (record { next = None ∷ bad.0; parted = bad.1; is = tt; counted = ap (λ count. count + 1) follows.counts; reach = found.reach })

pub returns-in-Ok-clause-next : goal.returns-in-Ok-clause-next
returns-in-Ok-clause-next g c = λ text given follows.
    let found = c.in-Line.ensures.found text given follows.reads in
    let handed = found.found in
    let counts = ap (λ count. count + 1) follows.counts in
    record {
      bytes = c.next.new.self.line;
      more = _;
      parted = handed.lines_are ∙ append_assoc given (Some c.next.new.self.line ∷ []) _;
      read = rw c.line.ensures.value at c.in-Ok.ensures.read;
      counts = counts;
      reach = found.reach;
      follows = record { reads = handed; counts = counts ∙ sym (length-append given (Some c.next.new.self.line ∷ [])) };
    }

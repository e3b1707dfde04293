-- What `fill` takes is still to come, so what is known of the first line in what is held is known of the text as it was before.
use Rattle.std.proofs.Common.{◌<◌, ◌+◌, length, ap, arith, rules}
use Rattle.byte_streams.specs.declared.next_line.NextLine.TheVariants.{TooLong}
use Rattle.byte_streams.proofs.BeginsBadLemmas.{full_bad}
use Rattle.byte_streams.proofs.NextLineLemmas.{cut_short, ended_line, final_line, outcome}
use Rattle.byte_streams.proofs.ReadingLemmas.{stays, stays_on}
use Rattle.byte_streams.proofs.IsWithinLemmas.{room_after, taken_for, within_after, within_on}
use Rattle.byte_streams.proofs.line_reader.LineReader.next.Goals as goal

pub returns-in-Ok-LineEnd : goal.returns-in-Ok-LineEnd
returns-in-Ok-LineEnd g c =
    let first = rw c.in-Ok-LineEnd.field-0-is at c.in-Ok-LineEnd.ensures.found in
    let stripped = rw c.held.ensures.value at c.line_len-line.ensures.value in
    let found = ended_line c.fill.new.self c.hand_out.new.self c.in-Ok-LineEnd.place c.line_len-line.result c.hand_out.result first c.line_len-line.ensures.within stripped c.hand_out.ensures.value c.hand_out.ensures.line in
    let came = outcome c.args.self.now c.fill.new.self c.hand_out.new.self _ _ c.hand_out.result c.fill.ensures.continues found in
    record {
      left = came.leaves;
      stays = λ other. stays_on c.args.self.now c.fill.new.self c.hand_out.new.self _ _ c.fill.ensures.continues (c.hand_out.ensures.stays other);
      found = λ text given read. record { found = came.found text given read; reach = taken_for text given c.args.self.now c.fill.new.self _ _ c.fill.ensures.continues c.fill.ensures.small read };
      within = λ text within. within_after text c.fill.new.self c.hand_out.new.self _ c.line_len-line.result (c.in-Ok-LineEnd.place + 1) c.hand_out.result c.hand_out.ensures.line c.hand_out.ensures.fits c.hand_out.ensures.stays (let inside = first.inside in omega arith)
          (within_on text c.args.self.now c.fill.new.self _ _ c.fill.ensures.continues c.fill.ensures.small within);
      room = rw c.fill.ensures.continues.room at (room_after c.fill.new.self c.hand_out.new.self c.line_len-line.result (c.in-Ok-LineEnd.place + 1) c.hand_out.result c.hand_out.ensures.line c.hand_out.ensures.fits c.hand_out.ensures.stays (omega arith));
      idle = search rules;
      cause = search rules;
    }

pub returns-in_default : goal.returns-in_default
returns-in_default g c =
    let last = rw c.in-Ok-InputEnd.field-0-is at c.in-Ok-InputEnd.ensures.found in
    let size_is = ap length c.held-in-Ok-InputEnd.ensures.value in
    let some : 0 < length c.held-in-Ok-InputEnd.result.now = omega arith in
    let found = final_line c.fill.new.self c.hand_out-in_default.new.self (length c.held-in-Ok-InputEnd.result.now) c.hand_out-in_default.result last.1 last.0 size_is some c.hand_out-in_default.ensures.value c.hand_out-in_default.ensures.line in
    let came = outcome c.args.self.now c.fill.new.self c.hand_out-in_default.new.self _ _ c.hand_out-in_default.result c.fill.ensures.continues found in
    record {
      left = came.leaves;
      stays = λ other. stays_on c.args.self.now c.fill.new.self c.hand_out-in_default.new.self _ _ c.fill.ensures.continues (c.hand_out-in_default.ensures.stays other);
      found = λ text given read. record { found = came.found text given read; reach = taken_for text given c.args.self.now c.fill.new.self _ _ c.fill.ensures.continues c.fill.ensures.small read };
      within = λ text within. within_after text c.fill.new.self c.hand_out-in_default.new.self _ (length c.held-in-Ok-InputEnd.result.now) (length c.held-in-Ok-InputEnd.result.now) c.hand_out-in_default.result c.hand_out-in_default.ensures.line
          c.hand_out-in_default.ensures.fits c.hand_out-in_default.ensures.stays (omega (arith, size_is)) (within_on text c.args.self.now c.fill.new.self _ _ c.fill.ensures.continues c.fill.ensures.small within);
      room = rw c.fill.ensures.continues.room
          at (room_after c.fill.new.self c.hand_out-in_default.new.self (length c.held-in-Ok-InputEnd.result.now) (length c.held-in-Ok-InputEnd.result.now) c.hand_out-in_default.result c.hand_out-in_default.ensures.line c.hand_out-in_default.ensures.fits
          c.hand_out-in_default.ensures.stays some);
      idle = search rules;
      cause = search rules;
    }

pub returns-in-Ok-Full-clause-left : goal.returns-in-Ok-Full-clause-left
returns-in-Ok-Full-clause-left g c =
    let full = rw c.in-Ok-Full.field-0-is at c.in-Ok-Full.ensures.found in
    let mid = c.fill.new.self in
    (outcome c.args.self.now mid mid _ _ TooLong c.fill.ensures.continues (full_bad mid full.0 full.1)).leaves

pub returns-in-Ok-Full-clause-found : goal.returns-in-Ok-Full-clause-found
returns-in-Ok-Full-clause-found g c = λ text given read.
    let full = rw c.in-Ok-Full.field-0-is at c.in-Ok-Full.ensures.found in
    let mid = c.fill.new.self in
    record {
      found = (outcome c.args.self.now mid mid _ _ TooLong c.fill.ensures.continues (full_bad mid full.0 full.1)).found text given read;
      reach = taken_for text given c.args.self.now mid _ _ c.fill.ensures.continues c.fill.ensures.small read;
    }

pub returns-in-Ok-Full-clause-stays : goal.returns-in-Ok-Full-clause-stays
returns-in-Ok-Full-clause-stays g c = λ _. stays c.args.self.now c.fill.new.self _ _ c.fill.ensures.continues

pub returns-in-Err-clause-stays : goal.returns-in-Err-clause-stays
returns-in-Err-clause-stays g c = λ _. stays c.args.self.now c.fill.new.self _ _ c.fill.ensures.continues

pub returns-in-Err-clause-found : goal.returns-in-Err-clause-found
returns-in-Err-clause-found g c = λ text given read.
    let held = c.in-Err.ensures.none in
    record {
      found = cut_short c.args.self.now c.fill.new.self _ _ c.fill.ensures.continues held.0 held.1 held.2 text given read;
      reach = taken_for text given c.args.self.now c.fill.new.self _ _ c.fill.ensures.continues c.fill.ensures.small read;
    }

pub returns-in-Ok-Full-clause-within : goal.returns-in-Ok-Full-clause-within
returns-in-Ok-Full-clause-within g c = λ text. within_on text c.args.self.now c.fill.new.self _ _ c.fill.ensures.continues c.fill.ensures.small

pub returns-in-Err-clause-within : goal.returns-in-Err-clause-within
returns-in-Err-clause-within g c = λ text. within_on text c.args.self.now c.fill.new.self _ _ c.fill.ensures.continues c.fill.ensures.small

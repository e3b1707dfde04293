use Rattle.std.proofs.Common.{arith}
use Rattle.boxed_applets.proofs.DigitsUpToLemmas.{number_ends, number_goes_on, whole_number, room_after}
use Rattle.boxed_applets.proofs.numbers.digits_of.Goals as goal

pub returns-then-not-put_byte : goal.returns-then-not-put_byte
returns-then-not-put_byte c =
    number_ends c.args.bytes.now c.loop-byte.byte-index c.loop-byte.number _ (omega arith) (cc) c.put_byte.ensures.after c.loop-byte.invariant.same

pub loop-byte-preserved : goal.loop-byte-preserved
loop-byte-preserved c = record {
  same = number_goes_on c.args.bytes.now c.loop-byte.byte-index c.loop-byte.number _ (omega arith) (cc) c.put_byte.ensures.after c.loop-byte.invariant.same;
  room = room_after c.loop-byte.number _ _ c.loop-byte.byte-index c.put_byte.ensures.after c.loop-byte.invariant.room;
}

pub returns : goal.returns
returns c = whole_number c.args.bytes.now c.loop-byte.byte-index c.loop-byte.number (omega arith) c.loop-byte.invariant.same

use Rattle.std.proofs.Common.{◌≡◌, ◌≤◌, ◌*◌, ◌++◌, length, drop}
use Rattle.boxed_applets.specs.Numbers.{digits_of}
use Rattle.boxed_applets.proofs.numbers.digits_of.Given as goal

abbrev pub invariant-loop-byte : goal.invariant-loop-byte
invariant-loop-byte l = record {
  same : l.number ++ digits_of (drop l.byte-index l.bytes) ≡ digits_of l.bytes;
  room : length l.number ≤ 2 * l.byte-index;
}

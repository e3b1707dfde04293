use Rattle.std.proofs.Common.{◌≡◌, ◌+◌, ◌*◌, ◌++◌, length}
use Rattle.hex.specs.Hex.{encode_upper}
use Rattle.script_form.proofs.trace.put_hex.Given as goal

-- the digits of the bytes so far were added
abbrev pub invariant-loop-rest : goal.invariant-loop-rest
invariant-loop-rest g l = record {
  items : l.text.items ++ encode_upper l.rest ≡ l.fn.text.items ++ encode_upper l.bytes;
  size : length l.text.items + 2 * length l.rest ≡ length l.fn.text.items + 2 * length l.bytes;
}

abbrev pub decreases-loop-rest : goal.decreases-loop-rest
decreases-loop-rest g l = length l.rest

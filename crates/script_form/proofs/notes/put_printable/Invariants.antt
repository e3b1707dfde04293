use Rattle.std.proofs.Common.{◌≡◌, ◌+◌, ◌++◌, length, take, map}
use Rattle.script_form.specs.Traces.{shown}
use Rattle.script_form.proofs.notes.put_printable.Given as goal

-- the bytes so far were added
abbrev pub invariant-loop-byte : goal.invariant-loop-byte
invariant-loop-byte g l = record {
  items : l.text.items ≡ l.fn.text.items ++ map shown (take l.byte-index l.bytes);
  size : length l.text.items ≡ length l.fn.text.items + l.byte-index;
}

-- So many zeros were added.
use Rattle.std.proofs.Common.{◌≡◌, ◌-◌, ◌++◌, length, replicate}
use Rattle.uicc_types.proofs.byte_lists.ByteList.resize.Given as goal

abbrev pub invariant-loop : goal.invariant-loop
invariant-loop g l =
    let front = l.initial.self-inside.bytes.items in
    record {
      items : l.self-inside.bytes.items ≡ front ++ replicate (l.counter - length front) 0;
      size : length l.self-inside.bytes.items ≡ l.counter;
    }

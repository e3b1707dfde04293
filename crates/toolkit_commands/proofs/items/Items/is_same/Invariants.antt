use Rattle.std.proofs.Common.{◌≡◌, length, take}
use Rattle.toolkit_commands.proofs.items.Items.is_same.Given as goal

abbrev pub invariant-loop-i : goal.invariant-loop-i
invariant-loop-i l = (take l.i l.items ≡ take l.i l.others) × (length l.items ≡ length l.others)

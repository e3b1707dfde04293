use Rattle.std.proofs.Common.{◌≡◌, ◌≤◌, length, take}
use Rattle.toolkit_commands.proofs.items.Items.copy.Given as goal

abbrev pub invariant-loop-item : goal.invariant-loop-item
invariant-loop-item l = (l.copied ≡ take l.item-index l.item-items) × (length l.item-items ≤ 16)

use Rattle.std.proofs.Common.{◌≡◌, ◌+◌, ◌≤◌, length, None, min}
use Rattle.toolkit_commands.specs.Values.{values}
use Rattle.toolkit_commands.specs.Steps.{items_in}
use Rattle.toolkit_commands.proofs.choices.count_of.Given as goal

abbrev pub invariant-loop-part : goal.invariant-loop-part
invariant-loop-part l =
    (l.count ≤ 255) × (min (l.count + length (values 0x0F l.parts.objects)) 255 ≡ min (length (items_in l.content)) 255) × (l.parts.fault ≡ None)

abbrev pub decreases-loop-part : goal.decreases-loop-part
decreases-loop-part l = length l.parts.objects

use Rattle.std.proofs.Common.{◌≡◌, ◌+◌, ◌≤◌, length, None}
use Rattle.toolkit_commands.specs.Values.{values, items_of, choice_of}
use Rattle.toolkit_commands.specs.Steps.{items_in}
use Rattle.toolkit_commands.proofs.ItemsOfLemmas.{with_front}
use Rattle.toolkit_commands.proofs.choices.choice_of.Given as goal

-- the items so far with those that are left are all items
abbrev pub invariant-loop-part : goal.invariant-loop-part
invariant-loop-part l =
    (with_front l.items (items_of (values 0x0F l.parts.objects)) ≡ choice_of (items_in l.content)) × (length l.items ≤ 16) × (l.parts.fault ≡ None) × (length l.items + length (values 0x0F l.parts.objects) ≡ length (items_in l.content))

abbrev pub decreases-loop-part : goal.decreases-loop-part
decreases-loop-part l = length l.parts.objects

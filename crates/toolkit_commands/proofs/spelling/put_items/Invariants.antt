use Rattle.std.proofs.Common.{◌≡◌, ◌≤◌, ◌++◌, length, map, take}
use Rattle.std.specs.List.{AllWithin}
use Rattle.comprehension_tlv.specs.Writing.{spellings}
use Rattle.toolkit_commands.specs.Table.{item_object}
use Rattle.toolkit_commands.proofs.spelling.put_items.Given as goal

abbrev pub invariant-loop-item : goal.invariant-loop-item
invariant-loop-item l =
    (l.objects ≡ l.initial.objects ++ spellings (map item_object (take l.item-index l.items))) × AllWithin (λ item. length item.text ≤ 10) l.items 0 l.item-index

-- Entries as they are read back from their bytes.
use Rattle.std.proofs.Common.{◌≡◌, true, length, slice_index, refl, ◌∙◌, ap, arith, cond}
use Rattle.std.specs.Int.{from_bool}
use Rattle.card_state.specs.declared.entries.Node.{Node}
use Rattle.card_state.specs.declared.entries.PinSlot.{PinSlot}
use Rattle.card_state.specs.declared.entries.Row.{Row}
use Rattle.card_state.specs.Blank.{unused_node}
use Rattle.card_state.specs.Ranges.{HasNodeRanges}
use Rattle.card_state.specs.Decoding.{node_in}
use Rattle.layout_entries.specs.Spelling.{node_spelled, pin_spelled, row_spelled}
use Rattle.layout_entries.proofs.SpellingLemmas.{node_back}

pub no_ranges : HasNodeRanges unused_node
no_ranges = record { id = omega arith; arr = omega arith; place = omega arith; size = omega arith }

pub node_in_back : (node : Node) → HasNodeRanges node → node.used ≡ true → node_in (node_spelled node) ≡ node
node_in_back node ranges used = ap (λ (n : Node). let shown : Node = cond n.used n unused_node in shown) (node_back node ranges) ∙ ap (λ b. let shown : Node = cond b node unused_node in shown) used

pub node_in_none : node_in (node_spelled unused_node) ≡ unused_node
node_in_none = ap (λ (n : Node). let shown : Node = cond n.used n unused_node in shown) (node_back unused_node no_ranges)

pub text_count_there : (row : Row) → slice_index (row_spelled row) 7 ≡ length row.text
unfolding row_spelled
text_count_there row = refl

pub row_flag : (row : Row) → slice_index (row_spelled row) 0 ≡ from_bool row.used
unfolding row_spelled
row_flag row = refl

pub node_flag : (node : Node) → slice_index (node_spelled node) 0 ≡ from_bool node.used
unfolding node_spelled
node_flag node = refl

pub pin_flag : (pin : PinSlot) → slice_index (pin_spelled pin) 1 ≡ from_bool pin.enabled
unfolding pin_spelled
pin_flag pin = refl

-- The ranges in which the parts of an entry fit into its bytes.
use Rattle.std.specs.Prelude.{◌≡◌, ◌^◌, ◌≤◌, ◌<◌, length}
use Rattle.card_state.specs.declared.sizes.TheConstants.{TEXT_LIMIT, KEPT_LIMIT}
use Rattle.card_state.specs.declared.entries.Node.{Node}
use Rattle.card_state.specs.declared.entries.PinSlot.{PinSlot}
use Rattle.card_state.specs.declared.entries.Row.{Row}

-- the numbers of two bytes are such numbers
pub record HasNodeRanges (node : Node) : Type 0 where
  pub id : node.id.0 < 2 ^ 16
  pub arr : node.arr.0 < 2 ^ 16
  pub place : node.place < 2 ^ 16
  pub size : node.size < 2 ^ 16

-- each value has eight bytes
pub record HasPinRanges (pin : PinSlot) : Type 0 where
  pub value : length pin.value.0 ≡ 8
  pub unblock : length pin.unblock.0 ≡ 8

-- the numbers and lists of a row fit into its bytes
pub record HasRowRanges (row : Row) : Type 0 where
  pub sequence : row.sequence < 2 ^ 16
  pub events : row.events < 2 ^ 16
  pub text : length row.text ≤ TEXT_LIMIT
  pub kept : length row.kept ≤ KEPT_LIMIT

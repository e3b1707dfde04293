-- Entries that are not there.
use Rattle.std.specs.Prelude.{false, [], replicate}
use Rattle.card_state.specs.declared.sizes.TheConstants.{NODE_COUNT, PIN_COUNT, ROW_COUNT}
use Rattle.card_state.specs.declared.entries.Node.{Node}
use Rattle.card_state.specs.declared.entries.PinSlot.{PinSlot}
use Rattle.card_state.specs.declared.entries.Row.{Row}
use Rattle.card_state.specs.declared.entries.Loaded.{Loaded}

-- the entry of no file: it is not used, and all its numbers are 0
abbrev pub unused_node : Node
unused_node = record {
  used = false;
  kind = 0;
  id = record { 0 = 0 };
  parent = 0;
  short = 0;
  life = 0;
  rule = 0;
  arr = record { 0 = 0 };
  place = 0;
  size = 0;
  length = 0;
  head = 0;
}

-- the slot of no PIN: without a key, not enabled, without tries, with values of eight bytes 00
abbrev pub absent_pin : PinSlot
absent_pin = record { key = 0; enabled = false; tries = 0; unblock_tries = 0; value = record { 0 = replicate 8 0 }; unblock = record { 0 = replicate 8 0 } }

-- the row of no applet: it is not used, all its numbers are 0, and it has no text and keeps no bytes
abbrev pub unused_row : Row
unused_row = record { used = false; kind = 0; priority = 0; sequence = 0; events = 0; text = []; kept = [] }

-- the table without an entry
unfoldable pub empty_table : Loaded
empty_table = record { nodes = replicate NODE_COUNT unused_node; pins = replicate PIN_COUNT absent_pin; rows = replicate ROW_COUNT unused_row; next = 0; wide = false }

-- The fields of each entry by the places of their bytes in it, and what an entry is once some of its fields are written.
use Rattle.std.specs.Prelude.{ℕ, ◌≤◌, ◌==◌, Bool, ◌&&◌, ◌||◌, IsTrue, nat_le, if◌then◌else◌, List, [], ◌∷◌, ◌-◌, length, take, drop, slice_range}
use Rattle.std.specs.List.{list_all}
use Rattle.list_laws.specs.Patches.{patched}
use Rattle.card_state.specs.declared.sizes.TheConstants.{NODE_WIDTH, PIN_WIDTH, ROW_WIDTH, KEPT_WIDTH}
use Rattle.card_state.specs.declared.entries.Node.{Node}
use Rattle.card_state.specs.declared.entries.PinSlot.{PinSlot}
use Rattle.card_state.specs.declared.entries.Row.{Row}
use Rattle.card_state.specs.Blank.{unused_node, absent_pin, unused_row}
use Rattle.card_state.specs.Decoding.{node_of, pin_of, row_of, node_bytes, pin_bytes, row_bytes, bytes_apart}
use Rattle.layout_entries.specs.Spelling.{node_spelled, pin_spelled, row_spelled}

-- the first byte of each field, and the one after its last
abbrev pub node_fields : List (ℕ × ℕ)
node_fields = (0, 1) ∷ (1, 2) ∷ (2, 4) ∷ (4, 5) ∷ (5, 6) ∷ (6, 7) ∷ (7, 8) ∷ (8, 10) ∷ (10, 12) ∷ (12, 14) ∷ (14, 15) ∷ (15, NODE_WIDTH) ∷ []

-- the fields of a PIN slot: key, enabled, the tries of both, and both values
abbrev pub pin_fields : List (ℕ × ℕ)
pin_fields = (0, 1) ∷ (1, 2) ∷ (2, 3) ∷ (3, 4) ∷ (4, 12) ∷ (12, PIN_WIDTH) ∷ []

-- a text and the kept bytes with their lengths before them
abbrev pub row_fields : List (ℕ × ℕ)
row_fields = (0, 1) ∷ (1, 2) ∷ (2, 3) ∷ (3, 5) ∷ (5, 7) ∷ (7, 18) ∷ (18, ROW_WIDTH) ∷ []

-- the bytes from `first` up to but without `end` are all among those from `from` up to but without `to`
abbrev pub is_among : ℕ → ℕ → ℕ → ℕ → Bool
is_among from to first end = nat_le from first && nat_le end to

-- none of them is
abbrev pub is_beside : ℕ → ℕ → ℕ → ℕ → Bool
is_beside from to first end = nat_le end from || nat_le to first

-- a range has all of a field, or nothing of it
abbrev pub is_uncut : ℕ → ℕ → ℕ × ℕ → Bool
is_uncut from to field = is_among from to field.0 field.1 || is_beside from to field.0 field.1

-- the bytes from `from` up to but without `to` are those of whole fields of an entry of so many bytes
pub record AreWholeFields (fields : List (ℕ × ℕ)) (width from to : ℕ) : Type 0 where
  pub order : from ≤ to
  pub inside : to ≤ width
  pub uncut : IsTrue (list_all (is_uncut from to) fields)

-- the old entry with the fields of the new one that have their bytes from `from` up to but without `to`
unfoldable pub merged_node : ℕ → ℕ → Node → Node → Node
merged_node from to old new = record {
  used = if is_among from to 0 1 then new.used else old.used;
  kind = if is_among from to 1 2 then new.kind else old.kind;
  id = if is_among from to 2 4 then new.id else old.id;
  parent = if is_among from to 4 5 then new.parent else old.parent;
  short = if is_among from to 5 6 then new.short else old.short;
  life = if is_among from to 6 7 then new.life else old.life;
  rule = if is_among from to 7 8 then new.rule else old.rule;
  arr = if is_among from to 8 10 then new.arr else old.arr;
  place = if is_among from to 10 12 then new.place else old.place;
  size = if is_among from to 12 14 then new.size else old.size;
  length = if is_among from to 14 15 then new.length else old.length;
  head = if is_among from to 15 NODE_WIDTH then new.head else old.head;
}

-- a slot of which the fields in a range are new
unfoldable pub merged_pin : ℕ → ℕ → PinSlot → PinSlot → PinSlot
merged_pin from to old new = record {
  key = if is_among from to 0 1 then new.key else old.key;
  enabled = if is_among from to 1 2 then new.enabled else old.enabled;
  tries = if is_among from to 2 3 then new.tries else old.tries;
  unblock_tries = if is_among from to 3 4 then new.unblock_tries else old.unblock_tries;
  value = if is_among from to 4 12 then new.value else old.value;
  unblock = if is_among from to 12 PIN_WIDTH then new.unblock else old.unblock;
}

-- a row of which the fields in a range are new
unfoldable pub merged_row : ℕ → ℕ → Row → Row → Row
merged_row from to old new = record {
  used = if is_among from to 0 1 then new.used else old.used;
  kind = if is_among from to 1 2 then new.kind else old.kind;
  priority = if is_among from to 2 3 then new.priority else old.priority;
  sequence = if is_among from to 3 5 then new.sequence else old.sequence;
  events = if is_among from to 5 7 then new.events else old.events;
  text = if is_among from to 7 18 then new.text else old.text;
  kept = if is_among from to 18 ROW_WIDTH then new.kept else old.kept;
}

-- what a row keeps once its bytes from the 33rd on are those of another list, as far as either goes
abbrev pub kept_anew : List ℕ → List ℕ → List ℕ
kept_anew old new = patched KEPT_WIDTH (take (length old - KEPT_WIDTH) (drop KEPT_WIDTH new)) old

-- ---- an entry as its bytes spell it

-- the bytes of an entry once those of another are written from `from` up to but without `to`
abbrev pub overwritten : ℕ → ℕ → List ℕ → List ℕ → List ℕ
overwritten from to new old = patched from (slice_range new from to) old

-- the entry once so many bytes of it are those of another: also some that cut a field
unfoldable pub reread_node : List ℕ → ℕ → ℕ → ℕ → Node → Node
reread_node content number from to node = node_of (overwritten from to (node_spelled node) (node_bytes content number))

-- the slot that is read once the bytes of a range are those of another slot
unfoldable pub reread_pin : List ℕ → ℕ → ℕ → ℕ → PinSlot → PinSlot
reread_pin content slot from to pin = pin_of (overwritten from to (pin_spelled pin) (pin_bytes content slot))

-- the row that is read once the bytes of a range are those of another row
unfoldable pub reread_row : List ℕ → ℕ → ℕ → ℕ → Row → Row
reread_row content shelf from to row = row_of (overwritten from to (row_spelled row) (row_bytes content shelf)) (bytes_apart content shelf)

-- an entry as its bytes spell it, whether it is used or not
abbrev pub node_there : List ℕ → ℕ → Node
node_there content number = node_of (node_bytes content number)

-- the slot that a memory has
abbrev pub pin_there : List ℕ → ℕ → PinSlot
pin_there content slot = pin_of (pin_bytes content slot)

-- an entry as a table has it
abbrev pub shown_node : Node → Node
shown_node node = if node.used then node else unused_node

-- a slot without a key is the empty one
abbrev pub shown_pin : PinSlot → PinSlot
shown_pin pin = if pin.key == 0 then absent_pin else pin

-- a row that is not used is the empty one
abbrev pub shown_row : Row → Row
shown_row row = if row.used then row else unused_row

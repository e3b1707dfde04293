-- The entries that a table shows, and the bytes that they are spelled in.
use Rattle.std.proofs.Common.{◌≡◌, ℕ, ◌+◌, ◌≤◌, ◌<◌, ◌==◌, true, List, length, map, slice_get, slice_index, Some, ◌∙◌, ap, subst, arith, eqb-true, eq-eqb, length-take}
use Rattle.std.specs.List.{range_with_len}
use Rattle.card_state.specs.declared.entries.Node.{Node}
use Rattle.card_state.specs.declared.entries.PinSlot.{PinSlot}
use Rattle.card_state.specs.declared.entries.Row.{Row}
use Rattle.card_state.specs.Places.{row_count}
use Rattle.card_state.specs.Decoding.{number_at, is_wide, node_of, pin_of, row_of, row_bytes, kept_bytes, node_at, pin_at, row_at, table_of}
use Rattle.card_state.specs.Checks.{row_there}
use Rattle.card_state.specs.Used.{HasNode, HasPin, HasRow}
use Rattle.layout_entries.specs.Fields.{node_there, pin_there}
use Rattle.layout_laws.proofs.ShownNodeLemmas.{shown_node_there, shown_pin_there, row_when_used}
use Rattle.layout_laws.proofs.EnumerateFromLemmas.{got_numbered}

pub got_first : {X : Type 0} (f : ℕ → X) (count k : ℕ) (x : X) → slice_get (map f (range_with_len 0 count)) k ≡ Some x → (k < count) × (f k ≡ x)
got_first f count k x there =
    let found : (k < count) × (f (0 + k) ≡ x) = got_numbered f 0 count k x there in
    let same : k ≡ 0 + k = omega arith in
    (found.0, ap f same ∙ found.1)

module _ (content : List ℕ) where
  pub node_seen : (number : ℕ) (node : Node) → HasNode (table_of content) number node → (number < 128) × (node_there content number ≡ node)
  unfolding table_of
  node_seen number node has =
      let found = got_first (node_at content) 128 number node has.there in
      (found.0, shown_node_there (node_there content number) node found.1 has.used)

  pub pin_seen : (slot : ℕ) (pin : PinSlot) → HasPin (table_of content) slot pin → (slot < 3) × (pin_there content slot ≡ pin)
  unfolding table_of
  pin_seen slot pin has =
      let found = got_first (pin_at content) 3 slot pin has.there in
      (found.0, shown_pin_there (pin_there content slot) pin found.1 has.key)

  pub row_seen : (shelf : ℕ) (row : Row) → HasRow (table_of content) shelf row → (shelf < row_count (is_wide content)) × (row_there content shelf ≡ row)
  unfolding table_of
  row_seen shelf row has =
      let found = got_first (row_at content) 32 shelf row has.there in
      row_when_used (is_wide content) shelf (row_bytes content shelf) (kept_bytes content shelf) row found.1 has.used

-- ---- single bytes

flag_read : (byte : ℕ) → (byte == 1) ≡ true → byte ≡ 1
flag_read byte is = eqb-true byte 1 is

pub node_flag : (bytes : List ℕ) (node : Node) → node_of bytes ≡ node → node.used ≡ true → slice_index bytes 0 ≡ 1
unfolding node_of
node_flag bytes node is used = flag_read (slice_index bytes 0) (ap (λ (n : Node). n.used) is ∙ used)

pub node_flagged : (bytes : List ℕ) → slice_index bytes 0 ≡ 1 → (node_of bytes).used ≡ true
unfolding node_of
node_flagged bytes is = eq-eqb (slice_index bytes 0) 1 is

pub pin_key : (bytes : List ℕ) (pin : PinSlot) → pin_of bytes ≡ pin → slice_index bytes 0 ≡ pin.key
unfolding pin_of
pin_key bytes pin is = ap (λ (p : PinSlot). p.key) is

pub row_flag : (bytes more : List ℕ) (row : Row) → row_of bytes more ≡ row → row.used ≡ true → slice_index bytes 0 ≡ 1
unfolding row_of
row_flag bytes more row is used_too = flag_read (slice_index bytes 0) (ap (λ (r : Row). r.used) is ∙ used_too)

-- a row keeps no more than its length says
pub row_keeps : (bytes more : List ℕ) (row : Row) → row_of bytes more ≡ row → length row.kept ≤ slice_index bytes 18
unfolding row_of
row_keeps bytes more row is =
    subst (λ (r : Row). length r.kept ≤ slice_index bytes 18) is (omega (arith, length-take {A = ℕ}))

pub row_events : (bytes more : List ℕ) (row : Row) → row_of bytes more ≡ row → number_at bytes 5 ≡ row.events
unfolding row_of
row_events bytes more row is = ap (λ (r : Row). r.events) is

-- The entries that a table shows: one that is shown used is spelled so.
use Rattle.std.proofs.Common.{◌≡◌, ◌≢◌, ℕ, ◌<◌, ◌==◌, Bool, true, false, nat_lt, if◌then◌else◌, List, [], refl, sym, ◌∙◌, ap}
use Rattle.std.proofs.lemmas.Bool.{false≢true, ltb-true}
use Rattle.card_state.specs.declared.entries.Node.{Node}
use Rattle.card_state.specs.declared.entries.PinSlot.{PinSlot}
use Rattle.card_state.specs.declared.entries.Row.{Row}
use Rattle.card_state.specs.Blank.{unused_node, absent_pin, unused_row}
use Rattle.card_state.specs.Places.{row_count}
use Rattle.card_state.specs.Decoding.{row_of, row_in, row_when}
use Rattle.layout_entries.specs.Fields.{shown_node, shown_pin, shown_row}

pub shown_node_there : (there node : Node) → shown_node there ≡ node → node.used ≡ true → there ≡ node
shown_node_there there node is used = by_test there.used is where
  by_test : (b : Bool) → (if b then there else unused_node) ≡ node → there ≡ node
  by_test true same = same
  by_test false same = absurd (let none : unused_node.used ≡ true = ap (λ (n : Node). n.used) same ∙ used in false≢true none)

pub shown_pin_there : (there pin : PinSlot) → shown_pin there ≡ pin → pin.key ≢ 0 → there ≡ pin
shown_pin_there there pin is key = by_test (there.key == 0) is where
  by_test : (b : Bool) → (if b then absent_pin else there) ≡ pin → there ≡ pin
  by_test false same = same
  by_test true same = absurd (key (sym (ap (λ (p : PinSlot). p.key) same)))

shown_row_there : (there row : Row) → shown_row there ≡ row → row.used ≡ true → there ≡ row
shown_row_there there row is used_too = by_test there.used is where
  by_test : (b : Bool) → (if b then there else unused_row) ≡ row → there ≡ row
  by_test true same = same
  by_test false same = absurd (let none : unused_row.used ≡ true = ap (λ (r : Row). r.used) same ∙ used_too in false≢true none)

pub row_when_used : (wide : Bool) (shelf : ℕ) (bytes more : List ℕ) (row : Row) → row_when wide shelf bytes more ≡ row → row.used ≡ true
    → (shelf < row_count wide) × (row_of bytes (if wide then more else []) ≡ row)
row_when_used wide shelf bytes more row is used_too = by_test (nat_lt shelf (row_count wide)) refl is where
  by_test : (b : Bool) → nat_lt shelf (row_count wide) ≡ b → (if b then row_in bytes (if wide then more else []) else unused_row) ≡ row
      → (shelf < row_count wide) × (row_of bytes (if wide then more else []) ≡ row)
  by_test true passed same = (ltb-true shelf (row_count wide) passed, shown_row_there (row_of bytes (if wide then more else [])) row same used_too)
  by_test false failed same = absurd (let none : unused_row.used ≡ true = ap (λ (r : Row). r.used) same ∙ used_too in false≢true none)

-- What may be written into the entries of a card that stands.
use Rattle.std.specs.Prelude.{◌≡◌, ◌⊎◌, ℕ, ◌≤◌, ◌<◌, ◌^◌, Bool, length}
use Rattle.card_state.specs.declared.entries.Node.{Node}
use Rattle.card_state.specs.declared.entries.PinSlot.{PinSlot}
use Rattle.card_state.specs.declared.entries.Row.{Row}
use Rattle.card_state.specs.declared.entries.Loaded.{Loaded}
use Rattle.card_state.specs.Checks.{key_of_slot}
use Rattle.card_state.specs.Places.{row_count, kept_limit}
use Rattle.card_state.specs.Ranges.{HasNodeRanges, HasPinRanges, HasRowRanges}
use Rattle.card_state.specs.Used.{HasNode, HasPin, HasRow, LiesAmongFiles}
use Rattle.card_state.specs.Forms.{HasRightHead}
use Rattle.layout_entries.specs.Fields.{node_fields, pin_fields, row_fields, AreWholeFields, merged_node, merged_pin, merged_row}
use Rattle.layout_laws.specs.Cards.{LiesWhere}

-- ---- some fields of an entry that is used: the new one differs from the old one in no others

-- some whole fields of a file's entry may be written so
pub record IsFileChange (table : Loaded) (number from to : ℕ) (old new : Node) : Type 0 where
  pub there : HasNode table number old
  pub fields : AreWholeFields node_fields 16 from to
  pub rest : merged_node from to old new ≡ new
  pub ranges : HasNodeRanges new
  pub lies : LiesWhere old new ⊎ LiesAmongFiles table.wide new
  pub head : HasRightHead new

-- some whole fields of a PIN's slot may be written so
pub record IsPinChange (table : Loaded) (slot from to : ℕ) (old new : PinSlot) : Type 0 where
  pub there : HasPin table slot old
  pub fields : AreWholeFields pin_fields 20 from to
  pub rest : merged_pin from to old new ≡ new
  pub ranges : HasPinRanges new
  pub key : new.key ≡ old.key
  pub tries : new.tries ≤ 3
  pub unblock_tries : new.unblock_tries ≤ 10

-- bytes that a row keeps apart are not among these
pub record IsRowChange (table : Loaded) (shelf from to : ℕ) (old new : Row) : Type 0 where
  pub there : HasRow table shelf old
  pub fields : AreWholeFields row_fields 51 from to
  pub rest : merged_row from to old new ≡ new
  pub ranges : HasRowRanges new
  pub kept : (length new.kept ≤ 32) ⊎ (to ≤ 18)
  pub events : new.events < 2 ^ 12

-- ---- a whole entry, whatever stood there

-- a whole entry of a file may be written so
pub record IsWholeFile (wide : Bool) (number : ℕ) (node : Node) : Type 0 where
  pub low : number < 128
  pub ranges : HasNodeRanges node
  pub lies : LiesAmongFiles wide node
  pub head : HasRightHead node

-- a PIN with the key of this slot, or none
pub record IsWholePin (slot : ℕ) (pin : PinSlot) : Type 0 where
  pub low : slot < 3
  pub ranges : HasPinRanges pin
  pub key : (pin.key ≡ 0) ⊎ (pin.key ≡ key_of_slot slot)
  pub tries : pin.tries ≤ 3
  pub unblock_tries : pin.unblock_tries ≤ 10

-- a whole row may be written so
pub record IsWholeRow (wide : Bool) (shelf : ℕ) (row : Row) : Type 0 where
  pub low : shelf < row_count wide
  pub ranges : HasRowRanges row
  pub kept : length row.kept ≤ kept_limit wide
  pub events : row.events < 2 ^ 12

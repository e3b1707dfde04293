-- The keys of the slots, and two tables with the same entries.
use Rattle.std.proofs.Common.{◌≡◌, ℕ, ◌<◌, Bool, zero, suc, List, [], ◌∷◌, Contains, ◌==◌, true, false, if◌then◌else◌, refl, arith}
use Rattle.uicc_types.specs.declared.keys.TheConstants.{PIN_1, PIN_2, ADM_1}
use Rattle.card_state.specs.declared.entries.Node.{Node}
use Rattle.card_state.specs.declared.entries.PinSlot.{PinSlot}
use Rattle.card_state.specs.declared.entries.Row.{Row}
use Rattle.card_state.specs.declared.entries.Loaded.{Loaded}
use Rattle.card_state.specs.declared.sizes.TheConstants.{PIN_COUNT}
use Rattle.card_state.specs.Checks.{key_of_slot}
use Rattle.card_state.specs.Soundness.{slot_of_key}
use Rattle.card_state.specs.Kinds.{df_kind}
use Rattle.card_state.specs.States.{df_file, ef_file, file_of}

-- the file of an entry has the entry's number
pub number_of_file : (content : List ℕ) (number : ℕ) (node : Node) → (file_of content number node).number ≡ number
number_of_file content number node = by_test (node.kind == df_kind) where
  by_test : (b : Bool) → (if b then df_file number node else ef_file content number node).number ≡ number
  by_test true = refl
  by_test false = refl

-- the key of a slot is one of the three
pub key_among : (slot : ℕ) → slot < PIN_COUNT → Contains (PIN_1 ∷ PIN_2 ∷ ADM_1 ∷ []) (key_of_slot slot)
key_among zero low = (0, omega arith, refl)
key_among (suc zero) low = (1, omega arith, refl)
key_among (suc (suc zero)) low = (2, omega arith, refl)
key_among (suc (suc (suc slot))) low = absurd (omega arith)

-- and its slot is this one
pub slot_back : (slot : ℕ) → slot < PIN_COUNT → slot_of_key (key_of_slot slot) ≡ slot
slot_back zero low = refl
slot_back (suc zero) low = refl
slot_back (suc (suc zero)) low = refl
slot_back (suc (suc (suc slot))) low = absurd (omega arith)

-- two tables with the same entries
pub same_table : (nodes nodes' : List Node) (pins pins' : List PinSlot) (rows rows' : List Row) (next next' : ℕ) (wide wide' : Bool)
    → nodes ≡ nodes' → pins ≡ pins' → rows ≡ rows' → next ≡ next' → wide ≡ wide'
    → (let first : Loaded = record { nodes = nodes; pins = pins; rows = rows; next = next; wide = wide } in first)
    ≡ (let second : Loaded = record { nodes = nodes'; pins = pins'; rows = rows'; next = next'; wide = wide' } in second)
same_table nodes nodes' pins pins' rows rows' next next' wide wide' a b c d e = rw (a, b, c, d, e) refl

-- What must hold of the bytes of a card's memory beside what the state of its entries shows.
use Rattle.std.specs.Prelude.{◌≡◌, ◌≢◌, ℕ, ◌≤◌, ◌<◌, ◌^◌, ◌⊎◌, Bool, IsTrue, List, slice_index}
use Rattle.card_state.specs.declared.entries.Node.{Node}
use Rattle.card_state.specs.Kinds.{transparent_kind, linear_kind, cyclic_kind}
use Rattle.card_state.specs.Places.{version_place, store_mark_place, row_count, kept_limit}
use Rattle.card_state.specs.Decoding.{number_at, is_wide, node_of, node_bytes, pin_bytes, row_bytes}
use Rattle.card_state.specs.States.{record_count}
use Rattle.card_state.specs.Checks.{has_card_mark, is_version, key_of_slot}

-- A PIN slot has no key or its own, and with a key 00 or 01 for whether it is enabled.
pub record IsPinForm (slot : ℕ) (bytes : List ℕ) : Type 0 where
  pub key : (slice_index bytes 0 ≡ 0) ⊎ (slice_index bytes 0 ≡ key_of_slot slot)
  pub enabled : slice_index bytes 0 ≢ 0 → slice_index bytes 1 ≤ 1

-- A row is used, 01, or not, 00. One that is used has the bits of known events alone, and no length beyond its room.
pub record IsRowForm (wide : Bool) (bytes : List ℕ) : Type 0 where
  pub used : slice_index bytes 0 ≤ 1
  pub events : slice_index bytes 0 ≡ 1 → number_at bytes 5 < 2 ^ 12
  pub text_length : slice_index bytes 0 ≡ 1 → slice_index bytes 7 ≤ 10
  pub kept_length : slice_index bytes 0 ≡ 1 → slice_index bytes 18 ≤ kept_limit wide

-- The head of a cyclic file is one of its records, and that of another EF is 0.
pub record HasRightHead (node : Node) : Type 0 where
  pub cyclic : node.kind ≡ cyclic_kind → node.head < record_count node
  pub other : (node.kind ≡ transparent_kind) ⊎ (node.kind ≡ linear_kind) → node.head ≡ 0

-- A file's entry is used, 01, or not, 00. One that is used has a right head.
pub record IsNodeForm (bytes : List ℕ) : Type 0 where
  pub used : slice_index bytes 0 ≤ 1
  pub head : slice_index bytes 0 ≡ 1 → HasRightHead (node_of bytes)

-- the first bytes of a card in a store with this mark, and entries of the right forms
pub record IsWellFormed (store_mark : ℕ) (content : List ℕ) : Type 0 where
  pub mark : IsTrue (has_card_mark content)
  pub version : IsTrue (is_version (slice_index content version_place))
  pub store : slice_index content store_mark_place ≡ store_mark
  pub pins : (slot : ℕ) → slot < 3 → IsPinForm slot (pin_bytes content slot)
  pub rows : (shelf : ℕ) → shelf < row_count (is_wide content) → IsRowForm (is_wide content) (row_bytes content shelf)
  pub nodes : (number : ℕ) → number < 128 → IsNodeForm (node_bytes content number)

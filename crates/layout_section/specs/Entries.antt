-- What is looked for among the entries of files.
use Rattle.std.specs.Prelude.{◌≡◌, ◌≢◌, ◌⊎◌, ℕ, ◌+◌, ◌*◌, ◌≤◌, ◌<◌, ◌==◌, Bool, true, false, ◌&&◌, List, length, slice_index_or}
use Rattle.uicc_types.specs.declared.identifiers.FileId.{FileId}
use Rattle.card_state.specs.declared.entries.Node.{Node}
use Rattle.card_state.specs.Blank.{unused_node}
use Rattle.card_state.specs.Kinds.{df_kind, transparent_kind, is_ef_kind}
use Rattle.card_state.specs.Places.{data_place}

-- a file lies in this DF and has this identifier
abbrev pub is_child : ℕ → FileId → Node → Bool
is_child df id node = node.parent == df && node.id.0 == id.0

-- none of the files below an end, but the MF, is such a child
abbrev pub HasNoChild : ℕ → FileId → List Node → ℕ → Type 0
HasNoChild df id nodes end = (k : ℕ) → 1 ≤ k → k < end → is_child df id (slice_index_or nodes k unused_node) ≡ false

-- the first file of this DF with this identifier
pub record IsFirstChild (df : ℕ) (id : FileId) (nodes : List Node) (number : ℕ) : Type 0 where
  pub some : 1 ≤ number
  pub low : number < length nodes
  pub here : is_child df id (slice_index_or nodes number unused_node) ≡ true
  pub before : HasNoChild df id nodes number

-- an EF lies in this DF and has this short file identifier
abbrev pub has_short : ℕ → ℕ → Node → Bool
has_short df short node = is_ef_kind node.kind && node.parent == df && node.short == short

-- the file has not so many bytes from an offset on
abbrev pub HasNoBytes : Node → ℕ → ℕ → Type 0
HasNoBytes node offset count = (node.kind ≢ transparent_kind) ⊎ (node.size < offset + count)

-- so many bytes of a transparent file from an offset on, with their place among those of all files
pub record AreBytesAt (node : Node) (offset count at : ℕ) : Type 0 where
  pub kind : node.kind ≡ transparent_kind
  pub fits : offset + count ≤ node.size
  pub place : data_place + at ≡ node.place + offset

-- the file has no record of this number, or one that is shorter
abbrev pub HasNoRecord : Node → ℕ → ℕ → Type 0
HasNoRecord node index count =
    ((node.kind ≡ df_kind) ⊎ (node.kind ≡ transparent_kind))
    ⊎ ((index ≡ 0) ⊎ ((node.size < index * node.length) ⊎ (node.length < count)))

-- a record, which begins at this place among the bytes of all files
pub record IsRecordAt (node : Node) (index count at : ℕ) : Type 0 where
  pub not_df : node.kind ≢ df_kind
  pub not_bytes : node.kind ≢ transparent_kind
  pub some : 1 ≤ index
  pub inside : index * node.length ≤ node.size
  pub fits : count ≤ node.length
  pub place : data_place + at + node.length ≡ node.place + index * node.length

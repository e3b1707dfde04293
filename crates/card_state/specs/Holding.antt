-- What the files of a card hold by their kinds, and which keys its PINs have, where the bytes of the memory stand for a state.
use Rattle.std.specs.Prelude.{◌≡◌, ◌≢◌, ℕ, ◌+◌, ◌*◌, ◌≤◌, IsTrue, List, length, All}
use Rattle.card_state.specs.declared.entries.Node.{Node}
use Rattle.card_state.specs.declared.entries.Loaded.{Loaded}
use Rattle.card_state.specs.Kinds.{df_kind, transparent_kind, has_records}
use Rattle.card_state.specs.Places.{data_place, data_end}
use Rattle.card_state.specs.Persistent.{Contents, Files, Bytes, Records, Persistent}
use Rattle.card_state.specs.States.{record_count, file_of}
use Rattle.card_state.specs.Used.{HasNode, HasOwnKeys}
use Rattle.card_state.specs.Standing.{Stands}

-- so many bytes
pub record HoldsBytes (size : ℕ) (contents : Contents) : Type 0 where
  pub bytes : List ℕ
  pub held : contents ≡ Bytes bytes
  pub long : length bytes ≡ size

-- so many records of this length
pub record HoldsRecords (width count : ℕ) (contents : Contents) : Type 0 where
  pub records : List (List ℕ)
  pub held : contents ≡ Records records
  pub many : length records ≡ count
  pub whole : All (λ bytes. length bytes ≡ width) records

-- A DF holds the files that lie in it; a transparent file as many bytes as its size; another EF as many records as its size
-- has room for, each of its record length (ETSI TS 102 221, 8.2).
pub record HoldsByKind (node : Node) (contents : Contents) : Type 0 where
  pub df : node.kind ≡ df_kind → contents ≡ Files
  pub transparent : node.kind ≡ transparent_kind → HoldsBytes node.size contents
  pub in_records : IsTrue (has_records node.kind) → HoldsRecords node.length (record_count node) contents

-- the bytes of an EF: at least one, among those of the files
pub record HasBytes (table : Loaded) (node : Node) : Type 0 where
  pub from : data_place ≤ node.place
  pub some : 1 ≤ node.size
  pub to : node.place + node.size ≤ data_end table.wide

-- its records: of at least one byte, at least one and at most 254, and no bytes after them
pub record HasFullRecords (node : Node) : Type 0 where
  pub width : 1 ≤ node.length
  pub some : 1 ≤ record_count node
  pub few : record_count node ≤ 254
  pub full : record_count node * node.length ≡ node.size

-- a file of a memory that stands for a state holds what its entry says
abbrev pub StandingFilesHold : Type 0
StandingFilesHold =
    (store_mark : ℕ) (content : List ℕ) (table : Loaded) (state : Persistent) (number : ℕ) (node : Node)
    → Stands store_mark content table state → HasNode table number node → HoldsByKind node (file_of content number node).contents

-- the bytes of an EF lie among those of the files
abbrev pub StandingFilesHaveBytes : Type 0
StandingFilesHaveBytes =
    (store_mark : ℕ) (content : List ℕ) (table : Loaded) (state : Persistent) (number : ℕ) (node : Node)
    → Stands store_mark content table state → HasNode table number node → node.kind ≢ df_kind → HasBytes table node

-- a file with records has full ones
abbrev pub StandingRecordsAreFull : Type 0
StandingRecordsAreFull =
    (store_mark : ℕ) (content : List ℕ) (table : Loaded) (state : Persistent) (number : ℕ) (node : Node)
    → Stands store_mark content table state → HasNode table number node → IsTrue (has_records node.kind) → HasFullRecords node

-- each PIN stands in the slot of its key
abbrev pub StandingKeysAreOwn : Type 0
StandingKeysAreOwn = (store_mark : ℕ) (content : List ℕ) (table : Loaded) (state : Persistent) → Stands store_mark content table state → HasOwnKeys table

-- What a contract sees of the nodes and bytes of a section's files.
use Rattle.std.specs.Prelude.{◌≡◌, ◌⊎◌, ℕ, ◌+◌, ◌-◌, ◌*◌, ◌≤◌, ◌<◌, true, false, IsTrue, List, map, take, length, sum_by, slice_index_or}
use Rattle.std.specs.List.{enumerate_from}
use Rattle.card_state.specs.declared.sizes.TheConstants.{NODE_COUNT, NODE_WIDTH, RECORD_LIMIT}
use Rattle.card_state.specs.Ranges.{HasNodeRanges}
use Rattle.card_state.specs.declared.entries.Node.{Node}
use Rattle.card_state.specs.Blank.{unused_node}
use Rattle.card_state.specs.Kinds.{has_records, is_ef_kind, mf_id, activated}
use Rattle.card_state.specs.Places.{data_place, data_end}
use Rattle.card_state.specs.Persistent.{File}
use Rattle.card_state.specs.Decoding.{bytes_at}
use Rattle.card_state.specs.States.{contents_in, rule_of}
use Rattle.card_state.specs.Checks.{has_place_in_tree, has_own_short}
use Rattle.card_state.specs.NewFiles.{df_node}
use Rattle.layout_entries.specs.Spelling.{node_spelled}
use Rattle.layout_section.specs.declared.files.Files.TheInside.{Inside}

-- how many bytes all files may have
unfoldable pub all_bytes : ℕ
all_bytes = data_end false - data_place

-- a file by its number, its entry and the bytes of all files
abbrev pub file_in : List ℕ → ℕ → Node → File
file_in bytes number node = record {
  number = number;
  parent = node.parent;
  kind = node.kind;
  id = node.id.0;
  short = node.short;
  life = node.life;
  rule = rule_of node;
  place = node.place;
  size = node.size;
  contents = contents_in (bytes_at bytes (node.place - data_place) node.size) node;
}

-- the files that these entries stand for
abbrev pub files_in : List ℕ → List Node → List File
files_in bytes nodes = map (λ entry. file_in bytes entry.0 entry.1) (enumerate_from 0 nodes)

-- the files of a section
abbrev pub files_of : Inside → List File
files_of inside = files_in inside.bytes.items (take inside.count inside.nodes)

-- how many bytes these have together
abbrev pub size_total : List Node → ℕ
size_total nodes = sum_by (λ node. node.size) nodes

-- the records of an EF that has such: some of one length, as many as a record number can name
pub record HasRecords (node : Node) : Type 0 where
  pub count : ℕ
  pub some : 1 ≤ count
  pub few : count ≤ RECORD_LIMIT
  pub width : 1 ≤ node.length
  pub fill : node.length * count ≡ node.size

-- an EF whose bytes follow so many others
pub record IsEfBehind (before : ℕ) (node : Node) : Type 0 where
  pub used : node.used ≡ true
  pub kind : IsTrue (is_ef_kind node.kind)
  pub life : node.life ≡ activated
  pub place : node.place ≡ data_place + before
  pub some : 1 ≤ node.size
  pub head : node.head ≡ 0
  pub records : IsTrue (has_records node.kind) → HasRecords node

-- an entry is that of a DF, or of an EF whose bytes come after so many
abbrev pub IsNodeBehind : ℕ → Node → Type 0
IsNodeBehind before node = (node ≡ df_node node.parent node.id) ⊎ IsEfBehind before node

-- the MF and the files after it, each in its place in the tree, whose bytes lie one after the other
pub record AreFilesOf (nodes : List Node) (bytes : List ℕ) (total : ℕ) : Type 0 where
  pub some : 1 ≤ length nodes
  pub sum : total ≡ size_total nodes
  pub fits : total ≤ length bytes
  pub long : length bytes ≡ all_bytes
  pub mf : slice_index_or nodes 0 unused_node ≡ df_node 0 (record { 0 = mf_id })
  pub each : (k : ℕ) → k < length nodes → IsNodeBehind (size_total (take k nodes)) (slice_index_or nodes k unused_node)
  pub tree : (k : ℕ) → 1 ≤ k → k < length nodes → has_place_in_tree (take k nodes) (slice_index_or nodes k unused_node) ≡ true
  pub short : (k : ℕ) → k < length nodes → is_ef_kind (slice_index_or nodes k unused_node).kind ≡ true
      → has_own_short (take k nodes) (slice_index_or nodes k unused_node) ≡ true
  pub ranges : (k : ℕ) → k < length nodes → HasNodeRanges (slice_index_or nodes k unused_node)

-- the entries and bytes that a section keeps stand for files
pub record AreFiles (inside : Inside) : Type 0 where
  pub few : inside.count ≤ NODE_COUNT
  pub table : length inside.nodes ≡ NODE_COUNT
  pub files : AreFilesOf (take inside.count inside.nodes) inside.bytes.items inside.total

-- the entries of these files, one after the other, and their bytes
pub record SpellsFiles (files : List File) (entries held : List ℕ) : Type 0 where
  pub nodes : List Node
  pub few : length nodes ≤ NODE_COUNT
  pub bytes : List ℕ
  pub total : ℕ
  pub are : AreFilesOf nodes bytes total
  pub is : files_in bytes nodes ≡ files
  pub spelled_at : (k : ℕ) → k < NODE_COUNT → bytes_at entries (NODE_WIDTH * k) NODE_WIDTH ≡ node_spelled (slice_index_or nodes k unused_node)
  pub held_is : held ≡ take total bytes

-- What is known of the files of a card without their contents, in a table of entries and in a persistent state; and how a
-- file is found among them.
use Rattle.std.specs.Prelude.{ℕ, ◌==◌, ◌/◌, not, ◌&&◌, Bool, if◌then◌else◌, List, [], length, map, find, Option, Some, None, option_map, slice_index_or}
use Rattle.card_state.specs.declared.entries.Node.{Node}
use Rattle.card_state.specs.declared.entries.Loaded.{Loaded}
use Rattle.card_state.specs.Blank.{unused_node}
use Rattle.card_state.specs.Kinds.{df_kind, has_records, is_ef_kind, activated}
use Rattle.card_state.specs.Persistent.{Rule, Contents, Files, Bytes, Records, File, Persistent}
use Rattle.card_state.specs.States.{used_nodes}
use Rattle.file_model.specs.declared.descriptors.Descriptor.{Descriptor}
use Rattle.file_model.specs.declared.descriptors.RuleReference.{RuleReference}
use Rattle.file_model.specs.declared.descriptors.Wanted.{Wanted}
use Rattle.file_model.specs.declared.descriptors.Wanted.TheVariants.{Number, Named, Child, ChildDf, ChildEf, Short}

-- ---- of a table of entries

-- the entry of this number
abbrev pub node_at : Loaded → ℕ → Node
node_at table number = slice_index_or table.nodes number unused_node

-- the rule that an entry names, if it names one
abbrev pub reference_of : Node → Option RuleReference
reference_of node = if node.rule == 0 then None else Some (record { arr = node.arr; number = node.rule })

-- what is known of a DF by its entry: it has no short identifier, no rule and no size, and is activated
abbrev pub df_descriptor : ℕ → Node → Descriptor
df_descriptor number node = record { number = number; parent = node.parent; kind = node.kind; id = node.id; short = 0; life = activated; rule = None; size = 0; width = 0; count = 0 }

-- what is known of an EF by its entry
abbrev pub ef_descriptor : ℕ → Node → Descriptor
ef_descriptor number node = record {
  number = number;
  parent = node.parent;
  kind = node.kind;
  id = node.id;
  short = node.short;
  life = node.life;
  rule = reference_of node;
  size = node.size;
  width = if has_records node.kind then node.length else 0;
  count = if has_records node.kind then node.size / node.length else 0;
}

-- what is known of the file of an entry
unfoldable pub descriptor_of : ℕ → Node → Descriptor
descriptor_of number node = if node.kind == df_kind then df_descriptor number node else ef_descriptor number node

-- what it tells if it is used
abbrev pub descriptor_if : ℕ → Node → Option Descriptor
descriptor_if number node = if node.used then Some (descriptor_of number node) else None

-- of each file by its number
unfoldable pub descriptors_of : Loaded → List Descriptor
descriptors_of loaded = map (λ entry. descriptor_of entry.0 entry.1) (used_nodes loaded.nodes)

-- ---- of a persistent state

-- the length of a record, which is that of the first; 0 of a file without records
abbrev pub record_width : Contents → ℕ
record_width Files = 0
record_width (Bytes bytes) = 0
record_width (Records records) = length (slice_index_or records 0 [])

-- how many records a file has; 0 of a DF and of a transparent EF
abbrev pub record_count : Contents → ℕ
record_count Files = 0
record_count (Bytes bytes) = 0
record_count (Records records) = length records

-- the rule of a file as a reference: its EF_ARR and its record
abbrev pub reference_in : Rule → RuleReference
reference_in rule = record { arr = record { 0 = rule.arr }; number = rule.number }

-- what is known of a file
unfoldable pub descriptor_in : File → Descriptor
descriptor_in file = record {
  number = file.number;
  parent = file.parent;
  kind = file.kind;
  id = record { 0 = file.id };
  short = file.short;
  life = file.life;
  rule = option_map reference_in file.rule;
  size = file.size;
  width = record_width file.contents;
  count = record_count file.contents;
}

-- what is known of each file, in their order
unfoldable pub descriptors_in : Persistent → List Descriptor
descriptors_in state = map descriptor_in state.files

-- ---- how a file is found

-- a DF
abbrev pub is_df : Descriptor → Bool
is_df file = file.kind == df_kind

-- an EF
abbrev pub is_ef : Descriptor → Bool
is_ef file = is_ef_kind file.kind

-- a file lies in the DF with this number; the MF lies in none
abbrev pub lies_in : ℕ → Descriptor → Bool
lies_in df file = file.parent == df && not (file.number == 0)

-- the file is the one that is looked for: by its number, by number and identifier, by identifier in a DF (as any file, a DF or an EF), or by short
-- file identifier in a DF
abbrev pub is_wanted : Wanted → Descriptor → Bool
is_wanted (Number number) file = file.number == number
is_wanted (Named number id) file = file.number == number && file.id.0 == id.0
is_wanted (Child df id) file = lies_in df file && file.id.0 == id.0
is_wanted (ChildDf df id) file = lies_in df file && is_df file && file.id.0 == id.0
is_wanted (ChildEf df id) file = lies_in df file && is_ef file && file.id.0 == id.0
is_wanted (Short df short) file = lies_in df file && is_ef file && file.short == short

-- the first file that is wanted, by ascending numbers
unfoldable pub file_found : List Descriptor → Wanted → Option Descriptor
file_found files wanted = find (is_wanted wanted) files

-- The entry of a new file, and what the file holds.
use Rattle.std.specs.Prelude.{◌≡◌, ℕ, ◌&&◌, Bool, true, nat_le, replicate, Option, Some, None, option_map}
use Rattle.uicc_types.specs.declared.identifiers.FileId.{FileId}
use Rattle.card_state.specs.declared.sizes.TheConstants.{RECORD_LIMIT}
use Rattle.card_state.specs.declared.entries.Node.{Node}
use Rattle.card_state.specs.declared.shapes.Shape.{Shape}
use Rattle.card_state.specs.declared.shapes.Shape.TheVariants.{Transparent, Linear, Cyclic}
use Rattle.card_state.specs.Blank.{unused_node}
use Rattle.card_state.specs.Kinds.{df_kind, activated}
use Rattle.card_state.specs.Persistent.{Rule}
use Rattle.card_state.specs.States.{contents_in}
use Rattle.card_state.specs.Sections.{kind_of, size_of, is_shape, blank_contents}

-- the entry of a new DF in this one
abbrev pub df_node : ℕ → FileId → Node
df_node parent id = record unused_node { used = true; kind = df_kind; id = id; parent = parent; life = activated }

-- the length of a record, or 0
abbrev pub width_of : Shape → ℕ
width_of (Transparent size) = 0
width_of (Linear width count) = width
width_of (Cyclic width count) = width

-- the rule of an EF: an EF_ARR and a record
abbrev pub rule_from : Option (FileId × ℕ) → Option Rule
rule_from rule = option_map (λ pair. record { arr = pair.0.0; number = pair.1 }) rule

-- the record of an EF_ARR that a rule names is 1 to 254; a file may have no rule
abbrev pub rule_holds : Option (FileId × ℕ) → Bool
rule_holds None = true
rule_holds (Some pair) = nat_le 1 pair.1 && nat_le pair.1 RECORD_LIMIT

-- the EF_ARR that a rule names; 0 where there is none
abbrev pub arr_of : Option (FileId × ℕ) → FileId
arr_of None = record { 0 = 0 }
arr_of (Some pair) = pair.0

-- the record of a rule, or 0
abbrev pub record_of : Option (FileId × ℕ) → ℕ
record_of None = 0
record_of (Some pair) = pair.1

-- the entry of a new EF in this DF, whose bytes begin at this place
abbrev pub ef_node : ℕ → ℕ → FileId → Shape → ℕ → Option (FileId × ℕ) → Node
ef_node place parent id shape short rule = record {
  used = true;
  kind = kind_of shape;
  id = id;
  parent = parent;
  short = short;
  life = activated;
  rule = record_of rule;
  arr = arr_of rule;
  place = place;
  size = size_of shape;
  length = width_of shape;
  head = 0;
}

-- bytes FF are what a file with this entry holds when it is new
abbrev pub NewFilesAreBlank : Type 0
NewFilesAreBlank =
    (place parent : ℕ) (id : FileId) (shape : Shape) (short : ℕ) (rule : Option (FileId × ℕ)) → is_shape shape ≡ true
    → contents_in (replicate (size_of shape) 0xFF) (ef_node place parent id shape short rule) ≡ blank_contents shape

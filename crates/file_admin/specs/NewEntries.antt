-- The entry that is written for a file that is made.
use Rattle.std.specs.Prelude.{ℕ, List, replicate, option_map}
use Rattle.uicc_types.specs.declared.identifiers.FileId.{FileId}
use Rattle.card_state.specs.declared.entries.Node.{Node}
use Rattle.card_state.specs.NewFiles.{df_node, ef_node}
use Rattle.card_state.specs.Sections.{size_of}
use Rattle.file_model.specs.declared.descriptors.RuleReference.{RuleReference}
use Rattle.file_model.specs.declared.asked.NewFile.{NewFile}
use Rattle.file_model.specs.declared.asked.NewFile.TheVariants.{Df, Ef}

-- a rule as a pair: its EF_ARR, and the record there
abbrev pub pair_of : RuleReference → FileId × ℕ
pair_of rule = (rule.arr, rule.number)

-- the entry of a file that is made in this DF, whose bytes begin at this place
abbrev pub node_made : ℕ → ℕ → NewFile → Node
node_made df place (Df id) = df_node df id
node_made df place (Ef id shape short rule) = ef_node place df id shape short (option_map pair_of rule)

-- how many bytes it has
abbrev pub byte_count : NewFile → ℕ
byte_count (Df id) = 0
byte_count (Ef id shape short rule) = size_of shape

-- each of them is FF
abbrev pub blank_bytes : NewFile → List ℕ
blank_bytes file = replicate (byte_count file) 0xFF

-- The entry of a new file stands for the file that is made.
use Rattle.std.proofs.Common.{◌≡◌, ℕ, true, false, List, replicate, Option, Some, None, refl, ◌∙◌, ap, ◌==◌, option_map, IsTrue}
use Rattle.std.proofs.lemmas.Bool.{cond-false}
use Rattle.uicc_types.specs.declared.identifiers.FileId.{FileId}
use Rattle.card_state.specs.declared.entries.Node.{Node}
use Rattle.card_state.specs.declared.shapes.Shape.{Shape}
use Rattle.card_state.specs.declared.shapes.Shape.TheVariants.{Transparent, Linear, Cyclic}
use Rattle.card_state.specs.Decoding.{bytes_at}
use Rattle.card_state.specs.Kinds.{df_kind, activated}
use Rattle.card_state.specs.NewFiles.{ef_node}
use Rattle.card_state.proofs.NewFileLemmas.{new_file_is_blank, new_rule}
use Rattle.card_state.specs.Persistent.{Rule, Contents, File}
use Rattle.card_state.specs.Sections.{kind_of, size_of, is_shape, blank_contents}
use Rattle.card_state.specs.States.{contents_in, contents_of, rule_of, df_file, ef_file, file_of}
use Rattle.file_model.specs.declared.descriptors.RuleReference.{RuleReference}
use Rattle.file_model.specs.declared.asked.NewFile.{NewFile}
use Rattle.file_model.specs.declared.asked.NewFile.TheVariants.{Df, Ef}
use Rattle.file_model.specs.Creating.{rule_in, file_made}
use Rattle.file_model.specs.Templates.{may_be_made, may_rule}
use Rattle.file_model.proofs.TemplatesLemmas.{parts_of}
use Rattle.file_admin.specs.NewEntries.{pair_of, node_made, byte_count, blank_bytes}

rule_same : (place df : ℕ) (id : FileId) (shape : Shape) (short : ℕ) (rule : Option RuleReference) → may_rule rule ≡ true
    → rule_of (ef_node place df id shape short (option_map pair_of rule)) ≡ option_map rule_in rule
rule_same place df id shape short None may = new_rule place df id shape short None refl
rule_same place df id shape short (Some rule) may = new_rule place df id shape short (Some (pair_of rule)) may

contents_same : (content : List ℕ) (place df : ℕ) (id : FileId) (shape : Shape) (short : ℕ) (rule : Option (FileId × ℕ)) → is_shape shape ≡ true
    → bytes_at content place (size_of shape) ≡ replicate (size_of shape) 0xFF → contents_of content (ef_node place df id shape short rule) ≡ blank_contents shape
unfolding contents_of
contents_same content place df id shape short rule is blank =
    ap (λ (bytes : List ℕ). contents_in bytes (ef_node place df id shape short rule)) blank ∙ new_file_is_blank place df id shape short rule is

is_no_df : (shape : Shape) → (kind_of shape == df_kind) ≡ false
is_no_df (Transparent size) = refl
is_no_df (Linear width count) = refl
is_no_df (Cyclic width count) = refl

abbrev file_with : ℕ → ℕ → ℕ → FileId → Shape → ℕ → Option Rule → Contents → File
file_with number df place id shape short rule contents = record {
  number = number;
  parent = df;
  kind = kind_of shape;
  id = id.0;
  short = short;
  life = activated;
  rule = rule;
  place = place;
  size = size_of shape;
  contents = contents;
}

-- Where its bytes are FF, the entry stands for the file that is made.
pub entries_are_of_files_made : (content : List ℕ) (number df place : ℕ) (file : NewFile)
    → IsTrue (may_be_made file) → bytes_at content place (byte_count file) ≡ blank_bytes file → file_of content number (node_made df place file) ≡ file_made number df place file
entries_are_of_files_made content number df place (Df id) may blank = refl
entries_are_of_files_made content number df place (Ef id shape short rule) may blank =
    let node : Node = ef_node place df id shape short (option_map pair_of rule) in
    let known = parts_of id shape short rule may in
    cond-false (kind_of shape == df_kind) (df_file number node) (ef_file content number node) (is_no_df shape)
    ∙ ap (λ (r : Option Rule). file_with number df place id shape short r (contents_of content node)) (rule_same place df id shape short rule known.fifth)
    ∙ ap (file_with number df place id shape short (option_map rule_in rule)) (contents_same content place df id shape short (option_map pair_of rule) known.second blank)

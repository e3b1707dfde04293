-- A new EF: its entry, and what it holds.
use Rattle.std.proofs.Common.{get_or, ◌≡◌, ℕ, ◌+◌, ◌-◌, ◌≤◌, ◌<◌, true, List, [], ◌∷◌, ◌++◌, length, take, replicate, refl, sym, ◌∙◌, ap, inl, arith, IsTrue, Option}
use Rattle.std.proofs.lemmas.List.{length-replicate}
use Rattle.std.proofs.lemmas.List.Sums.{sum_by_more_le}
use Rattle.list_laws.specs.Patches.{patched}
use Rattle.list_laws.proofs.PatchesLemmas.{range-patched_there}
use Rattle.uicc_types.specs.declared.identifiers.FileId.{FileId}
use Rattle.card_state.specs.declared.entries.Node.{Node}
use Rattle.card_state.specs.declared.shapes.Shape.{Shape}
use Rattle.card_state.specs.declared.shapes.Shape.TheVariants.{Transparent, Linear, Cyclic}
use Rattle.card_state.specs.Blank.{unused_node}
use Rattle.card_state.specs.Kinds.{is_ef_kind, has_records}
use Rattle.card_state.specs.Places.{data_place}
use Rattle.card_state.specs.Persistent.{Rule, Contents, File}
use Rattle.card_state.specs.Decoding.{bytes_at}
use Rattle.card_state.specs.States.{contents_in}
use Rattle.card_state.specs.Checks.{is_known_kind}
use Rattle.card_state.specs.Sections.{kind_of, size_of, is_shape, blank_contents}
use Rattle.card_state.specs.NewFiles.{ef_node, rule_from, rule_holds}
use Rattle.card_state.proofs.NewFileLemmas.{new_file_is_blank, new_rule, some_bytes, records_parts}
use Rattle.layout_section.specs.Adding.{ef_numbered}
use Rattle.layout_section.specs.Filing.{file_in, files_in, size_total, HasRecords, IsEfBehind, AreFilesOf}
use Rattle.layout_section.proofs.FilingLemmas.{held, held_apart, same_files, files_push, length-files, total_is}

-- ---- shapes

pub known_kind : (shape : Shape) → is_known_kind (kind_of shape) ≡ true
known_kind (Transparent size) = refl
known_kind (Linear width count) = refl
known_kind (Cyclic width count) = refl

module _ (place parent : ℕ) (id : FileId) (short : ℕ) (rule : Option (FileId × ℕ)) where
  abbrev node_of_shape : Shape → Node
  node_of_shape shape = ef_node place parent id shape short rule

  is_ef : (shape : Shape) → IsTrue (is_ef_kind (kind_of shape))
  is_ef (Transparent size) = refl
  is_ef (Linear width count) = refl
  is_ef (Cyclic width count) = refl

  records : (shape : Shape) → is_shape shape ≡ true → IsTrue (has_records (kind_of shape)) → HasRecords (node_of_shape shape)
  records (Transparent size) is has = absurd (cc has)
  records (Linear width count) is has = let parts = records_parts width count is in record { count = count; some = parts.1; few = parts.2; width = parts.0; fill = refl }
  records (Cyclic width count) is has = let parts = records_parts width count is in record { count = count; some = parts.1; few = parts.2; width = parts.0; fill = refl }

  pub new_behind : (total : ℕ) (shape : Shape) → place ≡ data_place + total → is_shape shape ≡ true → IsEfBehind total (node_of_shape shape)
  new_behind total shape at is = record {
    used = refl;
    kind = is_ef shape;
    life = refl;
    place = at;
    some = some_bytes shape is;
    head = refl;
    records = records shape is;
  }

-- ---- the files with a new one

pub with_new : (bytes : List ℕ) (nodes : List Node) (total parent : ℕ) (id : FileId) (shape : Shape) (short : ℕ) (rule : Option (FileId × ℕ)) → AreFilesOf nodes bytes total
    → total + size_of shape ≤ length bytes → is_shape shape ≡ true → rule_holds rule ≡ true
    → files_in (patched total (replicate (size_of shape) 255) bytes) (nodes ++ ef_node (data_place + total) parent id shape short rule ∷ [])
    ≡ files_in bytes nodes ++ ef_numbered (files_in bytes nodes) parent id shape short (rule_from rule) ∷ []
with_new bytes nodes total parent id shape short rule are room is holds =
    let blank : List ℕ = replicate (size_of shape) 255 in
    let blank_long : length blank ≡ size_of shape = length-replicate (size_of shape) 255 in
    let new : List ℕ = patched total blank bytes in
    let node : Node = ef_node (data_place + total) parent id shape short rule in
    let fits : total + length blank ≤ length bytes = omega arith in
    let start : data_place + total - data_place ≡ total = omega arith in
    let whole : (k : ℕ) → k < length nodes → size_total (take k nodes) + (get_or nodes k unused_node).size ≤ total =
    λ k low. omega (arith, sum_by_more_le (λ (n : Node). n.size) nodes k unused_node low, are.sum) in
    let kept : files_in new nodes ≡ files_in bytes nodes =
    same_files bytes new nodes (λ k low. held_apart bytes blank total (size_total (take k nodes)) (get_or nodes k unused_node) fits (are.each k low) (omega (arith, whole k low)) (inl (whole k low))) in
    let holds_blank : held new node ≡ blank_contents shape =
    ap (λ (l : List ℕ). contents_in l node)
    (ap (λ (n : ℕ). bytes_at new n (size_of shape)) start ∙ ap (λ (n : ℕ). bytes_at new total n) (sym blank_long) ∙ range-patched_there total blank bytes fits)
    ∙ new_file_is_blank (data_place + total) parent id shape short rule is in
    files_push new nodes node
    ∙ ap (λ (files : List File). files ++ file_in new (length nodes) node ∷ []) kept
    ∙ ap (λ (n : ℕ). files_in bytes nodes ++ file_in new n node ∷ []) (sym (length-files bytes nodes))
    ∙ ap (λ (c : Contents). files_in bytes nodes ++ (record (file_in new (length (files_in bytes nodes)) node) { contents = c }) ∷ []) holds_blank
    ∙ ap (λ (r : Option Rule). files_in bytes nodes ++ (record (ef_numbered (files_in bytes nodes) parent id shape short r) { place = data_place + total }) ∷ []) (new_rule (data_place + total) parent id shape short rule holds)
    ∙ ap (λ (n : ℕ). files_in bytes nodes ++ (record (ef_numbered (files_in bytes nodes) parent id shape short (rule_from rule)) { place = data_place + n }) ∷ []) (are.sum ∙ sym (total_is bytes nodes))

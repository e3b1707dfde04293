-- The table of a sound card tells of its files what its state tells.
use Rattle.std.proofs.Common.{get_or, ◌≡◌, ℕ, ◌+◌, ◌-◌, ◌*◌, ◌/◌, ◌≤◌, Bool, true, false, cond, List, [], ◌∷◌, length, take, drop, map, Option, Some, None, refl, sym, ◌∙◌, ap, subst, ⊎_elim, arith, length-append, ◌==◌, ◌||◌, if◌then◌else◌, IsTrue, All, slice_range, option_map, length-take, length-drop}
use Rattle.std.specs.List.{range_with_len}
use Rattle.std.proofs.lemmas.Bool.{cases_eq, eq-eqb, ne_eqb, cond-true, cond-false}
use Rattle.std.proofs.lemmas.List.FromFn.{length-map-range_with_len}
use Rattle.std.proofs.lemmas.List.Elements.{All-map, All-append, All-take, All-drop, All-head, All-tail}
use Rattle.std.proofs.Math.Nat.{div-mul-le_self, le_of_mul-le-mul_left}
use Rattle.list_laws.proofs.MapLemmas.{all_unmapped}
use Rattle.uicc_types.specs.declared.identifiers.FileId.{FileId}
use Rattle.card_state.specs.declared.entries.Node.{Node}
use Rattle.card_state.specs.Kinds.{df_kind, transparent_kind, has_records, is_ef_kind}
use Rattle.card_state.specs.Persistent.{Rule, Contents, Files, Bytes, Records, File}
use Rattle.card_state.specs.States.{file_bytes, records_of, from_head, contents_of, df_file, ef_file, file_of, used_nodes, files_of, state_of}
use Rattle.card_state.specs.Soundness.{AreContents, IsSoundFile}
use Rattle.file_model.specs.declared.descriptors.Descriptor.{Descriptor}
use Rattle.file_model.specs.declared.descriptors.RuleReference.{RuleReference}
use Rattle.file_model.specs.Files.{reference_of, reference_in, df_descriptor, ef_descriptor, descriptor_of, descriptors_of, record_width, record_count, descriptor_in, descriptors_in}
use Rattle.file_model.specs.Laws.{TablesTellFiles}
use Rattle.file_model.proofs.HasSameShapeLemmas.{some_records}

same_reference : (b : Bool) (arr : FileId) (number : ℕ) (absent : Option Rule) (absent' : Option RuleReference) → option_map reference_in absent ≡ absent'
    → option_map reference_in (if b then absent else Some (record { arr = arr.0; number = number })) ≡ (if b then absent' else Some (record { arr = arr; number = number }))
same_reference true arr number absent absent' same = same
same_reference false arr number absent absent' same = refl

-- ---- records as they lie

module _ (width count head : ℕ) (bytes : List ℕ) where
  abbrev laid : List (List ℕ)
  laid = records_of width count bytes

  length_laid : length (from_head head laid) ≡ count
  length_laid =
      omega (
        arith,
        length-append (drop head laid) (take head laid),
        length-drop head laid,
        length-take head laid,
        length-map-range_with_len (λ index. slice_range bytes (index * width) (index * width + width)) 0 count,
      )

  abbrev IsNarrow : List ℕ → Type 0
  IsNarrow one = length one ≤ width

  narrow_laid : All IsNarrow (from_head head laid)
  narrow_laid =
      let all : All IsNarrow laid = All-map IsNarrow (λ index. slice_range bytes (index * width) (index * width + width)) (range_with_len 0 count) (λ k d low.
      let at : ℕ = get_or (range_with_len 0 count) k d in omega (arith, length-take (at * width + width - at * width) (drop (at * width) bytes))) in
      All-append IsNarrow (drop head laid) (take head laid) (All-drop IsNarrow head laid all) (All-take IsNarrow head laid all)

-- ---- one file

abbrev told_as : ℕ → Node → Option RuleReference → ℕ → ℕ → Descriptor
told_as number node rule width count =
    record { number = number; parent = node.parent; kind = node.kind; id = node.id; short = node.short; life = node.life; rule = rule; size = node.size; width = width; count = count }

abbrev width_told : Node → ℕ
width_told node = if has_records node.kind then node.length else 0

abbrev count_told : Node → ℕ
count_told node = if has_records node.kind then node.size / node.length else 0

-- what a file with records tells
records_tell : (content : List ℕ) (node : Node) → IsTrue (has_records node.kind) → AreContents node.kind node.size (contents_of content node) → 1 ≤ node.size
    → (node.kind == df_kind) ≡ false → (node.kind == transparent_kind) ≡ false
    → (record_width (contents_of content node) ≡ width_told node) × (record_count (contents_of content node) ≡ count_told node)
unfolding contents_of
records_tell content node has are some not_df not_bytes =
    let bytes : List ℕ = file_bytes content node in
    let count : ℕ = node.size / node.length in
    let records : List (List ℕ) = from_head node.head (records_of node.length count bytes) in
    let held : contents_of content node ≡ Records records =
    cond-false (node.kind == df_kind) Files (cond (node.kind == transparent_kind) (Bytes bytes) (Records records)) not_df
    ∙ cond-false (node.kind == transparent_kind) (Bytes bytes) (Records records) not_bytes in
    let there : AreContents node.kind node.size (Records records) = subst (AreContents node.kind node.size) held are in
    let counted : length records ≡ count = length_laid node.length count node.head bytes in
    let full : 1 ≤ length records = some_records node.kind node.size (Records records) has there some in
    let first : length (get_or records 0 []) ≡ there.1.width = there.1.whole 0 [] (omega (arith, full)) in
    let narrow : there.1.width ≤ node.length = omega (arith, first, narrow_laid node.length count node.head bytes 0 [] (omega (arith, full))) in
    let fill : count * there.1.width ≡ node.size = sym (ap (λ (n : ℕ). n * there.1.width) counted) ∙ there.1.fill in
    let wide : node.length ≤ there.1.width = le_of_mul-le-mul_left {m = node.length} {n = there.1.width} {k = count} (omega (arith, div-mul-le_self node.size node.length, fill)) (omega (arith, counted, full)) in (
      ap record_width held ∙ first ∙ equal there.1.width node.length narrow wide ∙ sym (cond-true (has_records node.kind) node.length 0 has),
      ap record_count held ∙ counted ∙ sym (cond-true (has_records node.kind) count 0 has),
    )
  where
    equal : (a b : ℕ) → a ≤ b → b ≤ a → a ≡ b
    equal a b up down = omega (arith, up, down)

bytes_tell : (content : List ℕ) (node : Node) → node.kind ≡ transparent_kind
    → (record_width (contents_of content node) ≡ width_told node) × (record_count (contents_of content node) ≡ count_told node)
unfolding contents_of
bytes_tell content node is =
    let bytes : List ℕ = file_bytes content node in
    let records : Contents = Records (from_head node.head (records_of node.length (node.size / node.length) bytes)) in
    let none : has_records node.kind ≡ false = ap has_records is in
    let held : contents_of content node ≡ Bytes bytes =
    cond-false (node.kind == df_kind) Files (cond (node.kind == transparent_kind) (Bytes bytes) records) (ap (λ (k : ℕ). k == df_kind) is)
    ∙ cond-true (node.kind == transparent_kind) (Bytes bytes) records (eq-eqb node.kind transparent_kind is) in
    (ap record_width held ∙ sym (cond-false (has_records node.kind) node.length 0 none), ap record_count held ∙ sym (cond-false (has_records node.kind) (node.size / node.length) 0 none))

the_other : (a b : Bool) → (a || b) ≡ true → a ≡ false → b ≡ true
the_other true b either no_a = cc
the_other false b either no_a = either

ef_tells : (wide : Bool) (files : List File) (content : List ℕ) (number : ℕ) (node : Node) → (node.kind == df_kind) ≡ false → IsSoundFile wide files (ef_file content number node)
    → descriptor_in (ef_file content number node) ≡ ef_descriptor number node
unfolding descriptor_in
ef_tells wide files content number node not_df s =
    let ef : IsTrue (is_ef_kind node.kind) = ⊎_elim {C = IsTrue (is_ef_kind node.kind)} (λ df. let both : true ≡ false = sym (eq-eqb node.kind df_kind df) ∙ not_df in cc) (λ e. e) s.kind in
    let shape : (record_width (contents_of content node) ≡ width_told node) × (record_count (contents_of content node) ≡ count_told node) =
    ⊎_elim {C = (record_width (contents_of content node) ≡ width_told node) × (record_count (contents_of content node) ≡ count_told node)}
    (λ is. bytes_tell content node is)
    (λ other. let not_bytes : (node.kind == transparent_kind) ≡ false = ne_eqb node.kind transparent_kind other in
    records_tell content node (the_other (node.kind == transparent_kind) (has_records node.kind) ef not_bytes) s.contents (s.ef ef).some not_df not_bytes)
    (cases_eq node.kind transparent_kind) in
    ap (λ (r : Option RuleReference). told_as number node r (record_width (contents_of content node)) (record_count (contents_of content node))) (same_reference (node.rule == 0) node.arr node.rule None None refl)
    ∙ ap (λ (w : ℕ). told_as number node (reference_of node) w (record_count (contents_of content node))) shape.0
    ∙ ap (λ (c : ℕ). told_as number node (reference_of node) (width_told node) c) shape.1

file_tells : (wide : Bool) (files : List File) (content : List ℕ) (number : ℕ) (node : Node) → IsSoundFile wide files (file_of content number node) → descriptor_in (file_of content number node) ≡ descriptor_of number node
unfolding descriptor_in descriptor_of
file_tells wide files content number node s =
    ⊎_elim {C = descriptor_in (file_of content number node) ≡ descriptor_of number node}
    (λ df.
    let is : (node.kind == df_kind) ≡ true = eq-eqb node.kind df_kind df in
    ap descriptor_in (cond-true (node.kind == df_kind) (df_file number node) (ef_file content number node) is) ∙ sym (cond-true (node.kind == df_kind) (df_descriptor number node) (ef_descriptor number node) is))
    (λ other.
    let is : (node.kind == df_kind) ≡ false = ne_eqb node.kind df_kind other in
    let here : file_of content number node ≡ ef_file content number node = cond-false (node.kind == df_kind) (df_file number node) (ef_file content number node) is in
    ap descriptor_in here ∙ ef_tells wide files content number node is (subst (IsSoundFile wide files) here s) ∙ sym (cond-false (node.kind == df_kind) (df_descriptor number node) (ef_descriptor number node) is))
    (cases_eq node.kind df_kind)

-- ---- all files

all_tell : (content : List ℕ) (entries : List (ℕ × Node)) → All (λ entry. descriptor_in (file_of content entry.0 entry.1) ≡ descriptor_of entry.0 entry.1) entries
    → map descriptor_in (map (λ (entry : ℕ × Node). file_of content entry.0 entry.1) entries) ≡ map (λ (entry : ℕ × Node). descriptor_of entry.0 entry.1) entries
all_tell content [] tell = refl
all_tell content (entry ∷ entries) tell =
    ap (λ (d : Descriptor). d ∷ map descriptor_in (map (λ (e : ℕ × Node). file_of content e.0 e.1) entries)) (All-head (λ (e : ℕ × Node). descriptor_in (file_of content e.0 e.1) ≡ descriptor_of e.0 e.1) entry entries tell)
    ∙ ap (λ (rest : List Descriptor). descriptor_of entry.0 entry.1 ∷ rest) (all_tell content entries (All-tail (λ (e : ℕ × Node). descriptor_in (file_of content e.0 e.1) ≡ descriptor_of e.0 e.1) entry entries tell))

pub tables_tell_files : TablesTellFiles
unfolding state_of files_of descriptors_in descriptors_of
tables_tell_files loaded content sound =
    let entries : List (ℕ × Node) = used_nodes loaded.nodes in
    let file : ℕ × Node → File = λ entry. file_of content entry.0 entry.1 in
    let each = all_unmapped (IsSoundFile loaded.wide (map file entries)) file entries sound.files in
    all_tell content entries (λ k d low. let entry : ℕ × Node = get_or entries k d in file_tells loaded.wide (map file entries) content entry.0 entry.1 (each k d low))

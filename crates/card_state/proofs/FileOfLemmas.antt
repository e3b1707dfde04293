-- What a file's entry and the file that it stands for have in common.
use Rattle.std.proofs.Common.{zero, suc, ◌≡◌, ℕ, ◌+◌, ◌-◌, ◌*◌, ◌/◌, ◌%◌, ◌≤◌, ◌<◌, Bool, true, false, cond, List, ◌++◌, length, take, drop, refl, sym, ◌∙◌, ap, subst, arith, length-append, ◌≢◌, ◌==◌, All, slice_range, length-take, length-drop, take-append-drop}
use Rattle.std.proofs.Math.Nat.{div-zero, div-add-mod, mul-le-mul_right, le-mul_of_pos_right, mul_comm}
use Rattle.std.proofs.lemmas.Bool.{cond-true, cond-false, cond_both, eq-eqb, ne_eqb, false≢true}
use Rattle.std.proofs.lemmas.List.FromFn.{length-map-range_with_len}
use Rattle.std.proofs.lemmas.List.Elements.{All-append, All-take, All-drop}
use Rattle.card_state.specs.declared.entries.Node.{Node}
use Rattle.card_state.specs.Kinds.{df_kind, transparent_kind, is_ef_kind}
use Rattle.card_state.specs.Places.{memory_size, data_end}
use Rattle.card_state.specs.Persistent.{Files, Bytes, Records, File}
use Rattle.card_state.specs.States.{file_bytes, record_count, records_of, from_head, contents_of, df_file, ef_file, file_of}
use Rattle.card_state.specs.Soundness.{AreRecords}
use Rattle.card_state.proofs.FilterRangeLemmas.{each_number, all_numbers}
use Rattle.card_state.proofs.StandsForLemmas.{all_front, all_back}

pub ef_is_no_df : (kind : ℕ) → is_ef_kind kind ≡ true → kind ≢ df_kind
ef_is_no_df kind ef df = let none : false ≡ true = sym (ap is_ef_kind df) ∙ ef in false≢true none

module _ (content : List ℕ) (number : ℕ) (node : Node) where
  abbrev pub file : File
  file = file_of content number node

  abbrev is_df : Bool
  is_df = node.kind == df_kind

  pub number_is : file.number ≡ number
  number_is = cond_both is_df (df_file number node) (ef_file content number node) (λ (f : File). f.number ≡ number) (λ is. refl) (λ is. refl)

  pub parent_is : file.parent ≡ node.parent
  parent_is = cond_both is_df (df_file number node) (ef_file content number node) (λ (f : File). f.parent ≡ node.parent) (λ is. refl) (λ is. refl)

  pub kind_is : file.kind ≡ node.kind
  kind_is = cond_both is_df (df_file number node) (ef_file content number node) (λ (f : File). f.kind ≡ node.kind) (λ is. refl) (λ is. refl)

  pub id_is : file.id ≡ node.id.0
  id_is = cond_both is_df (df_file number node) (ef_file content number node) (λ (f : File). f.id ≡ node.id.0) (λ is. refl) (λ is. refl)

  pub file_of_df : node.kind ≡ df_kind → file ≡ df_file number node
  file_of_df is = cond-true is_df (df_file number node) (ef_file content number node) (eq-eqb node.kind df_kind is)

  pub file_of_ef : node.kind ≢ df_kind → file ≡ ef_file content number node
  file_of_ef is = cond-false is_df (df_file number node) (ef_file content number node) (ne_eqb node.kind df_kind is)

  -- an EF has the fields of its entry
  pub ef_file_is : is_ef_kind file.kind ≡ true → file ≡ ef_file content number node
  ef_file_is ef = file_of_ef (ef_is_no_df node.kind (ap is_ef_kind (sym kind_is) ∙ ef))

  pub short_is : is_ef_kind file.kind ≡ true → file.short ≡ node.short
  short_is ef = ap (λ (f : File). f.short) (ef_file_is ef)

  pub place_is : is_ef_kind file.kind ≡ true → file.place ≡ node.place
  place_is ef = ap (λ (f : File). f.place) (ef_file_is ef)

  pub size_is : is_ef_kind file.kind ≡ true → file.size ≡ node.size
  size_is ef = ap (λ (f : File). f.size) (ef_file_is ef)

-- ---- bytes and records

pub file_bytes_length : (wide : Bool) (content : List ℕ) (node : Node) → length content ≡ memory_size → node.place + node.size ≤ data_end wide → length (file_bytes content node) ≡ node.size
file_bytes_length wide content node whole to =
    let end : data_end wide ≤ 65536 = elim wide as (λ b. data_end b ≤ 65536) [ true ↦ omega arith | false ↦ omega arith ] in
    omega (arith, length-take (node.place + node.size - node.place) (drop node.place content), length-drop node.place content)

module _ (width count : ℕ) (bytes : List ℕ) where
  abbrev record_at : ℕ → List ℕ
  record_at index = slice_range bytes (index * width) (index * width + width)

  abbrev laid : List (List ℕ)
  laid = records_of width count bytes

  pub length_from_head : (head : ℕ) → length (from_head head laid) ≡ count
  length_from_head head =
      omega (arith, length-append (drop head laid) (take head laid), length-drop head laid, length-take head laid, length-map-range_with_len record_at 0 count)

  pub all_from_head : (P : List ℕ → Type 0) (head : ℕ) → ((index : ℕ) → index < count → P (record_at index)) → All P (from_head head laid)
  all_from_head P head each =
      let all : All P laid = all_numbers P record_at count each in
      All-append P (drop head laid) (take head laid) (All-drop P head laid all) (All-take P head laid all)

  pub from_head_all : (P : List ℕ → Type 0) (head : ℕ) → All P (from_head head laid) → (index : ℕ) → index < count → P (record_at index)
  from_head_all P head all =
      let back = all_front P (drop head laid) (take head laid) all in
      let front = all_back P (drop head laid) (take head laid) all in
      let both : All P (take head laid ++ drop head laid) = All-append P (take head laid) (drop head laid) front back in
      each_number P record_at count (subst (λ (l : List (List ℕ)). All P l) (take-append-drop head laid) both)

  record_length : (index : ℕ) → index * width + width ≤ length bytes → length (record_at index) ≡ width
  record_length index inside = omega (arith, length-take (index * width + width - index * width) (drop (index * width) bytes), length-drop (index * width) bytes)

  record_inside : count * width ≤ length bytes → (index : ℕ) → index < count → index * width + width ≤ length bytes
  record_inside room index low =
      let more : suc index * width ≤ count * width = mul-le-mul_right width (omega arith) in
      let next : suc index * width ≡ index * width + width = omega arith in
      omega arith

  pub whole_records : (head : ℕ) → count * width ≤ length bytes → All (λ one. length one ≡ width) (from_head head laid)
  whole_records head room = all_from_head (λ one. length one ≡ width) head (λ index low. record_length index (record_inside room index low))

-- ---- quotients

pub not_none : (count width size : ℕ) → count * width ≡ size → 1 ≤ size → 1 ≤ count
not_none zero width size full some = absurd (omega arith)
not_none (suc count) width size full some = omega arith

length_some : (size width : ℕ) → 1 ≤ size / width → 1 ≤ width
length_some size zero there = absurd (omega (arith, div-zero size))
length_some size (suc width) there = omega arith

length_fits : (size width : ℕ) → 1 ≤ size / width → width ≤ size
length_fits size width there = omega (arith, div-add-mod size width, le-mul_of_pos_right {m = size / width} width (omega arith))

-- ---- what a file holds

-- its records are whole
pub record HasRecords (node : Node) : Type 0 where
  pub some : 1 ≤ node.length
  pub whole : node.size % node.length ≡ 0
  pub few : record_count node ≤ 254

module _ (content : List ℕ) (node : Node) where
  abbrev bytes : List ℕ
  bytes = file_bytes content node

  abbrev records : List (List ℕ)
  records = from_head node.head (records_of node.length (record_count node) bytes)

  pub holds_bytes : node.kind ≡ transparent_kind → contents_of content node ≡ Bytes bytes
  unfolding contents_of
  holds_bytes is =
      cond-false (node.kind == df_kind) Files (cond (node.kind == transparent_kind) (Bytes bytes) (Records records)) (ne_eqb node.kind df_kind (λ df. omega arith))
      ∙ cond-true (node.kind == transparent_kind) (Bytes bytes) (Records records) (eq-eqb node.kind transparent_kind is)

  pub holds_records : node.kind ≢ df_kind → node.kind ≢ transparent_kind → contents_of content node ≡ Records records
  unfolding contents_of
  holds_records not_df not_bytes =
      cond-false (node.kind == df_kind) Files (cond (node.kind == transparent_kind) (Bytes bytes) (Records records)) (ne_eqb node.kind df_kind not_df)
      ∙ cond-false (node.kind == transparent_kind) (Bytes bytes) (Records records) (ne_eqb node.kind transparent_kind not_bytes)

  module _ (long : length bytes ≡ node.size) where
    pub each_whole : HasRecords node → All (λ one. length one ≡ node.length) records
    each_whole has =
        let full : record_count node * node.length ≡ node.size = omega (arith, has.whole, div-add-mod node.size node.length, mul_comm (record_count node) node.length) in
        whole_records node.length (record_count node) bytes node.head (omega arith)

    pub are_records : HasRecords node → AreRecords node.size records
    are_records has =
        let full : record_count node * node.length ≡ node.size = omega (arith, has.whole, div-add-mod node.size node.length, mul_comm (record_count node) node.length) in
        record {
          width = node.length;
          some_bytes = has.some;
          whole = each_whole has;
          few = omega (arith, has.few, length_from_head node.length (record_count node) bytes node.head);
          fill = ap (λ (n : ℕ). n * node.length) (length_from_head node.length (record_count node) bytes node.head) ∙ full;
        }

    -- where records of one length fill the file, it is the length of the entry
    pub whole_from : 1 ≤ node.size → AreRecords node.size records → HasRecords node
    whole_from some are =
        let count = record_count node in
        let counted : length records ≡ count = length_from_head node.length count bytes node.head in
        let fill : count * are.width ≡ node.size = sym (ap (λ (n : ℕ). n * are.width) counted) ∙ are.fill in
        let there : 1 ≤ count = not_none count are.width node.size fill some in
        let wide : 1 ≤ node.length = length_some node.size node.length there in
        let fits : node.length ≤ node.size = length_fits node.size node.length there in
        let first = from_head_all node.length count bytes (λ one. length one ≡ are.width) node.head are.whole 0 (omega arith) in
        let nothing : 0 * node.length ≡ 0 = omega arith in
        let same : node.length ≡ are.width = sym (record_length node.length count bytes 0 (omega (arith, nothing))) ∙ first in
        let whole : count * node.length ≡ node.size = ap (λ (n : ℕ). count * n) same ∙ fill in
        record { some = wide; whole = omega (arith, div-add-mod node.size node.length, mul_comm count node.length); few = omega (arith, are.few) }

-- Records of a linear fixed file that are read together.
use Rattle.std.proofs.Common.{◌≡◌, ℕ, ◌+◌, ◌-◌, ◌*◌, ◌%◌, ◌≤◌, ◌<◌, IsTrue, List, [], length, take, drop, slice_range, slice_index_or, Option, Some, refl, sym, ◌∙◌, ap, subst, inl, inr, arith, mul-le-mul_right, mod-eq_of_lt}
use Rattle.std.proofs.lemmas.Bool.{cases_lt}
use Rattle.std.proofs.lemmas.List.{drop-take, drop-drop, take-take}
use Rattle.list_laws.proofs.SliceRangeLemmas.{length-range}
use Rattle.store_form.specs.Pieces.{IsUsable}
use Rattle.card_state.specs.declared.entries.Node.{Node}
use Rattle.card_state.specs.declared.entries.Loaded.{Loaded}
use Rattle.card_state.specs.Kinds.{linear_kind, has_records}
use Rattle.card_state.specs.Places.{memory_size}
use Rattle.card_state.specs.States.{record_count}
use Rattle.card_state.specs.Standing.{Agrees}
use Rattle.card_state.specs.Used.{HasNode}
use Rattle.card_state.specs.Holding.{StandingRecordsAreFull}
use Rattle.file_model.specs.declared.descriptors.Descriptor.{Descriptor}
use Rattle.file_model.specs.Files.{descriptor_of, descriptors_of}
use Rattle.file_model.specs.Holdings.{records_in}
use Rattle.file_model.specs.Laws.{NumbersAreEntries}
use Rattle.layout_laws.specs.ChangeLaws.{place_in_ring}
use Rattle.layout_laws.specs.Known.{NodesAreFiles}
use Rattle.layout_laws.specs.StandingLaws.{RecordIsRead, RingIsRead}
use Rattle.card_commits.specs.Entries.{HasLinearRecords}
use Rattle.card_commits.specs.Reading.{StandInARow}
use Rattle.card_commits.proofs.EntriesLemmas.{usable, told_of, found_is, kind_told, records_told}
use Rattle.card_commits.proofs.HasRecordLemmas.{HaveRecords, RecordLies, have_records, record_read}

-- a part of a part
part_of_part : (list : List ℕ) (from count at size : ℕ) → at + size ≤ count → take size (drop at (slice_range list from (from + count))) ≡ slice_range list (from + at) (from + at + size)
part_of_part list from count at size fits =
    let whole : from + count - from ≡ at + (count - at) = omega (arith, fits) in
    ap (λ (n : ℕ). take size (drop at (take n (drop from list)))) whole
    ∙ ap (take size) (drop-take at (count - at) (drop from list))
    ∙ take-take size (count - at) (drop at (drop from list)) (omega (arith, fits))
    ∙ ap (take size) (drop-drop at from list)
    ∙ ap (λ (n : ℕ). take n (drop (from + at) list)) (let same : size ≡ from + at + size - (from + at) = omega arith in same)

-- a record that ends before so many of them do is one of them
one_of : (index k count width size : ℕ) → 1 ≤ width → index * width + size ≤ count * width → k * width + width ≤ size → index + k < count
one_of index k count width size some inside fits = elim (cases_lt (index + k) count) [
  | inl low ↦ low
  | inr high ↦
      let behind : count * width ≤ (index + k) * width = mul-le-mul_right width high in
      let split : (index + k) * width ≡ index * width + k * width = grind arith in
      absurd (omega (arith, behind, split, some, inside, fits))
]

module _ (numbers : NumbersAreEntries) (nodes_are_files : NodesAreFiles) (full : StandingRecordsAreFull) (mark : ℕ) (told : Option (List ℕ)) (table : Loaded) (agrees : Agrees mark told table) (number : ℕ) (node : Node) (has : HasNode table number node) where
  pub record RowLies (index size : ℕ) : Type 0 where
    pub kind : node.kind ≡ linear_kind
    pub have : HaveRecords node
    pub inside : index * node.length + size ≤ record_count node * node.length

  pub row_lies : (index size : ℕ) → HasLinearRecords table number index size → RowLies index size
  row_lies index size file =
      let tells = told_of numbers table number node (λ file. (file.kind ≡ linear_kind) × (index * file.width + size ≤ file.count * file.width)) has file in
      let kind : node.kind ≡ linear_kind = sym (kind_told number node) ∙ tells.0 in
      let records : IsTrue (has_records node.kind) = subst (λ (k : ℕ). IsTrue (has_records k)) (sym kind) refl in
      let told' = records_told number node records in
      record {
        kind = kind;
        have = have_records numbers nodes_are_files full mark told table agrees number node has records;
        inside =
            subst (λ (n : ℕ). index * node.length + size ≤ n * node.length) told'.0
            (subst (λ (n : ℕ). index * n + size ≤ (descriptor_of number node).count * n) told'.1 tells.1);
      }

  pub row_usable : (index size : ℕ) → RowLies index size → IsUsable memory_size (node.place + index * node.length) size
  row_usable index size lies =
      usable node (index * node.length) size (record { inside = omega (arith, lies.inside, lies.have.full.full); from = lies.have.whole.from; to = lies.have.whole.to })

  pub row_below : (index size : ℕ) → RowLies index size → node.place + index * node.length ≤ 65536
  row_below index size lies = omega (arith, lies.inside, lies.have.full.full, lies.have.whole.to)

  pub row_read : RecordIsRead → RingIsRead → (index size : ℕ) → RowLies index size → (out : List ℕ)
      → out ≡ slice_range agrees.content (node.place + index * node.length) (node.place + index * node.length + size)
      → StandInARow agrees.state (descriptors_of table) number index out
  row_read linear_read ring_read index size lies out is file found k fits =
      let width : ℕ = node.length in
      let end : node.place + index * width + size ≤ length agrees.content = omega (arith, lies.inside, lies.have.full.full, lies.have.whole.to, agrees.stands.long) in
      let long : length out ≡ size = ap (λ (l : List ℕ). length l) is ∙ length-range agrees.content (node.place + index * width) size end in
      let one : Some file ≡ Some (descriptor_of number node) = sym found ∙ found_is numbers table number node has in
      let same : file ≡ descriptor_of number node = cc one in
      let wide : file.width ≡ width = ap (λ (f : Descriptor). f.width) same ∙ (records_told number node lies.have.kind).1 in
      let fits' : k * width + width ≤ size = subst (λ (n : ℕ). k * width + width ≤ n) long (subst (λ (n : ℕ). k * n + n ≤ length out) wide fits) in
      let low : index + k < record_count node = one_of index k (record_count node) width size lies.have.full.width lies.inside fits' in
      let lies' : RecordLies numbers nodes_are_files full mark told table agrees number node has (index + k) width = record { have = lies.have; low = low; width_is = refl } in
      let start : 0 + (index + k) ≡ index + k = omega arith in
      let none : node.head ≡ 0 = (nodes_are_files mark agrees.content table agrees.state number node agrees.stands has).head.other (inr lies.kind) in
      let straight : place_in_ring node.head (record_count node) (index + k) ≡ index + k =
      ap (λ (h : ℕ). (h + (index + k)) % record_count node) none ∙ ap (λ (n : ℕ). n % record_count node) start ∙ mod-eq_of_lt low in
      let split : node.place + index * width + k * width ≡ node.place + (index + k) * width = grind arith in
      subst (λ (n : ℕ). take n (drop (k * n) out) ≡ slice_index_or (records_in agrees.state number) (index + k) []) (sym wide)
      (ap (λ (l : List ℕ). take width (drop (k * width) l)) is
      ∙ part_of_part agrees.content (node.place + index * width) size (k * width) width fits'
      ∙ ap (λ (n : ℕ). slice_range agrees.content n (n + width)) split
      ∙ subst (λ (n : ℕ). slice_range agrees.content (node.place + n * width) (node.place + n * width + width) ≡ slice_index_or (records_in agrees.state number) (index + k) []) straight
      (record_read numbers nodes_are_files full mark told table agrees number node has linear_read ring_read (index + k) width lies'))

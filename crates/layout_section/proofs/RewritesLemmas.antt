-- Bytes and records that are put into a file.
use Rattle.std.proofs.Common.{zero, suc, get_or, set, ◌≡◌, ◌≢◌, ℕ, ◌+◌, ◌-◌, ◌*◌, ◌/◌, ◌≤◌, ◌<◌, Bool, true, false, cond, List, [], ◌++◌, length, take, map, replicate, refl, sym, ◌∙◌, ap, subst, ⊎_elim, arith, length-append, ◌⊎◌, ◌&&◌, ◌==◌, nat_le, IsTrue, Option, Some, None, Ok, Err}
use Rattle.std.proofs.lemmas.Bool.{cases_lt, cases_eq, eq-eqb, ne_eqb, le-leb, lt-leb, or_cases, eqb-true, and_from, and_left, and_right}
use Rattle.std.proofs.lemmas.List.{append-nil, length-replicate, get_or-take}
use Rattle.std.proofs.lemmas.List.Sums.{sum_by_more_le}
use Rattle.std.proofs.Math.Nat.{mul-div_cancel_left, mul_comm}
use Rattle.list_laws.specs.Patches.{patched}
use Rattle.list_laws.proofs.PatchesLemmas.{range-patched_inside}
use Rattle.list_laws.proofs.SliceRangeLemmas.{length-range, one_behind}
use Rattle.card_state.specs.declared.entries.Node.{Node}
use Rattle.card_state.specs.declared.faults.SectionFault.TheVariants.{Bad}
use Rattle.card_state.specs.Blank.{unused_node}
use Rattle.card_state.specs.Kinds.{df_kind, transparent_kind, has_records}
use Rattle.card_state.specs.Places.{data_place}
use Rattle.card_state.specs.Persistent.{Contents, Files, Bytes, Records, File}
use Rattle.card_state.specs.Decoding.{bytes_at}
use Rattle.card_state.specs.States.{records_of, from_head}
use Rattle.card_state.specs.Sections.{refilled}
use Rattle.card_state.proofs.RecordsOfLemmas.{length-records_of, record_there, record_written}
use Rattle.layout_section.specs.Entries.{AreBytesAt, IsRecordAt, HasNoRecord}
use Rattle.layout_section.specs.Adding.{file_numbered, filled, with_record, Rewrites}
use Rattle.layout_section.specs.Filing.{files_in, size_total, HasRecords, IsEfBehind, AreFilesOf}
use Rattle.layout_section.proofs.FilingLemmas.{held, file_there, rewritten, others_held}

-- ---- what a file holds, by its kind

module _ (bytes : List ℕ) (node : Node) where
  abbrev own : List ℕ
  own = bytes_at bytes (node.place - data_place) node.size

  abbrev all_records : List (List ℕ)
  all_records = from_head node.head (records_of node.length (node.size / node.length) own)

  held_bytes : node.kind ≡ transparent_kind → held bytes node ≡ Bytes own
  held_bytes is =
      ap (λ d. let c : Contents = cond d Files (cond (node.kind == transparent_kind) (Bytes own) (Records all_records)) in c) (ne_eqb node.kind df_kind (λ e. omega arith))
      ∙ ap (λ t. let c : Contents = cond t (Bytes own) (Records all_records) in c) (eq-eqb node.kind transparent_kind is)

  held_records : node.kind ≢ df_kind → node.kind ≢ transparent_kind → held bytes node ≡ Records all_records
  held_records not_df not_bytes =
      ap (λ d. let c : Contents = cond d Files (cond (node.kind == transparent_kind) (Bytes own) (Records all_records)) in c) (ne_eqb node.kind df_kind not_df)
      ∙ ap (λ t. let c : Contents = cond t (Bytes own) (Records all_records) in c) (ne_eqb node.kind transparent_kind not_bytes)

  held_files : node.kind ≡ df_kind → held bytes node ≡ Files
  held_files is = ap (λ d. let c : Contents = cond d Files (cond (node.kind == transparent_kind) (Bytes own) (Records all_records)) in c) (eq-eqb node.kind df_kind is)

  -- no bytes, or not so many
  no_fill : (offset : ℕ) (part : List ℕ) → length own ≡ node.size → (node.kind ≢ transparent_kind) ⊎ (node.size < offset + length part) → filled offset part (held bytes node) ≡ None
  no_fill offset part long why =
      ⊎_elim {C = filled offset part (held bytes node) ≡ None}
      (λ df. ap (filled offset part) (held_files df))
      (λ not_df. ⊎_elim {C = filled offset part (held bytes node) ≡ None}
      (λ is.
      let many : node.size < offset + length part = ⊎_elim {C = node.size < offset + length part} (λ other. absurd (other is)) (λ h. h) why in
      ap (filled offset part) (held_bytes is)
      ∙ ap (λ b. let o : Option Contents = cond b (Some (Bytes (patched offset part own))) None in o) (lt-leb (offset + length part) (length own) (omega arith)))
      (λ other. ap (filled offset part) (held_records not_df other)) (cases_eq node.kind transparent_kind))
      (cases_eq node.kind df_kind)

  fill_there : (offset : ℕ) (part : List ℕ) → length own ≡ node.size → node.kind ≡ transparent_kind → offset + length part ≤ node.size
      → filled offset part (held bytes node) ≡ Some (Bytes (patched offset part own))
  fill_there offset part long is fits =
      ap (filled offset part) (held_bytes is)
      ∙ ap (λ b. let o : Option Contents = cond b (Some (Bytes (patched offset part own))) None in o) (le-leb (offset + length part) (length own) (omega arith))

-- ---- products

below_by_product : (a b width : ℕ) → 1 ≤ width → a * width + width ≤ b * width → a < b
below_by_product a b width some fits =
    ⊎_elim {C = a < b} (λ less. less) (λ more. let order : b * width ≤ a * width = grind arith in absurd (omega arith)) (cases_lt a b)

above_by_product : (a b width : ℕ) → b * width < a * width → b < a
above_by_product a b width less = ⊎_elim {C = b < a} (λ h. h) (λ more. let order : a * width ≤ b * width = grind arith in absurd (omega arith)) (cases_lt b a)

one_less : (index width : ℕ) → 1 ≤ index → index * width ≡ (index - 1) * width + width
one_less (suc index) width some = let back : suc index - 1 ≡ index = omega arith in let step : suc index * width ≡ index * width + width = grind arith in step ∙ ap (λ (n : ℕ). n * width + width) (sym back)
one_less zero width some = absurd (omega arith)

-- ---- bytes

module _ (nodes : List Node) (bytes : List ℕ) (total number : ℕ) (are : AreFilesOf nodes bytes total) (inside : number < length nodes) where
  abbrev node : Node
  node = get_or nodes number unused_node

  abbrev before : ℕ
  before = size_total (take number nodes)

  whole : before + node.size ≤ length bytes
  whole = omega (arith, sum_by_more_le (λ (n : Node). n.size) nodes number unused_node inside, are.sum, are.fits)

  ef_here : node.kind ≢ df_kind → IsEfBehind before node
  ef_here other = ⊎_elim {C = IsEfBehind before node} (λ df. absurd (other (ap (λ (n : Node). n.kind) df))) (λ ef. ef) (are.each number inside)

  abbrev seen : List File
  seen = files_in bytes nodes

  contents_are : (file_numbered seen number).contents ≡ held bytes node
  contents_are = ap (λ (file : File). file.contents) (file_there bytes nodes number unused_node inside)

  own_long : node.kind ≢ df_kind → length (own bytes node) ≡ node.size
  own_long other =
      let start : node.place - data_place ≡ before = omega (arith, (ef_here other).place) in
      length-range bytes (node.place - data_place) node.size (omega (arith, whole))

  pub refused_fill : (offset : ℕ) (part : List ℕ) → (node.kind ≢ transparent_kind) ⊎ (node.size < offset + length part)
      → Rewrites seen number (filled offset part (file_numbered seen number).contents) (Err Bad) seen
  refused_fill offset part why =
      let none : filled offset part (held bytes node) ≡ None =
      ⊎_elim {C = filled offset part (held bytes node) ≡ None} (λ df. ap (filled offset part) (held_files bytes node df)) (λ other. no_fill bytes node offset part (own_long other) why) (cases_eq node.kind df_kind) in
      subst (λ (o : Option Contents). Rewrites seen number o (Err Bad) seen) (sym (ap (filled offset part) contents_are ∙ none)) (refl, refl)

  -- the bytes of a range of this file, and no others
  changed : (at : ℕ) (part : List ℕ) (contents : Contents) → at + length part ≤ node.size → held (patched (before + at) part bytes) node ≡ contents
      → files_in (patched (before + at) part bytes) nodes ≡ map (refilled number contents) seen
  changed at part contents fits is =
      rewritten bytes (patched (before + at) part bytes) nodes number contents inside is (others_held nodes bytes total are number (before + at) part inside (omega arith) (omega arith))

  own_changed : (at : ℕ) (part : List ℕ) → node.kind ≢ df_kind → at + length part ≤ node.size → own (patched (before + at) part bytes) node ≡ patched at part (own bytes node)
  own_changed at part other fits =
      let start : node.place - data_place ≡ before = omega (arith, (ef_here other).place) in
      ap (λ (n : ℕ). bytes_at (patched (before + at) part bytes) n node.size) start ∙ range-patched_inside before at node.size part bytes fits whole ∙ sym (ap (λ (n : ℕ). patched at part (bytes_at bytes n node.size)) start)

  pub done_fill : (place offset : ℕ) (part : List ℕ) → data_place + place ≡ node.place + offset → node.kind ≡ transparent_kind → offset + length part ≤ node.size
      → Rewrites seen number (filled offset part (file_numbered seen number).contents) (Ok tt) (files_in (patched place part bytes) nodes)
  done_fill place offset part at is fits =
      let other : node.kind ≢ df_kind = λ e. omega arith in
      let start : place ≡ before + offset = omega (arith, at, (ef_here other).place) in
      let new : List ℕ = patched (before + offset) part bytes in
      let holds : held new node ≡ Bytes (patched offset part (own bytes node)) = held_bytes new node is ∙ ap Bytes (own_changed offset part other fits) in
      subst (λ (o : Option Contents). Rewrites seen number o (Ok tt) (files_in (patched place part bytes) nodes))
      (sym (ap (filled offset part) contents_are ∙ fill_there bytes node offset part (own_long other) is fits))
      (refl, ap (λ (n : ℕ). files_in (patched n part bytes) nodes) start ∙ changed offset part (Bytes (patched offset part (own bytes node))) fits holds)

  -- ---- a record

  high : node.kind ≢ df_kind → data_place ≤ node.place
  high other = omega (arith, (ef_here other).place)

  is_record_kind : node.kind ≢ df_kind → node.kind ≢ transparent_kind → IsTrue (has_records node.kind)
  is_record_kind not_df not_bytes =
      ⊎_elim {C = has_records node.kind ≡ true} (λ is. absurd (not_bytes (eqb-true node.kind transparent_kind is))) (λ is. is)
      (or_cases (node.kind == transparent_kind) (has_records node.kind) (ef_here not_df).kind)

  module _ (not_df : node.kind ≢ df_kind) (not_bytes : node.kind ≢ transparent_kind) where
    its : HasRecords node
    its = (ef_here not_df).records (is_record_kind not_df not_bytes)

    abbrev width : ℕ
    width = node.length

    abbrev count : ℕ
    count = its.count

    abbrev listed : List ℕ → List (List ℕ)
    listed bytes = records_of width count bytes

    number_of : node.size / width ≡ count
    number_of = ap (λ (n : ℕ). n / width) (sym its.fill) ∙ mul-div_cancel_left count its.width

    as_listed : (bytes : List ℕ) → held bytes node ≡ Records (listed (own bytes node))
    as_listed bytes =
        held_records bytes node not_df not_bytes
        ∙ ap (λ (n : ℕ). Records (from_head n (records_of width (node.size / width) (own bytes node)))) (ef_here not_df).head
        ∙ ap Records (append-nil (records_of width (node.size / width) (own bytes node))) ∙ ap (λ (n : ℕ). Records (records_of width n (own bytes node))) number_of

    first_long : length (get_or (listed (own bytes node)) 0 []) ≡ width
    first_long =
        let none : List ℕ = [] in
        let some : 1 ≤ count = its.some in
        ap (λ (l : List ℕ). length l) (record_there width count 0 (own bytes node) none (omega arith))
        ∙ length-range (own bytes node) (0 * width) width (omega (arith, own_long not_df, one_behind width 0 count (omega arith), fill_is)) where
          fill_is : count * width ≡ node.size
          fill_is = mul_comm count width ∙ its.fill

    abbrev allowed : ℕ → List ℕ → ℕ → Bool
    allowed index part first = nat_le 1 index && nat_le index (length (listed (own bytes node))) && nat_le (length part) first

    abbrev result_of : ℕ → List ℕ → ℕ → Option Contents
    result_of index part first = cond (allowed index part first) (Some (Records (set (listed (own bytes node)) (index - 1) (part ++ replicate (first - length part) 0xFF)))) None

    outcome : (index : ℕ) (part : List ℕ) → with_record index part (held bytes node) ≡ result_of index part width
    outcome index part = ap (with_record index part) (as_listed bytes) ∙ ap (result_of index part) first_long

    done : (index at : ℕ) (part : List ℕ) → IsRecordAt node index (length part) at
        → Rewrites seen number (with_record index part (file_numbered seen number).contents) (Ok tt) (files_in (patched at (part ++ replicate (width - length part) 255) bytes) nodes)
    done index at part is =
        let j : ℕ = index - 1 in
        let added : List ℕ = part ++ replicate (width - length part) 255 in
        let added_long : length added ≡ width = omega (arith, length-append part (replicate (width - length part) 255), length-replicate {A = ℕ} (width - length part) 255, is.fits) in
        let step : index * width ≡ (index - 1) * width + width = one_less index width is.some in
        let size_is : count * width ≡ node.size = mul_comm count width ∙ its.fill in
        let low : index - 1 < count = below_by_product (index - 1) count width its.width (omega (arith, is.inside)) in
        let few : index ≤ count = omega (arith, is.some) in
        let start : at ≡ before + (index - 1) * width = omega (arith, is.place, (ef_here not_df).place) in
        let fits : (index - 1) * width + length added ≤ node.size = omega (arith, one_behind width (index - 1) count low) in
        let new : List ℕ = patched (before + (index - 1) * width) added bytes in
        let contents : Contents = Records (set (listed (own bytes node)) (index - 1) added) in
        let holds : held new node ≡ contents =
        as_listed new ∙ ap (λ (l : List ℕ). Records (listed l)) (own_changed ((index - 1) * width) added not_df fits)
        ∙ ap Records (record_written width count (index - 1) (own bytes node) added low added_long (omega (arith, own_long not_df))) in
        let may : allowed index part width ≡ true =
        and_from (nat_le 1 index && nat_le index (length (listed (own bytes node)))) (nat_le (length part) width)
        (and_from (nat_le 1 index) (nat_le index (length (listed (own bytes node)))) (le-leb 1 index is.some) (le-leb index (length (listed (own bytes node))) (omega (arith, length-records_of width count (own bytes node)))))
        (le-leb (length part) width is.fits) in
        let found : with_record index part (file_numbered seen number).contents ≡ Some contents =
        ap (with_record index part) contents_are ∙ outcome index part ∙ ap (λ b. let o : Option Contents = cond b (Some contents) None in o) may in
        subst (λ (o : Option Contents). Rewrites seen number o (Ok tt) (files_in (patched at added bytes) nodes)) (sym found)
        (refl, ap (λ (n : ℕ). files_in (patched n added bytes) nodes) start ∙ changed ((index - 1) * width) added contents fits holds)

    missing : (index : ℕ) (part : List ℕ) → (index ≡ 0) ⊎ ((node.size < index * width) ⊎ (width < length part)) → with_record index part (held bytes node) ≡ None
    missing index part why =
        let size_is : count * width ≡ node.size = mul_comm count width ∙ its.fill in
        let some : Bool = nat_le 1 index in
        let few : Bool = nat_le index (length (listed (own bytes node))) in
        let short : Bool = nat_le (length part) width in
        let not_allowed : allowed index part width ≡ false =
        ⊎_elim {C = allowed index part width ≡ false}
        (λ none. and_left (nat_le 1 index && nat_le index (length (listed (own bytes node)))) (nat_le (length part) width) (and_left (nat_le 1 index) (nat_le index (length (listed (own bytes node)))) (lt-leb 1 index (omega arith))))
        (λ rest. ⊎_elim {C = allowed index part width ≡ false}
        (λ high.
        let above : count < index = above_by_product index count width (omega arith) in
        and_left (nat_le 1 index && nat_le index (length (listed (own bytes node)))) (nat_le (length part) width)
        (and_right (nat_le 1 index) (nat_le index (length (listed (own bytes node)))) (lt-leb index (length (listed (own bytes node))) (omega (arith, length-records_of width count (own bytes node))))))
        (λ long. and_right (nat_le 1 index && nat_le index (length (listed (own bytes node)))) (nat_le (length part) width) (lt-leb (length part) width long)) rest) why in
        outcome index part ∙ ap (λ b. let o : Option Contents = cond b (Some (Records (set (listed (own bytes node)) (index - 1) (part ++ replicate (width - length part) 0xFF)))) None in o) not_allowed

  pub done_record : (index at : ℕ) (part : List ℕ) → IsRecordAt node index (length part) at
      → Rewrites seen number (with_record index part (file_numbered seen number).contents) (Ok tt) (files_in (patched at (part ++ replicate (node.length - length part) 255) bytes) nodes)
  done_record index at part is = done is.not_df is.not_bytes index at part is

  pub refused_record : (index : ℕ) (part : List ℕ) → HasNoRecord node index (length part) → Rewrites seen number (with_record index part (file_numbered seen number).contents) (Err Bad) seen
  refused_record index part why =
      let none : with_record index part (held bytes node) ≡ None =
      ⊎_elim {C = with_record index part (held bytes node) ≡ None}
      (λ df. ap (with_record index part) (held_files bytes node df))
      (λ not_df. ⊎_elim {C = with_record index part (held bytes node) ≡ None}
      (λ is. ap (with_record index part) (held_bytes bytes node is))
      (λ not_bytes. missing not_df not_bytes index part (⊎_elim {C = (index ≡ 0) ⊎ ((node.size < index * node.length) ⊎ (node.length < length part))} (λ kind. absurd (⊎_elim {C = ⊥} not_df not_bytes kind)) (λ h. h) why))
      (cases_eq node.kind transparent_kind))
      (cases_eq node.kind df_kind) in
      subst (λ (o : Option Contents). Rewrites seen number o (Err Bad) seen) (sym (ap (with_record index part) contents_are ∙ none)) (refl, refl)

  pub bytes_inside : (offset many at : ℕ) → AreBytesAt node offset many at → at + many ≤ length bytes
  bytes_inside offset many at is =
      let other : node.kind ≢ df_kind = λ e. omega (arith, is.kind) in
      omega (arith, is.fits, is.place, (ef_here other).place, whole)

  pub record_inside : (index many at : ℕ) → IsRecordAt node index many at → at + node.length ≤ length bytes
  record_inside index many at is = omega (arith, is.inside, is.place, (ef_here is.not_df).place, whole)

  pub high_place : node.kind ≢ df_kind → data_place ≤ node.place
  high_place other = high other

-- the node of a file, in the table of which so many are used
pub table_node : (nodes : List Node) (count number read : ℕ) → number < count → read ≡ number → get_or (take count nodes) number unused_node ≡ get_or nodes read unused_node
table_node nodes count number read low same = get_or-take count nodes number unused_node low ∙ ap (λ (n : ℕ). get_or nodes n unused_node) (sym same)

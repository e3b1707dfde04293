-- The file of an entry in a sound state, and what it may hold instead.
use Rattle.std.proofs.Common.{◌≡◌, ◌⊎◌, ℕ, ◌+◌, ◌*◌, ◌-◌, ◌≤◌, ◌<◌, ◌==◌, Bool, true, false, if◌then◌else◌, List, [], ◌∷◌, length, take, drop, slice_get, slice_set, slice_range, Some, All, Contains, get_or, refl, sym, ◌∙◌, ap, subst, ⊎_elim, length-append, arith, div-mul-le_self}
use Rattle.std.specs.List.{range_with_len, enumerate_from}
use Rattle.std.proofs.lemmas.Bool.{eqb-true, eqb-false}
use Rattle.std.proofs.lemmas.List.{length-map, get_or-map, length-take, length-drop, length-set}
use Rattle.std.proofs.lemmas.List.Elements.{All-map, All-append, All-take, All-drop, All-set, All-cons, All-filter, filter_passes, All-contains, All-contains_itself}
use Rattle.std.proofs.lemmas.List.FromFn.{length-range_with_len, get_or-range_with_len, length-map-range_with_len, length-enumerate_from, get_or-enumerate_from}
use Rattle.std.proofs.lemmas.Option.{same_Some, slice_get-get_or}
use Rattle.list_laws.proofs.MapLemmas.{mapped_too, same_mapped}
use Rattle.list_laws.proofs.SliceRangeLemmas.{one_behind, length-between}
use Rattle.list_laws.specs.Patches.{patched}
use Rattle.list_laws.proofs.PatchesLemmas.{length-patched}
use Rattle.card_state.specs.Standing.{state_in}
use Rattle.card_state.specs.declared.entries.Node.{Node}
use Rattle.card_state.specs.Kinds.{df_kind, transparent_kind, linear_kind, cyclic_kind}
use Rattle.card_state.specs.Places.{data_place, data_end}
use Rattle.card_state.specs.Decoding.{is_wide, table_of}
use Rattle.card_state.specs.Persistent.{Contents, Files, Bytes, Records, File, Persistent}
use Rattle.card_state.specs.Soundness.{AreContents, AreRecords, IsSoundFile, IsSound}
use Rattle.card_state.specs.States.{file_bytes, record_count, records_of, from_head, contents_of, df_file, ef_file, file_of, used_nodes, files_of, pins_of, rows_of, state_of}
use Rattle.card_state.specs.Sections.{refilled, with_contents}
use Rattle.card_state.specs.Changing.{with_file_changed}
use Rattle.card_state.specs.Used.{HasNode}
use Rattle.card_state.proofs.KeyOfSlotLemmas.{number_of_file}
use Rattle.card_state.proofs.RowPlaceLemmas.{data_end_inside}
use Rattle.card_state.proofs.WithContentsLemmas.{contents_sound}
use Rattle.layout_laws.specs.Cards.{IsCard}
use Rattle.layout_laws.proofs.EnumerateFromLemmas.{is_shown}

-- ---- the file of an entry

contents_of_file : (content : List ℕ) (number : ℕ) (node : Node) → (file_of content number node).contents ≡ contents_of content node
unfolding contents_of
contents_of_file content number node = by_test (node.kind == df_kind) refl where
  by_test : (b : Bool) → (node.kind == df_kind) ≡ b → (if b then df_file number node else ef_file content number node).contents ≡ contents_of content node
  by_test true is = rw is refl
  by_test false is = refl

pub ef_of : (content : List ℕ) (number : ℕ) (node : Node) → (node.kind == df_kind) ≡ false → file_of content number node ≡ ef_file content number node
ef_of content number node other = ap (λ (b : Bool). if b then df_file number node else ef_file content number node) other

-- ---- records

held_bytes : (is_df is_transparent : Bool) (bytes old : List ℕ) (records : List (List ℕ)) → (if is_df then Files else if is_transparent then Bytes bytes else Records records) ≡ Bytes old
    → (is_df ≡ false) × (bytes ≡ old)
held_bytes true is_transparent bytes old records is = absurd (cc)
held_bytes false true bytes old records is = (refl, cc)
held_bytes false false bytes old records is = absurd (cc)

held_records : (is_df is_transparent : Bool) (bytes : List ℕ) (records old : List (List ℕ)) → (if is_df then Files else if is_transparent then Bytes bytes else Records records) ≡ Records old
    → (is_df ≡ false) × (records ≡ old)
held_records true is_transparent bytes records old is = absurd (cc)
held_records false true bytes records old is = absurd (cc)
held_records false false bytes records old is = (refl, cc)

abbrev HasWidth : ℕ → List ℕ → Type 0
HasWidth width bytes = length bytes ≡ width

-- the records as they lie have one width
all_wide : (width count : ℕ) (bytes : List ℕ) → count * width ≤ length bytes → All (HasWidth width) (records_of width count bytes)
all_wide width count bytes fits =
    All-map (HasWidth width) (λ index. slice_range bytes (index * width) (index * width + width)) (range_with_len 0 count)
    (λ k d low.
    let few : k < count = omega (arith, length-range_with_len 0 count) in
    let end : k * width + width ≤ count * width = one_behind width k count few in
    let same : 0 + k ≡ k = omega arith in
    subst (λ (n : ℕ). length (slice_range bytes (n * width) (n * width + width)) ≡ width) (sym (get_or-range_with_len 0 count k d few ∙ same))
    (omega (arith, length-between bytes (k * width) (k * width + width) (omega arith) (omega arith))))

-- as many records of the same width
same_records : (size : ℕ) (old new : List (List ℕ)) (width : ℕ) → 0 < length old → All (HasWidth width) old → length new ≡ length old
    → ((w : ℕ) → w ≡ width → All (HasWidth w) old → All (HasWidth w) new) → AreRecords size old → AreRecords size new
same_records size old new width some each same_count wide_too r =
    let none : List ℕ = [] in
    let same : r.width ≡ width = sym (r.whole 0 none some) ∙ each 0 none some in
    record {
      width = r.width;
      some_bytes = r.some_bytes;
      whole = wide_too r.width same r.whole;
      few = omega (arith, r.few);
      fill = ap (λ (n : ℕ). n * r.width) same_count ∙ r.fill;
    }

module _ (content : List ℕ) where
  abbrev nodes : List Node
  nodes = (table_of content).nodes

  abbrev file : ℕ × Node → File
  file e = file_of content e.0 e.1

  abbrev IsThere : ℕ × Node → Type 0
  IsThere e = slice_get nodes e.0 ≡ Some e.1

  all_there : All IsThere (enumerate_from 0 nodes)
  all_there k d low =
      let inside : k < length nodes = omega (arith, length-enumerate_from 0 nodes) in
      let same : k ≡ 0 + k = omega arith in
      subst IsThere (sym (get_or-enumerate_from 0 nodes k d inside)) (ap (slice_get nodes) (sym same) ∙ slice_get-get_or nodes k d.1 inside)

  -- each that is seen is used
  pub all_used : All (λ e. HasNode (table_of content) e.0 e.1) (used_nodes nodes)
  all_used k d low = record {
    there = All-filter (λ (x : ℕ × Node). x.1.used) IsThere (enumerate_from 0 nodes) all_there k d low;
    used = filter_passes (λ (x : ℕ × Node). x.1.used) (enumerate_from 0 nodes) k d low;
  }

  -- no other file has its number
  file_is : (number : ℕ) (node : Node) → HasNode (table_of content) number node → (f : File) → Contains (state_in content).files f → f.number ≡ number → f ≡ file_of content number node
  unfolding state_of files_of pins_of rows_of
  file_is number node has f there is_number =
      let used : List (ℕ × Node) = used_nodes nodes in
      let none : ℕ × Node = (number, node) in
      let k : ℕ = there.0 in
      let inside : k < length used = omega (arith, there.1, length-map used file) in
      let e : ℕ × Node = get_or used k none in
      let is : file e ≡ f = sym (get_or-map file used k none f inside) ∙ there.2 in
      let at : slice_get nodes e.0 ≡ Some e.1 = (all_used k none inside).there in
      let same_number : e.0 ≡ number = sym (number_of_file content e.0 e.1) ∙ ap (λ (x : File). x.number) is ∙ is_number in
      let same_node : e.1 ≡ node = same_Some e.1 node (sym at ∙ ap (slice_get nodes) same_number ∙ has.there) in
      sym is ∙ ap (λ (n : ℕ). file_of content n e.1) same_number ∙ ap (file_of content number) same_node

  -- and what the file of this number holds is what its entry says
  pub contents_there : (number : ℕ) (node : Node) → HasNode (table_of content) number node → (f : File) → Contains (state_in content).files f → f.number ≡ number → f.contents ≡ contents_of content node
  contents_there number node has f there is_number = ap (λ (x : File). x.contents) (file_is number node has f there is_number) ∙ contents_of_file content number node

  -- what the file holds is changed: it is the file with the contents that come of it
  pub changed_alone : (number : ℕ) (node : Node) (change : Contents → Contents) (old new : Contents) → HasNode (table_of content) number node → contents_of content node ≡ old → change old ≡ new
      → with_file_changed (λ f. record f { contents = change f.contents }) number (state_in content) ≡ with_contents (state_in content) number new
  unfolding with_file_changed
  changed_alone number node change old new has holds is =
      ap (λ (list : List File). record (state_in content) { files = list })
      (same_mapped (λ f. if f.number == number then record f { contents = change f.contents } else f) (refilled number new) (state_in content).files
      (λ k d low. each (get_or (state_in content).files k d) (All-contains_itself (state_in content).files k d low)))
    where
      by_number : (f : File) (b : Bool) → (b ≡ true → change f.contents ≡ new) → (if b then record f { contents = change f.contents } else f) ≡ (if b then record f { contents = new } else f)
      by_number f true same = ap (λ (c : Contents). record f { contents = c }) (same refl)
      by_number f false same = refl

      each : (f : File) → Contains (state_in content).files f → (if f.number == number then record f { contents = change f.contents } else f) ≡ refilled number new f
      each f there = by_number f (f.number == number) (λ same. ap change (contents_there number node has f there (eqb-true f.number number same) ∙ holds) ∙ is)

  pub held_sound : IsSound (state_in content) → (number : ℕ) (node : Node) (old new : Contents) → HasNode (table_of content) number node → contents_of content node ≡ old
      → ((kind size : ℕ) → AreContents kind size old → AreContents kind size new) → IsSound (with_contents (state_in content) number new)
  held_sound sound number node old new has holds may =
      let state : Persistent = state_in content in
      contents_sound state sound number new
      (λ f there is_number.
      let held : f.contents ≡ old = contents_there number node has f there is_number ∙ holds in
      may f.kind f.size (subst (AreContents f.kind f.size) held (All-contains (IsSoundFile state.is_wide state.files) state.files f sound.files there).contents))

  -- an entry that is used has its file
  pub file_there : (number : ℕ) (node : Node) → HasNode (table_of content) number node → Contains (state_in content).files (file_of content number node)
  unfolding state_of files_of pins_of rows_of
  file_there number node has = mapped_too file (used_nodes nodes) (number, node) (is_shown (λ (n : Node). n.used) 0 number number nodes node (omega arith) has.there has.used)

module _ (content : List ℕ) (card : IsCard content) (number : ℕ) (node : Node) (has : HasNode (table_of content) number node) where
  sound_there : IsSoundFile (state_in content).is_wide (state_in content).files (file_of content number node)
  sound_there = All-contains (IsSoundFile (state_in content).is_wide (state_in content).files) (state_in content).files (file_of content number node) card.sound.files (file_there content number node has)

  -- an EF lies among the bytes of the files
  pub lies : (node.kind == df_kind) ≡ false → (data_place ≤ node.place) × (node.place + node.size ≤ data_end (is_wide content))
  unfolding state_of files_of pins_of rows_of table_of
  lies other =
      let s = subst (IsSoundFile (state_in content).is_wide (state_in content).files) (ef_of content number node other) sound_there in
      ⊎_elim {C = (data_place ≤ node.place) × (node.place + node.size ≤ data_end (is_wide content))}
      (λ df. absurd (eqb-false node.kind df_kind other df)) (λ ef. let e = s.ef ef in (e.from, e.to)) s.kind

  length-file_bytes : (node.kind == df_kind) ≡ false → length (file_bytes content node) ≡ node.size
  length-file_bytes other =
      let bounds = lies other in
      let end : data_end (is_wide content) ≤ 65536 = data_end_inside (is_wide content) in
      omega (arith, length-between content node.place (node.place + node.size) (omega arith) (omega (arith, card.long, bounds.1)))

  -- what a file of each kind holds
  pub holds_bytes : node.kind ≡ transparent_kind → contents_of content node ≡ Bytes (file_bytes content node)
  unfolding contents_of
  holds_bytes is = rw is refl

  abbrev pub held_there : List (List ℕ)
  held_there = from_head node.head (records_of node.length (record_count node) (file_bytes content node))

  pub holds_records : (node.kind ≡ linear_kind) ⊎ (node.kind ≡ cyclic_kind) → contents_of content node ≡ Records held_there
  unfolding contents_of
  holds_records is = ⊎_elim {C = contents_of content node ≡ Records held_there} (λ linear. rw linear refl) (λ cyclic. rw cyclic refl) is

  pub size_there : node.kind ≡ transparent_kind → length (file_bytes content node) ≡ node.size
  size_there is = length-file_bytes (ap (λ (k : ℕ). k == df_kind) is)

  -- ---- bytes

  module _ (old : List ℕ) (holds : contents_of content node ≡ Bytes old) where
    pub bytes_lie : (offset : ℕ) (bytes : List ℕ) → offset + length bytes ≤ length old
        → (data_place ≤ node.place + offset) × (node.place + offset + length bytes ≤ data_end (is_wide content))
    unfolding contents_of
    bytes_lie offset bytes fits =
        let lying : List (List ℕ) = records_of node.length (record_count node) (file_bytes content node) in
        let held = held_bytes (node.kind == df_kind) (node.kind == transparent_kind) (file_bytes content node) old (from_head node.head lying) holds in
        let bounds = lies held.0 in
        (omega (arith, bounds.0), omega (arith, bounds.1, length-file_bytes held.0, ap length held.1))

    pub bytes_sound : (offset : ℕ) (bytes : List ℕ) → offset + length bytes ≤ length old → IsSound (with_contents (state_in content) number (Bytes (patched offset bytes old)))
    bytes_sound offset bytes fits =
        held_sound content card.sound number node (Bytes old) (Bytes (patched offset bytes old)) has holds (λ kind size is. (is.0, length-patched offset bytes old fits ∙ is.1))

  -- ---- records

  module _ (old : List (List ℕ)) (holds : contents_of content node ≡ Records old) where
    abbrev lying : List (List ℕ)
    lying = records_of node.length (record_count node) (file_bytes content node)

    held : ((node.kind == df_kind) ≡ false) × (from_head node.head lying ≡ old)
    unfolding contents_of
    held = held_records (node.kind == df_kind) (node.kind == transparent_kind) (file_bytes content node) (from_head node.head lying) old holds

    pub records_count : length old ≡ record_count node
    records_count =
        let count : length lying ≡ record_count node = length-map-range_with_len (λ index. slice_range (file_bytes content node) (index * node.length) (index * node.length + node.length)) 0 (record_count node) in
        omega (arith, ap length held.1, length-append (drop node.head lying) (take node.head lying), length-drop node.head lying, length-take node.head lying)

    -- the records have the width of the entry
    records_wide : All (HasWidth node.length) old
    records_wide =
        let width : ℕ = node.length in
        let fits : record_count node * width ≤ node.size = div-mul-le_self node.size width in
        let each : All (HasWidth width) lying = all_wide width (record_count node) (file_bytes content node) (omega (arith, length-file_bytes held.0)) in
        subst (All (HasWidth width)) held.1
        (All-append (HasWidth width) (drop node.head lying) (take node.head lying) (All-drop (HasWidth width) node.head lying each) (All-take (HasWidth width) node.head lying each))

    pub record_lies : (index : ℕ) (bytes : List ℕ) → index < record_count node → length bytes ≡ node.length
        → (data_place ≤ node.place + index * node.length) × (node.place + index * node.length + length bytes ≤ data_end (is_wide content))
    record_lies index bytes low fits =
        let bounds = lies held.0 in
        let whole : record_count node * node.length ≤ node.size = div-mul-le_self node.size node.length in
        let end : index * node.length + node.length ≤ record_count node * node.length = one_behind node.length index (record_count node) low in
        (omega (arith, bounds.0), omega (arith, bounds.1))

    records_sound : (new : List (List ℕ)) → 0 < length old → length new ≡ length old → ((w : ℕ) → w ≡ node.length → All (HasWidth w) old → All (HasWidth w) new)
        → IsSound (with_contents (state_in content) number (Records new))
    records_sound new some same_count wide_too =
        held_sound content card.sound number node (Records old) (Records new) has holds (λ kind size is. (is.0, same_records size old new node.length some records_wide same_count wide_too is.1))

    pub record_sound : (index : ℕ) (bytes : List ℕ) → index < length old → length bytes ≡ node.length → IsSound (with_contents (state_in content) number (Records (slice_set old index bytes)))
    record_sound index bytes low fits = records_sound (slice_set old index bytes) (omega arith) (length-set old index bytes) (λ w is each. All-set (HasWidth w) old index bytes (fits ∙ sym is) each)

    pub newest_sound : (bytes : List ℕ) → 0 < length old → length bytes ≡ node.length → IsSound (with_contents (state_in content) number (Records (bytes ∷ take (length old - 1) old)))
    newest_sound bytes some fits =
        records_sound (bytes ∷ take (length old - 1) old) some (omega (arith, length-take (length old - 1) old))
        (λ w is each. All-cons (HasWidth w) bytes (take (length old - 1) old) (fits ∙ sym is) (All-take (HasWidth w) (length old - 1) old each))

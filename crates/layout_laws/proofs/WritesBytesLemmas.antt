-- A commit of bytes that are a file's, or no file's.
use Rattle.std.proofs.Common.{◌≡◌, ◌≢◌, ◌⊎◌, ℕ, ◌+◌, ◌*◌, ◌-◌, ◌≤◌, ◌<◌, ◌==◌, Bool, true, false, if◌then◌else◌, List, [], ◌∷◌, length, take, drop, map, slice_get, slice_range, Some, All, IsTrue, get_or, set, refl, sym, ◌∙◌, ap, inl, inr, ⊎_elim, subst, lit≤, arith, div-mul-le_self}
use Rattle.std.proofs.lemmas.List.{length-take, length-drop, set-get_or, append-nil, get_or-take, get_or-drop}
use Rattle.std.proofs.lemmas.Option.{same_Some, get_or_from_slice_get}
use Rattle.std.proofs.lemmas.Bool.{cases_lt}
use Rattle.std.proofs.lemmas.Bool.Decides.{nat_tests}
use Rattle.std.proofs.lemmas.Grind.{same_number_lists}
use Rattle.std.proofs.lemmas.List.FromFn.{length-map-range_with_len}
use Rattle.list_laws.specs.Patches.{patched, Torn}
use Rattle.list_laws.proofs.PatchesLemmas.{length-patched, patched_before, patched_inside, patched_after}
use Rattle.list_laws.proofs.MapLemmas.{all_unmapped, same_mapped}
use Rattle.list_laws.proofs.SliceRangeLemmas.{one_behind}
use Rattle.store_form.specs.Pieces.{Piece, applied}
use Rattle.card_state.specs.Standing.{state_in}
use Rattle.card_state.specs.declared.entries.Node.{Node}
use Rattle.card_state.specs.declared.entries.Loaded.{Loaded}
use Rattle.card_state.specs.Kinds.{df_kind, transparent_kind, is_ef_kind}
use Rattle.card_state.specs.Places.{memory_size, data_place, data_end, node_place}
use Rattle.card_state.specs.Decoding.{bytes_at, is_wide, table_of}
use Rattle.card_state.specs.Persistent.{Contents, Files, Bytes, Records, File}
use Rattle.card_state.specs.States.{file_bytes, contents_in, contents_of, records_of, record_count, from_head, file_of, files_of, pins_of, rows_of, state_of}
use Rattle.card_state.specs.Soundness.{IsEf}
use Rattle.card_state.specs.Blank.{unused_node}
use Rattle.card_state.specs.Sections.{refilled, with_contents}
use Rattle.card_state.specs.Used.{HasNode, LiesAmongFiles}
use Rattle.card_state.proofs.KeyOfSlotLemmas.{number_of_file}
use Rattle.card_state.proofs.RecordsOfLemmas.{record_written}
use Rattle.card_state.proofs.RowPlaceLemmas.{data_end_inside}
use Rattle.layout_entries.specs.Spelling.{node_part, node_spelled}
use Rattle.layout_entries.specs.Fields.{node_fields, AreWholeFields, merged_node, node_there, shown_node}
use Rattle.layout_entries.specs.Laws.{after, KeepsBytesBeside, ChangesBytesAround, ChangesOneNode, KeepsTable}
use Rattle.layout_laws.specs.Cards.{IsCard, Holds}
use Rattle.layout_laws.specs.Bare.{bare_node}
use Rattle.layout_laws.proofs.BareLemmas.{bare_node_ranges, bare_node_head}
use Rattle.layout_laws.specs.Changes.{with_node}
use Rattle.layout_laws.specs.ChangeLaws.{oldest}
use Rattle.layout_laws.proofs.EnumerateFromLemmas.{IsShown, all_shown, with_one, shown-reset}
use Rattle.layout_laws.proofs.LiesAmongFilesLemmas.{file_with, ef_of, LieApart, used, file, all_lie_well, all_efs, lies_where, all_apart, same_files, same_file, entry_there}
use Rattle.layout_laws.proofs.FromHeadLemmas.{newest_written, oldest_low, length-from_head}
use Rattle.layout_laws.proofs.ChangesFileLemmas.{beside_files}

-- ---- what a file holds

pub held_bytes : (is_df is_transparent : Bool) (bytes old : List ℕ) (records : List (List ℕ)) → (if is_df then Files else if is_transparent then Bytes bytes else Records records) ≡ Bytes old
    → (is_df ≡ false) × (is_transparent ≡ true) × (bytes ≡ old)
held_bytes true is_transparent bytes old records is = absurd (cc)
held_bytes false true bytes old records is = (refl, refl, cc)
held_bytes false false bytes old records is = absurd (cc)

pub held_records : (is_df is_transparent : Bool) (bytes : List ℕ) (records old : List (List ℕ)) → (if is_df then Files else if is_transparent then Bytes bytes else Records records) ≡ Records old
    → (is_df ≡ false) × (is_transparent ≡ false) × (records ≡ old)
held_records true is_transparent bytes records old is = absurd (cc)
held_records false true bytes records old is = absurd (cc)
held_records false false bytes records old is = (refl, refl, cc)

map_map : {X Y Z : Type 0} (f : Y → Z) (g : X → Y) (xs : List X) → map f (map g xs) ≡ map (λ x. f (g x)) xs
map_map f g [] = refl
map_map f g (x ∷ xs) = ap (λ ys. f (g x) ∷ ys) (map_map f g xs)

set_there : {X : Type 0} (xs : List X) (k : ℕ) (x : X) → slice_get xs k ≡ Some x → set xs k x ≡ xs
set_there xs k x there = ap (λ y. set xs k y) (sym (get_or_from_slice_get xs k x x there)) ∙ set-get_or xs k x

pub not_df : (kind : ℕ) → (kind == df_kind) ≡ false → kind ≢ df_kind
not_df kind failed is = absurd (grind (arith, nat_tests))

-- a file that a piece does not touch
free_of : (beside : KeepsBytesBeside) (content bytes : List ℕ) (place number : ℕ) (node : Node) → place + length bytes ≤ length content → node.place + node.size ≤ length content → node.kind ≢ df_kind → IsTrue (is_ef_kind node.kind)
    → (IsEf (file_of content number node) → ((file_of content number node).place + (file_of content number node).size ≤ place) ⊎ (place + length bytes ≤ (file_of content number node).place))
    → file_bytes (patched place bytes content) node ≡ file_bytes content node
free_of beside content bytes place number node fits there other ef free =
    let known = subst (λ (f : File). IsEf f → (f.place + f.size ≤ place) ⊎ (place + length bytes ≤ f.place)) (ef_of content number node other) free in
    beside content bytes place node.place node.size fits there (known ef)

module _ (content : List ℕ) (card : IsCard content) (number : ℕ) (node : Node) (has : HasNode (table_of content) number node) (is_ef : node.kind ≢ df_kind) where
  -- the other files keep their bytes in this other content
  abbrev pub KeepsOthers : List ℕ → Type 0
  KeepsOthers now = (n : Node) → LiesAmongFiles (is_wide content) n → LieApart n node → n.kind ≢ df_kind → file_bytes now n ≡ file_bytes content n

  -- of each file what it is now, and what it is with other contents if it is this one
  one_file : (now : List ℕ) (node' : Node) (contents : Contents) (e : ℕ × Node) → IsShown (λ (n : Node). n.used) 0 (table_of content).nodes e → LiesAmongFiles (is_wide content) e.1 → (e.0 ≢ number → LieApart e.1 node)
      → KeepsOthers now → node'.kind ≢ df_kind → contents_of now node' ≡ contents → ((held : Contents) → file_with number node' held ≡ file_with number node held)
      → with_one (λ e. file_of now e.0 e.1) number (file_of now number node') e ≡ refilled number contents (file content card e)
  one_file now node' contents e there lies apart keeps is_ef' holds alike = by_test (e.0 == number) refl where
    by_test : (b : Bool) → (e.0 == number) ≡ b
        → (if b then file_of now number node' else file_of now e.0 e.1) ≡ refilled number contents (file content card e)
    by_test true found =
        let same : e.0 ≡ number = grind (arith, nat_tests) in
        let here : slice_get (table_of content).nodes number ≡ Some e.1 = there.there number (omega arith) in
        let entry : e.1 ≡ node = same_Some e.1 node (sym here ∙ has.there) in
        let this : file content card e ≡ file_with number node (contents_of content node) = ap (λ (n : ℕ). file_of content n e.1) same ∙ ap (λ (n : Node). file_of content number n) entry ∙ ef_of content number node is_ef in
        let itself : (number == number) ≡ true = grind (arith, nat_tests) in
        let was : File = file_with number node (contents_of content node) in
        ef_of now number node' is_ef' ∙ ap (file_with number node') holds ∙ alike contents
        ∙ ap (λ (b : Bool). if b then record was { contents = contents } else was) (sym itself) ∙ ap (refilled number contents) (sym this)
    by_test false missed =
        let other : e.0 ≢ number = λ same. absurd (grind (arith, nat_tests)) in
        let number_is : (file content card e).number ≡ e.0 = number_of_file content e.0 e.1 in
        let missed_too : ((file content card e).number == number) ≡ false = ap (λ (n : ℕ). n == number) number_is ∙ missed in
        same_file content now e.0 e.1 (λ ef. keeps e.1 lies (apart other) ef)
        ∙ ap (λ (b : Bool). if b then record (file content card e) { contents = contents } else file content card e) (sym missed_too)

  -- a table in which the entry of this file at most is another, and other contents of this file
  held_anew : (now : List ℕ) (node' : Node) (contents : Contents) → table_of now ≡ record (table_of content) { nodes = set (table_of content).nodes number node' } → node'.used ≡ true → KeepsOthers now
      → node'.kind ≢ df_kind → contents_of now node' ≡ contents → ((held : Contents) → file_with number node' held ≡ file_with number node held)
      → state_in now ≡ with_contents (state_in content) number contents
  unfolding state_of files_of pins_of rows_of
  held_anew now node' contents table used_too keeps is_ef' holds alike =
      let files : ℕ × Node → File = λ e. file_of now e.0 e.1 in
      let anew : ℕ × Node → File = with_one files number (files (number, node')) in
      let each : All (λ e. anew e ≡ refilled number contents (file content card e)) (used content card) =
      λ k d low.
      one_file now node' contents (get_or (used content card) k d) (all_shown (λ (n : Node). n.used) 0 (table_of content).nodes k d low) (all_lie_well content card k d low) (all_apart content card number node has k d low)
      keeps is_ef' holds alike in
      ap (λ (t : Loaded). state_of t now) table
      ∙ ap (λ (list : List File). record (state_in content) { files = list })
      (shown-reset (λ (n : Node). n.used) files 0 number number (table_of content).nodes node node' (omega arith) has.there has.used used_too
      ∙ same_mapped anew (λ e. refilled number contents (file content card e)) (used content card) each ∙ sym (map_map (refilled number contents) (file content card) (used content card)))

module _ (beside : KeepsBytesBeside) (around : ChangesBytesAround) (stays : KeepsTable) (content : List ℕ) (card : IsCard content) (number : ℕ) (node : Node) (has : HasNode (table_of content) number node) where
  -- bytes inside the file are no other file's
  others_keep : (place : ℕ) (bytes : List ℕ) → node.kind ≢ df_kind → node.place ≤ place → place + length bytes ≤ node.place + node.size → (n : Node) → LiesAmongFiles (is_wide content) n → LieApart n node → n.kind ≢ df_kind
      → file_bytes (patched place bytes content) n ≡ file_bytes content n
  others_keep place bytes is_ef from to n lies apart other =
      let bounds : (data_place ≤ node.place) × (node.place + node.size ≤ data_end (is_wide content)) = lies_where content card number node has is_ef in
      let end : data_end (is_wide content) ≤ 65536 = data_end_inside (is_wide content) in
      let n_bounds : (data_place ≤ n.place) × (n.place + n.size ≤ data_end (is_wide content)) = lies other in
      beside content bytes place n.place n.size (omega (arith, bounds.1, card.long)) (omega (arith, n_bounds.1, card.long))
      (⊎_elim {C = (n.place + n.size ≤ place) ⊎ (place + length bytes ≤ n.place)} (λ before. inl (omega arith)) (λ behind. inr (omega arith)) (apart other is_ef))

  table_stays : (place : ℕ) (bytes : List ℕ) → node.kind ≢ df_kind → node.place ≤ place → place + length bytes ≤ node.place + node.size → table_of (patched place bytes content) ≡ table_of content
  table_stays place bytes is_ef from to =
      let bounds : (data_place ≤ node.place) × (node.place + node.size ≤ data_end (is_wide content)) = lies_where content card number node has is_ef in
      stays content bytes place card.long (omega (arith, bounds.0)) (omega (arith, bounds.1))

  -- so only this file holds something else
  inside : (place : ℕ) (bytes : List ℕ) (contents : Contents) → node.kind ≢ df_kind → node.place ≤ place → place + length bytes ≤ node.place + node.size → contents_of (patched place bytes content) node ≡ contents
      → Holds (after (record { place = place; bytes = bytes }) content) (table_of content) (with_contents (state_in content) number contents)
  inside place bytes contents is_ef from to holds =
      let table : table_of (patched place bytes content) ≡ table_of content = table_stays place bytes is_ef from to in
      let same : table_of content ≡ record (table_of content) { nodes = set (table_of content).nodes number node } =
      ap (λ (nodes : List Node). record (table_of content) { nodes = nodes }) (sym (set_there (table_of content).nodes number node has.there)) in
      record {
        entries = table;
        held = held_anew content card number node has is_ef (patched place bytes content) node contents (table ∙ same) has.used (others_keep place bytes is_ef from to) is_ef holds (λ held. refl);
      }

  length-file_bytes : node.kind ≢ df_kind → length (file_bytes content node) ≡ node.size
  length-file_bytes is_ef =
      let bounds : (data_place ≤ node.place) × (node.place + node.size ≤ data_end (is_wide content)) = lies_where content card number node has is_ef in
      let end : data_end (is_wide content) ≤ 65536 = data_end_inside (is_wide content) in
      omega (arith, length-take (node.place + node.size - node.place) (drop node.place content), length-drop node.place content, card.long, bounds.1)

  -- the bytes of the file once these are written into them
  put_in : (offset : ℕ) (bytes : List ℕ) → node.kind ≢ df_kind → offset + length bytes ≤ node.size → file_bytes (patched (node.place + offset) bytes content) node ≡ patched offset bytes (file_bytes content node)
  put_in offset bytes is_ef fits =
      let bounds : (data_place ≤ node.place) × (node.place + node.size ≤ data_end (is_wide content)) = lies_where content card number node has is_ef in
      let end : data_end (is_wide content) ≤ 65536 = data_end_inside (is_wide content) in
      around content bytes node.place offset node.size fits (omega (arith, bounds.1, card.long))

  pub bytes_written : (offset : ℕ) (bytes old : List ℕ) → contents_of content node ≡ Bytes old → offset + length bytes ≤ length old
      → Holds (after (record { place = node.place + offset; bytes = bytes }) content) (table_of content) (with_contents (state_in content) number (Bytes (patched offset bytes old)))
  unfolding contents_of
  bytes_written offset bytes old holds fits =
      let held = held_bytes (node.kind == df_kind) (node.kind == transparent_kind) (file_bytes content node) old (from_head node.head (records_of node.length (record_count node) (file_bytes content node))) holds in
      let is_ef : node.kind ≢ df_kind = not_df node.kind held.0 in
      let few : offset + length bytes ≤ node.size = omega (arith, length-file_bytes is_ef, ap length held.2) in
      let now : List ℕ = patched (node.place + offset) bytes content in
      let written : List ℕ = patched offset bytes old in
      inside (node.place + offset) bytes (Bytes written) is_ef (omega arith) (omega arith)
      (ap (λ (l : List ℕ). contents_in l node) (put_in offset bytes is_ef few ∙ ap (λ (l : List ℕ). patched offset bytes l) held.2)
      ∙ rw (held.0, held.1) refl)

  -- the records of the file once one of them is written
  records_now : (index : ℕ) (bytes : List ℕ) → node.kind ≢ df_kind → index < record_count node → length bytes ≡ node.length
      → records_of node.length (record_count node) (file_bytes (patched (node.place + index * node.length) bytes content) node) ≡ set (records_of node.length (record_count node) (file_bytes content node)) index bytes
  records_now index bytes is_ef low long =
      let whole : record_count node * node.length ≤ node.size = div-mul-le_self node.size node.length in
      let end : index * node.length + node.length ≤ record_count node * node.length = one_behind node.length index (record_count node) low in
      ap (λ (l : List ℕ). records_of node.length (record_count node) l) (put_in (index * node.length) bytes is_ef (omega arith))
      ∙ record_written node.length (record_count node) index (file_bytes content node) bytes low long (omega (arith, length-file_bytes is_ef))

  length-records : (bytes : List ℕ) → length (records_of node.length (record_count node) bytes) ≡ record_count node
  length-records bytes = length-map-range_with_len (λ index. slice_range bytes (index * node.length) (index * node.length + node.length)) 0 (record_count node)

  one_after : (index : ℕ) → index < record_count node → index * node.length + node.length ≤ node.size
  one_after index low =
      let whole : record_count node * node.length ≤ node.size = div-mul-le_self node.size node.length in
      let end : index * node.length + node.length ≤ record_count node * node.length = one_behind node.length index (record_count node) low in
      omega arith

  pub record_changed : (index : ℕ) (bytes : List ℕ) (old : List (List ℕ)) → node.head ≡ 0 → contents_of content node ≡ Records old → index < length old → length bytes ≡ node.length
      → Holds (after (record { place = node.place + index * node.length; bytes = bytes }) content) (table_of content) (with_contents (state_in content) number (Records (set old index bytes)))
  unfolding contents_of
  record_changed index bytes old first holds low long =
      let lying : List (List ℕ) = records_of node.length (record_count node) (file_bytes content node) in
      let held = held_records (node.kind == df_kind) (node.kind == transparent_kind) (file_bytes content node) (from_head node.head lying) old holds in
      let is_ef : node.kind ≢ df_kind = not_df node.kind held.0 in
      let whole : lying ≡ old = sym (append-nil lying) ∙ ap (λ (n : ℕ). from_head n lying) (sym first) ∙ held.2 in
      let inside_count : index < record_count node = omega (arith, ap length whole, length-records (file_bytes content node)) in
      let fits : index * node.length + node.length ≤ node.size = one_after index inside_count in
      inside (node.place + index * node.length) bytes (Records (set old index bytes)) is_ef (omega arith) (omega arith)
      (rw (held.0, held.1) (ap Records
      (ap (λ (l : List (List ℕ)). from_head node.head l) (records_now index bytes is_ef inside_count long) ∙ ap (λ (n : ℕ). from_head n (set lying index bytes)) first ∙ append-nil (set lying index bytes)
      ∙ ap (λ (l : List (List ℕ)). set l index bytes) whole)))

  -- the record at the oldest one's place, and then that place as the head
  pub newest_changed : (changes : ChangesOneNode) (bytes : List ℕ) (old : List (List ℕ)) → node.head < length old → contents_of content node ≡ Records old → length bytes ≡ node.length
      → (let head = oldest node.head (length old) in
      Holds (applied (record { place = node.place + head * node.length; bytes = bytes } ∷ node_part number (record node { head = head }) 15 16 ∷ []) content)
      (with_node (table_of content) number (record node { head = head })) (with_contents (state_in content) number (Records (bytes ∷ take (length old - 1) old))))
  unfolding contents_of merged_node
  newest_changed changes bytes old low holds long =
      let lying : List (List ℕ) = records_of node.length (record_count node) (file_bytes content node) in
      let held = held_records (node.kind == df_kind) (node.kind == transparent_kind) (file_bytes content node) (from_head node.head lying) old holds in
      let is_ef : node.kind ≢ df_kind = not_df node.kind held.0 in
      let count : length old ≡ record_count node = ap length (sym held.2) ∙ length-from_head node.head lying ∙ length-records (file_bytes content node) in
      let head : ℕ = oldest node.head (length old) in
      let head_low : head < record_count node = omega (arith, oldest_low node.head (length old) low) in
      let fits : head * node.length + node.length ≤ node.size = one_after head head_low in
      let place : ℕ = node.place + head * node.length in
      let mid : List ℕ = patched place bytes content in
      let bounds : (data_place ≤ node.place) × (node.place + node.size ≤ data_end (is_wide content)) = lies_where content card number node has is_ef in
      let end : data_end (is_wide content) ≤ 65536 = data_end_inside (is_wide content) in
      let mid_long : length mid ≡ memory_size = length-patched place bytes content (omega (arith, bounds.1, card.long)) ∙ card.long in
      let same_table : table_of mid ≡ table_of content = table_stays place bytes is_ef (omega arith) (omega arith) in
      let has_mid : HasNode (table_of mid) number node = record { there = ap (λ (t : Loaded). slice_get t.nodes number) same_table ∙ has.there; used = has.used } in
      let there : (number < 128) × (node_there mid number ≡ node) = entry_there mid number node has_mid in
      let new : Node = record node { head = head } in
      let part : List ℕ = slice_range (node_spelled new) 15 16 in
      let few : length part ≤ 1 = omega (arith, length-take 1 (drop 15 (node_spelled new))) in
      let now : List ℕ = patched (node_place number + 15) part mid in
      let fields : AreWholeFields node_fields 16 15 16 = record { order = lit≤ tt; inside = lit≤ tt; uncut = refl } in
      let bare : Node = bare_node new in
      let entry : shown_node (merged_node 15 16 (node_there mid number) bare) ≡ new =
      ap (λ (n : Node). shown_node (merged_node 15 16 n bare)) there.1 ∙ ap (λ (b : Bool). if b then new else unused_node) has.used in
      let table : table_of now ≡ record (table_of content) { nodes = set (table_of content).nodes number new } =
      ap (λ (piece : Piece). table_of (after piece mid)) (sym (bare_node_head number new)) ∙ changes mid number 15 16 bare mid_long there.0 fields (bare_node_ranges new)
      ∙ ap (λ (n : Node). record (table_of mid) { nodes = set (table_of mid).nodes number n }) entry
      ∙ ap (λ (t : Loaded). record t { nodes = set t.nodes number new }) same_table in
      let keeps : (n : Node) → LiesAmongFiles (is_wide content) n → n.kind ≢ df_kind → file_bytes now n ≡ file_bytes mid n =
      λ n lies other. beside_files beside (is_wide content) mid part (node_place number + 15) n mid_long (omega (arith, there.0)) (inl (omega (arith, there.0))) lies other in
      let records : from_head head (records_of node.length (record_count node) (file_bytes now node)) ≡ bytes ∷ take (length old - 1) old =
      ap (λ (l : List ℕ). from_head head (records_of node.length (record_count node) l)) (keeps node (lies_where content card number node has) is_ef)
      ∙ ap (λ (l : List (List ℕ)). from_head head l) (records_now head bytes is_ef head_low long)
      ∙ newest_written (length old) node.head lying bytes low (length-records (file_bytes content node) ∙ sym count)
      ∙ ap (λ (l : List (List ℕ)). bytes ∷ take (length old - 1) l) held.2 in
      let shown_new : shown_node new ≡ new = ap (λ (b : Bool). if b then new else unused_node) has.used in
      record {
        entries = table ∙ ap (λ (n : Node). record (table_of content) { nodes = set (table_of content).nodes number n }) (sym shown_new);
        held = held_anew content card number node has is_ef now new (Records (bytes ∷ take (length old - 1) old)) table has.used
            (λ n lies apart other. keeps n lies other ∙ others_keep place bytes is_ef (omega arith) (omega arith) n lies apart other)
            is_ef (rw (held.0, held.1) (ap Records records)) (λ given. refl);
      }

-- bytes of which only some changed are the old ones with those that stand there now
torn_anew : (around : ChangesBytesAround) (old new : List ℕ) (place count : ℕ) → Torn place count old new → place + count ≤ length old → new ≡ patched place (bytes_at new place count) old
torn_anew around old new place count torn fits =
    let part : List ℕ = bytes_at new place count in
    let part_long : length part ≡ count = omega (arith, length-take (place + count - place) (drop place new), length-drop place new, torn.same_length) in
    let inside : place + length part ≤ length old = omega arith in
    let long : length (patched place part old) ≡ length old = length-patched place part old inside in
    same_number_lists _ _ (torn.same_length ∙ sym long)
    (λ k h.
    ⊎_elim {C = get_or new k 0 ≡ get_or (patched place part old) k 0}
    (λ before. torn.before k before ∙ sym (patched_before place part old inside k before))
    (λ from. ⊎_elim {C = get_or new k 0 ≡ get_or (patched place part old) k 0}
    (λ within.
    let back : place + (k - place) ≡ k = omega arith in
    sym (patched_inside place part old inside k from (omega arith) ∙ get_or-take (place + count - place) (drop place new) (k - place) 0 (omega arith) ∙ get_or-drop place new (k - place) 0
    ∙ ap (λ (n : ℕ). get_or new n 0) back))
    (λ behind. torn.after k behind ∙ sym (patched_after place part old inside k (omega arith))) (cases_lt k (place + count)))
    (cases_lt k place))

-- bytes of no file
free_bytes : (beside : KeepsBytesBeside) (stays : KeepsTable) (content bytes : List ℕ) (place : ℕ) (card : IsCard content) → data_place ≤ place → place + length bytes ≤ data_end (is_wide content)
    → All (λ f. IsEf f → (f.place + f.size ≤ place) ⊎ (place + length bytes ≤ f.place)) (state_in content).files
    → Holds (patched place bytes content) (table_of content) (state_in content)
unfolding state_of files_of pins_of rows_of
free_bytes beside stays content bytes place card from to free =
    let now : List ℕ = patched place bytes content in
    let end : data_end (is_wide content) ≤ 65536 = data_end_inside (is_wide content) in
    let apart = all_unmapped (λ (f : File). IsEf f → (f.place + f.size ≤ place) ⊎ (place + length bytes ≤ f.place)) (file content card) (used content card) free in
    let keeps : All (λ (e : ℕ × Node). e.1.kind ≢ df_kind → file_bytes now e.1 ≡ file_bytes content e.1) (used content card) =
    λ k d low other.
    free_of beside content bytes place _ _ (omega (arith, card.long)) (omega (arith, card.long, (all_lie_well content card k d low other).1)) other (all_efs content card k d low other) (apart k d low) in
    let table : table_of now ≡ table_of content = stays content bytes place card.long from to in
    let changed : state_in now ≡ state_in content = ap (λ (t : Loaded). state_of t now) table ∙ ap (λ (list : List File). record (state_in content) { files = list }) (same_files content card now keeps) in
    record { entries = table; held = changed }

pub free_range : (beside : KeepsBytesBeside) (around : ChangesBytesAround) (stays : KeepsTable) (content content' : List ℕ) (place count : ℕ) (card : IsCard content) → Torn place count content content' → data_place ≤ place
    → place + count ≤ data_end (is_wide content) → All (λ f. IsEf f → (f.place + f.size ≤ place) ⊎ (place + count ≤ f.place)) (state_in content).files → Holds content' (table_of content) (state_in content)
free_range beside around stays content content' place count card torn from to free =
    let end : data_end (is_wide content) ≤ 65536 = data_end_inside (is_wide content) in
    let part : List ℕ = bytes_at content' place count in
    let part_long : length part ≡ count = omega (arith, length-take (place + count - place) (drop place content'), length-drop place content', torn.same_length, card.long) in
    let free_part : All (λ (f : File). IsEf f → (f.place + f.size ≤ place) ⊎ (place + length part ≤ f.place)) (state_in content).files =
    subst (λ (n : ℕ). All (λ (f : File). IsEf f → (f.place + f.size ≤ place) ⊎ (place + n ≤ f.place)) (state_in content).files) (sym part_long) free in
    subst (λ (l : List ℕ). Holds l (table_of content) (state_in content)) (sym (torn_anew around content content' place count torn (omega (arith, card.long))))
    (free_bytes beside stays content part place card from (omega arith) free_part)

-- A commit of a file's entry.
use Rattle.std.proofs.Common.{◌≡◌, ◌≢◌, ◌⊎◌, ℕ, ◌+◌, ◌-◌, ◌≤◌, ◌<◌, Bool, true, false, if◌then◌else◌, List, length, drop, map, slice_range, Option, Some, None, set, refl, ◌∙◌, ap, inl, inr, ⊎_elim, arith, length-take}
use Rattle.std.proofs.lemmas.List.Elements.{All-weaker}
use Rattle.list_laws.specs.Patches.{patched}
use Rattle.card_state.specs.Standing.{state_in}
use Rattle.card_state.specs.declared.entries.Node.{Node}
use Rattle.card_state.specs.declared.entries.Loaded.{Loaded}
use Rattle.card_state.specs.Blank.{unused_node}
use Rattle.card_state.specs.Kinds.{df_kind}
use Rattle.card_state.specs.Places.{memory_size, data_place, data_end, node_place}
use Rattle.card_state.specs.Decoding.{is_wide, table_of}
use Rattle.card_state.specs.Persistent.{File}
use Rattle.card_state.specs.States.{file_bytes, file_of, files_of, pins_of, rows_of, state_of}
use Rattle.card_state.specs.Ranges.{HasNodeRanges}
use Rattle.card_state.specs.Used.{HasNode, LiesAmongFiles, file_if}
use Rattle.card_state.specs.Changing.{placed, with_file_at}
use Rattle.card_state.proofs.KeyOfSlotLemmas.{number_of_file}
use Rattle.card_state.proofs.RowPlaceLemmas.{data_end_inside}
use Rattle.layout_entries.specs.Spelling.{node_part, node_spelled}
use Rattle.layout_entries.specs.Fields.{node_fields, AreWholeFields, merged_node, node_there, shown_node}
use Rattle.layout_entries.specs.Laws.{after, KeepsBytesBeside, ChangesOneNode}
use Rattle.layout_laws.specs.Cards.{IsCard, Holds, LiesWhere}
use Rattle.layout_laws.specs.Changes.{with_node}
use Rattle.layout_laws.proofs.EnumerateFromLemmas.{entry_if, seen-set}
use Rattle.layout_laws.proofs.LiesAmongFilesLemmas.{used, node_count, all_lie_well, lies_where, same_files, same_file, entry_there}

-- an EF among the bytes of the files keeps its bytes if a piece is before or after those
pub beside_files : (law : KeepsBytesBeside) (wide : Bool) (content bytes : List ℕ) (place : ℕ) (node : Node) → length content ≡ memory_size → place + length bytes ≤ memory_size
    → (place + length bytes ≤ data_place) ⊎ (data_end wide ≤ place) → LiesAmongFiles wide node → node.kind ≢ df_kind → file_bytes (patched place bytes content) node ≡ file_bytes content node
beside_files law wide content bytes place node long fits where_to lies other =
    let bounds : (data_place ≤ node.place) × (node.place + node.size ≤ data_end wide) = lies other in
    let end : data_end wide ≤ 65536 = data_end_inside wide in
    law content bytes place node.place node.size (omega arith) (omega (arith, bounds.1))
    (⊎_elim {C = (node.place + node.size ≤ place) ⊎ (place + length bytes ≤ node.place)} (λ before. inr (omega (arith, bounds.0))) (λ behind. inl (omega (arith, bounds.1))) where_to)

-- the file of the entry as a table shows it
shown_file : (content : List ℕ) (number : ℕ) (node : Node) → entry_if (λ (n : Node). n.used) (λ e. file_of content e.0 e.1) number (shown_node node) ≡ file_if content number node
shown_file content number node = by_test node.used refl where
  by_test : (b : Bool) → node.used ≡ b
      → entry_if (λ (n : Node). n.used) (λ e. file_of content e.0 e.1) number (if b then node else unused_node) ≡ (if b then Some (file_of content number node) else None)
  by_test true is = rw is refl
  by_test false is = refl

same_file_if : (content content' : List ℕ) (number : ℕ) (node : Node) → (node.kind ≢ df_kind → file_bytes content' node ≡ file_bytes content node) → file_if content' number node ≡ file_if content number node
same_file_if content content' number node same = ap (λ (f : File). let known : Option File = if node.used then Some f else None in known) (same_file content content' number node same)

module _ (beside : KeepsBytesBeside) (content : List ℕ) (card : IsCard content) where
  -- the entry as it is after a commit of some of its bytes
  pub file_anew : (number from to : ℕ) (node new : Node) → number < 128 → from ≤ to → to ≤ 16
      → table_of (after (node_part number node from to) content) ≡ record (table_of content) { nodes = set (table_of content).nodes number (shown_node new) }
      → LiesAmongFiles (is_wide content) new
      → Holds (after (node_part number node from to) content) (with_node (table_of content) number new) (with_file_at (state_in content) number (file_if content number new))
  unfolding state_of files_of pins_of rows_of
  file_anew number from to node new low order inside table lies =
      let bytes : List ℕ = slice_range (node_spelled node) from to in
      let place : ℕ = node_place number + from in
      let now : List ℕ = patched place bytes content in
      let few : length bytes ≤ to - from = omega (arith, length-take (to - from) (drop from (node_spelled node))) in
      let ends : place + length bytes ≤ 3968 = omega arith in
      let keeps : (n : Node) → LiesAmongFiles (is_wide content) n → n.kind ≢ df_kind → file_bytes now n ≡ file_bytes content n =
      λ n well. beside_files beside (is_wide content) content bytes place n card.long (omega arith) (inl ends) well in
      let files : ℕ × Node → File = λ e. file_of now e.0 e.1 in
      let stay : map files (used content card) ≡ (state_in content).files =
      same_files content card now (All-weaker _ (λ (e : ℕ × Node). e.1.kind ≢ df_kind → file_bytes now e.1 ≡ file_bytes content e.1) (λ e well. keeps e.1 well) (used content card) (all_lie_well content card)) in
      let count : number < length (table_of content).nodes = omega (arith, node_count content card) in
      let state : state_in now ≡ with_file_at (state_in content) number (file_if content number new) =
      ap (λ (t : Loaded). state_of t now) table
      ∙ ap (λ (list : List File). record (state_in content) { files = list })
      (seen-set (λ (n : Node). n.used) files (λ f. f.number) (λ e. number_of_file now e.0 e.1) 0 number number (table_of content).nodes (shown_node new) count (omega arith)
      ∙ ap (λ (o : Option File). placed (λ f. f.number) number o (map files (used content card))) (shown_file now number new ∙ same_file_if content now number new (keeps new lies))
      ∙ ap (λ (list : List File). placed (λ f. f.number) number (file_if content number new) list) stay) in
      record { entries = table; held = state }

module _ (beside : KeepsBytesBeside) (changes : ChangesOneNode) (content : List ℕ) (card : IsCard content) where
  -- of some fields, whatever stood there
  pub file_written : (number from to : ℕ) (part new : Node) → number < 128 → AreWholeFields node_fields 16 from to → HasNodeRanges part → merged_node from to (node_there content number) part ≡ new
      → LiesAmongFiles (is_wide content) new
      → Holds (after (node_part number part from to) content) (with_node (table_of content) number new) (with_file_at (state_in content) number (file_if content number new))
  file_written number from to part new low fields ranges whole lies =
      file_anew beside content card number from to part new low fields.order fields.inside
      (changes content number from to part card.long low fields ranges ∙ ap (λ (n : Node). record (table_of content) { nodes = set (table_of content).nodes number (shown_node n) }) whole)
      lies

  -- the entry of a used file
  pub file_changed : (number from to : ℕ) (old part new : Node) → HasNode (table_of content) number old → AreWholeFields node_fields 16 from to → HasNodeRanges part → merged_node from to old part ≡ new
      → LiesWhere old new ⊎ LiesAmongFiles (is_wide content) new
      → Holds (after (node_part number part from to) content) (with_node (table_of content) number new) (with_file_at (state_in content) number (file_if content number new))
  file_changed number from to old part new has fields ranges rest lies =
      let there : (number < 128) × (node_there content number ≡ old) = entry_there content number old has in
      let well : LiesAmongFiles (is_wide content) old = lies_where content card number old has in
      file_written number from to part new there.0 fields ranges (ap (λ (n : Node). merged_node from to n part) there.1 ∙ rest)
      (⊎_elim {C = LiesAmongFiles (is_wide content) new}
      (λ same other. let bounds : (data_place ≤ old.place) × (old.place + old.size ≤ data_end (is_wide content)) = well (λ df. other (same.kind ∙ df)) in (omega (arith, bounds.0, same.place), omega (arith, bounds.1, same.place, same.size)))
      (λ well_there. well_there) lies)

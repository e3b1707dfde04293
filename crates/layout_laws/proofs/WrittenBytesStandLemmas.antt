-- Commits of bytes that a file holds, or that no file does.
use Rattle.std.proofs.Common.{◌≡◌, ◌⊎◌, ℕ, ◌+◌, ◌-◌, ◌*◌, ◌≤◌, ◌<◌, List, [], ◌∷◌, length, take, slice_get, slice_set, All, get_or, refl, sym, ◌∙◌, ap, subst, inl, inr, ⊎_elim, lit≤, arith}
use Rattle.std.proofs.lemmas.Bool.{cases_lt}
use Rattle.std.proofs.lemmas.Grind.{same_number_lists}
use Rattle.list_laws.proofs.SliceRangeLemmas.{length-between}
use Rattle.list_laws.specs.Patches.{patched, Torn}
use Rattle.list_laws.proofs.PatchesLemmas.{length-patched, patched_before, patched_inside, patched_after}
use Rattle.store_form.specs.Pieces.{Piece, applied}
use Rattle.card_state.specs.Standing.{state_in, Stands}
use Rattle.card_state.specs.declared.entries.Node.{Node}
use Rattle.card_state.specs.declared.entries.Loaded.{Loaded}
use Rattle.card_state.specs.Kinds.{transparent_kind, linear_kind, cyclic_kind}
use Rattle.card_state.specs.Places.{memory_size, data_place, data_end, node_place}
use Rattle.card_state.specs.Decoding.{bytes_at, is_wide, table_of}
use Rattle.card_state.specs.Persistent.{Bytes, Records, File, Persistent}
use Rattle.card_state.specs.States.{file_bytes, contents_of, record_count}
use Rattle.card_state.specs.Soundness.{IsEf, IsSound}
use Rattle.card_state.specs.Sections.{with_contents}
use Rattle.card_state.specs.Changing.{bytes_put, record_put, record_pushed, with_bytes, with_record, with_newest_record}
use Rattle.card_state.proofs.RowPlaceLemmas.{data_end_inside}
use Rattle.card_state.specs.Forms.{IsWellFormed, HasRightHead}
use Rattle.card_state.specs.SoundnessLaws.{StandingIsSound, SoundStands}
use Rattle.card_state.specs.Used.{HasNode}
use Rattle.layout_entries.specs.Spelling.{node_spelled, node_part}
use Rattle.layout_entries.specs.Fields.{node_fields, AreWholeFields, merged_node, node_there}
use Rattle.layout_entries.specs.Laws.{after, KeepsBytesBeside, ChangesBytesAround, ChangesOneNode, KeepsTable}
use Rattle.layout_laws.specs.Cards.{IsCard, Holds, IsFreeRange}
use Rattle.layout_laws.specs.Bare.{bare_node}
use Rattle.layout_laws.proofs.BareLemmas.{bare_node_ranges, bare_node_head}
use Rattle.layout_laws.specs.Changes.{with_node}
use Rattle.layout_laws.specs.ChangeLaws.{WritesBytes, WritesRecord, WritesNewestRecord, KeepsState, oldest}
use Rattle.layout_laws.proofs.RewrittenLemmas.{get_or-range}
use Rattle.layout_laws.proofs.IsWellFormedLemmas.{now_long, formed_data}
use Rattle.layout_laws.proofs.HasNodeLemmas.{node_seen}
use Rattle.layout_laws.proofs.FormsLemmas.{node_formed}
use Rattle.layout_laws.proofs.ContentsOfLemmas.{changed_alone, holds_bytes, held_there, holds_records, size_there, bytes_lie, bytes_sound, records_count, record_lies, record_sound, newest_sound}
use Rattle.layout_laws.proofs.StandsLemmas.{part_long, state_is, sound, card, formed, wide_is, has_node, right_head, carried}

-- bytes that changed in a range alone are the old ones with those that stand there now
torn_anew : (old new : List ℕ) (place count : ℕ) → Torn place count old new → place + count ≤ length old → new ≡ patched place (bytes_at new place count) old
torn_anew old new place count torn fits =
    let part : List ℕ = bytes_at new place count in
    let part_is_long : length part ≡ count = omega (arith, length-between new place (place + count) (omega arith) (omega (arith, torn.same_length))) in
    let inside : place + length part ≤ length old = omega arith in
    same_number_lists _ _ (torn.same_length ∙ sym (length-patched place part old inside))
    (λ k low.
    ⊎_elim {C = get_or new k 0 ≡ get_or (patched place part old) k 0} (λ before. torn.before k before ∙ sym (patched_before place part old inside k before))
    (λ from. ⊎_elim {C = get_or new k 0 ≡ get_or (patched place part old) k 0}
    (λ within.
    let back : place + (k - place) ≡ k = omega arith in
    sym (patched_inside place part old inside k from (omega arith) ∙ get_or-range new place (place + count) (k - place) (omega arith) ∙ ap (λ (n : ℕ). get_or new n 0) back))
    (λ behind. torn.after k behind ∙ sym (patched_after place part old inside k (omega arith))) (cases_lt k (place + count)))
    (cases_lt k place))

module _ (is_sound : StandingIsSound) (sound_stands : SoundStands) (beside : KeepsBytesBeside) (around : ChangesBytesAround)
    (store_mark : ℕ) (content : List ℕ) (table : Loaded) (state : Persistent) (stands : Stands store_mark content table state) where
  abbrev well : IsWellFormed store_mark content
  well = formed is_sound sound_stands store_mark content table state stands

  abbrev this_card : IsCard content
  this_card = card is_sound sound_stands store_mark content table state stands

  same_state : state ≡ state_in content
  same_state = state_is is_sound sound_stands store_mark content table state stands

  -- bytes among those of the files
  data_ends : (place : ℕ) (bytes : List ℕ) → place + length bytes ≤ data_end (is_wide content) → place + length bytes ≤ memory_size
  data_ends place bytes end = omega (arith, data_end_inside (is_wide content))

  data_long : (place : ℕ) (bytes : List ℕ) → place + length bytes ≤ data_end (is_wide content) → length (patched place bytes content) ≡ memory_size
  data_long place bytes end = now_long beside store_mark content stands.long place bytes (data_ends place bytes end)

  data_formed : (place : ℕ) (bytes : List ℕ) → data_place ≤ place → place + length bytes ≤ data_end (is_wide content) → IsWellFormed store_mark (patched place bytes content)
  data_formed place bytes begin end = formed_data beside store_mark content stands.long place bytes (data_ends place bytes end) well begin end

  pub bytes_written : (commit : WritesBytes) (number offset : ℕ) (node : Node) (bytes : List ℕ) → HasNode table number node → node.kind ≡ transparent_kind → offset + length bytes ≤ node.size
      → Stands store_mark (after (record { place = node.place + offset; bytes = bytes }) content) table (with_bytes number offset bytes state)
  bytes_written commit number offset node bytes shows transparent fits_in =
      let has = has_node is_sound sound_stands store_mark content table state stands number node shows in
      let old : List ℕ = file_bytes content node in
      let holds : contents_of content node ≡ Bytes old = holds_bytes content this_card number node has transparent in
      let fits : offset + length bytes ≤ length old = omega (arith, size_there content this_card number node has transparent) in
      let place : ℕ = node.place + offset in
      let lie = bytes_lie content this_card number node has old holds offset bytes fits in
      let changed : with_bytes number offset bytes (state_in content) ≡ with_contents (state_in content) number (Bytes (patched offset bytes old)) =
      changed_alone content number node (bytes_put offset bytes) (Bytes old) (Bytes (patched offset bytes old)) has holds refl in
      carried is_sound sound_stands store_mark content table state stands (patched place bytes content) (λ t. t) (with_bytes number offset bytes) (data_long place bytes lie.1) (data_formed place bytes lie.0 lie.1)
      (subst (Holds (patched place bytes content) (table_of content)) (sym changed) (commit content number offset node bytes old this_card has holds fits))
      (subst (λ (s : Persistent). IsSound (with_bytes number offset bytes s)) (sym same_state)
      (subst IsSound (sym changed) (bytes_sound content this_card number node has old holds offset bytes fits)))

  pub record_written : (commit : WritesRecord) (number index : ℕ) (node : Node) (bytes : List ℕ) → HasNode table number node → node.kind ≡ linear_kind → index < record_count node → length bytes ≡ node.length
      → Stands store_mark (after (record { place = node.place + index * node.length; bytes = bytes }) content) table (with_record number index bytes state)
  record_written commit number index node bytes shows linear low_there fits =
      let has = has_node is_sound sound_stands store_mark content table state stands number node shows in
      let head : node.head ≡ 0 = (right_head is_sound sound_stands store_mark content table state stands number node shows).other (inr linear) in
      let old : List (List ℕ) = held_there content this_card number node has in
      let holds : contents_of content node ≡ Records old = holds_records content this_card number node has (inl linear) in
      let count : length old ≡ record_count node = records_count content this_card number node has old holds in
      let low : index < length old = omega arith in
      let place : ℕ = node.place + index * node.length in
      let lie = record_lies content this_card number node has old holds index bytes low_there fits in
      let changed : with_record number index bytes (state_in content) ≡ with_contents (state_in content) number (Records (slice_set old index bytes)) =
      changed_alone content number node (record_put index bytes) (Records old) (Records (slice_set old index bytes)) has holds refl in
      carried is_sound sound_stands store_mark content table state stands (patched place bytes content) (λ t. t) (with_record number index bytes) (data_long place bytes lie.1) (data_formed place bytes lie.0 lie.1)
      (subst (Holds (patched place bytes content) (table_of content)) (sym changed) (commit content number index node bytes old this_card has head holds low fits))
      (subst (λ (s : Persistent). IsSound (with_record number index bytes s)) (sym same_state)
      (subst IsSound (sym changed) (record_sound content this_card number node has old holds index bytes low fits)))

  one_byte : AreWholeFields node_fields 16 15 16
  one_byte = record { order = lit≤ tt; inside = lit≤ tt; uncut = refl }

  pub newest_written : (entries : ChangesOneNode) (stays : KeepsTable) (commit : WritesNewestRecord) (number : ℕ) (node : Node) (bytes : List ℕ) → HasNode table number node → node.kind ≡ cyclic_kind → length bytes ≡ node.length
      → (let head = oldest node.head (record_count node) in
      Stands store_mark (applied (record { place = node.place + head * node.length; bytes = bytes } ∷ node_part number (record node { head = head }) 15 16 ∷ []) content)
      (with_node table number (record node { head = head })) (with_newest_record number bytes state))
  unfolding merged_node
  newest_written entries stays commit number node bytes shows cyclic fits =
      let has = has_node is_sound sound_stands store_mark content table state stands number node shows in
      let old : List (List ℕ) = held_there content this_card number node has in
      let holds : contents_of content node ≡ Records old = holds_records content this_card number node has (inr cyclic) in
      let count : length old ≡ record_count node = records_count content this_card number node has old holds in
      let old_low : node.head < length old = omega (arith, (right_head is_sound sound_stands store_mark content table state stands number node shows).cyclic cyclic) in
      let head : ℕ = oldest node.head (record_count node) in
      let head_low : head < record_count node = omega arith in
      let right : HasRightHead (record node { head = head }) =
      record { cyclic = λ is. omega arith; other = λ is. absurd (⊎_elim {C = ⊥} (λ transparent. omega arith) (λ linear. omega arith) is) } in
      let place : ℕ = node.place + head * node.length in
      let lie = record_lies content this_card number node has old holds head bytes head_low fits in
      let mid : List ℕ = patched place bytes content in
      let mid_long : length mid ≡ memory_size = data_long place bytes lie.1 in
      let same_table : table_of mid ≡ table_of content = stays content bytes place stands.long lie.0 lie.1 in
      let has_mid : HasNode (table_of mid) number node = record { there = ap (λ (t : Loaded). slice_get t.nodes number) same_table ∙ has.there; used = has.used } in
      let seen = node_seen mid number node has_mid in
      let new_node : Node = record node { head = head } in
      let bare : Node = bare_node new_node in
      let rest : merged_node 15 16 (node_there mid number) bare ≡ new_node = ap (λ (n : Node). merged_node 15 16 n bare) seen.1 in
      let pushed : List (List ℕ) = bytes ∷ take (length old - 1) old in
      let changed : with_newest_record number bytes (state_in content) ≡ with_contents (state_in content) number (Records pushed) =
      changed_alone content number node (record_pushed bytes) (Records old) (Records pushed) has holds refl in
      let now : List ℕ = after (node_part number new_node 15 16) mid in
      let written : Holds now (with_node (table_of content) number new_node) (with_contents (state_in content) number (Records pushed)) =
      subst
      (λ (n : ℕ).
      let h = oldest node.head n in
      Holds (applied (record { place = node.place + h * node.length; bytes = bytes } ∷ node_part number (record node { head = h }) 15 16 ∷ []) content) (with_node (table_of content) number (record node { head = h }))
      (with_contents (state_in content) number (Records pushed)))
      count (commit content number node bytes old this_card has old_low holds fits) in
      carried is_sound sound_stands store_mark content table state stands now (λ t. with_node t number new_node) (with_newest_record number bytes)
      (part_long mid (node_spelled new_node) (node_place number) 16 15 16 mid_long (lit≤ tt) (lit≤ tt) (omega (arith, seen.0)))
      (subst (λ (piece : Piece). IsWellFormed store_mark (after piece mid)) (bare_node_head number new_node)
      (node_formed beside around store_mark mid mid_long (data_formed place bytes lie.0 lie.1) entries number 15 16 bare new_node seen.0 one_byte (bare_node_ranges new_node) rest right))
      (subst (Holds now (with_node (table_of content) number new_node)) (sym changed) written)
      (subst (λ (s : Persistent). IsSound (with_newest_record number bytes s)) (sym same_state)
      (subst IsSound (sym changed) (newest_sound content this_card number node has old holds bytes (omega arith) fits)))

  pub same_stands : (commit : KeepsState) (content' : List ℕ) (place count : ℕ) → IsFreeRange table.wide state.files place count → Torn place count content content' → Stands store_mark content' table state
  same_stands commit content' place count free torn =
      let wide : is_wide content ≡ table.wide = wide_is is_sound sound_stands store_mark content table state stands in
      let ends : place + count ≤ data_end (is_wide content) = omega (arith, ap data_end wide, free.to) in
      let part : List ℕ = bytes_at content' place count in
      let fits : place + count ≤ length content = omega (arith, data_end_inside (is_wide content), stands.long) in
      let part_is_long : length part ≡ count = omega (arith, length-between content' place (place + count) (omega arith) (omega (arith, torn.same_length))) in
      let anew : content' ≡ patched place part content = torn_anew content content' place count torn fits in
      let free_there : IsFreeRange (is_wide content) (state_in content).files place count =
      record { from = free.from; to = ends; beside = subst (λ (s : Persistent). All (λ (file : File). IsEf file → (file.place + file.size ≤ place) ⊎ (place + count ≤ file.place)) s.files) same_state free.beside } in
      carried is_sound sound_stands store_mark content table state stands content' (λ t. t) (λ s. s) (torn.same_length ∙ stands.long)
      (subst (IsWellFormed store_mark) (sym anew) (data_formed place part free.from (omega arith)))
      (commit content content' place count this_card free_there torn)
      (sound is_sound sound_stands store_mark content table state stands)

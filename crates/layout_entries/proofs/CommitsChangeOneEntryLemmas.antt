-- What a commit of one entry's bytes changes of the table of entries: that entry and nothing else. A commit of bytes that
-- are a file's changes nothing of it.
use Rattle.std.proofs.Common.{◌≡◌, ◌≢◌, ◌⊎◌, ℕ, ◌+◌, ◌-◌, ◌≤◌, ◌<◌, ◌^◌, ◌==◌, Bool, true, false, if◌then◌else◌, List, [], ◌∷◌, length, map, take, drop, slice_range, set, refl, sym, ◌∙◌, ap, inl, inr, ⊎_elim, subst, arith}
use Rattle.std.specs.Int.{w16, from_be_bytes, to_be_bytes}
use Rattle.std.specs.List.{range_with_len}
use Rattle.std.proofs.lemmas.Bool.{cases_lt, lt-ltb}
use Rattle.std.proofs.lemmas.List.{length-drop, drop_all, take_at, set-set}
use Rattle.std.proofs.lemmas.Nat.{from_be_bytes-to_be_bytes_2}
use Rattle.list_laws.proofs.MapLemmas.{same_numbered, set_numbered}
use Rattle.list_laws.proofs.SliceRangeLemmas.{length-range, length-between}
use Rattle.list_laws.specs.Patches.{patched, IsApart}
use Rattle.list_laws.proofs.PatchesLemmas.{length-patched, patched_inside, patched-all, get_or-patched_apart, range-patched_apart, range-patched_inside}
use Rattle.store_form.specs.Pieces.{applied}
use Rattle.card_state.specs.declared.entries.Node.{Node}
use Rattle.card_state.specs.declared.entries.PinSlot.{PinSlot}
use Rattle.card_state.specs.declared.entries.Row.{Row}
use Rattle.card_state.specs.declared.entries.Loaded.{Loaded}
use Rattle.card_state.specs.Places.{pin_place, row_place, kept_place, node_place, row_count, data_place, data_end, version_of}
use Rattle.card_state.proofs.KeyOfSlotLemmas.{same_table}
use Rattle.card_state.proofs.RowPlaceLemmas.{data_end_inside, row_place_low, row_place_high, row_below_kept, below_32, row_above}
use Rattle.card_state.specs.Decoding.{bytes_at, is_wide, node_bytes, pin_bytes, row_bytes, kept_bytes, node_in, pin_in, row_of, row_in, row_when, node_at, pin_at, row_at, bytes_apart, rows_when, table_of}
use Rattle.card_state.specs.Ranges.{HasNodeRanges, HasPinRanges, HasRowRanges}
use Rattle.card_state.specs.Checks.{row_there}
use Rattle.layout_entries.specs.Spelling.{node_part, pin_part, row_part, kept_part, version_part, sequence_part, node_spelled, pin_spelled, row_spelled}
use Rattle.layout_entries.specs.Fields.{node_fields, pin_fields, row_fields, AreWholeFields, merged_node, merged_pin, merged_row, kept_anew, reread_node, reread_pin, reread_row, node_there, pin_there, shown_node, shown_pin, shown_row}
use Rattle.layout_entries.specs.Laws.{after}
use Rattle.layout_entries.proofs.SpellingLemmas.{length-node_spelled, length-pin_spelled, length-row_spelled}
use Rattle.layout_entries.proofs.FieldsLemmas.{node_merged, pin_merged, row_merged, row_merged_front, merged_kept_anew, kept_merged, kept_apart_merged}
use Rattle.layout_entries.proofs.TableOfLemmas.{row_inside, wide_stays, next_stays, node_stays, pin_stays, row_stays}

-- no row is touched by a piece that lies among the first bytes, the PINs, the files' entries or the bytes of the files
rows_apart : (wide : Bool) (shelf place count : ℕ) → shelf < row_count wide → (place + count ≤ 896) ⊎ ((1920 ≤ place) × (place + count ≤ data_end wide)) → IsApart (row_place shelf) 51 place count
rows_apart wide shelf place count low (inl below) =
    ⊎_elim {C = IsApart (row_place shelf) 51 place count} (λ h. inr (omega (arith, row_place_low shelf h))) (λ h. inr (omega (arith, row_place_high shelf h))) (cases_lt shelf 16)
rows_apart true shelf place count low (inr above) =
    ⊎_elim {C = IsApart (row_place shelf) 51 place count} (λ h. inl (omega (arith, row_place_low shelf h, above.0))) (λ h. inr (omega (arith, row_place_high shelf h, above.1))) (cases_lt shelf 16)
rows_apart false shelf place count low (inr above) = inl (omega (arith, row_place_low shelf low, above.0))

kept_apart : (wide : Bool) (shelf place count : ℕ) → wide ≡ true → shelf < 32 → (place + count ≤ 896) ⊎ ((1920 ≤ place) × (place + count ≤ data_end wide)) → IsApart (kept_place shelf) 32 place count
kept_apart true shelf place count is low (inl below) = inr (omega arith)
kept_apart true shelf place count is low (inr above) = inr (omega (arith, above.1))
kept_apart false shelf place count is low where_to = absurd (cc is)

below_end : (wide : Bool) (to : ℕ) → to ≤ 63488 → to ≤ data_end wide
below_end true to low = low
below_end false to low = omega arith

-- the rows lie apart from one another, and from all else
row_order : (a b : ℕ) → a < b → row_place a + 51 ≤ row_place b
row_order a b less =
    ⊎_elim {C = row_place a + 51 ≤ row_place b}
    (λ low. omega (arith, row_place_low a (omega arith), row_place_low b low))
    (λ high. ⊎_elim {C = row_place a + 51 ≤ row_place b}
    (λ low. omega (arith, row_place_low a low, row_place_high b high)) (λ both. omega (arith, row_place_high a both, row_place_high b high)) (cases_lt a 16))
    (cases_lt b 16)

other_rows : (other shelf place count : ℕ) → other < 32 → shelf < 32 → other ≢ shelf → row_place shelf ≤ place → place + count ≤ row_place shelf + 51 → IsApart (row_place other) 51 place count
other_rows other shelf place count h low ne from to =
    ⊎_elim {C = IsApart (row_place other) 51 place count}
    (λ less. inl (omega (arith, row_order other shelf less))) (λ more. inr (omega (arith, row_order shelf other (omega arith)))) (cases_lt other shelf)

row_off_nodes : (shelf number place count : ℕ) → number < 128 → row_place shelf ≤ place → place + count ≤ row_place shelf + 51 → IsApart (node_place number) 16 place count
row_off_nodes shelf number place count h from to =
    ⊎_elim {C = IsApart (node_place number) 16 place count}
    (λ low. inr (omega (arith, row_place_low shelf low))) (λ high. inl (omega (arith, row_place_high shelf high))) (cases_lt shelf 16)

row_when_low : (wide : Bool) (shelf : ℕ) (bytes more : List ℕ) → shelf < row_count wide → row_when wide shelf bytes more ≡ row_in bytes (if wide then more else [])
row_when_low true shelf bytes more low = rw (lt-ltb shelf 32 low) refl
row_when_low false shelf bytes more low = rw (lt-ltb shelf 16 low) refl

version_told : (wide : Bool) → (version_of wide == 2) ≡ wide
version_told true = refl
version_told false = refl

module _ (content : List ℕ) (long : length content ≡ 65536) where
  -- the rows stay
  all_rows : (place : ℕ) (bytes : List ℕ) (fits : place + length bytes ≤ length content) → 8 ≤ place
      → (place + length bytes ≤ 896) ⊎ ((1920 ≤ place) × (place + length bytes ≤ data_end (is_wide content)))
      → map (row_at (patched place bytes content)) (range_with_len 0 32) ≡ map (row_at content) (range_with_len 0 32)
  all_rows place bytes fits high where_to =
      same_numbered (row_at (patched place bytes content)) (row_at content) 32
      (λ shelf h. row_stays place bytes content long fits shelf (wide_stays place bytes content long fits high)
      (λ low. rows_apart (is_wide content) shelf place (length bytes) low where_to)
      (λ wide low. kept_apart (is_wide content) shelf place (length bytes) wide low where_to))

  -- a commit of bytes of a file's entry
  pub node_reread : (number from to : ℕ) (node : Node) → number < 128 → from ≤ to → to ≤ 16
      → table_of (after (node_part number node from to) content) ≡ record (table_of content) { nodes = set (table_of content).nodes number (shown_node (reread_node content number from to node)) }
  unfolding table_of reread_node
  node_reread number from to node low order inside =
      let place : ℕ = node_place number + from in
      let bytes : List ℕ = slice_range (node_spelled node) from to in
      let whole : length (node_spelled node) ≡ 16 = length-node_spelled node in
      let part_long : length bytes ≡ to - from = length-between (node_spelled node) from to order (omega arith) in
      let fits : place + length bytes ≤ length content = omega arith in
      let now : List ℕ = patched place bytes content in
      let there : node_bytes now number ≡ patched from bytes (node_bytes content number) = range-patched_inside (node_place number) from 16 bytes content (omega arith) (omega arith) in
      same_table _ _ _ _ _ _ _ _ _ _
      (set_numbered (node_at content) (node_at now) 128 number (shown_node (reread_node content number from to node)) low (ap node_in there)
      (λ k h other. node_stays place bytes content long fits k h
      (⊎_elim {C = IsApart (node_place k) 16 place (length bytes)} (λ less. inl (omega arith)) (λ more. inr (omega arith)) (cases_lt k number))))
      (same_numbered (pin_at now) (pin_at content) 3 (λ k h. pin_stays place bytes content long fits k h (inl (omega arith))))
      (all_rows place bytes fits (omega arith) (inr (omega arith, below_end (is_wide content) (place + length bytes) (omega arith))))
      (next_stays place bytes content long fits (omega arith))
      (wide_stays place bytes content long fits (omega arith))

  -- of some fields of it
  pub node_written : (number from to : ℕ) (node : Node) → number < 128 → AreWholeFields node_fields 16 from to → HasNodeRanges node
      → table_of (after (node_part number node from to) content) ≡ record (table_of content) { nodes = set (table_of content).nodes number (shown_node (merged_node from to (node_there content number) node)) }
  unfolding reread_node
  node_written number from to node low fields ranges =
      node_reread number from to node low fields.order fields.inside
      ∙ ap (λ (n : Node). record (table_of content) { nodes = set (table_of content).nodes number (shown_node n) })
      (node_merged (node_bytes content number) node from to (length-range content (node_place number) 16 (omega arith)) fields ranges)

  -- a commit of bytes of a PIN slot
  pub pin_reread : (slot from to : ℕ) (pin : PinSlot) → slot < 3 → from ≤ to → to ≤ 20 → HasPinRanges pin
      → table_of (after (pin_part slot pin from to) content) ≡ record (table_of content) { pins = set (table_of content).pins slot (shown_pin (reread_pin content slot from to pin)) }
  unfolding table_of reread_pin
  pin_reread slot from to pin low order inside ranges =
      let place : ℕ = pin_place slot + from in
      let bytes : List ℕ = slice_range (pin_spelled pin) from to in
      let whole : length (pin_spelled pin) ≡ 20 = length-pin_spelled pin ranges in
      let part_long : length bytes ≡ to - from = length-between (pin_spelled pin) from to order (omega arith) in
      let fits : place + length bytes ≤ length content = omega arith in
      let now : List ℕ = patched place bytes content in
      let there : pin_bytes now slot ≡ patched from bytes (pin_bytes content slot) = range-patched_inside (pin_place slot) from 20 bytes content (omega arith) (omega arith) in
      same_table _ _ _ _ _ _ _ _ _ _
      (same_numbered (node_at now) (node_at content) 128 (λ k h. node_stays place bytes content long fits k h (inr (omega arith))))
      (set_numbered (pin_at content) (pin_at now) 3 slot (shown_pin (reread_pin content slot from to pin)) low (ap pin_in there)
      (λ k h other. pin_stays place bytes content long fits k h
      (⊎_elim {C = IsApart (pin_place k) 20 place (length bytes)} (λ less. inl (omega arith)) (λ more. inr (omega arith)) (cases_lt k slot))))
      (all_rows place bytes fits (omega arith) (inl (omega arith)))
      (next_stays place bytes content long fits (omega arith))
      (wide_stays place bytes content long fits (omega arith))

  -- of some fields of it
  pub pin_written : (slot from to : ℕ) (pin : PinSlot) → slot < 3 → AreWholeFields pin_fields 20 from to → HasPinRanges pin
      → table_of (after (pin_part slot pin from to) content) ≡ record (table_of content) { pins = set (table_of content).pins slot (shown_pin (merged_pin from to (pin_there content slot) pin)) }
  unfolding reread_pin
  pin_written slot from to pin low fields ranges =
      pin_reread slot from to pin low fields.order fields.inside ranges
      ∙ ap (λ (p : PinSlot). record (table_of content) { pins = set (table_of content).pins slot (shown_pin p) })
      (pin_merged (pin_bytes content slot) pin from to (length-range content (pin_place slot) 20 (omega arith)) fields ranges)

  -- a commit of the next sequence number
  pub sequence_written : (next : ℕ) → next < 2 ^ 16 → table_of (after (sequence_part next) content) ≡ record (table_of content) { next = next }
  unfolding table_of
  sequence_written next low =
      let bytes : List ℕ = to_be_bytes w16 next in
      let fits : 6 + length bytes ≤ length content = omega arith in
      let now : List ℕ = patched 6 bytes content in
      let wide : is_wide now ≡ is_wide content = ap (λ (n : ℕ). n == 2) (get_or-patched_apart 6 bytes content fits 4 (inl (omega arith))) in
      let old : List ℕ = bytes_at content 6 2 in
      let there : bytes_at now 6 2 ≡ patched 0 bytes old = range-patched_inside 6 0 2 bytes content (omega arith) (omega arith) in
      let written : bytes_at now 6 2 ≡ bytes = there ∙ patched-all bytes old (sym (length-range content 6 2 (omega arith))) in
      same_table _ _ _ _ _ _ _ _ _ _
      (same_numbered (node_at now) (node_at content) 128 (λ k h. node_stays 6 bytes content long fits k h (inr (omega arith))))
      (same_numbered (pin_at now) (pin_at content) 3 (λ k h. pin_stays 6 bytes content long fits k h (inr (omega arith))))
      (same_numbered (row_at now) (row_at content) 32
      (λ shelf h. row_stays 6 bytes content long fits shelf wide
      (λ row_low. rows_apart (is_wide content) shelf 6 (length bytes) row_low (inl (omega arith)))
      (λ is row_low. kept_apart (is_wide content) shelf 6 (length bytes) is row_low (inl (omega arith)))))
      (ap (λ (l : List ℕ). from_be_bytes w16 l) written ∙ from_be_bytes-to_be_bytes_2 next low)
      wide

  -- a commit of the version: the other entries stay, and the rows are those of a card of this width
  pub version_written : (wide : Bool) → table_of (after (version_part wide) content) ≡ record (table_of content) { rows = rows_when wide content; wide = wide }
  unfolding table_of
  version_written wide =
      let bytes : List ℕ = version_of wide ∷ [] in
      let fits : 4 + length bytes ≤ length content = omega arith in
      let now : List ℕ = patched 4 bytes content in
      let is : is_wide now ≡ wide = ap (λ (n : ℕ). n == 2) (patched_inside 4 bytes content fits 4 (omega arith) (omega arith)) ∙ version_told wide in
      same_table _ _ _ _ _ _ _ _ _ _
      (same_numbered (node_at now) (node_at content) 128 (λ k h. node_stays 4 bytes content long fits k h (inr (omega arith))))
      (same_numbered (pin_at now) (pin_at content) 3 (λ k h. pin_stays 4 bytes content long fits k h (inr (omega arith))))
      (same_numbered (row_at now) (λ shelf. row_when wide shelf (row_bytes content shelf) (kept_bytes content shelf)) 32
      (λ shelf h.
      let same : row_bytes now shelf ≡ row_bytes content shelf = range-patched_apart 4 bytes content fits (row_place shelf) 51 (omega (arith, row_inside shelf h)) (inr (omega (arith, row_above shelf))) in
      let kept : kept_bytes now shelf ≡ kept_bytes content shelf = range-patched_apart 4 bytes content fits (kept_place shelf) 32 (omega arith) (inr (omega arith)) in
      ap (λ (w : Bool). row_when w shelf (row_bytes now shelf) (kept_bytes now shelf)) is
      ∙ ap (λ (l : List ℕ). row_when wide shelf l (kept_bytes now shelf)) same
      ∙ ap (λ (l : List ℕ). row_when wide shelf (row_bytes content shelf) l) kept))
      (ap (λ (l : List ℕ). from_be_bytes w16 l) (range-patched_apart 4 bytes content fits 6 2 (omega arith) (inr (omega arith))))
      is

  -- a commit of bytes of the files
  pub data_written : (place : ℕ) (bytes : List ℕ) → data_place ≤ place → place + length bytes ≤ data_end (is_wide content)
      → table_of (after (record { place = place; bytes = bytes }) content) ≡ table_of content
  unfolding table_of
  data_written place bytes from to =
      let fits : place + length bytes ≤ length content = omega (arith, data_end_inside (is_wide content)) in
      let now : List ℕ = patched place bytes content in
      same_table _ _ _ _ _ _ _ _ _ _
      (same_numbered (node_at now) (node_at content) 128 (λ k h. node_stays place bytes content long fits k h (inl (omega arith))))
      (same_numbered (pin_at now) (pin_at content) 3 (λ k h. pin_stays place bytes content long fits k h (inl (omega arith))))
      (all_rows place bytes fits (omega arith) (inr (omega arith, to)))
      (next_stays place bytes content long fits (omega arith))
      (wide_stays place bytes content long fits (omega arith))

  -- The rows after a piece that is in the row of one shelf, or in the bytes that it keeps apart: that row alone is read anew.
  row_read : (shelf place : ℕ) (bytes : List ℕ) (fits : place + length bytes ≤ length content) → shelf < row_count (is_wide content) → 8 ≤ place
      → (wide : is_wide (patched place bytes content) ≡ is_wide content)
      → ((other : ℕ) → other < 32 → other ≢ shelf → IsApart (row_place other) 51 place (length bytes) × IsApart (kept_place other) 32 place (length bytes))
      → ((number : ℕ) → number < 128 → IsApart (node_place number) 16 place (length bytes))
      → ((slot : ℕ) → slot < 3 → IsApart (pin_place slot) 20 place (length bytes))
      → table_of (patched place bytes content) ≡ record (table_of content) { rows = set (table_of content).rows shelf (row_at (patched place bytes content) shelf) }
  unfolding table_of
  row_read shelf place bytes fits low high wide rows nodes pins =
      let now : List ℕ = patched place bytes content in
      same_table _ _ _ _ _ _ _ _ _ _
      (same_numbered (node_at now) (node_at content) 128 (λ k h. node_stays place bytes content long fits k h (nodes k h)))
      (same_numbered (pin_at now) (pin_at content) 3 (λ k h. pin_stays place bytes content long fits k h (pins k h)))
      (set_numbered (row_at content) (row_at now) 32 shelf (row_at now shelf) (below_32 (is_wide content) shelf low) refl
      (λ k h other. row_stays place bytes content long fits k wide (λ row_low. (rows k h other).0) (λ is row_low. (rows k h other).1)))
      (next_stays place bytes content long fits high)
      wide

  -- a commit of bytes of a row
  pub row_reread : (shelf from to : ℕ) (row : Row) → shelf < row_count (is_wide content) → from ≤ to → to ≤ 51
      → table_of (after (row_part shelf row from to) content)
      ≡ record (table_of content) { rows = set (table_of content).rows shelf (shown_row (reread_row content shelf from to row)) }
  unfolding reread_row
  row_reread shelf from to row low order inside =
      let place : ℕ = row_place shelf + from in
      let bytes : List ℕ = slice_range (row_spelled row) from to in
      let low_32 : shelf < 32 = below_32 (is_wide content) shelf low in
      let whole : length (row_spelled row) ≡ 51 = length-row_spelled row in
      let part_long : length bytes ≡ to - from = length-between (row_spelled row) from to order (omega arith) in
      let end : row_place shelf + 51 ≤ 65536 = row_inside shelf low_32 in
      let fits : place + length bytes ≤ length content = omega arith in
      let now : List ℕ = patched place bytes content in
      let high : 896 ≤ row_place shelf = row_above shelf in
      let wide : is_wide now ≡ is_wide content = wide_stays place bytes content long fits (omega arith) in
      let there : row_bytes now shelf ≡ patched from bytes (row_bytes content shelf) = range-patched_inside (row_place shelf) from 51 bytes content (omega arith) (omega arith) in
      let kept : kept_bytes now shelf ≡ kept_bytes content shelf =
      range-patched_apart place bytes content fits (kept_place shelf) 32 (omega arith) (inr (omega (arith, row_below_kept shelf low_32))) in
      let here : row_at now shelf ≡ shown_row (reread_row content shelf from to row) =
      ap (λ (w : Bool). row_when w shelf (row_bytes now shelf) (kept_bytes now shelf)) wide
      ∙ ap (λ (l : List ℕ). row_when (is_wide content) shelf l (kept_bytes now shelf)) there
      ∙ ap (λ (l : List ℕ). row_when (is_wide content) shelf (patched from bytes (row_bytes content shelf)) l) kept
      ∙ row_when_low (is_wide content) shelf (patched from bytes (row_bytes content shelf)) (kept_bytes content shelf) low in
      row_read shelf place bytes fits low (omega arith) wide
      (λ other h ne. (other_rows other shelf place (length bytes) h low_32 ne (omega arith) (omega arith), inr (omega (arith, row_below_kept shelf low_32))))
      (λ number h. row_off_nodes shelf number place (length bytes) h (omega arith) (omega arith))
      (λ slot h. inl (omega arith))
      ∙ ap (λ (r : Row). record (table_of content) { rows = set (table_of content).rows shelf r }) here

  -- of some fields of a row that keeps no bytes apart, or without its kept bytes
  pub row_written : (shelf from to : ℕ) (row : Row) → shelf < row_count (is_wide content) → AreWholeFields row_fields 51 from to → HasRowRanges row → (length row.kept ≤ 32) ⊎ (to ≤ 18)
      → table_of (after (row_part shelf row from to) content)
      ≡ record (table_of content) { rows = set (table_of content).rows shelf (shown_row (merged_row from to (row_there content shelf) row)) }
  unfolding reread_row
  row_written shelf from to row low fields ranges short =
      let low_32 : shelf < 32 = below_32 (is_wide content) shelf low in
      let more : List ℕ = bytes_apart content shelf in
      let entry_long : length (row_bytes content shelf) ≡ 51 = length-range content (row_place shelf) 51 (omega (arith, row_inside shelf low_32)) in
      let merged : row_of (patched from (slice_range (row_spelled row) from to) (row_bytes content shelf)) more ≡ merged_row from to (row_there content shelf) row =
      ⊎_elim {C = row_of (patched from (slice_range (row_spelled row) from to) (row_bytes content shelf)) more ≡ merged_row from to (row_there content shelf) row}
      (λ few.
      let none_apart : length row.kept - 32 ≡ 0 = omega arith in
      row_merged (row_bytes content shelf) more row from to entry_long fields ranges (ap (λ (n : ℕ). take n more) none_apart ∙ sym (drop_all 32 row.kept few)))
      (λ front. row_merged_front (row_bytes content shelf) more row from to entry_long fields ranges front)
      short in
      row_reread shelf from to row low fields.order fields.inside ∙ ap (λ (r : Row). record (table_of content) { rows = set (table_of content).rows shelf (shown_row r) }) merged

  -- of what a row keeps with its length
  pub kept_written : (shelf to : ℕ) (row : Row) → shelf < row_count (is_wide content) → length row.kept ≤ 32 → 19 + length row.kept ≤ to → to ≤ 51
      → table_of (after (row_part shelf row 18 to) content)
      ≡ record (table_of content) { rows = set (table_of content).rows shelf (shown_row (record (row_there content shelf) { kept = row.kept })) }
  unfolding reread_row
  kept_written shelf to row low few enough inside =
      row_reread shelf 18 to row low (omega arith) inside
      ∙ ap (λ (r : Row). record (table_of content) { rows = set (table_of content).rows shelf (shown_row r) })
      (kept_merged (row_bytes content shelf) (bytes_apart content shelf) row to (length-range content (row_place shelf) 51 (omega (arith, row_inside shelf (below_32 (is_wide content) shelf low)))) few enough inside)

  -- a commit of kept bytes that stand apart: the row is read with them
  pub apart_written : (shelf : ℕ) (bytes : List ℕ) → is_wide content ≡ true → shelf < 32 → length bytes ≤ 32
      → table_of (patched (kept_place shelf) bytes content)
      ≡ record (table_of content) { rows = set (table_of content).rows shelf (shown_row (row_of (row_bytes content shelf) (patched 0 bytes (kept_bytes content shelf)))) }
  apart_written shelf bytes is low few =
      let place : ℕ = kept_place shelf in
      let fits : place + length bytes ≤ length content = omega arith in
      let now : List ℕ = patched place bytes content in
      let shelf_low : shelf < row_count (is_wide content) = omega (arith, ap row_count is) in
      let wide : is_wide now ≡ is_wide content = wide_stays place bytes content long fits (omega arith) in
      let same_place : place ≡ place + 0 = omega arith in
      let there : kept_bytes now shelf ≡ patched 0 bytes (kept_bytes content shelf) =
      ap (λ (p : ℕ). bytes_at (patched p bytes content) place 32) same_place ∙ range-patched_inside place 0 32 bytes content (omega arith) (omega arith) in
      let stays : row_bytes now shelf ≡ row_bytes content shelf =
      range-patched_apart place bytes content fits (row_place shelf) 51 (omega (arith, row_inside shelf low)) (inl (omega (arith, row_below_kept shelf low))) in
      let here : row_at now shelf ≡ shown_row (row_of (row_bytes content shelf) (patched 0 bytes (kept_bytes content shelf))) =
      ap (λ (w : Bool). row_when w shelf (row_bytes now shelf) (kept_bytes now shelf)) (wide ∙ is)
      ∙ ap (λ (l : List ℕ). row_when true shelf l (kept_bytes now shelf)) stays
      ∙ ap (λ (l : List ℕ). row_when true shelf (row_bytes content shelf) l) there
      ∙ row_when_low true shelf (row_bytes content shelf) (patched 0 bytes (kept_bytes content shelf)) low in
      row_read shelf place bytes fits shelf_low (omega arith) wide
      (λ other h ne. (
        inl (omega (arith, row_below_kept other h)),
        ⊎_elim {C = IsApart (kept_place other) 32 place (length bytes)} (λ less. inl (omega arith)) (λ more. inr (omega arith)) (cases_lt other shelf),
      ))
      (λ number h. inl (omega arith))
      (λ slot h. inl (omega arith))
      ∙ ap (λ (r : Row). record (table_of content) { rows = set (table_of content).rows shelf r }) here

-- the kept bytes are those that stand with the row and those that stand apart, with others after them
apart_first : (bytes more : List ℕ) (count : ℕ) → length bytes ≡ count → take count (patched 0 bytes more) ≡ bytes
unfolding patched
apart_first bytes more count long = take_at bytes (drop (0 + length bytes) more) count long

-- a commit of some fields of a row, the kept bytes among them, with those that stand apart
pub long_row_written : (content : List ℕ) → length content ≡ 65536 → (shelf from : ℕ) (row : Row) → is_wide content ≡ true → shelf < 32 → AreWholeFields row_fields 51 from 51 → from ≤ 18 → HasRowRanges row → 32 < length row.kept
    → table_of (applied (row_part shelf row from 51 ∷ kept_part shelf row ∷ []) content)
    ≡ record (table_of content) { rows = set (table_of content).rows shelf (shown_row (merged_row from 51 (row_there content shelf) row)) }
long_row_written content long shelf from row is low fields kept_too ranges many =
    let place : ℕ = row_place shelf + from in
    let bytes : List ℕ = slice_range (row_spelled row) from 51 in
    let shelf_low : shelf < row_count (is_wide content) = omega (arith, ap row_count is) in
    let order : from ≤ 51 = fields.order in
    let part_long : length bytes ≡ 51 - from = length-between (row_spelled row) from 51 order (omega (arith, length-row_spelled row)) in
    let end : row_place shelf + 51 ≤ 64512 = row_below_kept shelf low in
    let high : 896 ≤ row_place shelf = row_above shelf in
    let fits : place + length bytes ≤ length content = omega arith in
    let mid : List ℕ = patched place bytes content in
    let mid_long : length mid ≡ 65536 = length-patched place bytes content fits ∙ long in
    let mid_wide : is_wide mid ≡ true = wide_stays place bytes content long fits (omega arith) ∙ is in
    let apart : List ℕ = drop 32 row.kept in
    let apart_long : length apart ≡ length row.kept - 32 = length-drop 32 row.kept in
    let there : row_bytes mid shelf ≡ patched from bytes (row_bytes content shelf) = range-patched_inside (row_place shelf) from 51 bytes content (omega arith) (omega arith) in
    let kept : kept_bytes mid shelf ≡ kept_bytes content shelf = range-patched_apart place bytes content fits (kept_place shelf) 32 (omega arith) (inr (omega arith)) in
    let more : List ℕ = patched 0 apart (kept_bytes content shelf) in
    let entry_long : length (row_bytes content shelf) ≡ 51 = length-range content (row_place shelf) 51 (omega arith) in
    let was : row_there content shelf ≡ row_of (row_bytes content shelf) (kept_bytes content shelf) = ap (λ (w : Bool). row_of (row_bytes content shelf) (if w then kept_bytes content shelf else [])) is in
    let merged : row_of (row_bytes mid shelf) (patched 0 apart (kept_bytes mid shelf)) ≡ merged_row from 51 (row_there content shelf) row =
    ap (λ (l : List ℕ). row_of l (patched 0 apart (kept_bytes mid shelf))) there
    ∙ ap (λ (l : List ℕ). row_of (patched from bytes (row_bytes content shelf)) (patched 0 apart l)) kept
    ∙ row_merged (row_bytes content shelf) more row from 51 entry_long fields ranges (apart_first apart (kept_bytes content shelf) (length row.kept - 32) apart_long)
    ∙ merged_kept_anew (row_bytes content shelf) more (kept_bytes content shelf) row from kept_too
    ∙ ap (λ (r : Row). merged_row from 51 r row) (sym was) in
    let Known : Loaded → Type 0 = λ table. table_of (patched (kept_place shelf) apart mid) ≡ record table { rows = set table.rows shelf (shown_row (merged_row from 51 (row_there content shelf) row)) } in
    let second : Known (table_of mid) =
    apart_written mid mid_long shelf apart mid_wide low (omega (arith, ranges.kept))
    ∙ ap (λ (r : Row). record (table_of mid) { rows = set (table_of mid).rows shelf (shown_row r) }) merged in
    subst Known (row_reread content long shelf from 51 row shelf_low fields.order fields.inside) second
    ∙ ap (λ (rows : List Row). record (table_of content) { rows = rows }) (set-set (table_of content).rows shelf _ _)

-- a commit of kept bytes that stand apart: what the row keeps from the 33rd byte on
pub kept_apart_written : (content : List ℕ) → length content ≡ 65536 → (shelf : ℕ) (row : Row) → is_wide content ≡ true → shelf < 32 → length row.kept ≤ 64
    → table_of (after (kept_part shelf row) content)
    ≡ record (table_of content) { rows = set (table_of content).rows shelf (shown_row (record (row_there content shelf) { kept = kept_anew (row_there content shelf).kept row.kept })) }
kept_apart_written content long shelf row is low few =
    let was : bytes_apart content shelf ≡ kept_bytes content shelf = ap (λ (w : Bool). if w then kept_bytes content shelf else []) is in
    let Entry : List ℕ → Row = λ more. row_of (row_bytes content shelf) more in
    apart_written content long shelf (drop 32 row.kept) is low (omega (arith, length-drop 32 row.kept))
    ∙ ap (λ (r : Row). record (table_of content) { rows = set (table_of content).rows shelf (shown_row r) })
    (kept_apart_merged (row_bytes content shelf) (kept_bytes content shelf) row.kept (length-range content (row_place shelf) 51 (omega (arith, row_inside shelf low))) (length-range content (kept_place shelf) 32 (omega arith)) few
    ∙ ap (λ (more : List ℕ). record (Entry more) { kept = kept_anew (Entry more).kept row.kept }) (sym was))

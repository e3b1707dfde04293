-- Commits of a row, and of the next sequence number.
use Rattle.std.proofs.Common.{◌≡◌, ◌≢◌, ◌⊎◌, ℕ, ◌+◌, ◌-◌, ◌≤◌, ◌<◌, ◌^◌, Bool, true, false, nat_lt, if◌then◌else◌, List, [], ◌∷◌, length, drop, map, slice_range, Option, Some, None, set, refl, sym, ◌∙◌, ap, inl, inr, ⊎_elim, subst, lit≤, arith, length-take, length-drop}
use Rattle.std.proofs.lemmas.List.Elements.{All-weaker}
use Rattle.std.proofs.lemmas.List.FromFn.{length-map-range_with_len}
use Rattle.std.proofs.lemmas.Bool.{cases_lt}
use Rattle.std.proofs.lemmas.Bool.Decides.{nat_tests}
use Rattle.std.proofs.lemmas.Grind.{same_number_lists}
use Rattle.list_laws.specs.Patches.{patched}
use Rattle.list_laws.proofs.PatchesLemmas.{length-patched, patched_before, patched_inside, patched_after}
use Rattle.store_form.specs.Pieces.{Piece, applied}
use Rattle.card_state.specs.Standing.{state_in}
use Rattle.card_state.specs.declared.entries.Node.{Node}
use Rattle.card_state.specs.declared.entries.Row.{Row}
use Rattle.card_state.specs.declared.entries.Loaded.{Loaded}
use Rattle.card_state.specs.Blank.{unused_row}
use Rattle.card_state.specs.Kinds.{df_kind}
use Rattle.card_state.specs.Places.{memory_size, data_place, data_end, row_place, kept_place, row_count, kept_limit}
use Rattle.card_state.specs.Numbers.{two_bytes}
use Rattle.card_state.specs.Decoding.{is_wide, row_at, row_bytes, kept_bytes, table_of}
use Rattle.card_state.specs.Checks.{row_there}
use Rattle.card_state.specs.Persistent.{File, Registration, Persistent}
use Rattle.card_state.specs.States.{file_bytes, file_of, registration_of, used_rows, files_of, pins_of, rows_of, state_of}
use Rattle.card_state.specs.Ranges.{HasRowRanges}
use Rattle.card_state.specs.Used.{HasRow, LiesAmongFiles, registration_if}
use Rattle.card_state.specs.Changing.{placed, with_row_on}
use Rattle.card_state.proofs.RowPlaceLemmas.{row_place_low, row_place_high, below_32}
use Rattle.layout_entries.specs.Spelling.{row_part, kept_part, sequence_part, row_spelled}
use Rattle.layout_entries.specs.Fields.{row_fields, AreWholeFields, merged_row, shown_row}
use Rattle.layout_entries.specs.Laws.{after, KeepsBytesBeside, ChangesOneRow, ChangesOneLongRow, ChangesSequence}
use Rattle.layout_laws.specs.Cards.{IsCard, Holds}
use Rattle.layout_laws.proofs.ShownNodeLemmas.{row_when_used}
use Rattle.layout_laws.specs.Changes.{with_row}
use Rattle.layout_laws.specs.ChangeLaws.{kept_pieces}
use Rattle.layout_laws.proofs.EnumerateFromLemmas.{entry_if, seen-set, got_numbered}
use Rattle.layout_laws.proofs.LiesAmongFilesLemmas.{used, all_lie_well, same_files}
use Rattle.layout_laws.proofs.ChangesFileLemmas.{beside_files}

-- ---- where rows stand

-- before the bytes of the files, or after them
row_where : (wide : Bool) (shelf : ℕ) → shelf < row_count wide → (row_place shelf + 51 ≤ data_place) ⊎ ((data_end wide ≤ row_place shelf) × (row_place shelf + 51 ≤ memory_size))
row_where false shelf low = inl (omega (arith, row_place_low shelf low))
row_where true shelf low =
    ⊎_elim {C = (row_place shelf + 51 ≤ data_place) ⊎ ((data_end true ≤ row_place shelf) × (row_place shelf + 51 ≤ memory_size))}
    (λ h. inl (omega (arith, row_place_low shelf h))) (λ h. inr (omega (arith, row_place_high shelf h), omega (arith, row_place_high shelf h))) (cases_lt shelf 16)

row_above : (shelf : ℕ) → 896 ≤ row_place shelf
row_above shelf = ⊎_elim {C = 896 ≤ row_place shelf} (λ h. omega (arith, row_place_low shelf h)) (λ h. omega (arith, row_place_high shelf h)) (cases_lt shelf 16)

-- ---- pieces

-- two pieces that share no byte may be written in either order
patched_either : (at place : ℕ) (front back image : List ℕ) → at + length front ≤ place → place + length back ≤ length image → patched at front (patched place back image) ≡ patched place back (patched at front image)
patched_either at place front back image apart fits =
    let first : length (patched at front image) ≡ length image = length-patched at front image (omega arith) in
    let second : length (patched place back image) ≡ length image = length-patched place back image fits in
    let fits_first : at + length front ≤ length (patched place back image) = omega arith in
    let fits_second : place + length back ≤ length (patched at front image) = omega arith in
    same_number_lists _ _ (length-patched at front (patched place back image) fits_first ∙ second ∙ sym (length-patched place back (patched at front image) fits_second ∙ first))
    (λ k h. grind (arith, patched_before, patched_inside, patched_after))

-- ---- rows as a table shows them

shown_registration : (shelf : ℕ) (row : Row) → entry_if (λ (r : Row). r.used) (λ e. registration_of e.0 e.1) shelf (shown_row row) ≡ registration_if shelf row
shown_registration shelf row = by_test row.used refl where
  by_test : (b : Bool) → row.used ≡ b
      → entry_if (λ (r : Row). r.used) (λ e. registration_of e.0 e.1) shelf (if b then row else unused_row) ≡ (if b then Some (registration_of shelf row) else None)
  by_test true is = rw is refl
  by_test false is = refl

module _ (content : List ℕ) (card : IsCard content) where
  pub row_on : (shelf : ℕ) (row : Row) → HasRow (table_of content) shelf row → (shelf < row_count (is_wide content)) × (row_there content shelf ≡ row)
  unfolding table_of
  row_on shelf row has =
      let found : (shelf < 32) × (row_at content (0 + shelf) ≡ row) = got_numbered (row_at content) 0 32 shelf row has.there in
      let same : shelf ≡ 0 + shelf = omega arith in
      row_when_used (is_wide content) shelf (row_bytes content shelf) (kept_bytes content shelf) row (ap (row_at content) same ∙ found.1) has.used

  row_total : length (table_of content).rows ≡ 32
  unfolding table_of
  row_total = length-map-range_with_len (row_at content) 0 32

  -- files keep their bytes in this other content
  abbrev pub KeepsFiles : List ℕ → Type 0
  KeepsFiles now = (n : Node) → LiesAmongFiles (is_wide content) n → n.kind ≢ df_kind → file_bytes now n ≡ file_bytes content n

  pub files_stay : (now : List ℕ) → KeepsFiles now → map (λ e. file_of now e.0 e.1) (used content card) ≡ (state_in content).files
  unfolding state_of files_of pins_of rows_of
  files_stay now keeps =
      same_files content card now
      (All-weaker _ (λ (e : ℕ × Node). e.1.kind ≢ df_kind → file_bytes now e.1 ≡ file_bytes content e.1) (λ e well. keeps e.1 well) (used content card) (all_lie_well content card))

  -- a table in which one row and the next sequence number are others
  pub row_and_next : (now : List ℕ) (shelf next : ℕ) (row : Row) → shelf < row_count (is_wide content) → KeepsFiles now
      → table_of now ≡ record (table_of content) { rows = set (table_of content).rows shelf (shown_row row); next = next }
      → Holds now (record (with_row (table_of content) shelf row) { next = next }) (record (with_row_on (state_in content) shelf (registration_if shelf row)) { next_sequence = next })
  unfolding state_of files_of pins_of rows_of
  row_and_next now shelf next row low keeps table =
      let count : shelf < length (table_of content).rows = omega (arith, row_total, below_32 (is_wide content) shelf low) in
      let registrations : ℕ × Row → Registration = λ e. registration_of e.0 e.1 in
      let state : List File → List Registration → Persistent = λ files rows. record (state_in content) { files = files; rows = rows; next_sequence = next } in
      let changed : state_in now ≡ record (with_row_on (state_in content) shelf (registration_if shelf row)) { next_sequence = next } =
      ap (λ (t : Loaded). state_of t now) table
      ∙ ap (λ (files : List File). state files (map registrations (used_rows (set (table_of content).rows shelf (shown_row row))))) (files_stay now keeps)
      ∙ ap (λ (rows : List Registration). state (state_in content).files rows)
      (seen-set (λ (r : Row). r.used) registrations (λ r. r.shelf) (λ e. refl) 0 shelf shelf (table_of content).rows (shown_row row) count (omega arith)
      ∙ ap (λ (o : Option Registration). placed (λ r. r.shelf) shelf o (state_in content).rows) (shown_registration shelf row)) in
      record { entries = table; held = changed }

-- ---- the pieces of a row

module _ (beside : KeepsBytesBeside) (content : List ℕ) (card : IsCard content) where
  -- a piece before the bytes of the files, or after them
  keeps_piece : (now : List ℕ) (place : ℕ) (bytes : List ℕ) → length now ≡ memory_size → place + length bytes ≤ memory_size → (place + length bytes ≤ data_place) ⊎ (data_end (is_wide content) ≤ place)
      → (n : Node) → LiesAmongFiles (is_wide content) n → n.kind ≢ df_kind → file_bytes (patched place bytes now) n ≡ file_bytes now n
  keeps_piece now place bytes long fits where_to n lies other = beside_files beside (is_wide content) now bytes place n long fits where_to lies other

  row_bounds : (shelf from to : ℕ) (spelled : List ℕ) → shelf < row_count (is_wide content) → from ≤ to → to ≤ 51
      → (row_place shelf + from + length (slice_range spelled from to) ≤ memory_size)
      × ((row_place shelf + from + length (slice_range spelled from to) ≤ data_place) ⊎ (data_end (is_wide content) ≤ row_place shelf + from))
  row_bounds shelf from to spelled low order inside =
      let few : length (slice_range spelled from to) ≤ to - from = omega (arith, length-take (to - from) (drop from spelled)) in
      ⊎_elim {C = (row_place shelf + from + length (slice_range spelled from to) ≤ memory_size)
      × ((row_place shelf + from + length (slice_range spelled from to) ≤ data_place) ⊎ (data_end (is_wide content) ≤ row_place shelf + from))}
      (λ before. (omega arith, inl (omega arith))) (λ behind. (omega (arith, behind.1), inr (omega (arith, behind.0)))) (row_where (is_wide content) shelf low)

  keeps_row : (now : List ℕ) (shelf from to : ℕ) (row : Row) → length now ≡ memory_size → shelf < row_count (is_wide content) → from ≤ to → to ≤ 51
      → (n : Node) → LiesAmongFiles (is_wide content) n → n.kind ≢ df_kind → file_bytes (patched (row_place shelf + from) (slice_range (row_spelled row) from to) now) n ≡ file_bytes now n
  keeps_row now shelf from to row long low order inside n lies other =
      let bounds = row_bounds shelf from to (row_spelled row) low order inside in
      keeps_piece now (row_place shelf + from) (slice_range (row_spelled row) from to) long bounds.0 bounds.1 n lies other

  keeps_apart : (now : List ℕ) (shelf : ℕ) (row : Row) → length now ≡ memory_size → is_wide content ≡ true → shelf < 32 → length row.kept ≤ 64
      → (n : Node) → LiesAmongFiles (is_wide content) n → n.kind ≢ df_kind → file_bytes (patched (kept_place shelf) (drop 32 row.kept) now) n ≡ file_bytes now n
  keeps_apart now shelf row long is low few n lies other =
      keeps_piece now (kept_place shelf) (drop 32 row.kept) long (omega (arith, length-drop 32 row.kept)) (inr (omega (arith, ap data_end is))) n lies other

  keeps_sequence : (now : List ℕ) (next : ℕ) → length now ≡ memory_size → (n : Node) → LiesAmongFiles (is_wide content) n → n.kind ≢ df_kind → file_bytes (patched 6 (two_bytes next) now) n ≡ file_bytes now n
  keeps_sequence now next long n lies other = keeps_piece now 6 (two_bytes next) long (lit≤ tt) (inl (lit≤ tt)) n lies other

  whole_row : AreWholeFields row_fields 51 0 51
  whole_row = record { order = lit≤ tt; inside = lit≤ tt; uncut = refl }

  wide_shelf : (shelf : ℕ) → is_wide content ≡ true → shelf < row_count (is_wide content) → shelf < 32
  wide_shelf shelf is low = omega (arith, ap row_count is)

  -- only a wide card keeps more than 32 bytes of a row
  wide_where_long : (wide : Bool) (count : ℕ) → 32 < count → count ≤ kept_limit wide → wide ≡ true
  wide_where_long true count many few = refl
  wide_where_long false count many few = absurd (omega arith)

  -- ---- the changes

  pub sequence_changed : (changes : ChangesSequence) (next : ℕ) → next < 2 ^ 16 → Holds (after (sequence_part next) content) (record (table_of content) { next = next }) (record (state_in content) { next_sequence = next })
  unfolding state_of files_of pins_of rows_of
  sequence_changed changes next low =
      let now : List ℕ = patched 6 (two_bytes next) content in
      let table : table_of now ≡ record (table_of content) { next = next } = changes content next card.long low in
      let changed : state_in now ≡ record (state_in content) { next_sequence = next } =
      ap (λ (t : Loaded). state_of t now) table
      ∙ ap (λ (files : List File). record (state_in content) { files = files; next_sequence = next }) (files_stay content card now (keeps_sequence content next card.long)) in
      record { entries = table; held = changed }

  -- the row as it is after a commit of some of its bytes
  pub row_anew : (shelf from to : ℕ) (row new : Row) → shelf < row_count (is_wide content) → from ≤ to → to ≤ 51
      → table_of (after (row_part shelf row from to) content) ≡ record (table_of content) { rows = set (table_of content).rows shelf (shown_row new) }
      → Holds (after (row_part shelf row from to) content) (with_row (table_of content) shelf new) (with_row_on (state_in content) shelf (registration_if shelf new))
  unfolding state_of files_of pins_of rows_of
  row_anew shelf from to row new low order inside table =
      row_and_next content card (patched (row_place shelf + from) (slice_range (row_spelled row) from to) content) shelf (table_of content).next new low (keeps_row content shelf from to row card.long low order inside) table

  -- the row as it is after a commit of bytes that it keeps apart
  pub apart_anew : (shelf : ℕ) (row new : Row) → is_wide content ≡ true → shelf < 32 → length row.kept ≤ 64
      → table_of (after (kept_part shelf row) content) ≡ record (table_of content) { rows = set (table_of content).rows shelf (shown_row new) }
      → Holds (after (kept_part shelf row) content) (with_row (table_of content) shelf new) (with_row_on (state_in content) shelf (registration_if shelf new))
  unfolding state_of files_of pins_of rows_of
  apart_anew shelf row new is low few table =
      row_and_next content card (patched (kept_place shelf) (drop 32 row.kept) content) shelf (table_of content).next new (omega (arith, low, ap row_count is)) (keeps_apart content shelf row card.long is low few) table

  -- some fields, whatever stood there
  row_written : (changes : ChangesOneRow) (shelf from to : ℕ) (part new : Row) → shelf < row_count (is_wide content) → AreWholeFields row_fields 51 from to → HasRowRanges part
      → (length part.kept ≤ 32) ⊎ (to ≤ 18) → merged_row from to (row_there content shelf) part ≡ new
      → Holds (after (row_part shelf part from to) content) (with_row (table_of content) shelf new) (with_row_on (state_in content) shelf (registration_if shelf new))
  row_written changes shelf from to part new low fields ranges short whole =
      row_anew shelf from to part new low fields.order fields.inside
      (changes content shelf from to part card.long low fields ranges short
      ∙ ap (λ (r : Row). record (table_of content) { rows = set (table_of content).rows shelf (shown_row r) }) whole)

  pub row_changed : (changes : ChangesOneRow) (shelf from to : ℕ) (old part new : Row) → HasRow (table_of content) shelf old → AreWholeFields row_fields 51 from to → HasRowRanges part → merged_row from to old part ≡ new
      → (length part.kept ≤ 32) ⊎ (to ≤ 18)
      → Holds (after (row_part shelf part from to) content) (with_row (table_of content) shelf new) (with_row_on (state_in content) shelf (registration_if shelf new))
  row_changed changes shelf from to old part new has fields ranges rest short =
      let there : (shelf < row_count (is_wide content)) × (row_there content shelf ≡ old) = row_on content card shelf old has in
      row_written changes shelf from to part new there.0 fields ranges short (ap (λ (r : Row). merged_row from to r part) there.1 ∙ rest)

  -- a whole row that keeps bytes apart
  long_row_added : (changes : ChangesOneLongRow) (shelf : ℕ) (row : Row) → is_wide content ≡ true → shelf < row_count (is_wide content) → HasRowRanges row → 32 < length row.kept
      → Holds (applied (row_part shelf row 0 51 ∷ kept_part shelf row ∷ []) content) (with_row (table_of content) shelf row) (with_row_on (state_in content) shelf (registration_if shelf row))
  unfolding state_of files_of pins_of rows_of merged_row
  long_row_added changes shelf row is low ranges many =
      let mid : List ℕ = patched (row_place shelf + 0) (slice_range (row_spelled row) 0 51) content in
      let mid_long : length mid ≡ memory_size = length-patched (row_place shelf + 0) (slice_range (row_spelled row) 0 51) content (omega (arith, (row_bounds shelf 0 51 (row_spelled row) low (lit≤ tt) (lit≤ tt)).0, card.long)) ∙ card.long in
      row_and_next content card (patched (kept_place shelf) (drop 32 row.kept) mid) shelf (table_of content).next row low
      (λ n lies other. keeps_apart mid shelf row mid_long is (wide_shelf shelf is low) ranges.kept n lies other ∙ keeps_row content shelf 0 51 row card.long low (lit≤ tt) (lit≤ tt) n lies other)
      (changes content shelf 0 row card.long is (wide_shelf shelf is low) whole_row (lit≤ tt) ranges many)

  pub row_added : (changes : ChangesOneRow) (long : ChangesOneLongRow) (shelf : ℕ) (row : Row) → shelf < row_count (is_wide content) → HasRowRanges row → length row.kept ≤ kept_limit (is_wide content)
      → Holds (applied (row_part shelf row 0 51 ∷ kept_pieces shelf row) content) (with_row (table_of content) shelf row) (with_row_on (state_in content) shelf (registration_if shelf row))
  unfolding merged_row
  row_added changes long shelf row low ranges limit = by_test (nat_lt 32 (length row.kept)) refl where
    by_test : (b : Bool) → nat_lt 32 (length row.kept) ≡ b
        → Holds (applied (row_part shelf row 0 51 ∷ (if b then kept_part shelf row ∷ [] else [])) content) (with_row (table_of content) shelf row) (with_row_on (state_in content) shelf (registration_if shelf row))
    by_test true passed =
        let many : 32 < length row.kept = grind (arith, nat_tests) in
        long_row_added long shelf row (wide_where_long (is_wide content) (length row.kept) many limit) low ranges many
    by_test false failed =
        let few : length row.kept ≤ 32 = grind (arith, nat_tests) in
        row_written changes shelf 0 51 row row low whole_row ranges (inl few) refl

  -- ---- a whole row with the next sequence number

  -- with the number first, which comes to the same
  number_first : (shelf next : ℕ) (row : Row) → shelf < row_count (is_wide content) → (pieces : List Piece)
      → applied (row_part shelf row 0 51 ∷ sequence_part next ∷ pieces) content ≡ applied (row_part shelf row 0 51 ∷ pieces) (after (sequence_part next) content)
  number_first shelf next row low pieces =
      let bounds = row_bounds shelf 0 51 (row_spelled row) low (lit≤ tt) (lit≤ tt) in
      ap (applied pieces) (patched_either 6 (row_place shelf + 0) (two_bytes next) (slice_range (row_spelled row) 0 51) content (omega (arith, row_above shelf)) (omega (arith, bounds.0, card.long)))

  numbered_wide : (changes : ChangesSequence) (next : ℕ) → next < 2 ^ 16 → is_wide (after (sequence_part next) content) ≡ is_wide content
  unfolding table_of
  numbered_wide changes next low = ap (λ (t : Loaded). t.wide) (changes content next card.long low)

  -- the table of what is written after the number
  installed_table : (sequence : ChangesSequence) (next shelf : ℕ) (row : Row) (now : List ℕ) → next < 2 ^ 16
      → (let numbered : List ℕ = after (sequence_part next) content in table_of now ≡ record (table_of numbered) { rows = set (table_of numbered).rows shelf (shown_row row) })
      → table_of now ≡ record (table_of content) { rows = set (table_of content).rows shelf (shown_row row); next = next }
  installed_table sequence next shelf row now low written =
      written ∙ ap (λ (t : Loaded). record t { rows = set t.rows shelf (shown_row row) }) (sequence content next card.long low)

  numbered_long : (next : ℕ) → length (after (sequence_part next) content) ≡ memory_size
  numbered_long next = length-patched 6 (two_bytes next) content (omega (arith, card.long)) ∙ card.long

  pub row_installed : (sequence : ChangesSequence) (changes : ChangesOneRow) (long : ChangesOneLongRow) (shelf next : ℕ) (row : Row) → shelf < row_count (is_wide content) → HasRowRanges row
      → length row.kept ≤ kept_limit (is_wide content) → next < 2 ^ 16
      → Holds (applied (row_part shelf row 0 51 ∷ sequence_part next ∷ kept_pieces shelf row) content) (record (with_row (table_of content) shelf row) { next = next }) (record (with_row_on (state_in content) shelf (registration_if shelf row)) { next_sequence = next })
  unfolding merged_row
  row_installed sequence changes long shelf next row low ranges limit next_low =
      subst Known (sym (number_first shelf next row low (kept_pieces shelf row))) (by_test (nat_lt 32 (length row.kept)) refl)
    where
      Known : List ℕ → Type 0
      Known now = Holds now (record (with_row (table_of content) shelf row) { next = next }) (record (with_row_on (state_in content) shelf (registration_if shelf row)) { next_sequence = next })

      numbered : List ℕ
      numbered = after (sequence_part next) content

      mid : List ℕ
      mid = patched (row_place shelf + 0) (slice_range (row_spelled row) 0 51) numbered

      mid_long : length mid ≡ memory_size
      mid_long =
          length-patched (row_place shelf + 0) (slice_range (row_spelled row) 0 51) numbered (omega (arith, (row_bounds shelf 0 51 (row_spelled row) low (lit≤ tt) (lit≤ tt)).0, numbered_long next))
          ∙ numbered_long next

      still_low : shelf < row_count (is_wide numbered)
      still_low = subst (λ (w : Bool). shelf < row_count w) (sym (numbered_wide sequence next next_low)) low

      keeps_mid : KeepsFiles content card mid
      keeps_mid n lies other = keeps_row numbered shelf 0 51 row (numbered_long next) low (lit≤ tt) (lit≤ tt) n lies other ∙ keeps_sequence content next card.long n lies other

      by_test : (b : Bool) → nat_lt 32 (length row.kept) ≡ b
          → Holds (applied (row_part shelf row 0 51 ∷ (if b then kept_part shelf row ∷ [] else [])) numbered) (record (with_row (table_of content) shelf row) { next = next }) (record (with_row_on (state_in content) shelf (registration_if shelf row)) { next_sequence = next })
      by_test true passed =
          let many : 32 < length row.kept = grind (arith, nat_tests) in
          let is : is_wide content ≡ true = wide_where_long (is_wide content) (length row.kept) many limit in
          row_and_next content card (patched (kept_place shelf) (drop 32 row.kept) mid) shelf next row low
          (λ n lies other. keeps_apart mid shelf row mid_long is (wide_shelf shelf is low) ranges.kept n lies other ∙ keeps_mid n lies other)
          (installed_table sequence next shelf row (patched (kept_place shelf) (drop 32 row.kept) mid) next_low
          (long numbered shelf 0 row (numbered_long next) (numbered_wide sequence next next_low ∙ is) (wide_shelf shelf is low) whole_row (lit≤ tt) ranges many))
      by_test false failed =
          let few : length row.kept ≤ 32 = grind (arith, nat_tests) in
          row_and_next content card mid shelf next row low keeps_mid (installed_table sequence next shelf row mid next_low (changes numbered shelf 0 51 row (numbered_long next) still_low whole_row ranges (inl few)))

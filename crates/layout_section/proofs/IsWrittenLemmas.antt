-- The table of entries that is read back from a memory in which a card is written.
use Rattle.std.proofs.Common.{zero, suc, get_or, ◌≡◌, ◌≢◌, ℕ, ◌+◌, ◌-◌, ◌*◌, ◌≤◌, ◌<◌, ◌^◌, Bool, true, false, cond, List, [], length, take, map, refl, sym, ◌∙◌, ap, subst, ⊎_elim, arith, ◌&&◌, ◌||◌, ◌==◌, not, nat_lt, slice_index}
use Rattle.std.specs.Int.{w16, from_be_bytes}
use Rattle.std.specs.List.{enumerate_from, range_with_len, list_any}
use Rattle.std.proofs.lemmas.Bool.{cases_lt, cases_Bool, lt-ltb, le-ltb, ltb-false, both_ways, not-true, or_parts, ne_eqb, false_from_ne_true}
use Rattle.std.proofs.lemmas.Nat.{from_be_bytes-to_be_bytes_2}
use Rattle.std.proofs.lemmas.List.{same_lists, get_or-take, get_or_default, length-take, get_or_past, drop_all}
use Rattle.std.proofs.lemmas.List.Sums.{count_by-le-length}
use Rattle.std.proofs.lemmas.List.Folds.{list_any_at}
use Rattle.std.proofs.lemmas.List.FromFn.{length-map-range_with_len, get_or-map-range_with_len, length-enumerate_from, get_or-enumerate_from}
use Rattle.std.proofs.lemmas.Grind.{same_number_lists}
use Rattle.list_laws.proofs.SliceRangeLemmas.{length-range, get_or-range}
use Rattle.card_state.specs.declared.entries.Node.{Node}
use Rattle.card_state.specs.declared.entries.PinSlot.{PinSlot}
use Rattle.card_state.specs.declared.entries.Row.{Row}
use Rattle.card_state.specs.Blank.{unused_node, absent_pin, unused_row}
use Rattle.card_state.specs.Places.{row_count}
use Rattle.card_state.specs.Ranges.{HasRowRanges}
use Rattle.card_state.specs.Persistent.{Persistent}
use Rattle.card_state.specs.Numbers.{two_bytes}
use Rattle.card_state.specs.Decoding.{bytes_at, number_at, is_wide, node_bytes, pin_bytes, row_bytes, kept_bytes, node_in, pin_in, row_in, row_of, row_when, node_at, pin_at, row_at}
use Rattle.card_state.specs.Checks.{key_of_slot}
use Rattle.card_state.specs.Sections.{fits_wide, byte_total_of, needs_wide}
use Rattle.layout_entries.specs.Spelling.{node_spelled, pin_spelled, row_spelled}
use Rattle.layout_entries.proofs.SpellingLemmas.{pin_back, row_back}
use Rattle.layout_section.specs.declared.section.SpelledCard.{SpelledCard}
use Rattle.layout_section.specs.RowTables.{is_used, wants_wide, IsKeptApart}
use Rattle.layout_section.specs.Laying.{first_bytes, SpellsCard, IsWritten}
use Rattle.layout_section.proofs.RowTablesLemmas.{rows_want_wide}
use Rattle.layout_section.proofs.SpellingLemmas.{node_in_back, node_in_none}

-- a part of a part
pub part_again : (bytes : List ℕ) (from count k n : ℕ) → from + count ≤ length bytes → k + n ≤ count → bytes_at (bytes_at bytes from count) k n ≡ bytes_at bytes (from + k) n
part_again bytes from count k n fits inside =
    let whole : length (bytes_at bytes from count) ≡ count = length-range bytes from count fits in
    let first : length (bytes_at (bytes_at bytes from count) k n) ≡ n = length-range (bytes_at bytes from count) k n (omega arith) in
    let second : length (bytes_at bytes (from + k) n) ≡ n = length-range bytes (from + k) n (omega arith) in
    same_number_lists _ _ (first ∙ sym second)
    (λ j h.
    let low : j < n = omega arith in
    let sum : from + (k + j) ≡ from + k + j = omega arith in
    get_or-range (bytes_at bytes from count) k n j low ∙ get_or-range bytes from count (k + j) (omega arith) ∙ ap (λ (i : ℕ). get_or bytes i 0) sum ∙ sym (get_or-range bytes (from + k) n j low))

-- the first elements are those of these numbers
pub front_filled : {X : Type 0} (f : ℕ → X) (xs : List X) (n : ℕ) → n ≤ length xs → ((k : ℕ) (d : X) → k < n → f k ≡ get_or xs k d) → map f (range_with_len 0 n) ≡ take n xs
front_filled f xs n few each =
    let long : length (take n xs) ≡ n = omega (arith, length-take n xs) in
    let made : length (map f (range_with_len 0 n)) ≡ n = length-map-range_with_len f 0 n in
    same_lists (map f (range_with_len 0 n)) (take n xs) (made ∙ sym long)
    (λ k d h.
    let low : k < n = omega arith in
    get_or-map-range_with_len f 0 n k k d low (omega arith) ∙ each k d low ∙ sym (get_or-take n xs k d low))

pub all_filled : {X : Type 0} (f : ℕ → X) (xs : List X) (n : ℕ) → length xs ≡ n → ((k : ℕ) (d : X) → k < n → f k ≡ get_or xs k d) → map f (range_with_len 0 n) ≡ xs
all_filled f xs n long each =
    let made : length (map f (range_with_len 0 n)) ≡ n = length-map-range_with_len f 0 n in
    same_lists (map f (range_with_len 0 n)) xs (made ∙ sym long)
    (λ k d h.
    let low : k < n = omega arith in
    get_or-map-range_with_len f 0 n k k d low (omega arith) ∙ each k d low)

version_step : (wide : Bool) → (cond wide 2 1 == 2) ≡ wide
version_step true = refl
version_step false = refl

module _ (mark : ℕ) (state : Persistent) (card : SpelledCard) (content : List ℕ) (spells : SpellsCard mark state card) (is : IsWritten card content) where
  inside : (at count off n : ℕ) (region : List ℕ) → bytes_at content at count ≡ region → at + count ≤ 65536 → off + n ≤ count → bytes_at content (at + off) n ≡ bytes_at region off n
  inside at count off n region same fits low = sym (part_again content at count off n (omega (arith, is.behind.long)) low) ∙ ap (λ (l : List ℕ). bytes_at l off n) same

  -- ---- the first bytes

  pub first_byte : (k : ℕ) → k < 8 → slice_index content k ≡ get_or (first_bytes card.wide mark state.next_sequence) k 0
  first_byte k low =
      sym (get_or-range content 0 8 k low ∙ ap (λ (n : ℕ). get_or content n 0) (omega arith)) ∙ ap (λ (l : List ℕ). get_or l k 0) (is.first ∙ spells.first)

  pub wide_there : is_wide content ≡ card.wide
  wide_there = ap (λ (n : ℕ). n == 2) (first_byte 4 (omega arith)) ∙ version_step card.wide

  next_low : state.next_sequence < 2 ^ 16
  next_low = omega (arith, spells.rows.are.count, count_by-le-length is_used spells.rows.rows, spells.rows.are.long)

  pub next_there : number_at content 6 ≡ state.next_sequence
  next_there =
      let at : bytes_at content 6 2 ≡ two_bytes state.next_sequence =
      inside 0 8 6 2 card.first is.first (omega arith) (omega arith) ∙ ap (λ (l : List ℕ). bytes_at l 6 2) spells.first in
      ap (λ (l : List ℕ). from_be_bytes w16 l) at ∙ from_be_bytes-to_be_bytes_2 state.next_sequence next_low

  -- ---- files

  abbrev nodes : List Node
  nodes = spells.files.nodes

  abbrev node_k : ℕ → Node
  node_k k = get_or nodes k unused_node

  pub node_bytes_there : (k : ℕ) → k < 128 → node_bytes content k ≡ node_spelled (node_k k)
  node_bytes_there k low = inside 1920 2048 (16 * k) 16 card.files.entries is.behind.entries (omega arith) (omega arith) ∙ spells.files.spelled_at k low

  pub node_used : (k : ℕ) → k < length nodes → (node_k k).used ≡ true
  node_used k low = ⊎_elim {C = (node_k k).used ≡ true} (λ df. ap (λ (n : Node). n.used) df) (λ ef. ef.used) (spells.files.are.each k low)

  pub node_none : (k : ℕ) → length nodes ≤ k → node_k k ≡ unused_node
  node_none k high = get_or_past nodes k unused_node high

  pub node_there : (k : ℕ) → k < 128 → node_at content k ≡ node_k k
  node_there k low =
      ap node_in (node_bytes_there k low)
      ∙ ⊎_elim {C = node_in (node_spelled (node_k k)) ≡ node_k k}
      (λ used. node_in_back (node_k k) (spells.files.are.ranges k used) (node_used k used))
      (λ none. ap (λ (n : Node). node_in (node_spelled n)) (node_none k none) ∙ node_in_none ∙ sym (node_none k none)) (cases_lt k (length nodes))

  pub nodes_before : (k : ℕ) → k ≤ length nodes → map (node_at content) (range_with_len 0 k) ≡ take k nodes
  nodes_before k few = front_filled (node_at content) nodes k few (λ j d low. node_there j (omega (arith, spells.files.few)) ∙ get_or_default nodes j unused_node d (omega arith))

  -- ---- PINs

  abbrev slots : List PinSlot
  slots = spells.pins.slots

  abbrev slot_k : ℕ → PinSlot
  slot_k k = get_or slots k absent_pin

  pub pin_bytes_there : (k : ℕ) → k < 3 → pin_bytes content k ≡ pin_spelled (slot_k k)
  pin_bytes_there k low = inside 832 64 (20 * k) 20 card.pins is.behind.pins (omega arith) (omega arith) ∙ spells.pins.spelled_at k low

  pub pin_there : (k : ℕ) → k < 3 → pin_at content k ≡ slot_k k
  pin_there k low =
      ap pin_in (pin_bytes_there k low)
      ∙ ⊎_elim {C = pin_in (pin_spelled (slot_k k)) ≡ slot_k k}
      (λ absent. ap (λ (s : PinSlot). pin_in (pin_spelled s)) absent ∙ ap (λ (s : PinSlot). let shown : PinSlot = cond (s.key == 0) absent_pin s in shown) (pin_back absent_pin (record { value = refl; unblock = refl })) ∙ sym absent)
      (λ new.
      ap (λ (s : PinSlot). let shown : PinSlot = cond (s.key == 0) absent_pin s in shown) (pin_back (slot_k k) (record { value = new.value_long; unblock = new.unblock_long }))
      ∙ ap (λ b. let shown : PinSlot = cond b absent_pin (slot_k k) in shown) (ne_eqb (slot_k k).key 0 (λ e. some_key k low (sym new.own ∙ e))))
      (spells.pins.are k low) where
        some_key : (k : ℕ) → k < 3 → key_of_slot k ≢ 0
        some_key zero low e = absurd (omega arith)
        some_key (suc zero) low e = absurd (omega arith)
        some_key (suc (suc zero)) low e = absurd (omega arith)
        some_key (suc (suc (suc k))) low e = absurd (omega arith)

  pub pins_there : map (pin_at content) (range_with_len 0 3) ≡ slots
  pins_there = all_filled (pin_at content) slots 3 spells.pins.long (λ k d low. pin_there k low ∙ get_or_default slots k absent_pin d (omega (arith, spells.pins.long)))

  -- ---- rows

  abbrev rows : List Row
  rows = spells.rows.rows

  abbrev row_k : ℕ → Row
  row_k k = get_or rows k unused_row

  row_low : (k : ℕ) → k < 16 → row_bytes content k ≡ row_spelled (row_k k)
  row_low k low =
      ap (λ (n : ℕ). bytes_at content n 51) (ap (λ b. let at : ℕ = cond b (896 + 64 * k) (63488 + 64 * (k - 16)) in at) (lt-ltb k 16 low))
      ∙ inside 896 1024 (64 * k) 51 card.rows.lower is.behind.lower (omega arith) (omega arith) ∙ spells.rows.low k low

  row_high : (k : ℕ) → card.wide ≡ true → 16 ≤ k → k < 32 → row_bytes content k ≡ row_spelled (row_k k)
  row_high k wide high low =
      let back : 16 + (k - 16) ≡ k = omega arith in
      ap (λ (n : ℕ). bytes_at content n 51) (ap (λ b. let at : ℕ = cond b (896 + 64 * k) (63488 + 64 * (k - 16)) in at) (le-ltb k 16 high))
      ∙ inside 63488 1024 (64 * (k - 16)) 51 card.rows.upper (is.behind.upper wide) (omega arith) (omega arith) ∙ spells.rows.high (k - 16) (omega arith) ∙ ap (λ (n : ℕ). row_spelled (row_k n)) back

  pub row_bytes_there : (k : ℕ) → k < row_count card.wide → row_bytes content k ≡ row_spelled (row_k k)
  row_bytes_there k low = by_width card.wide refl low where
    by_width : (wide : Bool) → card.wide ≡ wide → k < row_count wide → row_bytes content k ≡ row_spelled (row_k k)
    by_width true is_wide below = ⊎_elim {C = row_bytes content k ≡ row_spelled (row_k k)} (λ h. row_low k h) (λ h. row_high k is_wide h below) (cases_lt k 16)
    by_width false is_wide below = row_low k below

  kept_there : (k : ℕ) → card.wide ≡ true → k < 32 → IsKeptApart (row_k k) (kept_bytes content k)
  kept_there k wide low =
      subst (IsKeptApart (row_k k)) (sym (inside 64512 1024 (32 * k) 32 card.rows.kept (is.behind.kept wide) (omega arith) (omega arith))) (spells.rows.more k low)

  pub row_ranges : (k : ℕ) → k < 32 → HasRowRanges (row_k k)
  row_ranges k low =
      ⊎_elim {C = HasRowRanges (row_k k)}
      (λ used. let new = spells.rows.are.each k low used in record { sequence = omega (arith, new.sequence, next_low); events = omega (arith, new.events); text = new.text; kept = new.kept })
      (λ unused. subst HasRowRanges (sym (spells.rows.are.blank k low unused)) (record { sequence = omega arith; events = omega arith; text = omega arith; kept = omega arith })) (cases_Bool (row_k k).used)

  -- a row that needs a wide card is on one
  narrow_row : (k : ℕ) → card.wide ≡ false → k < 32 → wants_wide k (row_k k) ≡ false
  narrow_row k narrow low =
      let narrow_total : fits_wide (byte_total_of state.files) ≡ false = sym spells.wide ∙ narrow in
      let none : list_any needs_wide state.rows ≡ false =
      not-true (list_any needs_wide state.rows) (sym (ap (λ b. b || not (list_any needs_wide state.rows)) narrow_total) ∙ spells.fit) in
      let all : list_any (λ entry. wants_wide entry.0 entry.1) (enumerate_from 0 rows) ≡ false = sym (rows_want_wide rows) ∙ ap (list_any needs_wide) spells.rows.is ∙ none in
      let here : get_or (enumerate_from 0 rows) k (0, unused_row) ≡ (k, row_k k) = get_or-enumerate_from 0 rows k (0, unused_row) (omega (arith, spells.rows.are.long)) ∙ ap (λ (n : ℕ). let pair : ℕ × Row = (n, row_k k) in pair) (omega arith) in
      false_from_ne_true (wants_wide k (row_k k))
      (λ wants. both_ways (list_any (λ entry. wants_wide entry.0 entry.1) (enumerate_from 0 rows)) all
      (list_any_at (λ entry. wants_wide entry.0 entry.1) (enumerate_from 0 rows) k (0, unused_row) (omega (arith, length-enumerate_from 0 rows, spells.rows.are.long)) (ap (λ entry. wants_wide entry.0 entry.1) here ∙ wants)))

  pub narrow_parts : (k : ℕ) → card.wide ≡ false → k < 32 → (row_k k).used ≡ true → (k ≤ 15) × (length (row_k k).kept ≤ 32)
  narrow_parts k narrow low used =
      let parts = or_parts (nat_lt 15 k) (nat_lt 32 (length (row_k k).kept)) (sym (ap (λ b. b && (nat_lt 15 k || nat_lt 32 (length (row_k k).kept))) used) ∙ narrow_row k narrow low) in
      (ltb-false 15 k parts.0, ltb-false 32 (length (row_k k).kept) parts.1)

  narrow_kept : (k : ℕ) → card.wide ≡ false → k < 32 → IsKeptApart (row_k k) []
  narrow_kept k narrow low =
      let few : length (row_k k).kept ≤ 32 =
      ⊎_elim {C = length (row_k k).kept ≤ 32} (λ used. (narrow_parts k narrow low used).1) (λ unused. omega (arith, ap (λ (r : Row). length r.kept) (spells.rows.are.blank k low unused))) (cases_Bool (row_k k).used) in
      let none : length (row_k k).kept - 32 ≡ 0 = omega arith in
      ap (λ (n : ℕ). take n []) none ∙ sym (drop_all 32 (row_k k).kept few)

  -- a row as it is read, also where it is not used
  pub row_read : (k : ℕ) → k < row_count card.wide → row_of (row_bytes content k) (cond (is_wide content) (kept_bytes content k) []) ≡ row_k k
  row_read k low =
      ap (λ b. row_of (row_bytes content k) (cond b (kept_bytes content k) [])) wide_there
      ∙ ap (λ (l : List ℕ). row_of l (cond card.wide (kept_bytes content k) [])) (row_bytes_there k low) ∙ by_width card.wide refl low where
        by_width : (wide : Bool) → card.wide ≡ wide → k < row_count wide → row_of (row_spelled (row_k k)) (cond wide (kept_bytes content k) []) ≡ row_k k
        by_width true is_wide below = row_back (row_k k) (kept_bytes content k) (row_ranges k below) (kept_there k is_wide below)
        by_width false narrow below = row_back (row_k k) [] (row_ranges k (omega arith)) (narrow_kept k narrow (omega arith))

  shown : (k : ℕ) → k < 32 → (let row : Row = cond (row_k k).used (row_k k) unused_row in row) ≡ row_k k
  shown k low =
      ⊎_elim {C = (let row : Row = cond (row_k k).used (row_k k) unused_row in row) ≡ row_k k}
      (λ used. ap (λ b. let row : Row = cond b (row_k k) unused_row in row) used)
      (λ unused. ap (λ b. let row : Row = cond b (row_k k) unused_row in row) unused ∙ sym (spells.rows.are.blank k low unused)) (cases_Bool (row_k k).used)

  unused_above : (k : ℕ) → card.wide ≡ false → 16 ≤ k → k < 32 → row_k k ≡ unused_row
  unused_above k narrow high low =
      ⊎_elim {C = row_k k ≡ unused_row} (λ used. absurd (omega (arith, (narrow_parts k narrow low used).0))) (λ unused. spells.rows.are.blank k low unused) (cases_Bool (row_k k).used)

  pub row_there : (k : ℕ) → k < 32 → row_at content k ≡ row_k k
  row_there k low =
      ap (λ b. row_when b k (row_bytes content k) (kept_bytes content k)) wide_there ∙ by_width card.wide refl where
        read : (wide : Bool) → card.wide ≡ wide → k < row_count wide → row_in (row_bytes content k) (cond wide (kept_bytes content k) []) ≡ row_k k
        read wide is_wide below =
            ap (λ (r : Row). let row : Row = cond r.used r unused_row in row)
            (ap (λ b. row_of (row_bytes content k) (cond b (kept_bytes content k) [])) (sym (wide_there ∙ is_wide)) ∙ row_read k (subst (λ b. k < row_count b) (sym is_wide) below)) ∙ shown k low

        by_width : (wide : Bool) → card.wide ≡ wide → row_when wide k (row_bytes content k) (kept_bytes content k) ≡ row_k k
        by_width true is_wide = ap (λ b. let row : Row = cond b (row_in (row_bytes content k) (kept_bytes content k)) unused_row in row) (lt-ltb k 32 low) ∙ read true is_wide low
        by_width false narrow =
            ⊎_elim {C = row_when false k (row_bytes content k) (kept_bytes content k) ≡ row_k k}
            (λ below. ap (λ b. let row : Row = cond b (row_in (row_bytes content k) []) unused_row in row) (lt-ltb k 16 below) ∙ read false narrow below)
            (λ high. ap (λ b. let row : Row = cond b (row_in (row_bytes content k) []) unused_row in row) (le-ltb k 16 high) ∙ sym (unused_above k narrow high low)) (cases_lt k 16)

  pub rows_there : map (row_at content) (range_with_len 0 32) ≡ rows
  rows_there = all_filled (row_at content) rows 32 spells.rows.are.long (λ k d low. row_there k low ∙ get_or_default rows k unused_row d (omega (arith, spells.rows.are.long)))

  pub rows_before : (k : ℕ) → k ≤ 32 → map (row_at content) (range_with_len 0 k) ≡ take k rows
  rows_before k few = front_filled (row_at content) rows k (omega (arith, spells.rows.are.long)) (λ j d low. row_there j (omega arith) ∙ get_or_default rows j unused_row d (omega (arith, spells.rows.are.long)))

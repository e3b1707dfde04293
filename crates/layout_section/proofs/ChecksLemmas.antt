-- A memory in which a card is written passes all checks.
use Rattle.std.proofs.Common.{zero, suc, get_or, ◌≡◌, ℕ, ◌+◌, ◌/◌, ◌%◌, ◌≤◌, ◌<◌, Bool, true, false, cond, List, [], ◌∷◌, ◌++◌, length, take, map, refl, sym, ◌∙◌, ap, subst, inl, inr, ⊎_elim, arith, Option, Some, None, ◌⊎◌, ◌&&◌, ◌||◌, ◌==◌, not, nat_lt, nat_le, find, slice_index, count_by, option_map}
use Rattle.std.specs.Int.{from_bool}
use Rattle.std.specs.List.{range_with_len, list_any, list_all}
use Rattle.std.proofs.lemmas.Bool.{cases_lt, cases_Bool, cases_eq, lt-ltb, le-leb, lt-leb, leb-true, eq-eqb, ne_eqb, and_from, and_left, and_right, or_left, or_right, not_from_false, false_from_ne_true}
use Rattle.std.proofs.lemmas.List.{get_or-take, get_or_default, length-take}
use Rattle.std.proofs.lemmas.List.Sums.{sum_by-cons, sum_by-take-le, sum_by_more_le, count_by_more_yes}
use Rattle.std.proofs.lemmas.List.Recursion.{or_from_places, and_from_places}
use Rattle.std.proofs.Math.Nat.{mul-div_cancel_left, mul-mod_right}
use Rattle.card_state.specs.Ranges.{HasNodeRanges}
use Rattle.card_state.specs.declared.entries.Node.{Node}
use Rattle.card_state.specs.declared.entries.PinSlot.{PinSlot}
use Rattle.card_state.specs.declared.entries.Row.{Row}
use Rattle.card_state.specs.Blank.{unused_node, absent_pin, unused_row}
use Rattle.card_state.specs.Kinds.{df_kind, cyclic_kind, has_records, is_ef_kind}
use Rattle.card_state.specs.Places.{data_place, data_end, row_count, kept_limit}
use Rattle.card_state.specs.Persistent.{Persistent}
use Rattle.card_state.specs.Decoding.{is_wide, number_at, node_of, node_bytes, row_bytes, node_at, row_at}
use Rattle.card_state.specs.Checks.{Check, checks, first_failed, header_checks, pin_checks, row_checks, node_checks, pin_check, row_check, node_check, is_pin, is_row, is_node, is_flag, key_of_slot, is_registration, has_known_numbers, has_short_parts, has_own_sequence, has_sequence_of, leaves_call_control, leaves_texts, is_call_control, has_row_text, is_mf, has_place_in_tree, is_ef, has_own_short, is_life_cycle, has_own_bytes, lies_among_files, shares_no_byte, is_apart, has_right_records, has_whole_records, shows_item}
use Rattle.card_state.specs.Sections.{byte_total_of}
use Rattle.card_state.proofs.RowPlaceLemmas.{below_32}
use Rattle.layout_entries.specs.Spelling.{node_spelled, pin_spelled, row_spelled}
use Rattle.layout_entries.proofs.SpellingLemmas.{node_back, pin_back, kept_count}
use Rattle.layout_section.specs.declared.section.SpelledCard.{SpelledCard}
use Rattle.layout_section.specs.Filing.{all_bytes, size_total, IsEfBehind, HasRecords}
use Rattle.layout_section.specs.Laying.{first_bytes, SpellsCard, IsWritten}
use Rattle.layout_section.proofs.FilingLemmas.{ends_before, total_is}
use Rattle.layout_section.proofs.SpellingLemmas.{no_ranges, row_flag, node_flag, pin_flag, text_count_there}
use Rattle.layout_section.proofs.IsWrittenLemmas.{first_byte, wide_there, next_there, node_bytes_there, node_none, nodes_before, pin_bytes_there, row_bytes_there, row_read, rows_before, narrow_parts}

-- ---- checks that are all met

abbrev AllMet : List Check → Type 0
AllMet [] = Unit {0}
AllMet (check ∷ list) = (check.is_met ≡ true) × AllMet list

AllMet-append : (a b : List Check) → AllMet a → AllMet b → AllMet (a ++ b)
AllMet-append [] b first second = second
AllMet-append (check ∷ a) b first second = (first.0, AllMet-append a b first.1 second)

AllMet-map : (f : ℕ → Check) (from count : ℕ) → ((k : ℕ) → from ≤ k → k < from + count → (f k).is_met ≡ true) → AllMet (map f (range_with_len from count))
AllMet-map f from zero each = tt
AllMet-map f from (suc count) each = (each from (omega arith) (omega arith), AllMet-map f (from + 1) count (λ k low high. each k (omega arith) (omega arith)))

none_failed : (list : List Check) → AllMet list → first_failed list ≡ None
none_failed [] met = refl
none_failed (check ∷ list) met =
    ap (λ b. let o : Option ℕ = option_map (λ (c : Check). c.place) (cond (not b) (Some check) (find (λ (c : Check). not c.is_met) list)) in o) met.0 ∙ none_failed list met.1

flag_low : (flag : Bool) → is_flag (from_bool flag) ≡ true
flag_low true = refl
flag_low false = refl

count_same : {X : Type 0} (p q : X → Bool) (xs : List X) → ((k : ℕ) (d : X) → k < length xs → p (get_or xs k d) ≡ q (get_or xs k d)) → count_by p xs ≡ count_by q xs
count_same p q [] each = refl
count_same p q (x ∷ xs) each =
    sum_by-cons (λ y. cond (p y) 1 0) x xs ∙ ap (λ b. let n : ℕ = cond b 1 0 in n + count_by p xs) (each 0 x (omega arith))
    ∙ ap (λ n. let m : ℕ = cond (q x) 1 0 in m + n) (count_same p q xs (λ k d low. each (suc k) d (omega arith))) ∙ sym (sum_by-cons (λ y. cond (q y) 1 0) x xs)

version_known : (wide : Bool) → (let v : ℕ = cond wide 2 1 in v == 1 || v == 2) ≡ true
version_known true = refl
version_known false = refl

module _ (mark : ℕ) (state : Persistent) (card : SpelledCard) (content : List ℕ) (spells : SpellsCard mark state card) (is : IsWritten card content) where
  abbrev node : ℕ → Node
  node k = get_or spells.files.nodes k unused_node

  abbrev row : ℕ → Row
  row k = get_or spells.rows.rows k unused_row

  abbrev slot : ℕ → PinSlot
  slot k = get_or spells.pins.slots k absent_pin

  -- ---- the first bytes

  byte : (k : ℕ) → k < 8 → slice_index content k ≡ get_or (first_bytes card.wide mark state.next_sequence) k 0
  byte k low = first_byte mark state card content spells is k low

  header_met : AllMet (header_checks mark content)
  header_met = (
    rw (byte 0 (omega arith), byte 1 (omega arith), byte 2 (omega arith), byte 3 (omega arith)) refl,
    (
      ap (λ n. n == 1 || n == 2) (byte 4 (omega arith)) ∙ version_known card.wide,
      (ap (λ n. n == mark) (byte 5 (omega arith)) ∙ eq-eqb mark mark refl, tt),
    ),
  )

  -- ---- PINs

  pin_met : (k : ℕ) → k < 3 → (pin_check content k).is_met ≡ true
  pin_met k low =
      ap (is_pin (key_of_slot k)) (pin_bytes_there mark state card content spells is k low)
      ∙ ⊎_elim {C = is_pin (key_of_slot k) (pin_spelled (slot k)) ≡ true}
      (λ absent. ap (λ (s : PinSlot). is_pin (key_of_slot k) (pin_spelled s)) absent
      ∙ ap (λ (s : PinSlot). s.key == 0 || (s.key == key_of_slot k && is_flag (slice_index (pin_spelled absent_pin) 1) && nat_le s.tries 3 && nat_le s.unblock_tries 10)) (pin_back absent_pin (record { value = refl; unblock = refl })))
      (λ new.
      ap (λ (s : PinSlot). s.key == 0 || (s.key == key_of_slot k && is_flag (slice_index (pin_spelled (slot k)) 1) && nat_le s.tries 3 && nat_le s.unblock_tries 10)) (pin_back (slot k) (record { value = new.value_long; unblock = new.unblock_long }))
      ∙ or_right ((slot k).key == 0) ((slot k).key == key_of_slot k && is_flag (slice_index (pin_spelled (slot k)) 1) && nat_le (slot k).tries 3 && nat_le (slot k).unblock_tries 10)
      (and_from ((slot k).key == key_of_slot k && is_flag (slice_index (pin_spelled (slot k)) 1) && nat_le (slot k).tries 3) (nat_le (slot k).unblock_tries 10)
      (and_from ((slot k).key == key_of_slot k && is_flag (slice_index (pin_spelled (slot k)) 1)) (nat_le (slot k).tries 3)
      (and_from ((slot k).key == key_of_slot k) (is_flag (slice_index (pin_spelled (slot k)) 1)) (eq-eqb (slot k).key (key_of_slot k) new.own) (ap is_flag (pin_flag (slot k)) ∙ flag_low (slot k).enabled))
      (le-leb (slot k).tries 3 (omega (arith, new.tries))))
      (le-leb (slot k).unblock_tries 10 (omega (arith, new.unblock_tries)))))
      (spells.pins.are k low)

  -- ---- rows

  taken_row : (k j : ℕ) → j < k → get_or (take k spells.rows.rows) j unused_row ≡ row j
  taken_row k j low = get_or-take k spells.rows.rows j unused_row low

  unused_or : (j : ℕ) → j < 32 → ((row j).used ≡ true) ⊎ (row j ≡ unused_row)
  unused_or j low = ⊎_elim {C = ((row j).used ≡ true) ⊎ (row j ≡ unused_row)} (λ used. inl used) (λ unused. inr (spells.rows.are.blank j low unused)) (cases_Bool (row j).used)

  kept_fits : (k : ℕ) → k < row_count card.wide → (row k).used ≡ true → length (row k).kept ≤ kept_limit card.wide
  kept_fits k low used = by_width card.wide refl low where
    by_width : (wide : Bool) → card.wide ≡ wide → k < row_count wide → length (row k).kept ≤ kept_limit wide
    by_width true is_wide below = (spells.rows.are.each k below used).kept
    by_width false narrow below = (narrow_parts mark state card content spells is k narrow (omega arith) used).1

  registered_row : (k : ℕ) → k < row_count card.wide → (row k).used ≡ true → is_registration card.wide state.next_sequence (take k spells.rows.rows) (row_spelled (row k)) (row k) ≡ true
  registered_row k low used =
      let new = spells.rows.are.each k (below_32 card.wide k low) used in
      let inside : k < 32 = below_32 card.wide k low in
      let numbers : has_known_numbers state.next_sequence (row k) ≡ true =
      and_from (nat_le 1 (row k).kind && nat_le (row k).kind 7 && nat_le 1 (row k).priority && nat_lt (row k).sequence state.next_sequence) (nat_lt (row k).events 4096)
      (and_from (nat_le 1 (row k).kind && nat_le (row k).kind 7 && nat_le 1 (row k).priority) (nat_lt (row k).sequence state.next_sequence)
      (and_from (nat_le 1 (row k).kind && nat_le (row k).kind 7) (nat_le 1 (row k).priority)
      (and_from (nat_le 1 (row k).kind) (nat_le (row k).kind 7) (le-leb 1 (row k).kind new.kind.0) (le-leb (row k).kind 7 new.kind.1)) (le-leb 1 (row k).priority new.priority))
      (lt-ltb (row k).sequence state.next_sequence new.sequence))
      (lt-ltb (row k).events 4096 new.events) in
      let parts : has_short_parts card.wide (row_spelled (row k)) ≡ true =
      and_from (nat_le (slice_index (row_spelled (row k)) 7) 10) (nat_le (slice_index (row_spelled (row k)) 18) (kept_limit card.wide))
      (ap (λ n. nat_le n 10) (text_count_there (row k)) ∙ le-leb (length (row k).text) 10 new.text)
      (ap (λ n. nat_le n (kept_limit card.wide)) (kept_count (row k)) ∙ le-leb (length (row k).kept) (kept_limit card.wide) (kept_fits k low used)) in
      let earlier : List Row = take k spells.rows.rows in
      let long : length (take k spells.rows.rows) ≡ k = omega (arith, length-take k spells.rows.rows, spells.rows.are.long) in
      let own : has_own_sequence (take k spells.rows.rows) (row k) ≡ true =
      not_from_false (list_any (has_sequence_of (row k)) (take k spells.rows.rows))
      (or_from_places (list_any (has_sequence_of (row k))) (has_sequence_of (row k)) refl (λ _ _. refl) (take k spells.rows.rows) unused_row
      (λ j h.
      let less : j < k = omega arith in
      ap (has_sequence_of (row k)) (taken_row k j less)
      ∙ ⊎_elim {C = has_sequence_of (row k) (row j) ≡ false}
      (λ there. and_right (row j).used ((row j).sequence == (row k).sequence) (ne_eqb (row j).sequence (row k).sequence (spells.rows.are.apart j k less inside there used)))
      (λ none. ap (has_sequence_of (row k)) none) (unused_or j (omega arith)))) in
      let calls : leaves_call_control (take k spells.rows.rows) (row k) ≡ true =
      not_from_false (is_call_control (row k) && list_any is_call_control (take k spells.rows.rows))
      (⊎_elim {C = (is_call_control (row k) && list_any is_call_control (take k spells.rows.rows)) ≡ false}
      (λ call. and_right (is_call_control (row k)) (list_any is_call_control (take k spells.rows.rows))
      (or_from_places (list_any is_call_control) is_call_control refl (λ _ _. refl) (take k spells.rows.rows) unused_row
      (λ j h.
      let less : j < k = omega arith in
      ap is_call_control (taken_row k j less)
      ∙ ⊎_elim {C = is_call_control (row j) ≡ false}
      (λ there. false_from_ne_true (is_call_control (row j)) (λ other. spells.rows.are.calls j k less inside (and_from (row j).used (is_call_control (row j)) there other) (and_from (row k).used (is_call_control (row k)) used call)))
      (λ none. ap is_call_control none) (unused_or j (omega arith)))))
      (λ no_call. and_left (is_call_control (row k)) (list_any is_call_control (take k spells.rows.rows)) no_call) (cases_Bool (is_call_control (row k)))) in
      let same_texts : count_by has_row_text (take k spells.rows.rows) ≡ count_by shows_item (take k spells.rows.rows) =
      count_same has_row_text shows_item (take k spells.rows.rows)
      (λ j d h.
      let less : j < k = omega arith in
      let at : get_or (take k spells.rows.rows) j d ≡ row j = get_or_default (take k spells.rows.rows) j d unused_row h ∙ taken_row k j less in
      ap has_row_text at
      ∙ ⊎_elim {C = has_row_text (row j) ≡ shows_item (row j)} (λ there. sym (ap (λ b. b && has_row_text (row j)) there)) (λ none. ap has_row_text none ∙ sym (ap shows_item none)) (unused_or j (omega arith))
      ∙ sym (ap shows_item at)) in
      let texts : leaves_texts (take k spells.rows.rows) (row k) ≡ true =
      not_from_false (has_row_text (row k) && nat_le 16 (count_by has_row_text (take k spells.rows.rows)))
      (⊎_elim {C = (has_row_text (row k) && nat_le 16 (count_by has_row_text (take k spells.rows.rows))) ≡ false}
      (λ text.
      let counted : count_by shows_item (take (k + 1) spells.rows.rows) ≡ count_by shows_item (take k spells.rows.rows) + 1 =
      count_by_more_yes shows_item spells.rows.rows k unused_row (omega (arith, spells.rows.are.long)) (and_from (row k).used (has_row_text (row k)) used text) in
      and_right (has_row_text (row k)) (nat_le 16 (count_by has_row_text (take k spells.rows.rows)))
      (lt-leb 16 (count_by has_row_text (take k spells.rows.rows)) (omega (arith, same_texts, counted, sum_by-take-le (λ (r : Row). let n : ℕ = cond (shows_item r) 1 0 in n) spells.rows.rows (k + 1), spells.rows.are.texts))))
      (λ no_text. and_left (has_row_text (row k)) (nat_le 16 (count_by has_row_text (take k spells.rows.rows))) no_text) (cases_Bool (has_row_text (row k)))) in
      and_from (has_known_numbers state.next_sequence (row k) && has_short_parts card.wide (row_spelled (row k)) && has_own_sequence (take k spells.rows.rows) (row k) && leaves_call_control (take k spells.rows.rows) (row k)) (leaves_texts (take k spells.rows.rows) (row k))
      (and_from (has_known_numbers state.next_sequence (row k) && has_short_parts card.wide (row_spelled (row k)) && has_own_sequence (take k spells.rows.rows) (row k)) (leaves_call_control (take k spells.rows.rows) (row k))
      (and_from (has_known_numbers state.next_sequence (row k) && has_short_parts card.wide (row_spelled (row k))) (has_own_sequence (take k spells.rows.rows) (row k))
      (and_from (has_known_numbers state.next_sequence (row k)) (has_short_parts card.wide (row_spelled (row k))) numbers parts) own) calls) texts

  row_met : (k : ℕ) → k < row_count card.wide → (row_check content k).is_met ≡ true
  row_met k low =
      let below : map (row_at content) (range_with_len 0 k) ≡ take k spells.rows.rows = rows_before mark state card content spells is k (let inside : k < 32 = below_32 card.wide k low in omega arith) in
      ap (λ r. is_row (is_wide content) (number_at content 6) (map (row_at content) (range_with_len 0 k)) (row_bytes content k) r) (row_read mark state card content spells is k low)
      ∙ ap (λ w. is_row w (number_at content 6) (map (row_at content) (range_with_len 0 k)) (row_bytes content k) (row k)) (wide_there mark state card content spells is)
      ∙ ap (λ n. is_row card.wide n (map (row_at content) (range_with_len 0 k)) (row_bytes content k) (row k)) (next_there mark state card content spells is)
      ∙ ap (λ l. is_row card.wide state.next_sequence l (row_bytes content k) (row k)) below
      ∙ ap (λ l. is_row card.wide state.next_sequence (take k spells.rows.rows) l (row k)) (row_bytes_there mark state card content spells is k low)
      ∙ and_from (is_flag (slice_index (row_spelled (row k)) 0)) (not (row k).used || is_registration card.wide state.next_sequence (take k spells.rows.rows) (row_spelled (row k)) (row k))
      (ap is_flag (row_flag (row k)) ∙ flag_low (row k).used)
      (⊎_elim {C = (not (row k).used || is_registration card.wide state.next_sequence (take k spells.rows.rows) (row_spelled (row k)) (row k)) ≡ true}
      (λ used. or_right (not (row k).used) (is_registration card.wide state.next_sequence (take k spells.rows.rows) (row_spelled (row k)) (row k)) (registered_row k low used))
      (λ unused. or_left (not (row k).used) (is_registration card.wide state.next_sequence (take k spells.rows.rows) (row_spelled (row k)) (row k)) (ap not unused)) (cases_Bool (row k).used))

  -- ---- files

  abbrev nodes : List Node
  nodes = spells.files.nodes

  before : ℕ → ℕ
  before k = size_total (take k nodes)

  whole : (k : ℕ) → k < length nodes → size_total (take k nodes) + (node k).size ≤ spells.files.total
  whole k low = omega (arith, sum_by_more_le (λ (n : Node). n.size) nodes k unused_node low, spells.files.are.sum)

  total_fits : data_place + spells.files.total ≤ data_end card.wide
  unfolding all_bytes
  total_fits = by_width card.wide refl where
    total_seen : byte_total_of state.files ≡ spells.files.total
    total_seen = sym (ap byte_total_of spells.files.is) ∙ total_is spells.files.bytes nodes ∙ sym spells.files.are.sum

    by_width : (wide : Bool) → card.wide ≡ wide → data_place + spells.files.total ≤ data_end wide
    by_width true is_wide = omega (arith, leb-true (byte_total_of state.files) 59520 (sym spells.wide ∙ is_wide), total_seen)
    by_width false narrow = omega (arith, spells.files.are.fits, spells.files.are.long)

  module _ (k : ℕ) (low : k < length nodes) (ef : IsEfBehind (size_total (take k nodes)) (node k)) where
    among : lies_among_files card.wide (node k) ≡ true
    among =
        and_from (nat_le data_place (node k).place && nat_le 1 (node k).size) (nat_le ((node k).place + (node k).size) (data_end card.wide))
        (and_from (nat_le data_place (node k).place) (nat_le 1 (node k).size) (le-leb data_place (node k).place (omega (arith, ef.place))) (le-leb 1 (node k).size ef.some))
        (le-leb ((node k).place + (node k).size) (data_end card.wide) (omega (arith, ef.place, whole k low, total_fits)))

    no_byte : shares_no_byte (take k nodes) (node k) ≡ true
    no_byte =
        and_from_places (list_all (λ other. not (is_ef_kind other.kind) || is_apart (node k) other)) (λ other. not (is_ef_kind other.kind) || is_apart (node k) other) refl (λ _ _. refl) (take k nodes) unused_node
        (λ j h.
        let less : j < k = omega (arith, length-take k nodes) in
        ap (λ (other : Node). not (is_ef_kind other.kind) || is_apart (node k) other) (get_or-take k nodes j unused_node less)
        ∙ ⊎_elim {C = (not (is_ef_kind (node j).kind) || is_apart (node k) (node j)) ≡ true}
        (λ df. or_left (not (is_ef_kind (node j).kind)) (is_apart (node k) (node j)) (ap (λ (n : Node). not (is_ef_kind n.kind)) df))
        (λ other.
        or_right (not (is_ef_kind (node j).kind)) (is_apart (node k) (node j))
        (or_right (nat_le ((node k).place + (node k).size) (node j).place) (nat_le ((node j).place + (node j).size) (node k).place)
        (le-leb ((node j).place + (node j).size) (node k).place (omega (arith, other.place, ef.place, ends_before nodes j k less (omega arith))))))
        (spells.files.are.each j (omega arith)))

    right_records : has_right_records (node k) ≡ true
    right_records = by_kind (has_records (node k).kind) refl where
      by_kind : (records : Bool) → has_records (node k).kind ≡ records → has_right_records (node k) ≡ true
      by_kind false kind = ap (λ b. let t : Bool = cond b (has_whole_records (node k)) ((node k).head == 0) in t) kind ∙ eq-eqb (node k).head 0 ef.head
      by_kind true kind =
          let its : HasRecords (node k) = ef.records kind in
          let count_is : (node k).size / (node k).length ≡ its.count = ap (λ n. n / (node k).length) (sym its.fill) ∙ mul-div_cancel_left its.count its.width in
          let no_rest : (node k).size % (node k).length ≡ 0 = ap (λ n. n % (node k).length) (sym its.fill) ∙ mul-mod_right (node k).length its.count in
          let heads : (let t : Bool = cond ((node k).kind == cyclic_kind) (nat_lt (node k).head ((node k).size / (node k).length)) ((node k).head == 0) in t) ≡ true =
          head_step ((node k).kind == cyclic_kind) (nat_lt (node k).head ((node k).size / (node k).length)) ((node k).head == 0) (lt-ltb (node k).head ((node k).size / (node k).length) (omega (arith, ef.head, count_is, its.some))) (eq-eqb (node k).head 0 ef.head) in
          ap (λ b. let t : Bool = cond b (has_whole_records (node k)) ((node k).head == 0) in t) kind
          ∙ and_from (nat_le 1 (node k).length && (node k).size % (node k).length == 0 && nat_le ((node k).size / (node k).length) 254) (cond ((node k).kind == cyclic_kind) (nat_lt (node k).head ((node k).size / (node k).length)) ((node k).head == 0))
          (and_from (nat_le 1 (node k).length && (node k).size % (node k).length == 0) (nat_le ((node k).size / (node k).length) 254)
          (and_from (nat_le 1 (node k).length) ((node k).size % (node k).length == 0) (le-leb 1 (node k).length its.width) (eq-eqb ((node k).size % (node k).length) 0 no_rest))
          (le-leb ((node k).size / (node k).length) 254 (omega (arith, count_is, its.few)))) heads where
            head_step : (b x y : Bool) → x ≡ true → y ≡ true → (let t : Bool = cond b x y in t) ≡ true
            head_step true x y first second = first
            head_step false x y first second = second

    ef_met : is_ef card.wide (take k nodes) (node k) ≡ true
    ef_met =
        and_from (has_own_short (take k nodes) (node k) && is_life_cycle (node k).life && has_own_bytes card.wide (take k nodes) (node k)) (has_right_records (node k))
        (and_from (has_own_short (take k nodes) (node k) && is_life_cycle (node k).life) (has_own_bytes card.wide (take k nodes) (node k))
        (and_from (has_own_short (take k nodes) (node k)) (is_life_cycle (node k).life) (spells.files.are.short k low ef.kind) (ap is_life_cycle ef.life))
        (and_from (lies_among_files card.wide (node k)) (shares_no_byte (take k nodes) (node k)) among no_byte)) right_records

  placed : (k : ℕ) → 1 ≤ k → k < length nodes → (has_place_in_tree (take k nodes) (node k) && ((node k).kind == df_kind || is_ef card.wide (take k nodes) (node k))) ≡ true
  placed k some low =
      and_from (has_place_in_tree (take k nodes) (node k)) ((node k).kind == df_kind || is_ef card.wide (take k nodes) (node k)) (spells.files.are.tree k some low)
      (⊎_elim {C = ((node k).kind == df_kind || is_ef card.wide (take k nodes) (node k)) ≡ true}
      (λ df. or_left ((node k).kind == df_kind) (is_ef card.wide (take k nodes) (node k)) (ap (λ (n : Node). n.kind == df_kind) df))
      (λ ef. or_right ((node k).kind == df_kind) (is_ef card.wide (take k nodes) (node k)) (ef_met k low ef)) (spells.files.are.each k low))

  ranges_of : (k : ℕ) → HasNodeRanges (node k)
  ranges_of k = ⊎_elim {C = HasNodeRanges (node k)} (λ low. spells.files.are.ranges k low) (λ high. subst HasNodeRanges (sym (node_none mark state card content spells is k high)) no_ranges) (cases_lt k (length nodes))

  abbrev judged : ℕ → List Node → Node → Bool
  judged k earlier n = cond (k == 0) (is_mf n) (not n.used || (has_place_in_tree earlier n && (n.kind == df_kind || is_ef card.wide earlier n)))

  node_judged : (k : ℕ) → k < 128 → judged k (map (node_at content) (range_with_len 0 k)) (node k) ≡ true
  node_judged k low =
      ⊎_elim {C = judged k (map (node_at content) (range_with_len 0 k)) (node k) ≡ true}
      (λ first.
      ap (λ b. let t : Bool = cond b (is_mf (node k)) (not (node k).used || (has_place_in_tree (map (node_at content) (range_with_len 0 k)) (node k) && ((node k).kind == df_kind || is_ef card.wide (map (node_at content) (range_with_len 0 k)) (node k)))) in t) (eq-eqb k 0 first)
      ∙ ap (λ n. is_mf (node n)) first ∙ ap is_mf spells.files.are.mf)
      (λ later.
      ap (λ b. let t : Bool = cond b (is_mf (node k)) (not (node k).used || (has_place_in_tree (map (node_at content) (range_with_len 0 k)) (node k) && ((node k).kind == df_kind || is_ef card.wide (map (node_at content) (range_with_len 0 k)) (node k)))) in t) (ne_eqb k 0 later)
      ∙ ⊎_elim {C = (not (node k).used || (has_place_in_tree (map (node_at content) (range_with_len 0 k)) (node k) && ((node k).kind == df_kind || is_ef card.wide (map (node_at content) (range_with_len 0 k)) (node k)))) ≡ true}
      (λ there.
      ap (λ l. not (node k).used || (has_place_in_tree l (node k) && ((node k).kind == df_kind || is_ef card.wide l (node k)))) (nodes_before mark state card content spells is k (omega arith))
      ∙ or_right (not (node k).used) (has_place_in_tree (take k nodes) (node k) && ((node k).kind == df_kind || is_ef card.wide (take k nodes) (node k))) (placed k (omega arith) there))
      (λ none. or_left (not (node k).used) (has_place_in_tree (map (node_at content) (range_with_len 0 k)) (node k) && ((node k).kind == df_kind || is_ef card.wide (map (node_at content) (range_with_len 0 k)) (node k)))
      (ap (λ (n : Node). not n.used) (node_none mark state card content spells is k none)))
      (cases_lt k (length nodes)))
      (cases_eq k 0)

  node_met : (k : ℕ) → k < 128 → (node_check content k).is_met ≡ true
  node_met k low =
      let bytes_are : node_bytes content k ≡ node_spelled (node k) = node_bytes_there mark state card content spells is k low in
      ap (λ w. is_node w k (map (node_at content) (range_with_len 0 k)) (node_bytes content k) (node_of (node_bytes content k))) (wide_there mark state card content spells is)
      ∙ ap (λ l. is_node card.wide k (map (node_at content) (range_with_len 0 k)) l (node_of l)) bytes_are
      ∙ ap (λ n. is_node card.wide k (map (node_at content) (range_with_len 0 k)) (node_spelled (node k)) n) (node_back (node k) (ranges_of k))
      ∙ and_from (is_flag (slice_index (node_spelled (node k)) 0)) (judged k (map (node_at content) (range_with_len 0 k)) (node k)) (ap is_flag (node_flag (node k)) ∙ flag_low (node k).used) (node_judged k low)

  pub passes : first_failed (checks mark content) ≡ None
  unfolding checks
  passes =
      none_failed (checks mark content)
      (AllMet-append (header_checks mark content) (pin_checks content ++ (row_checks content ++ node_checks content)) header_met
      (AllMet-append (pin_checks content) (row_checks content ++ node_checks content) (AllMet-map (pin_check content) 0 3 (λ k low high. pin_met k (omega arith)))
      (AllMet-append (row_checks content) (node_checks content)
      (AllMet-map (row_check content) 0 (row_count (is_wide content)) (λ k low high. row_met k (omega (arith, ap row_count (wide_there mark state card content spells is)))))
      (AllMet-map (node_check content) 0 128 (λ k low high. node_met k (omega arith))))))

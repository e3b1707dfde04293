-- A memory stays well formed where fields of one entry are written.
use Rattle.std.proofs.Common.{◌≡◌, ◌≢◌, ◌⊎◌, ℕ, ◌+◌, ◌-◌, ◌≤◌, ◌<◌, ◌^◌, Bool, true, false, IsTrue, if◌then◌else◌, List, [], length, drop, map, slice_range, slice_index, get_or, refl, sym, ◌∙◌, ap, subst, inl, inr, ⊎_elim, lit≤, arith, length-take, get_or-set_same}
use Rattle.std.specs.Int.{w16, from_be_bytes, from_bool}
use Rattle.std.specs.List.{range_with_len, list_all}
use Rattle.std.proofs.lemmas.Bool.{cases_order, cases_Bool, and_parts, false≢true}
use Rattle.std.proofs.lemmas.Bool.Decides.{nat_tests}
use Rattle.std.proofs.lemmas.List.FromFn.{length-map-range_with_len, get_or-map-range_with_len}
use Rattle.list_laws.proofs.SliceRangeLemmas.{length-between}
use Rattle.list_laws.specs.Patches.{patched, IsApart}
use Rattle.card_state.specs.declared.entries.Node.{Node}
use Rattle.card_state.specs.declared.entries.PinSlot.{PinSlot}
use Rattle.card_state.specs.declared.entries.Row.{Row}
use Rattle.card_state.specs.declared.entries.Loaded.{Loaded}
use Rattle.card_state.specs.Blank.{unused_node}
use Rattle.card_state.specs.Places.{memory_size, pin_place, row_place, node_place, row_count, kept_limit, data_end}
use Rattle.card_state.specs.Decoding.{bytes_at, number_at, is_wide, node_of, row_of, node_bytes, pin_bytes, row_bytes, node_at, table_of}
use Rattle.card_state.specs.Checks.{key_of_slot}
use Rattle.card_state.specs.Ranges.{HasNodeRanges, HasPinRanges, HasRowRanges}
use Rattle.card_state.proofs.RowPlaceLemmas.{row_below_kept, below_32}
use Rattle.card_state.specs.Forms.{HasRightHead, IsPinForm, IsRowForm, IsNodeForm, IsWellFormed}
use Rattle.layout_entries.specs.Spelling.{node_spelled, pin_spelled, row_spelled, node_part, pin_part, row_part}
use Rattle.layout_entries.specs.Fields.{node_fields, pin_fields, row_fields, is_uncut, AreWholeFields, merged_node, node_there, shown_node}
use Rattle.layout_entries.specs.Laws.{after, KeepsBytesBeside, ChangesBytesAround, ChangesOneNode, RowsAreReadBack}
use Rattle.layout_entries.proofs.SpellingLemmas.{length-node_spelled, length-pin_spelled, length-row_spelled, kept_count}
use Rattle.layout_laws.proofs.ShownNodeLemmas.{shown_node_there}
use Rattle.layout_laws.proofs.RewrittenLemmas.{one, some, whole}
use Rattle.layout_laws.proofs.IsWellFormedLemmas.{row_where, formed_still}
use Rattle.layout_laws.proofs.HasNodeLemmas.{node_flagged}

flag_small : (flag : Bool) → from_bool flag ≤ 1
flag_small true = lit≤ tt
flag_small false = lit≤ tt

-- ---- spelled entries

node_flag_spelled : (node : Node) → get_or (node_spelled node) 0 0 ≡ from_bool node.used
unfolding node_spelled
node_flag_spelled node = refl

pin_key_spelled : (pin : PinSlot) → get_or (pin_spelled pin) 0 0 ≡ pin.key
unfolding pin_spelled
pin_key_spelled pin = refl

pin_flag_spelled : (pin : PinSlot) → get_or (pin_spelled pin) 1 0 ≡ from_bool pin.enabled
unfolding pin_spelled
pin_flag_spelled pin = refl

row_flag_spelled : (row : Row) → get_or (row_spelled row) 0 0 ≡ from_bool row.used
unfolding row_spelled
row_flag_spelled row = refl

row_text_spelled : (row : Row) → get_or (row_spelled row) 7 0 ≡ length row.text
unfolding row_spelled
row_text_spelled row = refl

row_events_spelled : (back : RowsAreReadBack) (row : Row) → HasRowRanges row → number_at (row_spelled row) 5 ≡ row.events
unfolding row_of
row_events_spelled back row ranges = ap (λ (r : Row). r.events) (back row [] ranges)

-- ---- an entry that is shown as another

shown_there : (there node : Node) → there.used ≡ true → node.used ≡ true → shown_node there ≡ shown_node node → there ≡ node
shown_there there node used new_used same = shown_node_there there node (same ∙ is_shown node new_used) new_used where
  is_shown : (n : Node) → n.used ≡ true → shown_node n ≡ n
  is_shown n is = ap (λ (b : Bool). if b then n else unused_node) is

used_shown : (there node : Node) → there.used ≡ true → node.used ≡ false → shown_node there ≡ shown_node node → ⊥
used_shown there node used unused same =
    let first : there ≡ shown_node there = sym (ap (λ (b : Bool). if b then there else unused_node) used) in
    let second : shown_node node ≡ unused_node = ap (λ (b : Bool). if b then node else unused_node) unused in
    false≢true (sym (ap (λ (n : Node). n.used) (first ∙ same ∙ second)) ∙ used)

least_end : (wide : Bool) → 63488 ≤ data_end wide
least_end true = lit≤ tt
least_end false = lit≤ tt

-- of the fields of a row that are not cut, that of its events
pub events_uncut : (from to : ℕ) → IsTrue (list_all (is_uncut from to) row_fields) → IsTrue (is_uncut from to (5, 7))
events_uncut from to uncut =
    let after_first = and_parts (is_uncut from to (0, 1)) _ uncut in
    let after_second = and_parts (is_uncut from to (1, 2)) _ after_first.1 in
    let after_third = and_parts (is_uncut from to (2, 3)) _ after_second.1 in
    let after_fourth = and_parts (is_uncut from to (3, 5)) _ after_third.1 in
    (and_parts (is_uncut from to (5, 7)) _ after_fourth.1).0

-- two rows share no byte
rows_apart : (a b : ℕ) → a < b → b < 32 → row_place a + 64 ≤ row_place b
rows_apart a b less low = grind (arith, nat_tests)

-- ---- parts of an entry

module _ (beside : KeepsBytesBeside) (around : ChangesBytesAround) (store_mark : ℕ) (content : List ℕ) (long : length content ≡ memory_size) (formed : IsWellFormed store_mark content) where
  -- so many bytes of an entry are left as they are, or written
  entry_bytes : (spelled : List ℕ) (at count from to : ℕ) → from ≤ to → to ≤ count → at + count ≤ memory_size
      → bytes_at (patched (at + from) (slice_range spelled from to) content) at count ≡ patched from (slice_range spelled from to) (bytes_at content at count)
  entry_bytes spelled at count from to order inside fits =
      around content (slice_range spelled from to) at from count (omega (arith, length-take (to - from) (drop from spelled))) (omega arith)

  entry_long : (at count : ℕ) → at + count ≤ memory_size → length (bytes_at content at count) ≡ count
  entry_long at count fits = omega (arith, length-between content at (at + count) (omega arith) (omega arith))

  -- ---- a file's entry

  pub node_formed : (changes : ChangesOneNode) (number from to : ℕ) (part new : Node) → number < 128 → AreWholeFields node_fields 16 from to → HasNodeRanges part
      → merged_node from to (node_there content number) part ≡ new → HasRightHead new → IsWellFormed store_mark (after (node_part number part from to) content)
  unfolding table_of
  node_formed changes number from to part new low fields ranges rest head =
      formed_still beside store_mark content long place bytes ends formed (omega arith) (λ slot few. inl (inl (omega arith)))
      (λ shelf few. inl (⊎_elim {C = IsApart (row_place shelf) 51 place (length bytes)} (λ lower. inl (omega (arith, lower.1))) (λ upper. inr (omega (arith, upper.0, ends_here, least_end (is_wide content)))) (row_where (is_wide content) shelf few)))
      (λ other few. ⊎_elim {C = IsApart (node_place other) 16 place (length bytes) ⊎ IsNodeForm (node_bytes now other)}
      (λ same. inr (subst (λ (n : ℕ). IsNodeForm (node_bytes now n)) (sym same) own))
      (λ apart. inl (⊎_elim {C = IsApart (node_place other) 16 place (length bytes)} (λ below. inl (omega arith)) (λ above. inr (omega (arith, ends_here))) apart))
      (cases_order other number))
    where
      place : ℕ
      place = node_place number + from

      bytes : List ℕ
      bytes = slice_range (node_spelled part) from to

      now : List ℕ
      now = patched place bytes content

      ends_here : place + length bytes ≤ node_place number + 16
      ends_here = omega (arith, length-take (to - from) (drop from (node_spelled part)), fields.order, fields.inside)

      ends : place + length bytes ≤ memory_size
      ends = omega (arith, ends_here)

      is_there : Node
      is_there = node_of (node_bytes now number)

      -- the entry as the table shows it
      shown : shown_node is_there ≡ shown_node new
      shown =
          let before : List Node = map (node_at content) (range_with_len 0 128) in
          sym (get_or-map-range_with_len (node_at now) 0 128 number number unused_node low (omega arith))
          ∙ ap (λ (t : Loaded). get_or t.nodes number unused_node) (changes content number from to part long low fields ranges)
          ∙ get_or-set_same before number (shown_node (merged_node from to (node_there content number) part)) unused_node (omega (arith, length-map-range_with_len (node_at content) 0 128))
          ∙ ap shown_node rest

      node_is : slice_index (node_bytes now number) 0 ≡ 1 → is_there ≡ new
      node_is is =
          let used : is_there.used ≡ true = node_flagged (node_bytes now number) is in
          ⊎_elim {C = is_there ≡ new} (λ new_used. shown_there is_there new used new_used shown) (λ new_unused. absurd (used_shown is_there new used new_unused shown)) (cases_Bool new.used)

      own : IsNodeForm (node_bytes now number)
      own =
          let old : List ℕ = node_bytes content number in
          let written : node_bytes now number ≡ patched from bytes old = entry_bytes (node_spelled part) (node_place number) 16 from to fields.order fields.inside (omega arith) in
          let old_long : length old ≡ 16 = entry_long (node_place number) 16 (omega arith) in
          let small : slice_index (patched from bytes old) 0 ≤ 1 =
          one (node_spelled part) old from to fields.order (omega (arith, fields.inside)) (length-node_spelled part ∙ sym old_long) (λ n. n ≤ 1) 0
          (subst (λ (n : ℕ). n ≤ 1) (sym (node_flag_spelled part)) (flag_small part.used)) (formed.nodes number low).used in
          record {
            used = subst (λ (l : List ℕ). slice_index l 0 ≤ 1) (sym written) small;
            head = λ is. subst HasRightHead (sym (node_is is)) head;
          }

  -- ---- a PIN slot

  -- a slot with a PIN is the only one with its key
  pub own_key_there : (slot : ℕ) → slot < 3 → (key : ℕ) → slice_index (pin_bytes content slot) 0 ≡ key → key ≢ 0 → key ≡ key_of_slot slot
  own_key_there slot low key is some_key = ⊎_elim {C = key ≡ key_of_slot slot} (λ none. absurd (some_key (sym is ∙ none))) (λ own. sym is ∙ own) (formed.pins slot low).key

  -- its key stays, or all of it is written
  pub pin_formed : (slot from to : ℕ) (pin : PinSlot) → slot < 3 → AreWholeFields pin_fields 20 from to → HasPinRanges pin
      → ((slice_index (pin_bytes content slot) 0 ≡ pin.key) × (pin.key ≢ 0)) ⊎ (((from ≡ 0) × (to ≡ 20)) × ((pin.key ≡ 0) ⊎ (pin.key ≡ key_of_slot slot)))
      → IsWellFormed store_mark (after (pin_part slot pin from to) content)
  pin_formed slot from to pin low fields ranges how =
      formed_still beside store_mark content long place bytes ends formed (omega arith)
      (λ other few. ⊎_elim {C = IsApart (pin_place other) 20 place (length bytes) ⊎ IsPinForm other (pin_bytes now other)}
      (λ same. inr (subst (λ (n : ℕ). IsPinForm n (pin_bytes now n)) (sym same) own))
      (λ apart. inl (⊎_elim {C = IsApart (pin_place other) 20 place (length bytes)} (λ below. inl (omega arith)) (λ above. inr (omega (arith, ends_here))) apart))
      (cases_order other slot))
      (λ shelf few. inl (inr (⊎_elim {C = place + length bytes ≤ row_place shelf} (λ lower. omega (arith, lower.0, ends_here)) (λ upper. omega (arith, upper.0, ends_here, least_end (is_wide content))) (row_where (is_wide content) shelf few))))
      (λ number few. inl (inr (omega (arith, ends_here))))
    where
      place : ℕ
      place = pin_place slot + from

      bytes : List ℕ
      bytes = slice_range (pin_spelled pin) from to

      now : List ℕ
      now = patched place bytes content

      ends_here : place + length bytes ≤ pin_place slot + 20
      ends_here = omega (arith, length-take (to - from) (drop from (pin_spelled pin)), fields.order, fields.inside)

      ends : place + length bytes ≤ memory_size
      ends = omega (arith, ends_here)

      old : List ℕ
      old = pin_bytes content slot

      old_long : length old ≡ 20
      old_long = entry_long (pin_place slot) 20 (omega arith)

      same_long : length (pin_spelled pin) ≡ length old
      same_long = length-pin_spelled pin ranges ∙ sym old_long

      fits : to ≤ length old
      fits = omega (arith, fields.inside, old_long)

      flag : slice_index (pin_spelled pin) 1 ≤ 1
      flag = subst (λ (n : ℕ). n ≤ 1) (sym (pin_flag_spelled pin)) (flag_small pin.enabled)

      byte : (P : ℕ → Type 0) (k : ℕ) → P (get_or (pin_spelled pin) k 0) → P (get_or old k 0) → P (get_or (patched from bytes old) k 0)
      byte P k = one (pin_spelled pin) old from to fields.order fits same_long P k

      rewritten : IsPinForm slot (patched from bytes old)
      rewritten =
          ⊎_elim {C = IsPinForm slot (patched from bytes old)}
          (λ stays.
          let own_key : pin.key ≡ key_of_slot slot = own_key_there slot low pin.key stays.0 stays.1 in
          record {
            key = inr (byte (λ n. n ≡ key_of_slot slot) 0 (pin_key_spelled pin ∙ own_key) (stays.0 ∙ own_key));
            enabled = λ some. byte (λ n. n ≤ 1) 1 flag ((formed.pins slot low).enabled (λ none. stays.1 (sym stays.0 ∙ none)));
          })
          (λ all.
          subst (IsPinForm slot) (sym (whole (pin_spelled pin) old from to fields.order fits same_long all.0.0 (all.0.1 ∙ sym old_long)))
          (record {
            key = ⊎_elim {C = (slice_index (pin_spelled pin) 0 ≡ 0) ⊎ (slice_index (pin_spelled pin) 0 ≡ key_of_slot slot)} (λ none. inl (pin_key_spelled pin ∙ none)) (λ own_too. inr (pin_key_spelled pin ∙ own_too)) all.1;
            enabled = λ some. flag;
          })) how

      own : IsPinForm slot (pin_bytes now slot)
      own = subst (IsPinForm slot) (sym (entry_bytes (pin_spelled pin) (pin_place slot) 20 from to fields.order fields.inside (omega arith))) rewritten

  -- ---- a row

  -- its length of kept bytes is written within its limit, or not at all
  pub row_formed : (back : RowsAreReadBack) (shelf from to : ℕ) (row : Row) → shelf < row_count (is_wide content) → from ≤ to → to ≤ 51 → IsTrue (is_uncut from to (5, 7)) → HasRowRanges row
      → row.events < 2 ^ 12 → length row.kept ≤ kept_limit (is_wide content) → ((from ≡ 0) × (to ≡ 51)) ⊎ (slice_index (row_bytes content shelf) 0 ≡ 1)
      → IsWellFormed store_mark (after (row_part shelf row from to) content)
  row_formed back shelf from to row low order inside uncut ranges known limit how =
      formed_still beside store_mark content long place bytes ends formed (omega (arith, begins))
      (λ slot few. inl (inl (omega (arith, begins))))
      (λ other few. ⊎_elim {C = IsApart (row_place other) 51 place (length bytes) ⊎ IsRowForm wide (row_bytes now other)}
      (λ same. inr (subst (λ (n : ℕ). IsRowForm wide (row_bytes now n)) (sym same) own))
      (λ apart. inl (⊎_elim {C = IsApart (row_place other) 51 place (length bytes)}
      (λ below. inl (omega (arith, rows_apart other shelf below (below_32 wide shelf low))))
      (λ above. inr (omega (arith, ends_here, rows_apart shelf other above (below_32 wide other few)))) apart))
      (cases_order other shelf))
      (λ number few. inl (⊎_elim {C = IsApart (node_place number) 16 place (length bytes)} (λ lower. inr (omega (arith, ends_here, lower.1))) (λ upper. inl (omega (arith, upper.0, least_end wide))) (row_where wide shelf low)))
    where
      wide : Bool
      wide = is_wide content

      place : ℕ
      place = row_place shelf + from

      bytes : List ℕ
      bytes = slice_range (row_spelled row) from to

      now : List ℕ
      now = patched place bytes content

      begins : 896 ≤ row_place shelf
      begins = ⊎_elim {C = 896 ≤ row_place shelf} (λ lower. lower.0) (λ upper. omega (arith, upper.0, least_end wide)) (row_where wide shelf low)

      ends_here : place + length bytes ≤ row_place shelf + 51
      ends_here = omega (arith, length-take (to - from) (drop from (row_spelled row)), order, inside)

      place_ends : row_place shelf + 51 ≤ memory_size
      place_ends = omega (arith, row_below_kept shelf (below_32 wide shelf low))

      ends : place + length bytes ≤ memory_size
      ends = omega (arith, ends_here, place_ends)

      old : List ℕ
      old = row_bytes content shelf

      old_long : length old ≡ 51
      old_long = entry_long (row_place shelf) 51 place_ends

      same_long : length (row_spelled row) ≡ length old
      same_long = length-row_spelled row ∙ sym old_long

      was : IsRowForm wide old
      was = formed.rows shelf low

      fits : to ≤ length old
      fits = omega (arith, inside, old_long)

      byte : (P : ℕ → Type 0) (k : ℕ) → P (get_or (row_spelled row) k 0) → P (get_or old k 0) → P (get_or (patched from bytes old) k 0)
      byte P k = one (row_spelled row) old from to order fits same_long P k

      flag : slice_index (row_spelled row) 0 ≤ 1
      flag = subst (λ (n : ℕ). n ≤ 1) (sym (row_flag_spelled row)) (flag_small row.used)

      events : number_at (row_spelled row) 5 < 2 ^ 12
      events = subst (λ (n : ℕ). n < 2 ^ 12) (sym (row_events_spelled back row ranges)) known

      text : slice_index (row_spelled row) 7 ≤ 10
      text = subst (λ (n : ℕ). n ≤ 10) (sym (row_text_spelled row)) ranges.text

      kept : slice_index (row_spelled row) 18 ≤ kept_limit wide
      kept = subst (λ (n : ℕ). n ≤ kept_limit wide) (sym (kept_count row)) limit

      spelled : IsRowForm wide (row_spelled row)
      spelled = record { used = flag; events = λ is. events; text_length = λ is. text; kept_length = λ is. kept }

      rewritten : IsRowForm wide (patched from bytes old)
      rewritten =
          ⊎_elim {C = IsRowForm wide (patched from bytes old)}
          (λ all. subst (IsRowForm wide) (sym (whole (row_spelled row) old from to order fits same_long all.0 (all.1 ∙ sym old_long))) spelled)
          (λ used. record {
            used = byte (λ n. n ≤ 1) 0 flag was.used;
            events = λ is. some (row_spelled row) old from to order fits same_long (λ l. from_be_bytes w16 l < 2 ^ 12) 5 7 (lit≤ tt) (omega (arith, old_long)) uncut events (was.events used);
            text_length = λ is. byte (λ n. n ≤ 10) 7 text (was.text_length used);
            kept_length = λ is. byte (λ n. n ≤ kept_limit wide) 18 kept (was.kept_length used);
          }) how

      own : IsRowForm wide (row_bytes now shelf)
      own = subst (IsRowForm wide) (sym (entry_bytes (row_spelled row) (row_place shelf) 51 from to order inside place_ends)) rewritten

-- The entry that is read from bytes of which a part was written anew.
use Rattle.std.proofs.Common.{◌≡◌, ◌⊎◌, ℕ, ◌+◌, ◌-◌, ◌≤◌, ◌<◌, ◌==◌, Bool, true, false, IsTrue, ◌&&◌, ◌||◌, if◌then◌else◌, List, [], ◌∷◌, zero, suc, ◌++◌, length, take, drop, slice_range, min, get_or, lit<, lit≤, refl, sym, ◌∙◌, ap, inl, inr, ⊎_elim, arith}
use Rattle.std.specs.List.{list_all}
use Rattle.std.proofs.lemmas.List.{length-take, length-drop, length-append, get_or-take, get_or-drop, take-take, take-append-le, places, take_all, drop_all, append-nil}
use Rattle.std.proofs.lemmas.Bool.{cases_lt, false≢true}
use Rattle.std.proofs.lemmas.Bool.Decides.{nat_tests}
use Rattle.std.proofs.lemmas.Grind.{same_number_lists}
use Rattle.std.specs.Int.{w16, from_be_bytes}
use Rattle.list_laws.specs.Patches.{patched}
use Rattle.list_laws.proofs.PatchesLemmas.{length-patched, patched_before, patched_inside, patched_after}
use Rattle.uicc_types.specs.declared.identifiers.FileId.{FileId}
use Rattle.uicc_types.specs.declared.identifiers.Pin8.{Pin8}
use Rattle.card_state.specs.declared.entries.Node.{Node}
use Rattle.card_state.specs.declared.entries.PinSlot.{PinSlot}
use Rattle.card_state.specs.declared.entries.Row.{Row}
use Rattle.card_state.specs.Decoding.{node_of, pin_of, row_of}
use Rattle.card_state.specs.Ranges.{HasNodeRanges, HasPinRanges, HasRowRanges}
use Rattle.layout_entries.specs.Spelling.{node_spelled, pin_spelled, row_spelled}
use Rattle.layout_entries.specs.Fields.{node_fields, pin_fields, row_fields, is_among, is_beside, is_uncut, AreWholeFields, merged_node, merged_pin, merged_row, kept_anew}
use Rattle.layout_entries.proofs.SpellingLemmas.{length-node_spelled, length-pin_spelled, length-row_spelled, node_back, pin_back, row_back, row_front_back, kept_count, kept_spelled, take-padded}

-- ---- choices

by_test : {X : Type 0} (test : Bool) (a x y : X) → (test ≡ true → a ≡ x) → (test ≡ false → a ≡ y) → a ≡ (if test then x else y)
by_test true a x y first second = first refl
by_test false a x y first second = second refl

chosen : {X Y : Type 0} (f : X → Y) (test : Bool) (a x y : X) → a ≡ (if test then x else y) → f a ≡ (if test then f x else f y)
chosen f true a x y is = ap f is
chosen f false a x y is = ap f is

among_is : (from to first end : ℕ) → is_among from to first end ≡ true → (from ≤ first) × (end ≤ to)
among_is from to first end passed = (grind (arith, nat_tests), grind (arith, nat_tests))

not_among : (from to first end : ℕ) → to < end → is_among from to first end ≡ false
not_among from to first end low = grind (arith, nat_tests)

among : (from to first end : ℕ) → from ≤ first → end ≤ to → is_among from to first end ≡ true
among from to first end low high = grind (arith, nat_tests)

not_among_is : (from to k : ℕ) → is_among from to k (k + 1) ≡ false → (k < from) ⊎ (to ≤ k)
not_among_is from to k failed = ⊎_elim {C = (k < from) ⊎ (to ≤ k)} (λ low. inl low) (λ high. ⊎_elim {C = (k < from) ⊎ (to ≤ k)} (λ within. absurd (grind (arith, nat_tests))) (λ behind. inr behind) (cases_lt k to)) (cases_lt k from)

beside_is : (from to first end : ℕ) → is_among from to first end ≡ false → IsTrue (is_among from to first end || is_beside from to first end) → (end ≤ from) ⊎ (to ≤ first)
beside_is from to first end failed uncut =
    ⊎_elim {C = (end ≤ from) ⊎ (to ≤ first)} (λ within. ⊎_elim {C = (end ≤ from) ⊎ (to ≤ first)} (λ within_too. absurd (grind (arith, nat_tests))) (λ behind. inr behind) (cases_lt first to)) (λ before. inl before) (cases_lt from end)

same_range : (a b : List ℕ) (first end : ℕ) → length a ≡ length b → ((k : ℕ) → first ≤ k → k < end → get_or a k 0 ≡ get_or b k 0) → slice_range a first end ≡ slice_range b first end
same_range a b first end long each =
    let long_a : length (slice_range a first end) ≡ length (slice_range b first end) = omega (arith, length-take (end - first) (drop first a), length-drop first a, length-take (end - first) (drop first b), length-drop first b) in
    same_number_lists _ _ long_a
    (λ k h.
    let low : k < end - first = omega (arith, length-take (end - first) (drop first a)) in
    get_or-take (end - first) (drop first a) k 0 low ∙ get_or-drop first a k 0 ∙ each (first + k) (omega arith) (omega arith)
    ∙ sym (get_or-take (end - first) (drop first b) k 0 low ∙ get_or-drop first b k 0))

module _ (bytes spelled : List ℕ) (width from to : ℕ) (long : length bytes ≡ width) (spelled_long : length spelled ≡ width) (order : from ≤ to) (inside : to ≤ width) where
  abbrev part : List ℕ
  part = slice_range spelled from to

  abbrev pub now : List ℕ
  now = patched from part bytes

  part_long : length part ≡ to - from
  part_long = omega (arith, length-take (to - from) (drop from spelled), length-drop from spelled)

  now_long : length now ≡ width
  now_long = length-patched from part bytes (omega (arith, part_long)) ∙ long

  byte_in : (k : ℕ) → from ≤ k → k < to → get_or now k 0 ≡ get_or spelled k 0
  byte_in k low high =
      let back : from + (k - from) ≡ k = omega arith in
      patched_inside from part bytes (omega (arith, part_long)) k low (omega (arith, part_long)) ∙ get_or-take (to - from) (drop from spelled) (k - from) 0 (omega arith)
      ∙ get_or-drop from spelled (k - from) 0 ∙ ap (λ (n : ℕ). get_or spelled n 0) back

  byte_out : (k : ℕ) → (k < from) ⊎ (to ≤ k) → get_or now k 0 ≡ get_or bytes k 0
  byte_out k = ⊎_elim {C = get_or now k 0 ≡ get_or bytes k 0} (λ low. patched_before from part bytes (omega (arith, part_long)) k low) (λ high. patched_after from part bytes (omega (arith, part_long)) k (omega (arith, part_long)))

  pub one : (k : ℕ) → get_or now k 0 ≡ (if is_among from to k (k + 1) then get_or spelled k 0 else get_or bytes k 0)
  one k =
      by_test (is_among from to k (k + 1)) (get_or now k 0) (get_or spelled k 0) (get_or bytes k 0)
      (λ passed. let bounds : (from ≤ k) × (k + 1 ≤ to) = among_is from to k (k + 1) passed in byte_in k bounds.0 (omega (arith, bounds.1)))
      (λ failed. byte_out k (not_among_is from to k failed))

  -- a number of bytes, and bytes after it
  pub counted : {X : Type 0} (f : ℕ → List ℕ → X) (k end : ℕ) → k + 1 ≤ end → IsTrue (is_among from to k end || is_beside from to k end)
      → f (get_or now k 0) (slice_range now (k + 1) end)
      ≡ (if is_among from to k end then f (get_or spelled k 0) (slice_range spelled (k + 1) end) else f (get_or bytes k 0) (slice_range bytes (k + 1) end))
  counted f k end low uncut =
      by_test (is_among from to k end) (f (get_or now k 0) (slice_range now (k + 1) end)) (f (get_or spelled k 0) (slice_range spelled (k + 1) end)) (f (get_or bytes k 0) (slice_range bytes (k + 1) end))
      (λ passed.
      let bounds : (from ≤ k) × (end ≤ to) = among_is from to k end passed in
      ap (λ (n : ℕ). f n (slice_range now (k + 1) end)) (byte_in k bounds.0 (omega (arith, bounds.1)))
      ∙ ap (λ (l : List ℕ). f (get_or spelled k 0) l)
      (same_range now spelled (k + 1) end (now_long ∙ sym spelled_long) (λ j first last. byte_in j (omega (arith, bounds.0)) (omega (arith, bounds.1)))))
      (λ failed.
      let where_to : (end ≤ from) ⊎ (to ≤ k) = beside_is from to k end failed uncut in
      let out : (j : ℕ) → k ≤ j → j < end → get_or now j 0 ≡ get_or bytes j 0 =
      λ j first last. byte_out j (⊎_elim {C = (j < from) ⊎ (to ≤ j)} (λ before. inl (omega arith)) (λ behind. inr (omega arith)) where_to) in
      ap (λ (n : ℕ). f n (slice_range now (k + 1) end)) (out k (omega arith) (omega arith))
      ∙ ap (λ (l : List ℕ). f (get_or bytes k 0) l) (same_range now bytes (k + 1) end (now_long ∙ sym long) (λ j first last. out j (omega arith) last)))

  pub some : (first end : ℕ) → IsTrue (is_among from to first end || is_beside from to first end)
      → slice_range now first end ≡ (if is_among from to first end then slice_range spelled first end else slice_range bytes first end)
  some first end uncut =
      by_test (is_among from to first end) (slice_range now first end) (slice_range spelled first end) (slice_range bytes first end)
      (λ passed.
      let bounds : (from ≤ first) × (end ≤ to) = among_is from to first end passed in
      same_range now spelled first end (now_long ∙ sym spelled_long) (λ k low high. byte_in k (omega (arith, bounds.0)) (omega (arith, bounds.1))))
      (λ failed.
      same_range now bytes first end (now_long ∙ sym long)
      (λ k low high. byte_out k (⊎_elim {C = (k < from) ⊎ (to ≤ k)} (λ before. inl (omega arith)) (λ behind. inr (omega arith)) (beside_is from to first end failed uncut))))

-- ---- the fields that are not cut

both_true : (a b : Bool) → IsTrue (a && b) → IsTrue a × IsTrue b
both_true true true h = (h, h)
both_true true false h = absurd (false≢true h)
both_true false b h = absurd (false≢true h)

-- the field of this number
uncut_at : (from to : ℕ) (fields : List (ℕ × ℕ)) (k : ℕ) → k < length fields → IsTrue (list_all (is_uncut from to) fields) → IsTrue (is_uncut from to (get_or fields k (0, 0)))
uncut_at from to [] k low h = absurd (omega arith)
uncut_at from to (field ∷ fields) zero low h = (both_true (is_uncut from to field) (list_all (is_uncut from to) fields) h).0
uncut_at from to (field ∷ fields) (suc k) low h = uncut_at from to fields k (omega arith) (both_true (is_uncut from to field) (list_all (is_uncut from to) fields) h).1

-- ---- entries

same_node : (used used' : Bool) (kind kind' : ℕ) (id id' : FileId) (parent parent' short short' life life' rule rule' : ℕ) (arr arr' : FileId) (place place' size size' length length' head head' : ℕ)
    → used ≡ used' → kind ≡ kind' → id ≡ id' → parent ≡ parent' → short ≡ short' → life ≡ life' → rule ≡ rule' → arr ≡ arr' → place ≡ place' → size ≡ size' → length ≡ length' → head ≡ head'
    → (let first : Node = record { used = used; kind = kind; id = id; parent = parent; short = short; life = life; rule = rule; arr = arr; place = place; size = size; length = length; head = head } in first)
    ≡ (let second : Node = record { used = used'; kind = kind'; id = id'; parent = parent'; short = short'; life = life'; rule = rule'; arr = arr'; place = place'; size = size'; length = length'; head = head' } in second)
same_node used used' kind kind' id id' parent parent' short short' life life' rule rule' arr arr' place place' size size' length length' head head' a b c d e f g h i j k l = rw (a, b, c, d, e, f, g, h, i, j, k, l) refl

abbrev file_id : ℕ → FileId
file_id number = record { 0 = number }

-- the entry of a file
pub node_merged : (bytes : List ℕ) (node : Node) (from to : ℕ) → length bytes ≡ 16 → AreWholeFields node_fields 16 from to → HasNodeRanges node
    → node_of (patched from (slice_range (node_spelled node) from to) bytes) ≡ merged_node from to (node_of bytes) node
unfolding node_of merged_node
node_merged bytes node from to long fields ranges =
    let spelled : List ℕ = node_spelled node in
    let byte = one bytes spelled 16 from to long (length-node_spelled node) fields.order fields.inside in
    let number : (first end : ℕ) → IsTrue (is_uncut from to (first, end)) → from_be_bytes w16 (slice_range (patched from (slice_range spelled from to) bytes) first end)
    ≡ (if is_among from to first end then from_be_bytes w16 (slice_range spelled first end) else from_be_bytes w16 (slice_range bytes first end)) =
    λ first end uncut. chosen (λ (l : List ℕ). from_be_bytes w16 l) (is_among from to first end) _ _ _ (some bytes spelled 16 from to long (length-node_spelled node) fields.order fields.inside first end uncut) in
    let uncut = λ (k : ℕ) (low : k < 12). uncut_at from to node_fields k low fields.uncut in
    same_node _ _ _ _ _ _ _ _ _ _ _ _ _ _ _ _ _ _ _ _ _ _ _ _
    (chosen (λ (n : ℕ). n == 1) (is_among from to 0 1) _ _ _ (byte 0))
    (byte 1)
    (chosen file_id (is_among from to 2 4) _ _ _ (number 2 4 (uncut 2 (lit< tt))))
    (byte 4) (byte 5) (byte 6) (byte 7)
    (chosen file_id (is_among from to 8 10) _ _ _ (number 8 10 (uncut 7 (lit< tt))))
    (number 10 12 (uncut 8 (lit< tt)))
    (number 12 14 (uncut 9 (lit< tt)))
    (byte 14) (byte 15)
    ∙ ap (λ (n : Node). merged_node from to (node_of bytes) n) (node_back node ranges)

same_pin : (key key' : ℕ) (enabled enabled' : Bool) (tries tries' unblock_tries unblock_tries' : ℕ) (value value' unblock unblock' : Pin8)
    → key ≡ key' → enabled ≡ enabled' → tries ≡ tries' → unblock_tries ≡ unblock_tries' → value ≡ value' → unblock ≡ unblock'
    → (let first : PinSlot = record { key = key; enabled = enabled; tries = tries; unblock_tries = unblock_tries; value = value; unblock = unblock } in first)
    ≡ (let second : PinSlot = record { key = key'; enabled = enabled'; tries = tries'; unblock_tries = unblock_tries'; value = value'; unblock = unblock' } in second)
same_pin key key' enabled enabled' tries tries' unblock_tries unblock_tries' value value' unblock unblock' a b c d e f = rw (a, b, c, d, e, f) refl

abbrev pin_value : List ℕ → Pin8
pin_value bytes = record { 0 = bytes }

-- a PIN slot
pub pin_merged : (bytes : List ℕ) (pin : PinSlot) (from to : ℕ) → length bytes ≡ 20 → AreWholeFields pin_fields 20 from to → HasPinRanges pin
    → pin_of (patched from (slice_range (pin_spelled pin) from to) bytes) ≡ merged_pin from to (pin_of bytes) pin
unfolding pin_of merged_pin
pin_merged bytes pin from to long fields ranges =
    let spelled : List ℕ = pin_spelled pin in
    let spelled_long : length spelled ≡ 20 = length-pin_spelled pin ranges in
    let byte = one bytes spelled 20 from to long spelled_long fields.order fields.inside in
    let value : (first end : ℕ) → IsTrue (is_uncut from to (first, end)) → pin_value (slice_range (patched from (slice_range spelled from to) bytes) first end)
    ≡ (if is_among from to first end then pin_value (slice_range spelled first end) else pin_value (slice_range bytes first end)) =
    λ first end uncut. chosen pin_value (is_among from to first end) _ _ _ (some bytes spelled 20 from to long spelled_long fields.order fields.inside first end uncut) in
    let uncut = λ (k : ℕ) (low : k < 6). uncut_at from to pin_fields k low fields.uncut in
    same_pin _ _ _ _ _ _ _ _ _ _ _ _
    (byte 0)
    (chosen (λ (n : ℕ). n == 1) (is_among from to 1 2) _ _ _ (byte 1))
    (byte 2) (byte 3)
    (value 4 12 (uncut 4 (lit< tt)))
    (value 12 20 (uncut 5 (lit< tt)))
    ∙ ap (λ (p : PinSlot). merged_pin from to (pin_of bytes) p) (pin_back pin ranges)

same_row : (used used' : Bool) (kind kind' priority priority' sequence sequence' events events' : ℕ) (text text' kept kept' : List ℕ)
    → used ≡ used' → kind ≡ kind' → priority ≡ priority' → sequence ≡ sequence' → events ≡ events' → text ≡ text' → kept ≡ kept'
    → (let first : Row = record { used = used; kind = kind; priority = priority; sequence = sequence; events = events; text = text; kept = kept } in first)
    ≡ (let second : Row = record { used = used'; kind = kind'; priority = priority'; sequence = sequence'; events = events'; text = text'; kept = kept' } in second)
same_row used used' kind kind' priority priority' sequence sequence' events events' text text' kept kept' a b c d e f g = rw (a, b, c, d, e, f, g) refl

-- a row, with the bytes that stand apart
rows_merged : (bytes more : List ℕ) (row : Row) (from to : ℕ) → length bytes ≡ 51 → AreWholeFields row_fields 51 from to
    → row_of (patched from (slice_range (row_spelled row) from to) bytes) more ≡ merged_row from to (row_of bytes more) (row_of (row_spelled row) more)
unfolding row_of merged_row
rows_merged bytes more row from to long fields =
    let spelled : List ℕ = row_spelled row in
    let spelled_long : length spelled ≡ 51 = length-row_spelled row in
    let byte = one bytes spelled 51 from to long spelled_long fields.order fields.inside in
    let number : (first end : ℕ) → IsTrue (is_uncut from to (first, end)) → from_be_bytes w16 (slice_range (patched from (slice_range spelled from to) bytes) first end)
    ≡ (if is_among from to first end then from_be_bytes w16 (slice_range spelled first end) else from_be_bytes w16 (slice_range bytes first end)) =
    λ first end uncut. chosen (λ (l : List ℕ). from_be_bytes w16 l) (is_among from to first end) _ _ _ (some bytes spelled 51 from to long spelled_long fields.order fields.inside first end uncut) in
    let uncut = λ (k : ℕ) (low : k < 7). uncut_at from to row_fields k low fields.uncut in
    let list = λ (f : ℕ → List ℕ → List ℕ). counted bytes spelled 51 from to long spelled_long fields.order fields.inside f in
    same_row _ _ _ _ _ _ _ _ _ _ _ _ _ _
    (chosen (λ (n : ℕ). n == 1) (is_among from to 0 1) _ _ _ (byte 0))
    (byte 1) (byte 2)
    (number 3 5 (uncut 3 (lit< tt)))
    (number 5 7 (uncut 4 (lit< tt)))
    (list (λ n l. take n l) 7 18 (lit≤ tt) (uncut 5 (lit< tt)))
    (list (λ n l. take n (l ++ more)) 18 51 (lit≤ tt) (uncut 6 (lit< tt)))

pub row_merged : (bytes more : List ℕ) (row : Row) (from to : ℕ) → length bytes ≡ 51 → AreWholeFields row_fields 51 from to → HasRowRanges row
    → take (length row.kept - 32) more ≡ drop 32 row.kept
    → row_of (patched from (slice_range (row_spelled row) from to) bytes) more ≡ merged_row from to (row_of bytes more) row
row_merged bytes more row from to long fields ranges rest = rows_merged bytes more row from to long fields ∙ ap (λ (r : Row). merged_row from to (row_of bytes more) r) (row_back row more ranges rest)

-- if its kept bytes are not written, it doesn't matter what stands apart
pub row_merged_front : (bytes more : List ℕ) (row : Row) (from to : ℕ) → length bytes ≡ 51 → AreWholeFields row_fields 51 from to → HasRowRanges row → to ≤ 18
    → row_of (patched from (slice_range (row_spelled row) from to) bytes) more ≡ merged_row from to (row_of bytes more) row
unfolding merged_row
row_merged_front bytes more row from to long fields ranges low =
    let none : is_among from to 18 51 ≡ false = not_among from to 18 51 (omega arith) in
    rows_merged bytes more row from to long fields
    ∙ ap (λ (r : Row). merged_row from to (row_of bytes more) r) (row_front_back row more ranges)
    ∙ rw none refl

-- if they are written, the old ones don't matter
pub merged_kept_anew : (bytes more more' : List ℕ) (row : Row) (from : ℕ) → from ≤ 18 → merged_row from 51 (row_of bytes more) row ≡ merged_row from 51 (row_of bytes more') row
unfolding row_of merged_row
merged_kept_anew bytes more more' row from low =
    let written : is_among from 51 18 51 ≡ true = among from 51 18 51 low (lit≤ tt) in
    rw written refl

-- what a row keeps is written with its length, and with any number of the bytes after it
module _ (bytes more : List ℕ) (row : Row) (to : ℕ) (long : length bytes ≡ 51) (few : length row.kept ≤ 32) (enough : 19 + length row.kept ≤ to) (inside : to ≤ 51) where
  abbrev written : List ℕ
  written = patched 18 (slice_range (row_spelled row) 18 to) bytes

  written_long : length written ≡ 51
  written_long = now_long bytes (row_spelled row) 51 18 to long (length-row_spelled row) (omega arith) inside

  as_before : (k : ℕ) → k < 18 → get_or written k 0 ≡ get_or bytes k 0
  as_before k low = byte_out bytes (row_spelled row) 51 18 to long (length-row_spelled row) (omega arith) inside k (inl low)

  as_spelled : (k : ℕ) → 18 ≤ k → k < to → get_or written k 0 ≡ get_or (row_spelled row) k 0
  as_spelled k low high = byte_in bytes (row_spelled row) 51 18 to long (length-row_spelled row) (omega arith) inside k low high

  range_before : (first end : ℕ) → end ≤ 18 → slice_range written first end ≡ slice_range bytes first end
  range_before first end low = same_range written bytes first end (written_long ∙ sym long) (λ k from last. as_before k (omega arith))

  kept_read : take (get_or written 18 0) (slice_range written 19 51 ++ more) ≡ row.kept
  kept_read =
      let count : ℕ = length row.kept in
      let held : length (slice_range written 19 51) ≡ 32 = omega (arith, length-take 32 (drop 19 written), length-drop 19 written, written_long) in
      let back : 19 + count - 19 ≡ count = omega arith in
      let same : slice_range written 19 (19 + count) ≡ slice_range (row_spelled row) 19 (19 + count) =
      same_range written (row_spelled row) 19 (19 + count) (written_long ∙ sym (length-row_spelled row)) (λ k from last. as_spelled k (omega arith) (omega arith)) in
      ap (λ (n : ℕ). take n (slice_range written 19 51 ++ more)) (as_spelled 18 (lit≤ tt) (omega arith) ∙ kept_count row)
      ∙ take-append-le count (slice_range written 19 51) more (omega arith)
      ∙ take-take count 32 (drop 19 written) few
      ∙ ap (λ (n : ℕ). take n (drop 19 written)) (sym back) ∙ same ∙ ap (λ (n : ℕ). take n (drop 19 (row_spelled row))) back
      ∙ sym (take-take count 32 (drop 19 (row_spelled row)) few)
      ∙ ap (λ (l : List ℕ). take count l) (kept_spelled row) ∙ take-padded 32 row.kept few

  pub kept_merged : row_of (patched 18 (slice_range (row_spelled row) 18 to) bytes) more ≡ record (row_of bytes more) { kept = row.kept }
  unfolding row_of
  kept_merged =
      same_row _ _ _ _ _ _ _ _ _ _ _ _ _ _
      (ap (λ (n : ℕ). n == 1) (as_before 0 (lit< tt)))
      (as_before 1 (lit< tt)) (as_before 2 (lit< tt))
      (ap (λ (l : List ℕ). from_be_bytes w16 l) (range_before 3 5 (lit≤ tt)))
      (ap (λ (l : List ℕ). from_be_bytes w16 l) (range_before 5 7 (lit≤ tt)))
      (ap (λ (n : ℕ). take n (slice_range written 8 18)) (as_before 7 (lit< tt)) ∙ ap (λ (l : List ℕ). take (get_or bytes 7 0) l) (range_before 8 18 (lit≤ tt)))
      kept_read

-- 32 bytes and others after them
module _ (front rest : List ℕ) (long : length front ≡ 32) where
  byte_before : (k : ℕ) → k < 32 → get_or (front ++ rest) k 0 ≡ get_or front k 0
  byte_before k low = grind (arith, places)

  byte_behind : (k : ℕ) → 32 ≤ k → get_or (front ++ rest) k 0 ≡ get_or rest (k - 32) 0
  byte_behind k high = grind (arith, places)

-- what a row keeps, with other bytes from the 33rd on
module _ (count : ℕ) (front more kept : List ℕ) (front_long : length front ≡ 32) (more_long : length more ≡ 32) (few : length kept ≤ 64) where
  abbrev was : List ℕ
  was = take count (front ++ more)

  abbrev anew : List ℕ
  anew = patched 0 (drop 32 kept) more

  apart_long : length (drop 32 kept) ≡ length kept - 32
  apart_long = length-drop 32 kept

  apart_fits : 0 + length (drop 32 kept) ≤ length more
  apart_fits = omega (arith, apart_long)

  anew_long : length anew ≡ 32
  anew_long = length-patched 0 (drop 32 kept) more apart_fits ∙ more_long

  -- none of them is kept
  none_kept : count ≤ 32 → take count (front ++ anew) ≡ kept_anew was kept
  unfolding patched
  none_kept low =
      let short : length was ≡ count = omega (arith, length-take count (front ++ more), length-append front more) in
      let no_room : length was - 32 ≡ 0 = omega arith in
      take-append-le count front anew (omega arith) ∙ sym (take-append-le count front more (omega arith))
      ∙ sym (ap (λ (n : ℕ). patched 32 (take n (drop 32 kept)) was) no_room ∙ nothing_put was (omega arith)) where
        nothing_put : (l : List ℕ) → length l ≤ 32 → patched 32 [] l ≡ l
        nothing_put l h = grind (arith, take_all 32 l h, drop_all 32 l h, append-nil)

  some_kept : 32 < count → take count (front ++ anew) ≡ kept_anew was kept
  some_kept high =
      let room : length was ≡ min count 64 = grind (arith, length-take, length-append) in
      let put : List ℕ = take (length was - 32) (drop 32 kept) in
      let put_long : length put ≡ min (length was - 32) (length kept - 32) = grind (arith, length-take, apart_long) in
      let fits : 32 + length put ≤ length was = omega arith in
      let there : length (kept_anew was kept) ≡ length was = length-patched 32 put was fits in
      let here : length (take count (front ++ anew)) ≡ length was = grind (arith, length-take, length-append, anew_long) in
      same_number_lists _ _ (here ∙ sym there)
      (λ k h.
      let inside : k < length was = omega arith in
      let low : k < count = omega arith in
      get_or-take count (front ++ anew) k 0 low
      ∙ ⊎_elim {C = get_or (front ++ anew) k 0 ≡ get_or (kept_anew was kept) k 0}
      (λ before. byte_before front anew front_long k before ∙ sym (patched_before 32 put was fits k before ∙ get_or-take count (front ++ more) k 0 low ∙ byte_before front more front_long k before))
      (λ behind. byte_behind front anew front_long k behind
      ∙ ⊎_elim {C = get_or anew (k - 32) 0 ≡ get_or (kept_anew was kept) k 0}
      (λ within. patched_inside 0 (drop 32 kept) more apart_fits (k - 32) (omega arith) (omega (arith, apart_long))
      ∙ ap (λ (n : ℕ). get_or (drop 32 kept) n 0) (omega arith)
      ∙ sym (patched_inside 32 put was fits k behind (omega arith) ∙ get_or-take (length was - 32) (drop 32 kept) (k - 32) 0 (omega arith)))
      (λ last. patched_after 0 (drop 32 kept) more apart_fits (k - 32) (omega (arith, apart_long))
      ∙ sym (patched_after 32 put was fits k (omega arith) ∙ get_or-take count (front ++ more) k 0 low ∙ byte_behind front more front_long k behind))
      (cases_lt k (length kept)))
      (cases_lt k 32))

  pub kept_from_33 : take count (front ++ anew) ≡ kept_anew was kept
  kept_from_33 = ⊎_elim {C = take count (front ++ anew) ≡ kept_anew was kept} some_kept none_kept (cases_lt 32 count)

pub kept_apart_merged : (bytes more kept : List ℕ) → length bytes ≡ 51 → length more ≡ 32 → length kept ≤ 64
    → row_of bytes (patched 0 (drop 32 kept) more) ≡ record (row_of bytes more) { kept = kept_anew (row_of bytes more).kept kept }
unfolding row_of
kept_apart_merged bytes more kept long more_long few =
    ap (λ (l : List ℕ). record (row_of bytes more) { kept = l })
    (kept_from_33 (get_or bytes 18 0) (slice_range bytes 19 51) more kept (omega (arith, length-take 32 (drop 19 bytes), length-drop 19 bytes)) more_long few)

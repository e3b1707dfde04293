-- Two contents with the same bytes where entries stand pass the same checks and have the same entries.
use Rattle.std.proofs.Common.{get_or, ◌≡◌, ℕ, ◌+◌, ◌-◌, ◌≤◌, ◌<◌, Bool, List, [], ◌++◌, length, take, drop, map, refl, sym, ◌∙◌, ap, ⊎_elim, arith, add-zero, Option, Some, None, Ok, Err, IfSome, slice_index, ◌==◌, if◌then◌else◌, get_or-take, get_or-drop, length-take, length-drop}
use Rattle.std.specs.Int.{w16, from_be_bytes}
use Rattle.std.specs.List.{range_with_len}
use Rattle.std.proofs.lemmas.Bool.{cases_lt}
use Rattle.std.proofs.lemmas.Grind.{same_number_lists}
use Rattle.list_laws.proofs.MapLemmas.{same_numbered}
use Rattle.uicc_types.specs.Told.{AreBytes}
use Rattle.card_state.specs.declared.entries.Node.{Node}
use Rattle.card_state.specs.declared.entries.Row.{Row}
use Rattle.card_state.specs.declared.entries.Loaded.{Loaded}
use Rattle.card_state.specs.Places.{memory_size, row_place, row_count, node_place, pin_place, kept_place}
use Rattle.card_state.specs.Decoding.{bytes_at, number_at, is_wide, node_of, row_of, node_bytes, pin_bytes, row_bytes, kept_bytes, node_in, pin_in, row_when, node_at, pin_at, row_at, table_of}
use Rattle.card_state.proofs.KeyOfSlotLemmas.{same_table}
use Rattle.card_state.proofs.RowPlaceLemmas.{row_place_low, row_place_high, below_32}
use Rattle.card_state.specs.Checks.{Check, checks, first_failed, header_checks, pin_checks, row_checks, node_checks, pin_check, row_check, node_check, is_row, is_node, is_pin, key_of_slot, rows_below, nodes_below}
use Rattle.card_state.specs.States.{state_of}
use Rattle.card_state.specs.Standing.{state_in, stands_for, unless_failed, Stands}
use Rattle.layout_mount.specs.Images.{SameEntries, IsImage}
use Rattle.layout_mount.specs.Mounted.{IsTable, HoldsNoCard}

-- a part of bytes from a place on
part_again : (bytes : List ℕ) (from count k n : ℕ) → k + n ≤ count → take n (drop k (bytes_at bytes from count)) ≡ bytes_at bytes (from + k) n
part_again bytes from count k n inside =
    let cut : List ℕ = take (from + count - from) (drop from bytes) in
    let long : length (take n (drop k cut)) ≡ length (bytes_at bytes (from + k) n) =
    omega (
      arith,
      length-take n (drop k cut),
      length-drop k cut,
      length-take (from + count - from) (drop from bytes),
      length-drop from bytes,
      length-take (from + k + n - (from + k)) (drop (from + k) bytes),
      length-drop (from + k) bytes,
    ) in
    same_number_lists _ _ long
    (λ j h.
    let low : j < n = omega (arith, length-take n (drop k cut)) in
    let sum : from + (k + j) ≡ from + k + j = omega arith in
    get_or-take n (drop k cut) j 0 low ∙ get_or-drop k cut j 0 ∙ get_or-take (from + count - from) (drop from bytes) (k + j) 0 (omega arith) ∙ get_or-drop from bytes (k + j) 0
    ∙ ap (λ (i : ℕ). get_or bytes i 0) sum
    ∙ sym (get_or-take (from + k + n - (from + k)) (drop (from + k) bytes) j 0 (omega arith) ∙ get_or-drop (from + k) bytes j 0))

-- a check, of the parts that it looks at
abbrev row_check_of : Bool → ℕ → List Row → List ℕ → List ℕ → ℕ → Check
row_check_of wide next earlier bytes kept shelf = record { place = row_place shelf; is_met = is_row wide next earlier bytes (row_of bytes (if wide then kept else [])) }

abbrev node_check_of : Bool → List Node → List ℕ → ℕ → Check
node_check_of wide earlier bytes number = record { place = node_place number; is_met = is_node wide number earlier bytes (node_of bytes) }

abbrev pin_check_of : List ℕ → ℕ → Check
pin_check_of bytes slot = record { place = pin_place slot; is_met = is_pin (key_of_slot slot) bytes }

module _ (content image : List ℕ) (same : SameEntries content image) where
  -- bytes inside bytes that are the same
  inside : (from count at n : ℕ) → bytes_at image from count ≡ bytes_at content from count → from ≤ at → at + n ≤ from + count → bytes_at image at n ≡ bytes_at content at n
  inside from count at n is low high =
      let back : from + (at - from) ≡ at = omega arith in
      let few : at - from + n ≤ count = omega arith in
      ap (λ (k : ℕ). bytes_at image k n) (sym back) ∙ sym (part_again image from count (at - from) n few) ∙ ap (λ (l : List ℕ). take n (drop (at - from) l)) is
      ∙ part_again content from count (at - from) n few ∙ ap (λ (k : ℕ). bytes_at content k n) back

  pub same_first : (at n : ℕ) → at + n ≤ 8 → bytes_at image at n ≡ bytes_at content at n
  same_first at n high = inside 0 8 at n same.first (omega arith) (omega arith)

  pub same_pin : (slot : ℕ) → slot < 3 → pin_bytes image slot ≡ pin_bytes content slot
  same_pin slot low = inside 832 3136 (pin_place slot) 20 same.table (omega arith) (omega arith)

  pub same_node : (number : ℕ) → number < 128 → node_bytes image number ≡ node_bytes content number
  same_node number low = inside 832 3136 (node_place number) 16 same.table (omega arith) (omega arith)

  pub same_kept : (shelf : ℕ) → shelf < 32 → kept_bytes image shelf ≡ kept_bytes content shelf
  same_kept shelf low = inside 63488 2048 (kept_place shelf) 32 same.upper (omega arith) (omega arith)

  pub same_row : (shelf : ℕ) → shelf < 32 → row_bytes image shelf ≡ row_bytes content shelf
  same_row shelf low =
      ⊎_elim {C = row_bytes image shelf ≡ row_bytes content shelf}
      (λ h. inside 832 3136 (row_place shelf) 51 same.table (omega (arith, row_place_low shelf h)) (omega (arith, row_place_low shelf h)))
      (λ h. inside 63488 2048 (row_place shelf) 51 same.upper (omega (arith, row_place_high shelf h)) (omega (arith, row_place_high shelf h)))
      (cases_lt shelf 16)

  one : (bytes : List ℕ) (at : ℕ) → get_or (bytes_at bytes at 1) 0 0 ≡ get_or bytes at 0
  one bytes at = get_or-take (at + 1 - at) (drop at bytes) 0 0 (omega arith) ∙ get_or-drop at bytes 0 0 ∙ ap (λ (n : ℕ). get_or bytes n 0) (add-zero at)

  pub same_byte : (at : ℕ) → at < 8 → slice_index image at ≡ slice_index content at
  same_byte at low = sym (one image at) ∙ ap (λ (l : List ℕ). get_or l 0 0) (same_first at 1 (omega arith)) ∙ one content at

  pub same_wide : is_wide image ≡ is_wide content
  same_wide = ap (λ (n : ℕ). n == 2) (same_byte 4 (omega arith))

  pub same_next : number_at image 6 ≡ number_at content 6
  same_next = ap (λ (l : List ℕ). from_be_bytes w16 l) (same_first 6 2 (omega arith))

  pub same_node_at : (k : ℕ) → k < 128 → node_at image k ≡ node_at content k
  same_node_at k low = ap node_in (same_node k low)

  pub same_pin_at : (k : ℕ) → k < 3 → pin_at image k ≡ pin_at content k
  same_pin_at k low = ap pin_in (same_pin k low)

  pub same_row_at : (k : ℕ) → k < 32 → row_at image k ≡ row_at content k
  same_row_at k low =
      ap (λ (w : Bool). row_when w k (row_bytes image k) (kept_bytes image k)) same_wide
      ∙ ap (λ (l : List ℕ). row_when (is_wide content) k l (kept_bytes image k)) (same_row k low) ∙ ap (λ (l : List ℕ). row_when (is_wide content) k (row_bytes content k) l) (same_kept k low)

  pub same_table_of : table_of image ≡ table_of content
  unfolding table_of
  same_table_of =
      same_table _ _ _ _ _ _ _ _ _ _ (same_numbered (node_at image) (node_at content) 128 same_node_at) (same_numbered (pin_at image) (pin_at content) 3 same_pin_at)
      (same_numbered (row_at image) (row_at content) 32 same_row_at) same_next same_wide

  same_header : (mark : ℕ) → header_checks mark image ≡ header_checks mark content
  same_header mark =
      rw (same_byte 0 (omega arith), same_byte 1 (omega arith), same_byte 2 (omega arith), same_byte 3 (omega arith), same_byte 4 (omega arith), same_byte 5 (omega arith)) refl

  same_row_check : (k : ℕ) → k < 32 → row_check image k ≡ row_check content k
  same_row_check k low =
      let below : rows_below image k ≡ rows_below content k = same_numbered (row_at image) (row_at content) k (λ j h. same_row_at j (omega arith)) in
      ap (λ (w : Bool). row_check_of w (number_at image 6) (rows_below image k) (row_bytes image k) (kept_bytes image k) k) same_wide
      ∙ ap (λ (n : ℕ). row_check_of (is_wide content) n (rows_below image k) (row_bytes image k) (kept_bytes image k) k) same_next
      ∙ ap (λ (e : List Row). row_check_of (is_wide content) (number_at content 6) e (row_bytes image k) (kept_bytes image k) k) below
      ∙ ap (λ (l : List ℕ). row_check_of (is_wide content) (number_at content 6) (rows_below content k) l (kept_bytes image k) k) (same_row k low)
      ∙ ap (λ (l : List ℕ). row_check_of (is_wide content) (number_at content 6) (rows_below content k) (row_bytes content k) l k) (same_kept k low)

  same_node_check : (k : ℕ) → k < 128 → node_check image k ≡ node_check content k
  same_node_check k low =
      let below : nodes_below image k ≡ nodes_below content k = same_numbered (node_at image) (node_at content) k (λ j h. same_node_at j (omega arith)) in
      ap (λ (w : Bool). node_check_of w (nodes_below image k) (node_bytes image k) k) same_wide
      ∙ ap (λ (e : List Node). node_check_of (is_wide content) e (node_bytes image k) k) below
      ∙ ap (λ (l : List ℕ). node_check_of (is_wide content) (nodes_below content k) l k) (same_node k low)

  same_row_checks : row_checks image ≡ row_checks content
  same_row_checks =
      ap (λ (w : Bool). map (row_check image) (range_with_len 0 (row_count w))) same_wide
      ∙ same_numbered (row_check image) (row_check content) (row_count (is_wide content)) (λ k h. same_row_check k (below_32 (is_wide content) k h))

  pub same_checks : (mark : ℕ) → checks mark image ≡ checks mark content
  unfolding checks
  same_checks mark =
      ap (λ (l : List Check). l ++ (pin_checks image ++ (row_checks image ++ node_checks image))) (same_header mark)
      ∙ ap (λ (l : List Check). header_checks mark content ++ (l ++ (row_checks image ++ node_checks image)))
      (same_numbered (pin_check image) (pin_check content) 3 (λ k h. ap (λ (l : List ℕ). pin_check_of l k) (same_pin k h)))
      ∙ ap (λ (l : List Check). header_checks mark content ++ (pin_checks content ++ (l ++ node_checks image))) same_row_checks
      ∙ ap (λ (l : List Check). header_checks mark content ++ (pin_checks content ++ (row_checks content ++ l))) (same_numbered (node_check image) (node_check content) 128 same_node_check)

-- ---- what a mount answers

decoded : (mark : ℕ) (content : List ℕ) → first_failed (checks mark content) ≡ None → stands_for mark content ≡ Ok (state_in content)
unfolding stands_for
decoded mark content passed = ap (λ (o : Option ℕ). unless_failed o (state_in content)) passed

stands_over : (mark : ℕ) (content : List ℕ) (table : Loaded) → length content ≡ memory_size → table ≡ table_of content → first_failed (checks mark content) ≡ None → Stands mark content table (state_of table content)
stands_over mark content table long is passed =
    record { long = long; entries = sym is; decoded = decoded mark content passed ∙ ap (λ (entries : Loaded). Ok (state_of entries content)) (sym is) }

failed_over : (mark : ℕ) (content : List ℕ) (at : ℕ) → first_failed (checks mark content) ≡ Some at → stands_for mark content ≡ Err at
unfolding stands_for
failed_over mark content at failed = ap (λ (o : Option ℕ). unless_failed o (state_in content)) failed

-- what a store was read by: of one that tells nothing the image is the content
module _ (size : ℕ) (is_size : size ≡ memory_size) (image : List ℕ) (bytes : AreBytes image) where
  pub is_table : (told : Option (List ℕ)) (mark : ℕ) (table : Loaded) → IfSome told (λ held. length held ≡ size) → IfSome told AreBytes → IsImage told image → table ≡ table_of image
      → first_failed (checks mark image) ≡ None → IsTable mark told table
  is_table None mark table told_long told_bytes read is passed =
      record { content = image; long = read.long; bytes = bytes; told_is = tt; holds = stands_over mark image table read.long is passed }
  is_table (Some held) mark table told_long told_bytes read is passed = record {
    content = held;
    long = told_long ∙ is_size;
    bytes = told_bytes;
    told_is = refl;
    holds = stands_over mark held table (told_long ∙ is_size) (is ∙ same_table_of held image read.same) (ap first_failed (sym (same_checks held image read.same mark)) ∙ passed);
  }

  pub is_no_card : (told : Option (List ℕ)) (mark at : ℕ) → IfSome told (λ held. length held ≡ size) → IfSome told AreBytes → IsImage told image → first_failed (checks mark image) ≡ Some at → HoldsNoCard mark told at
  is_no_card None mark at told_long told_bytes read failed =
      record { content = image; long = read.long; bytes = bytes; told_is = tt; holds = failed_over mark image at failed }
  is_no_card (Some held) mark at told_long told_bytes read failed = record {
    content = held;
    long = told_long ∙ is_size;
    bytes = told_bytes;
    told_is = refl;
    holds = failed_over mark held at (ap first_failed (sym (same_checks held image read.same mark)) ∙ failed);
  }

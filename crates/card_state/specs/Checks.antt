-- The checks that tell a card from other bytes, in their order, each with the place that is answered where it fails.
use Rattle.std.specs.Prelude.{ℕ, ◌+◌, ◌/◌, ◌%◌, ◌==◌, Bool, false, not, ◌&&◌, ◌||◌, nat_lt, nat_le, if◌then◌else◌, List, [], ◌∷◌, ◌++◌, length, map, find, count_by, slice_index, slice_get, Option, option_map}
use Rattle.std.specs.Option.{option_map_or}
use Rattle.std.specs.Int.{bit_at}
use Rattle.std.specs.List.{range_with_len, list_any, list_all}
use Rattle.uicc_types.specs.declared.keys.TheConstants.{PIN_1, PIN_2, ADM_1}
use Rattle.card_state.specs.declared.events.TheConstants.{EVENTS_END}
use Rattle.card_state.specs.declared.sizes.TheConstants.{NODE_COUNT, PIN_COUNT, TEXT_LIMIT, MENU_LIMIT, RECORD_LIMIT, TRIES, UNBLOCK_TRIES, LAST_KIND}
use Rattle.card_state.specs.declared.places.TheConstants.{NARROW_VERSION, WIDE_VERSION}
use Rattle.card_state.specs.declared.entries.Node.{Node}
use Rattle.card_state.specs.declared.entries.Row.{Row}
use Rattle.card_state.specs.Kinds.{df_kind, cyclic_kind, has_records, is_ef_kind, mf_id, current_adf_id, activated, deactivated, call_control_bit}
use Rattle.card_state.specs.Places.{version_place, store_mark_place, sequence_place, pin_place, row_place, node_place, data_place, data_end, row_count, kept_limit}
use Rattle.card_state.specs.Decoding.{number_at, is_wide, node_of, pin_of, row_of, node_bytes, pin_bytes, row_bytes, node_at, row_at, bytes_apart}

-- a condition, and the place that it is about
pub record Check : Type 0 where
  pub place : ℕ
  pub is_met : Bool

-- the bytes of `UICC` stand first
abbrev pub has_card_mark : List ℕ → Bool
has_card_mark content = slice_index content 0 == 0x55 && slice_index content 1 == 0x49 && slice_index content 2 == 0x43 && slice_index content 3 == 0x43

-- the byte of the version is 1, of a narrow card, or 2, of a wide one
abbrev pub is_version : ℕ → Bool
is_version byte = byte == NARROW_VERSION || byte == WIDE_VERSION

-- a byte that says yes or no is 1 or 0
abbrev pub is_flag : ℕ → Bool
is_flag byte = nat_le byte 1

-- the key of a PIN slot
abbrev pub key_of_slot : ℕ → ℕ
key_of_slot slot = if slot == 0 then PIN_1 else if slot == 1 then PIN_2 else ADM_1

-- a PIN slot has no key, or its own with tries that are left
abbrev pub is_pin : ℕ → List ℕ → Bool
is_pin key bytes =
    let pin = pin_of bytes in
    pin.key == 0 || (pin.key == key && is_flag (slice_index bytes 1) && nat_le pin.tries TRIES && nat_le pin.unblock_tries UNBLOCK_TRIES)

-- the row is registered for call control: its bit is set
abbrev pub is_call_control : Row → Bool
is_call_control row = bit_at row.events call_control_bit == 1

-- the row has a text, which makes it an item of the menu
abbrev pub has_row_text : Row → Bool
has_row_text row = not (length row.text == 0)

-- an entry that is used and has an item in the menu
abbrev pub shows_item : Row → Bool
shows_item row = row.used && has_row_text row

-- a known kind, a priority, a sequence number that was given out, known events
abbrev pub has_known_numbers : ℕ → Row → Bool
has_known_numbers next row = nat_le 1 row.kind && nat_le row.kind LAST_KIND && nat_le 1 row.priority && nat_lt row.sequence next && nat_lt row.events EVENTS_END

-- by their bytes of length a text has at most 10 bytes, and what is kept at most 64 on a wide card and 32 on a narrow one
abbrev pub has_short_parts : Bool → List ℕ → Bool
has_short_parts wide bytes = nat_le (slice_index bytes 7) TEXT_LIMIT && nat_le (slice_index bytes 18) (kept_limit wide)

-- another row is used and has the sequence number of this one
abbrev pub has_sequence_of : Row → Row → Bool
has_sequence_of row other = other.used && other.sequence == row.sequence

-- none of these rows that is used has the sequence number of this one
abbrev pub has_own_sequence : List Row → Row → Bool
has_own_sequence earlier row = not (list_any (has_sequence_of row) earlier)

-- not both this row and one of these are registered for call control
abbrev pub leaves_call_control : List Row → Row → Bool
leaves_call_control earlier row = not (is_call_control row && list_any is_call_control earlier)

-- at most 16 rows have a text: this one has none where 16 of these have one
abbrev pub leaves_texts : List Row → Row → Bool
leaves_texts earlier row = not (has_row_text row && nat_le MENU_LIMIT (count_by has_row_text earlier))

-- a row that is used, with its bytes, above these
abbrev pub is_registration : Bool → ℕ → List Row → List ℕ → Row → Bool
is_registration wide next earlier bytes row =
    has_known_numbers next row && has_short_parts wide bytes && has_own_sequence earlier row && leaves_call_control earlier row && leaves_texts earlier row

-- a row with its bytes, above these: it is used or not, and if it is, a registration
abbrev pub is_row : Bool → ℕ → List Row → List ℕ → Row → Bool
is_row wide next earlier bytes row = is_flag (slice_index bytes 0) && (not row.used || is_registration wide next earlier bytes row)

-- the MF: a DF that is there, with the identifier 3F00 (ETSI TS 102 221, 8.6), whose parent is number 0, itself
abbrev pub is_mf : Node → Bool
is_mf node = node.used && node.kind == df_kind && node.id.0 == mf_id && node.parent == 0

-- a file of the same DF
abbrev pub is_sibling : Node → Node → Bool
is_sibling node other = other.used && other.parent == node.parent

-- a DF that is there
abbrev pub is_used_df : Node → Bool
is_used_df node = node.used && node.kind == df_kind

-- a file descriptor byte that the card knows: that of a DF, or of an EF that is transparent, linear fixed or cyclic
abbrev pub is_known_kind : ℕ → Bool
is_known_kind kind = kind == df_kind || is_ef_kind kind

-- an identifier that a file other than the MF may have
abbrev pub is_free_id : ℕ → Bool
is_free_id id = not (id == mf_id) && not (id == current_adf_id)

-- another file of the same DF has the identifier of this one
abbrev pub has_id_of : Node → Node → Bool
has_id_of node other = is_sibling node other && other.id.0 == node.id.0

-- none of these files in the same DF has the identifier of this one
abbrev pub has_own_id : List Node → Node → Bool
has_own_id earlier node = not (list_any (has_id_of node) earlier)

-- a DF among these
abbrev pub has_parent : List Node → Node → Bool
has_parent earlier node = option_map_or is_used_df (slice_get earlier node.parent) false

-- a file below the MF, with these of smaller numbers
abbrev pub has_place_in_tree : List Node → Node → Bool
has_place_in_tree earlier node = is_known_kind node.kind && is_free_id node.id.0 && has_own_id earlier node && has_parent earlier node

-- no byte is in both files: one ends before the other begins
abbrev pub is_apart : Node → Node → Bool
is_apart a b = nat_le (a.place + a.size) b.place || nat_le (b.place + b.size) a.place

-- a record file has whole records, at least one and at most RECORD_LIMIT, and only a cyclic one a head other than 0
abbrev pub has_whole_records : Node → Bool
has_whole_records node =
    nat_le 1 node.length && node.size % node.length == 0 && nat_le (node.size / node.length) RECORD_LIMIT
    && (if node.kind == cyclic_kind then nat_lt node.head (node.size / node.length) else node.head == 0)

-- another EF of the same DF has the short file identifier of this one
abbrev pub has_short_of : Node → Node → Bool
has_short_of node other = is_sibling node other && is_ef_kind other.kind && other.short == node.short

-- none of these EFs in the same DF has the short file identifier of this one
abbrev pub is_new_short : List Node → Node → Bool
is_new_short earlier node = not (list_any (has_short_of node) earlier)

-- a short file identifier is 0 for none, or at most 30 and that of none of these EFs in the same DF (ETSI TS 102 221, 11.1.1.4.8)
abbrev pub has_own_short : List Node → Node → Bool
has_own_short earlier node = nat_le node.short 30 && (node.short == 0 || is_new_short earlier node)

-- an EF has at least one byte, and all its bytes lie where those of the files may
abbrev pub lies_among_files : Bool → Node → Bool
lies_among_files wide node = nat_le data_place node.place && nat_le 1 node.size && nat_le (node.place + node.size) (data_end wide)

-- none of these EFs has a byte of this one
abbrev pub shares_no_byte : List Node → Node → Bool
shares_no_byte earlier node = list_all (λ other. not (is_ef_kind other.kind) || is_apart node other) earlier

-- the bytes of an EF lie where those of the files may, and none of these EFs has one of them
abbrev pub has_own_bytes : Bool → List Node → Node → Bool
has_own_bytes wide earlier node = lies_among_files wide node && shares_no_byte earlier node

-- a life cycle status that an EF may have: 04, deactivated, or 05, activated (ETSI TS 102 221, 11.1.1.4.9)
abbrev pub is_life_cycle : ℕ → Bool
is_life_cycle life = life == deactivated || life == activated

-- the records of a record file, and no head in another
abbrev pub has_right_records : Node → Bool
has_right_records node = if has_records node.kind then has_whole_records node else node.head == 0

-- an EF's entry, with these of smaller numbers: its short file identifier, life cycle status, bytes and records are as they have to be
abbrev pub is_ef : Bool → List Node → Node → Bool
is_ef wide earlier node = has_own_short earlier node && is_life_cycle node.life && has_own_bytes wide earlier node && has_right_records node

-- a file's entry with its bytes, with these of smaller numbers: number 0 is the MF; another is used or not, and if it is,
-- a DF or an EF in its place
abbrev pub is_node : Bool → ℕ → List Node → List ℕ → Node → Bool
is_node wide number earlier bytes node =
    is_flag (slice_index bytes 0)
    && (if number == 0 then is_mf node else not node.used || (has_place_in_tree earlier node && (node.kind == df_kind || is_ef wide earlier node)))

-- the rows of smaller shelves
abbrev pub rows_below : List ℕ → ℕ → List Row
rows_below content shelf = map (row_at content) (range_with_len 0 shelf)

-- the entries of the files of smaller numbers
abbrev pub nodes_below : List ℕ → ℕ → List Node
nodes_below content number = map (node_at content) (range_with_len 0 number)

-- a row as its bytes spell it, whether it is used or not
abbrev pub row_there : List ℕ → ℕ → Row
row_there content shelf = row_of (row_bytes content shelf) (bytes_apart content shelf)

-- the first bytes: the mark of a card, the version, and the byte of this kind of store
abbrev pub header_checks : ℕ → List ℕ → List Check
header_checks store_mark content =
    record { place = 0; is_met = has_card_mark content }
    ∷ record { place = version_place; is_met = is_version (slice_index content version_place) }
    ∷ record { place = store_mark_place; is_met = slice_index content store_mark_place == store_mark } ∷ []

-- the check of a PIN slot
abbrev pub pin_check : List ℕ → ℕ → Check
pin_check content slot = record { place = pin_place slot; is_met = is_pin (key_of_slot slot) (pin_bytes content slot) }

-- the check of the row of a shelf
abbrev pub row_check : List ℕ → ℕ → Check
row_check content shelf = record {
  place = row_place shelf;
  is_met = is_row (is_wide content) (number_at content sequence_place) (rows_below content shelf) (row_bytes content shelf) (row_there content shelf);
}

-- the check of the entry of a file
abbrev pub node_check : List ℕ → ℕ → Check
node_check content number = record {
  place = node_place number;
  is_met = is_node (is_wide content) number (nodes_below content number) (node_bytes content number) (node_of (node_bytes content number));
}

-- the checks of the three PIN slots
abbrev pub pin_checks : List ℕ → List Check
pin_checks content = map (pin_check content) (range_with_len 0 PIN_COUNT)

-- the checks of all rows that the card has, 32 where it is wide and else 16
abbrev pub row_checks : List ℕ → List Check
row_checks content = map (row_check content) (range_with_len 0 (row_count (is_wide content)))

-- the checks of the entries of all 128 files
abbrev pub node_checks : List ℕ → List Check
node_checks content = map (node_check content) (range_with_len 0 NODE_COUNT)

-- all checks: of the first bytes, of each PIN slot, of each row, of each file
unfoldable pub checks : ℕ → List ℕ → List Check
checks store_mark content = header_checks store_mark content ++ (pin_checks content ++ (row_checks content ++ node_checks content))

-- the place of the first check that fails
abbrev pub first_failed : List Check → Option ℕ
first_failed list = option_map (λ check. check.place) (find (λ check. not check.is_met) list)

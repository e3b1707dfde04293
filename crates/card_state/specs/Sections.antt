-- The lines of a card section, which of them may stand where, and the persistent state that they describe.
use Rattle.std.specs.Prelude.{ℕ, ◌+◌, ◌*◌, ◌-◌, ◌==◌, Bool, true, false, not, ◌&&◌, ◌||◌, nat_lt, nat_le, if◌then◌else◌, List, [], ◌∷◌, ◌++◌, length, take, drop, map, filter, find, replicate, slice_set, sum_by, count_by, Option, Some, None, is_some, is_none, unwrap_or, slice_index_or, option_map, option_and_then, Result, Ok, Err}
use Rattle.std.specs.List.{list_any, list_all}
use Rattle.list_laws.specs.Patches.{patched}
use Rattle.uicc_types.specs.declared.identifiers.FileId.{FileId}
use Rattle.uicc_types.specs.declared.keys.TheConstants.{PIN_1, PIN_2, ADM_1}
use Rattle.card_state.specs.declared.sizes.TheConstants.{NODE_COUNT, ROW_COUNT, LOWER_ROW_COUNT, TEXT_LIMIT, MENU_LIMIT, KEPT_WIDTH, KEPT_LIMIT, SIZE_LIMIT, RECORD_LIMIT, TRIES, UNBLOCK_TRIES, LAST_KIND}
use Rattle.card_state.specs.declared.shapes.Shape.{Shape}
use Rattle.card_state.specs.declared.shapes.Shape.TheVariants.{Transparent, Linear, Cyclic}
use Rattle.card_state.specs.declared.faults.SectionFault.{SectionFault}
use Rattle.card_state.specs.declared.faults.SectionFault.TheVariants.{Bad, NoRoom}
use Rattle.card_state.specs.Kinds.{df_kind, transparent_kind, linear_kind, cyclic_kind, is_ef_kind, mf_id, current_adf_id, activated, event_codes, call_control_code}
use Rattle.card_state.specs.Persistent.{Rule, Contents, Files, Bytes, Records, File, Pin, Registration, Persistent}
use Rattle.card_state.specs.Places.{data_place, data_end}
use Rattle.card_state.specs.Soundness.{mf, slot_of_key}

-- the lines, with the values that each has
pub data SectionLine : Type 0 where
  DfLine : (path : List FileId) → SectionLine
  EfLine : (path : List FileId) (shape : Shape) (short : Option ℕ) (rule : Option Rule) → SectionLine
  FillLine : (path : List FileId) (offset : ℕ) (bytes : List ℕ) → SectionLine
  RecordLine : (path : List FileId) (number : ℕ) (bytes : List ℕ) → SectionLine
  PinLine : (key : ℕ) (value : List ℕ) (enabled : Bool) (unblock : List ℕ) → SectionLine
  RowLine : (shelf priority : ℕ) (content : List ℕ) (kind : Option ℕ) → SectionLine

-- a card with the MF alone
abbrev pub bare_card : Persistent
bare_card = record { is_wide = true; files = mf ∷ []; pins = []; rows = []; next_sequence = 0 }

-- ---- paths

-- the child of a DF that has this identifier
abbrev pub child_of : List File → ℕ → FileId → Option File
child_of files df id = find (λ file. not (file.number == 0) && file.parent == df && file.id == id.0) files

-- the file at this path from a DF: each identifier but the last names a DF
abbrev pub file_at : List File → File → List FileId → Option File
file_at files from [] = Some from
file_at files from (id ∷ path) = if from.kind == df_kind then option_and_then (λ child. file_at files child path) (child_of files from.number id) else None

-- all identifiers of a path but the last
abbrev pub front_of : List FileId → List FileId
front_of path = take (length path - 1) path

-- the last identifier of a path, if it has one
abbrev pub last_of : List FileId → Option ℕ
last_of path = option_map (λ id. id.0) (find (λ _. true) (drop (length path - 1) path))

-- the DF that a new file of this path lies in
abbrev pub df_for : List File → List FileId → Option File
df_for files path = option_and_then (λ file. if file.kind == df_kind then Some file else None) (file_at files mf (front_of path))

-- one to eight identifiers, none that of the MF; what is before the last names a DF, and the last is new there
abbrev pub is_new_path : List File → List FileId → Bool
is_new_path files path =
    nat_le 1 (length path) && nat_le (length path) 8 && list_all (λ id. not (id.0 == mf_id) && not (id.0 == current_adf_id)) path
    && is_some (df_for files path) && is_none (file_at files mf path)

-- ---- files

-- how many bytes an EF of this structure has: in records, their length times their number
abbrev pub size_of : Shape → ℕ
size_of (Transparent size) = size
size_of (Linear width count) = width * count
size_of (Cyclic width count) = width * count

-- the file descriptor byte of an EF of this structure (ETSI TS 102 221, 11.1.1.4.3)
abbrev pub kind_of : Shape → ℕ
kind_of (Transparent size) = transparent_kind
kind_of (Linear width count) = linear_kind
kind_of (Cyclic width count) = cyclic_kind

-- what an EF of this structure holds when it is new: bytes FF
abbrev pub blank_contents : Shape → Contents
blank_contents (Transparent size) = Bytes (replicate size 0xFF)
blank_contents (Linear width count) = Records (replicate count (replicate width 0xFF))
blank_contents (Cyclic width count) = Records (replicate count (replicate width 0xFF))

-- a structure that a new EF may have: 1 to 32,767 bytes, or 1 to 254 records of at least one byte
abbrev pub is_shape : Shape → Bool
is_shape (Transparent size) = nat_le 1 size && nat_le size SIZE_LIMIT
is_shape (Linear width count) = nat_le 1 width && nat_le 1 count && nat_le count RECORD_LIMIT
is_shape (Cyclic width count) = nat_le 1 width && nat_le 1 count && nat_le count RECORD_LIMIT

-- 1 to 30, and no other EF of the DF has it
abbrev pub is_new_short : List File → ℕ → Option ℕ → Bool
is_new_short files df None = true
is_new_short files df (Some short) = nat_le 1 short && nat_le short 30 && not (list_any (λ file. is_ef_kind file.kind && file.parent == df && file.short == short) files)

-- a rule names a record from 1 to 254; a file may have none
abbrev pub is_rule : Option Rule → Bool
is_rule None = true
is_rule (Some rule) = nat_le 1 rule.number && nat_le rule.number RECORD_LIMIT

-- how many bytes all files have
abbrev pub byte_total_of : List File → ℕ
byte_total_of files = sum_by (λ file. file.size) files

-- so few bytes leave room for the rows of a wide card
abbrev pub fits_wide : ℕ → Bool
fits_wide total = nat_le total (data_end true - data_place)

-- a new DF in this one: like the MF, but with the next number, with this one as its parent, and with its own identifier
abbrev pub new_df : Persistent → File → ℕ → File
new_df state df id = record mf { number = length state.files; parent = df.number; id = id }

-- a new EF in this DF: activated, blank, with the next number, and its bytes after those of all files so far
abbrev pub new_ef : Persistent → File → ℕ → Shape → Option ℕ → Option Rule → File
new_ef state df id shape short rule = record {
  number = length state.files;
  parent = df.number;
  kind = kind_of shape;
  id = id;
  short = (unwrap_or short 0);
  life = activated;
  rule = rule;
  place = data_place + byte_total_of state.files;
  size = size_of shape;
  contents = blank_contents shape;
}

-- the state with one file more; it is wide where its files have few enough bytes
abbrev pub with_file : Persistent → File → Persistent
with_file state file = record state { files = state.files ++ file ∷ []; is_wide = fits_wide (byte_total_of state.files + file.size) }

-- the file with this number has these contents, and any other stays as it is
abbrev pub refilled : ℕ → Contents → File → File
refilled number contents file = if file.number == number then record file { contents = contents } else file

-- the state in which the file of this number has other contents
abbrev pub with_contents : Persistent → ℕ → Contents → Persistent
with_contents state number contents = record state { files = map (refilled number contents) state.files }

-- ---- rows

-- what the data of an installation say, in this card's own coding: a count and as many different event codes, a length and
-- the menu text, and what is kept
pub record Installation : Type 0 where
  pub codes : List ℕ
  pub text : List ℕ
  pub kept : List ℕ

-- the code of an event that an applet may be registered for
abbrev pub is_code : ℕ → Bool
is_code code = list_any (λ event. event.0 == code) event_codes

-- no code twice
abbrev pub are_different : List ℕ → Bool
are_different [] = true
are_different (code ∷ codes) = not (list_any (λ other. other == code) codes) && are_different codes

-- known codes, no code twice, a text of at most 10 bytes, and at most 64 bytes to keep
abbrev pub is_installation : Installation → Bool
is_installation found = list_all is_code found.codes && are_different found.codes && nat_le (length found.text) TEXT_LIMIT && nat_le (length found.kept) KEPT_LIMIT

-- a length, so many bytes, and the others
abbrev pub counted : List ℕ → Option (List ℕ × List ℕ)
counted [] = None
counted (count ∷ bytes) = if nat_le count (length bytes) then Some (take count bytes, drop count bytes) else None

-- what the data of an installation say; None where a length is greater than what follows it, or where they are no installation
abbrev pub installation_of : List ℕ → Option Installation
installation_of content =
    option_and_then (λ codes. option_and_then (λ text.
    let found : Installation = record { codes = codes.0; text = text.0; kept = text.1 } in
    if is_installation found then Some found else None) (counted codes.1)) (counted content)

-- a row that only a wide card can hold
abbrev pub needs_wide : Registration → Bool
needs_wide row = nat_lt (LOWER_ROW_COUNT - 1) row.shelf || nat_lt KEPT_WIDTH (length row.kept)

-- the row has a text, which makes it an item of the menu
abbrev pub has_text : Registration → Bool
has_text row = not (length row.text == 0)

-- the row is registered for call control
abbrev pub is_call_control : Registration → Bool
is_call_control row = list_any (λ code. code == call_control_code) row.codes

-- the codes in the order of the table, each of which is among these
abbrev pub sorted_codes : List ℕ → List ℕ
sorted_codes codes = map (λ event. event.0) (filter (λ event. list_any (λ code. code == event.0) codes) event_codes)

-- the row may stand beside these: the shelf is free, no second one answers call control, and at most 16 have a text
abbrev pub is_new_row : List Registration → Registration → Bool
is_new_row rows row =
    nat_le row.shelf (ROW_COUNT - 1) && nat_le 1 row.kind && nat_le row.kind LAST_KIND && nat_le 1 row.priority && not (list_any (λ other. other.shelf == row.shelf) rows)
    && not (is_call_control row && list_any is_call_control rows) && not (has_text row && nat_le MENU_LIMIT (count_by has_text rows))

-- the row of an applet that is installed: with the next sequence number, and its codes in the order of the table
abbrev pub new_row : Persistent → ℕ → ℕ → ℕ → Installation → Registration
new_row state shelf priority kind installed = record {
  shelf = shelf;
  kind = kind;
  priority = priority;
  sequence = state.next_sequence;
  codes = sorted_codes installed.codes;
  text = installed.text;
  kept = installed.kept;
}

-- the rows with one more, by ascending shelves
abbrev pub with_row : List Registration → Registration → List Registration
with_row rows row = filter (λ other. nat_lt other.shelf row.shelf) rows ++ row ∷ [] ++ filter (λ other. nat_lt row.shelf other.shelf) rows

-- ---- lines

-- A line is Bad where it breaks a rule; else there is NoRoom for it where the files would have more than 61,568 bytes or
-- would be more than 128, or where rows that need a wide card and more than 59,520 bytes of files would come together.
abbrev pub if_good : Bool → Bool → Persistent → Result Persistent SectionFault
if_good good room state = if good then (if room then Ok state else Err NoRoom) else Err Bad

-- the rows fit beside files of so many bytes: these leave room for the rows of a wide card, or no row needs one
abbrev pub rows_fit : List Registration → ℕ → Bool
rows_fit rows total = fits_wide total || not (list_any needs_wide rows)

-- at most 128 files, with at most 61,568 bytes, and with bytes that leave room for the rows
abbrev pub files_fit : Persistent → Bool
files_fit state = nat_le (length state.files) NODE_COUNT && nat_le (byte_total_of state.files) (data_end false - data_place) && rows_fit state.rows (byte_total_of state.files)

-- a new file in the DF that the front of its path names
abbrev pub if_df : Option File → (File → Result Persistent SectionFault) → Result Persistent SectionFault
if_df None known = Err Bad
if_df (Some df) known = known df

-- the identifier of the new file at this path, which is the last of the path
abbrev pub id_for : List FileId → ℕ
id_for path = unwrap_or (last_of path) 0

-- the state after `df PATH`: the path has to be new, and one file more has to fit
abbrev pub df_added : Persistent → List FileId → Result Persistent SectionFault
df_added state path =
    if_df (df_for state.files path) (λ df.
    let added = with_file state (new_df state df (id_for path)) in
    if_good (is_new_path state.files path) (files_fit added) added)

-- the state after `ef PATH ..`: the path has to be new and to lead to a DF, the EF's structure, its rule and its short identifier, new in that DF, have
-- to be such as may be, and it has to fit with its bytes
abbrev pub ef_added : Persistent → List FileId → Shape → Option ℕ → Option Rule → Result Persistent SectionFault
ef_added state path shape short rule =
    if_df (df_for state.files path) (λ df.
    let added = with_file state (new_ef state df (id_for path) shape short rule) in
    if_good (is_new_path state.files path && is_shape shape && is_new_short state.files df.number short && is_rule rule) (files_fit added) added)

-- bytes that a line can spell: 1 to 255
abbrev pub are_of_line : List ℕ → Bool
are_of_line bytes = nat_le 1 (length bytes) && nat_le (length bytes) 255

-- bytes inside a transparent file
abbrev pub bytes_filled : Persistent → ℕ → ℕ → List ℕ → Contents → Result Persistent SectionFault
bytes_filled state number offset bytes (Bytes old) =
    if_good (nat_le (offset + length bytes) (length old)) true (with_contents state number (Bytes (patched offset bytes old)))
bytes_filled state number offset bytes Files = Err Bad
bytes_filled state number offset bytes (Records old) = Err Bad

-- a record, filled up with FF
abbrev pub record_filled : Persistent → ℕ → ℕ → List ℕ → Contents → Result Persistent SectionFault
record_filled state number index bytes (Records old) =
    let width = length (slice_index_or old 0 []) in
    if_good (nat_le 1 index && nat_le index (length old) && nat_le (length bytes) width) true
    (with_contents state number (Records (slice_set old (index - 1) (bytes ++ replicate (width - length bytes) 0xFF))))
record_filled state number index bytes Files = Err Bad
record_filled state number index bytes (Bytes old) = Err Bad

-- a line about a file at a path: the file has to be there
abbrev pub if_file : Option File → (File → Result Persistent SectionFault) → Result Persistent SectionFault
if_file None known = Err Bad
if_file (Some file) known = known file

-- the key of one of the three PINs: 01, 81 or 0A (ETSI TS 102 221, 9.5.1)
abbrev pub is_key : ℕ → Bool
is_key key = key == PIN_1 || key == PIN_2 || key == ADM_1

-- the PINs with this one, in the order 01, 81, 0A
abbrev pub with_pin : List Pin → Pin → List Pin
with_pin pins pin = filter (λ other. nat_lt (slot_of_key other.key) (slot_of_key pin.key)) pins ++ pin ∷ [] ++ filter (λ other. nat_lt (slot_of_key pin.key) (slot_of_key other.key)) pins

-- each key at most once, and that of an administrator is enabled
abbrev pub pin_added : Persistent → ℕ → List ℕ → Bool → List ℕ → Result Persistent SectionFault
pin_added state key value enabled unblock =
    let pin : Pin = record { key = key; is_enabled = enabled; tries = TRIES; unblock_tries = UNBLOCK_TRIES; value = value; unblock = unblock } in
    if_good (is_key key && not (list_any (λ other. other.key == key) state.pins) && (enabled || not (key == ADM_1))) true (record state { pins = with_pin state.pins pin })

-- a row needs an applet on its shelf, which has a kind, and data that are an installation
abbrev pub if_installed : Option ℕ → Option Installation → (ℕ → Installation → Result Persistent SectionFault) → Result Persistent SectionFault
if_installed None found known = Err Bad
if_installed (Some kind) None known = Err Bad
if_installed (Some kind) (Some found) known = known kind found

-- the state after `row SHELF ..`: the row has to be one that may stand beside the others, and to fit; the next sequence number is one more then
abbrev pub row_added : Persistent → ℕ → ℕ → List ℕ → Option ℕ → Result Persistent SectionFault
row_added state shelf priority content kind =
    if_installed kind (installation_of content) (λ kind' installed.
    let row = new_row state shelf priority kind' installed in
    if_good (is_new_row state.rows row) (rows_fit (row ∷ state.rows) (byte_total_of state.files))
    (record state { rows = with_row state.rows row; next_sequence = state.next_sequence + 1 }))

-- the state with what this line adds, or why there is none
abbrev pub line_added : Persistent → SectionLine → Result Persistent SectionFault
line_added state (DfLine path) = df_added state path
line_added state (EfLine path shape short rule) = ef_added state path shape short rule
line_added state (FillLine path offset bytes) =
    if are_of_line bytes then if_file (file_at state.files mf path) (λ file. bytes_filled state file.number offset bytes file.contents) else Err Bad
line_added state (RecordLine path number bytes) =
    if are_of_line bytes then if_file (file_at state.files mf path) (λ file. record_filled state file.number number bytes file.contents) else Err Bad
line_added state (PinLine key value enabled unblock) = pin_added state key value enabled unblock
line_added state (RowLine shelf priority content kind) = row_added state shelf priority content kind

-- the state that these lines describe, or why one of them describes none
abbrev pub made_from : Result Persistent SectionFault → List SectionLine → Result Persistent SectionFault
made_from state [] = state
made_from (Err fault) (line ∷ lines) = Err fault
made_from (Ok state) (line ∷ lines) = made_from (line_added state line) lines

-- what the lines of a section describe, beginning with a card that has the MF alone
abbrev pub made : List SectionLine → Result Persistent SectionFault
made lines = made_from (Ok bare_card) lines

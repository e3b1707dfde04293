-- What registers an applet, unregisters it, and registers it for an event: the refusals in their order.
use Rattle.std.specs.Prelude.{ℕ, ◌+◌, Bool, true, false, not, ◌&&◌, ◌||◌, nat_le, ◌==◌, if◌then◌else◌, List, ◌∷◌, map, filter, find, count_by, Option, Some, None, Result, Ok, Err}
use Rattle.std.specs.Option.{option_map_or}
use Rattle.std.specs.List.{list_any}
use Rattle.uicc_types.specs.declared.events.TheConstants.{CALL_CONTROL}
use Rattle.card_state.specs.Persistent.{Registration, Persistent}
use Rattle.card_state.specs.Sections.{is_code, installation_of, needs_wide, has_text, is_call_control, sorted_codes, new_row}
use Rattle.toolkit_commands.specs.declared.items.Item.{Item}
use Rattle.toolkit_model.specs.declared.faults.RowFault.{RowFault}
use Rattle.toolkit_model.specs.declared.faults.RowFault.TheVariants.{BadData, NoBox, Narrow, Taken, MenuFull, Spent, NoRow, NotIdle}
use Rattle.toolkit_model.specs.Order.{is_for}

-- refused for this cause, if it is one
abbrev pub faulty_if : {A : Type 0} → Bool → RowFault → Result A RowFault → Result A RowFault
faulty_if true fault next = Err fault
faulty_if false fault next = next

-- what has to be there
abbrev pub unless_missing : {A B : Type 0} → Option A → RowFault → (A → Result B RowFault) → Result B RowFault
unless_missing None fault next = Err fault
unless_missing (Some x) fault next = next x

-- the row is that of this shelf
abbrev pub is_on : ℕ → Registration → Bool
is_on shelf row = row.shelf == shelf

-- the row of a shelf
abbrev pub row_on : List Registration → ℕ → Option Registration
row_on rows shelf = find (is_on shelf) rows

-- the row of a shelf, changed
abbrev pub with_changed : List Registration → ℕ → (Registration → Registration) → List Registration
with_changed rows shelf change = map (λ row. if is_on shelf row then change row else row) rows

-- the shelf has a row, or the row is to answer call control and another does
abbrev pub is_taken : List Registration → Registration → Bool
is_taken rows row = list_any (is_on row.shelf) rows || (is_call_control row && list_any is_call_control rows)

-- a menu has room for 16 texts
abbrev pub is_menu_full : List Registration → Registration → Bool
is_menu_full rows row = has_text row && nat_le 16 (count_by has_text rows)

-- the last number that a sequence number can be
abbrev pub last_sequence : ℕ
last_sequence = 65535

-- INSTALL: the row of an applet of this kind, or of none, with these data
abbrev pub installed_row : Persistent → Option ℕ → ℕ → ℕ → List ℕ → Result Registration RowFault
installed_row state kind shelf priority content =
    unless_missing (installation_of content) BadData (λ installation.
    unless_missing kind NoBox (λ known.
    let row = new_row state shelf priority known installation in
    faulty_if (needs_wide row && not state.is_wide) Narrow (
    faulty_if (is_taken state.rows row) Taken (
    faulty_if (is_menu_full state.rows row) MenuFull (
    faulty_if (state.next_sequence == last_sequence) Spent (
    Ok row))))))

-- DELETE: the row that goes, if its applet is idle
abbrev pub deleted_row : List Registration → ℕ → Bool → Result Registration RowFault
deleted_row rows shelf is_idle = unless_missing (row_on rows shelf) NoRow (λ row. faulty_if (not is_idle) NotIdle (Ok row))

-- the rows without that of this shelf
abbrev pub without_row : List Registration → ℕ → List Registration
without_row rows shelf = filter (λ row. not (is_on shelf row)) rows

-- the row of a shelf is registered for a code
abbrev pub is_registered : List Registration → ℕ → ℕ → Bool
is_registered rows shelf code = option_map_or (is_for code) (row_on rows shelf) false

-- another row answers call control
abbrev pub is_answered : List Registration → ℕ → Bool
is_answered rows shelf = list_any (λ row. not (is_on shelf row) && is_call_control row) rows

-- the row of a shelf is to be registered for a code: whether it is not yet
abbrev pub registers : List Registration → ℕ → ℕ → Result Bool RowFault
registers rows shelf code =
    faulty_if (not (is_code code)) BadData (
    faulty_if (code == CALL_CONTROL && is_answered rows shelf) Taken (
    Ok (not (is_registered rows shelf code))))

-- and no more: whether it is now
abbrev pub deregisters : List Registration → ℕ → ℕ → Result Bool RowFault
deregisters rows shelf code = faulty_if (not (is_code code)) BadData (Ok (is_registered rows shelf code))

-- the rows, of which that of the shelf is registered for one code more
abbrev pub with_code : List Registration → ℕ → ℕ → List Registration
with_code rows shelf code = with_changed rows shelf (λ row. record row { codes = sorted_codes (code ∷ row.codes) })

-- the rows, of which that of the shelf is registered for one code less
abbrev pub without_code : List Registration → ℕ → ℕ → List Registration
without_code rows shelf code = with_changed rows shelf (λ row. record row { codes = filter (λ other. not (other == code)) row.codes })

-- the rows, of which that of the shelf keeps these bytes
abbrev pub with_kept : List Registration → ℕ → List ℕ → List Registration
with_kept rows shelf bytes = with_changed rows shelf (λ row. record row { kept = bytes })

-- a row with a text has an item, whose identifier is its shelf plus 1
abbrev pub item_of : Registration → Item
item_of row = record { id = row.shelf + 1; text = row.text }

-- the items of the card's menu: those of all rows with a text, in the order of the rows
abbrev pub menu_of : List Registration → List Item
menu_of rows = map item_of (filter has_text rows)

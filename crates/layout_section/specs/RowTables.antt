-- What a contract sees of the rows of a section.
use Rattle.std.specs.Prelude.{◌≡◌, ℕ, ◌+◌, ◌-◌, ◌*◌, ◌≤◌, ◌<◌, ◌&&◌, ◌||◌, nat_lt, Bool, true, false, List, map, length, take, drop, count_by, slice_index_or}
use Rattle.card_state.specs.declared.events.TheConstants.{EVENTS_END}
use Rattle.card_state.specs.declared.sizes.TheConstants.{ROW_COUNT, LOWER_ROW_COUNT, ROW_STRIDE, ROW_WIDTH, TEXT_LIMIT, KEPT_LIMIT, KEPT_WIDTH, MENU_LIMIT}
use Rattle.card_state.specs.declared.entries.Row.{Row}
use Rattle.card_state.specs.Blank.{unused_row}
use Rattle.card_state.specs.States.{registration_of, used_rows}
use Rattle.card_state.specs.Checks.{is_call_control, shows_item}
use Rattle.card_state.specs.Decoding.{bytes_at}
use Rattle.card_state.specs.AppletKinds.{IsAppletKind}
use Rattle.layout_entries.specs.Spelling.{row_spelled}
use Rattle.layout_section.specs.Adding.{RowList}
use Rattle.layout_section.specs.declared.rows.Rows.TheInside.{Inside}

-- an applet is registered there
abbrev pub is_used : Row → Bool
is_used row = row.used

-- an applet is registered there for call control
abbrev pub controls : Row → Bool
controls row = row.used && is_call_control row

-- a row that only a wide card can hold on this shelf
abbrev pub wants_wide : ℕ → Row → Bool
wants_wide shelf row = row.used && (nat_lt (LOWER_ROW_COUNT - 1) shelf || nat_lt KEPT_WIDTH (length row.kept))

-- a row that was added
pub record IsNewRow (next : ℕ) (row : Row) : Type 0 where
  pub kind : IsAppletKind row.kind
  pub priority : 1 ≤ row.priority
  pub sequence : row.sequence < next
  pub events : row.events < EVENTS_END
  pub text : length row.text ≤ TEXT_LIMIT
  pub kept : length row.kept ≤ KEPT_LIMIT

-- these bytes begin with what the row keeps beyond 32
abbrev pub IsKeptApart : Row → List ℕ → Type 0
IsKeptApart row bytes = take (length row.kept - KEPT_WIDTH) bytes ≡ drop KEPT_WIDTH row.kept

-- each row that is used was added and took a sequence number of its own; at most one answers call control, and at most 16
-- have a text
pub record AreRowsOf (rows : List Row) (next : ℕ) : Type 0 where
  pub long : length rows ≡ ROW_COUNT
  pub count : next ≡ count_by is_used rows
  pub each : (k : ℕ) → k < ROW_COUNT → (slice_index_or rows k unused_row).used ≡ true → IsNewRow next (slice_index_or rows k unused_row)
  pub blank : (k : ℕ) → k < ROW_COUNT → (slice_index_or rows k unused_row).used ≡ false → slice_index_or rows k unused_row ≡ unused_row
  pub calls : (j k : ℕ) → j < k → k < ROW_COUNT → controls (slice_index_or rows j unused_row) ≡ true
      → controls (slice_index_or rows k unused_row) ≡ true → ⊥
  pub texts : count_by shows_item rows ≤ MENU_LIMIT
  pub apart : (j k : ℕ) → j < k → k < ROW_COUNT → (slice_index_or rows j unused_row).used ≡ true
      → (slice_index_or rows k unused_row).used ≡ true
      → (slice_index_or rows j unused_row).sequence ≡ (slice_index_or rows k unused_row).sequence → ⊥

-- the rows that a section keeps stand for registered applets
abbrev pub AreRows : Inside → Type 0
AreRows inside = AreRowsOf inside.rows inside.next

-- the applets that are registered in a section, and the next sequence number
abbrev pub rows_of : Inside → RowList
rows_of inside = record { list = map (λ entry. registration_of entry.0 entry.1) (used_rows inside.rows); next = inside.next }

-- the rows of the shelves up to 15 and of those above, as they are spelled, and what each keeps beyond 32 bytes
pub record SpellsRows (list : RowList) (lower upper kept : List ℕ) : Type 0 where
  pub rows : List Row
  pub are : AreRowsOf rows list.next
  pub is : map (λ entry. registration_of entry.0 entry.1) (used_rows rows) ≡ list.list
  pub low : (k : ℕ) → k < LOWER_ROW_COUNT → bytes_at lower (ROW_STRIDE * k) ROW_WIDTH ≡ row_spelled (slice_index_or rows k unused_row)
  pub high : (k : ℕ) → k < LOWER_ROW_COUNT
      → bytes_at upper (ROW_STRIDE * k) ROW_WIDTH ≡ row_spelled (slice_index_or rows (LOWER_ROW_COUNT + k) unused_row)
  pub more : (k : ℕ) → k < ROW_COUNT → IsKeptApart (slice_index_or rows k unused_row) (bytes_at kept (KEPT_WIDTH * k) KEPT_WIDTH)

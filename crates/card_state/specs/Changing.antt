-- A persistent state in which one file, one PIN or one row is another.
use Rattle.std.specs.Prelude.{ℕ, ◌-◌, ◌==◌, not, nat_lt, if◌then◌else◌, List, [], ◌∷◌, ◌++◌, length, take, map, filter, slice_set, Option, Some, None}
use Rattle.list_laws.specs.Patches.{patched}
use Rattle.card_state.specs.Persistent.{Contents, Files, Bytes, Records, File, Pin, Registration, Persistent}
use Rattle.card_state.specs.Soundness.{slot_of_key}
use Rattle.card_state.specs.Sections.{sorted_codes}

-- the element that is there as a list of one, or the empty list where there is none
abbrev pub listed : {X : Type 0} → Option X → List X
listed None = []
listed (Some x) = x ∷ []

-- Of a list by ascending numbers: the elements with smaller numbers, this one if there is one, those with greater numbers.
abbrev pub placed : {X : Type 0} → (X → ℕ) → ℕ → Option X → List X → List X
placed number_of number element list =
    filter (λ x. nat_lt (number_of x) number) list ++ listed element ++ filter (λ x. nat_lt number (number_of x)) list

-- with this file, or none, under this number
abbrev pub with_file_at : Persistent → ℕ → Option File → Persistent
with_file_at state number file = record state { files = placed (λ f. f.number) number file state.files }

-- with this row, or none, on this shelf
abbrev pub with_row_on : Persistent → ℕ → Option Registration → Persistent
with_row_on state shelf row = record state { rows = placed (λ r. r.shelf) shelf row state.rows }

-- with this PIN, or none, in this slot
abbrev pub with_pin_in : Persistent → ℕ → Option Pin → Persistent
with_pin_in state slot pin = record state { pins = placed (λ p. slot_of_key p.key) slot pin state.pins }

-- with this PIN in place of that with its key
abbrev pub with_pin_for : Persistent → Pin → Persistent
with_pin_for state pin = record state { pins = map (λ other. if other.key == pin.key then pin else other) state.pins }

-- ---- of one file what it holds, or its life cycle status

-- with the file of this number changed so
unfoldable pub with_file_changed : (File → File) → ℕ → Persistent → Persistent
with_file_changed change number state = record state { files = map (λ file. if file.number == number then change file else file) state.files }

-- bytes from an offset on in place of as many (ETSI TS 102 221, 11.1.4)
abbrev pub bytes_put : ℕ → List ℕ → Contents → Contents
bytes_put offset bytes Files = Files
bytes_put offset bytes (Bytes old) = Bytes (patched offset bytes old)
bytes_put offset bytes (Records old) = Records old

-- record `index + 1` (11.1.6)
abbrev pub record_put : ℕ → List ℕ → Contents → Contents
record_put index bytes Files = Files
record_put index bytes (Bytes old) = Bytes old
record_put index bytes (Records old) = Records (slice_set old index bytes)

-- a record before the others, of which the last, the oldest, goes (8.2.2.3)
abbrev pub record_pushed : List ℕ → Contents → Contents
record_pushed bytes Files = Files
record_pushed bytes (Bytes old) = Bytes old
record_pushed bytes (Records old) = Records (bytes ∷ take (length old - 1) old)

-- with other bytes from an offset on in the transparent file of this number
abbrev pub with_bytes : ℕ → ℕ → List ℕ → Persistent → Persistent
with_bytes number offset bytes state = with_file_changed (λ file. record file { contents = bytes_put offset bytes file.contents }) number state

-- with another record `index + 1` in the file of this number
abbrev pub with_record : ℕ → ℕ → List ℕ → Persistent → Persistent
with_record number index bytes state = with_file_changed (λ file. record file { contents = record_put index bytes file.contents }) number state

-- with a new record 1 in the cyclic file of this number
abbrev pub with_newest_record : ℕ → List ℕ → Persistent → Persistent
with_newest_record number bytes state = with_file_changed (λ file. record file { contents = record_pushed bytes file.contents }) number state

-- with another life cycle status of the file of this number (11.1.14, 11.1.15)
abbrev pub with_life : ℕ → ℕ → Persistent → Persistent
with_life number life state = with_file_changed (λ file. record file { life = life }) number state

-- ---- of one row its codes, or what it keeps

-- with the row on this shelf changed so
unfoldable pub with_row_changed : (Registration → Registration) → ℕ → Persistent → Persistent
with_row_changed change shelf state = record state { rows = map (λ row. if row.shelf == shelf then change row else row) state.rows }

-- registered for just the events of these codes
abbrev pub with_codes : ℕ → List ℕ → Persistent → Persistent
with_codes shelf codes state = with_row_changed (λ row. record row { codes = codes }) shelf state

-- registered for one event more
abbrev pub with_code_committed : ℕ → ℕ → Persistent → Persistent
with_code_committed shelf code state = with_row_changed (λ row. record row { codes = sorted_codes (code ∷ row.codes) }) shelf state

-- and for one less
abbrev pub without_code_committed : ℕ → ℕ → Persistent → Persistent
without_code_committed shelf code state = with_row_changed (λ row. record row { codes = filter (λ other. not (other == code)) row.codes }) shelf state

-- with these bytes kept for the next session
abbrev pub with_kept_committed : ℕ → List ℕ → Persistent → Persistent
with_kept_committed shelf kept state = with_row_changed (λ row. record row { kept = kept }) shelf state

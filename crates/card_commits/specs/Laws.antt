-- What is known of the files of a card whose table is known.
use Rattle.std.specs.Prelude.{◌≡◌, ℕ, List, length, All, IsTrue, Option, Some}
use Rattle.card_state.specs.declared.entries.Loaded.{Loaded}
use Rattle.card_state.specs.Kinds.{transparent_kind, has_records}
use Rattle.card_state.specs.Persistent.{Persistent}
use Rattle.card_state.specs.Standing.{standing, Agrees}
use Rattle.card_state.specs.States.{pins_of, rows_of}
use Rattle.file_model.specs.declared.descriptors.Descriptor.{Descriptor}
use Rattle.file_model.specs.declared.descriptors.Wanted.TheVariants.{Number}
use Rattle.file_model.specs.Files.{descriptors_of, descriptors_in, file_found}
use Rattle.file_model.specs.Holdings.{bytes_in, records_in}

-- The table tells of the files, the PINs and the rows what the state tells.
pub record IsTold (table : Loaded) (state : Persistent) : Type 0 where
  pub files : descriptors_in state ≡ descriptors_of table
  pub pins : state.pins ≡ pins_of table
  pub rows : state.rows ≡ rows_of table
  pub next : state.next_sequence ≡ table.next
  pub wide : state.is_wide ≡ table.wide

-- a table that agrees with its store tells the state that the store stands for
abbrev pub TablesTellStates : Type 0
TablesTellStates = (mark : ℕ) (told : Option (List ℕ)) (table : Loaded) (state : Persistent) → Agrees mark told table → standing mark told ≡ Some state → IsTold table state

-- A transparent file holds as many bytes as its size.
abbrev pub BytesFillFiles : Type 0
BytesFillFiles =
    (mark : ℕ) (told : Option (List ℕ)) (table : Loaded) (state : Persistent) (number : ℕ) (file : Descriptor)
    → Agrees mark told table → standing mark told ≡ Some state → file_found (descriptors_of table) (Number number) ≡ Some file → file.kind ≡ transparent_kind
    → length (bytes_in state number) ≡ file.size

-- A file with records holds as many as it has room for, each of its record length.
abbrev pub RecordsFillFiles : Type 0
RecordsFillFiles =
    (mark : ℕ) (told : Option (List ℕ)) (table : Loaded) (state : Persistent) (number : ℕ) (file : Descriptor)
    → Agrees mark told table → standing mark told ≡ Some state → file_found (descriptors_of table) (Number number) ≡ Some file → IsTrue (has_records file.kind)
    → (length (records_in state number) ≡ file.count) × All (λ bytes. length bytes ≡ file.width) (records_in state number)

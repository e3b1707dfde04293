-- One change of what a card holds, as one commit makes it, and the states after some of them.
use Rattle.std.specs.Prelude.{ℕ, ◌+◌, List, [], ◌∷◌, Option, Some, None}
use Rattle.card_state.specs.declared.entries.Row.{Row}
use Rattle.card_state.specs.Kinds.{codes_of}
use Rattle.card_state.specs.Persistent.{File, Pin, Persistent}
use Rattle.card_state.specs.States.{registration_of}
use Rattle.card_state.specs.Changing.{with_file_at, with_row_on, with_bytes, with_record, with_newest_record, with_life, with_codes, with_kept_committed}

-- The fields of a PIN that one commit sets: its tries (the retry counter); those of its UNBLOCK PIN; its value or whether it is enabled, with its tries; or
-- all but the value of the UNBLOCK PIN (ETSI TS 102 221, 11.1.9 to 11.1.13).
pub data PinFields : Type 0 where
  OfTries : PinFields
  OfUnblockTries : PinFields
  OfValue : PinFields
  OfEnabling : PinFields
  OfUnblocking : PinFields

-- A change. Of a file by its number: other bytes from an offset on, another record `index + 1`, a new record 1, or another life cycle status.
-- Of PINs: these after it; the fields and the key tell which of their bytes are written. A file that comes, that goes by its number, or that
-- has another place and size (None where there is no such file). On a shelf: a row that comes, and with it the next sequence number, no row
-- any more, other events, or other kept bytes, at most 32.
pub data Change : Type 0 where
  PutBytes : ℕ → ℕ → List ℕ → Change
  PutRecord : ℕ → ℕ → List ℕ → Change
  PutNewest : ℕ → List ℕ → Change
  PutLife : ℕ → ℕ → Change
  PutPin : PinFields → ℕ → List Pin → Change
  MakeFile : File → Change
  TakeFile : ℕ → Change
  FitFile : ℕ → Option File → Change
  AddRow : ℕ → Row → Change
  TakeRow : ℕ → Change
  PutEvents : ℕ → ℕ → Change
  PutKept : ℕ → List ℕ → Change

-- the state after a change
unfoldable pub changed : Persistent → Change → Persistent
changed state (PutBytes number offset bytes) = with_bytes number offset bytes state
changed state (PutRecord number index bytes) = with_record number index bytes state
changed state (PutNewest number bytes) = with_newest_record number bytes state
changed state (PutLife number life) = with_life number life state
changed state (PutPin fields key pins) = record state { pins = pins }
changed state (MakeFile file) = with_file_at state file.number (Some file)
changed state (TakeFile number) = with_file_at state number None
changed state (FitFile number file) = with_file_at state number file
changed state (AddRow shelf row) = record (with_row_on state shelf (Some (registration_of shelf row))) { next_sequence = state.next_sequence + 1 }
changed state (TakeRow shelf) = with_row_on state shelf None
changed state (PutEvents shelf events) = with_codes shelf (codes_of events) state
changed state (PutKept shelf kept) = with_kept_committed shelf kept state

-- the state after each of some changes, in order
unfoldable pub states_after : Persistent → List Change → List Persistent
states_after state [] = []
states_after state (change ∷ changes) = changed state change ∷ states_after (changed state change) changes

-- How many program calls a journal makes of its device, which counts those that come to it with power in 64 bits; at its end the count
-- stands still.
use Rattle.std.specs.Prelude.{◌≡◌, ℕ, ◌+◌, ◌-◌, ◌/◌, ◌%◌, ◌≤◌, nat_lt, if◌then◌else◌, sum_by, List, length, Result, OnOk, OnErr}
use Rattle.uicc_types.specs.Counts.{raised_by}
use Rattle.eeprom_model.specs.declared.device.TheConstants.{PAGE_LENGTH}
use Rattle.store_form.specs.declared.store.StoreFault.{StoreFault}
use Rattle.store_form.specs.Pieces.{Piece}
use Rattle.update_journal.specs.declared.steps.TheConstants.{ENTRIES}
use Rattle.update_journal.specs.Entries.{entries}
use Rattle.update_journal.specs.Journal.{is_open, pending}

-- ---- how many calls a write takes

-- Bytes from a place on are programmed page by page: a call for each page in which some of them lie.
unfoldable pub calls_at : ℕ → ℕ → ℕ
calls_at at count = if nat_lt 0 count then (at % PAGE_LENGTH + count - 1) / PAGE_LENGTH + 1 else 0

-- those of pieces, each in its place
abbrev pub calls_of : List Piece → ℕ
calls_of pieces = sum_by (λ piece. calls_at piece.place (length piece.bytes)) pieces

-- A commit of pieces: their entries, the gate that opens, the pieces in their places, and the gate that closes.
abbrev pub calls_to_commit : List Piece → ℕ
calls_to_commit pieces = calls_at ENTRIES (length (entries pieces)) + 1 + (calls_of pieces + 1)

-- a recovery of this image: none where its gate isn't open
abbrev pub calls_to_recover : List ℕ → ℕ
calls_to_recover image = if is_open image then calls_of (pending image) + 1 else 0

-- ---- how many calls were made

-- so many calls were counted, or fewer
abbrev pub MadeAtMost : ℕ → ℕ → ℕ → Type 0
MadeAtMost times before now = (done : ℕ) × ((done ≤ times) × (now ≡ raised_by done before))

-- A call of the store that takes so many program calls has made them.
pub record MakesCalls {T : Type 0} (times before now : ℕ) (result : Result T StoreFault) : Type 0 where
  -- after Ok just so many
  pub all : OnOk result (now ≡ raised_by times before)
  -- after a fault no more than these: those that came to the device with power
  pub no_more : OnErr result (MadeAtMost times before now)

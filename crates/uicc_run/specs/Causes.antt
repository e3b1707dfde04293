-- Why a run ends as it does, and what it leaves alone.
use Rattle.std.specs.Prelude.{◌≡◌, ◌⊎◌, ◌≤◌, ℕ, true, List, Option, None, is_some, length}
use Rattle.uicc_types.specs.Counts.{Meter}
use Rattle.byte_streams.specs.Streams.{CountsEach}
use Rattle.card_state.specs.declared.sizes.TheConstants.{ROW_COUNT}
use Rattle.card_state.specs.Persistent.{Persistent}
use Rattle.command_line.specs.Model.{AskForRun}
use Rattle.uicc_run.specs.Endings.{HasFailed, IsEarly, IsUnopened, KeepsBytes, status_for}
use Rattle.uicc_run.specs.Loading.{HoldsFixed}
use Rattle.uicc_run.specs.Playing.{Given}
use Rattle.uicc_run.specs.Scripts.{HoldsDescribed, IsHalfMade}
use Rattle.uicc_run.specs.Stores.{IsSizeFor, content_in, held_in}
use Rattle.uicc_run.specs.Worlds.{World, Seen}
use Rattle.uicc_run.specs.declared.endings.Ending.{Ending}
use Rattle.uicc_run.specs.declared.endings.Ending.TheVariants.{Usage, NoMemory, MemoryFailed}
use Rattle.uicc_run.specs.declared.endings.Task.TheVariants as task

-- A run with these words can be made over a device of so many bytes, if they are those of a run, and there is a shelf for each box.
pub record FitsRun {B : Type 0} (words : List (List ℕ)) (byte_count : ℕ) (cast : List B) : Type 0 where
  pub size : IsSizeFor words byte_count
  pub shelves : length cast ≤ ROW_COUNT

-- ---- what the memory holds where no card was opened

-- Of a store that stood for this card, or for none, and for these bytes: in `open` each of them is as it was, where the run ended for want of
-- memory, for a card that is none or that lacks a box, or where the memory failed or lost power and held no card. Where a card is made: if the
-- memory failed or lost power in that, the first eight of these bytes are the old ones, or it holds just that card; and if there was no memory for
-- the rest, it is as it was, or it holds just that card. Of the bytes of a memory that tells none, this says nothing.
pub record KeepsContent (given : Given) (ending : Ending) (held : Option Persistent) (old new : Option (List ℕ)) (IsSame : Type 0) : Type 0 where
  pub bytes : given.first ≡ None → KeepsBytes ending held → new ≡ old
  pub half_made : is_some given.first ≡ true → ending ≡ MemoryFailed task.Formatting → IsHalfMade given old new
  pub no_memory : is_some given.first ≡ true → ending ≡ NoMemory → IsSame ⊎ HoldsDescribed given new

-- the same of the device of a store
abbrev pub KeepsMemory : Given → Ending → World → World → Type 0 → Type 0
KeepsMemory given ending before after MemoryIsSame =
    KeepsContent given ending (held_in given.pages before.contents) (content_in given.pages before.contents) (content_in given.pages after.contents) MemoryIsSame

-- ---- of a run whose trace is told

-- Why a run under these words ended so, and what it left alone, be its last line taken or not: its source counted one failure where it ended for
-- that, else none. What it is for the memory and the boxes to be as they were.
pub record IsCaused (given : Given) (words : List (List ℕ)) (before after : World) (MemoryIsSame BoxesAreSame : Type 0) (ending : Ending) : Type 0 where
  pub usage : ending ≡ Usage → AskForRun words → ⊥
  pub read_failed : CountsEach before.source after.source (status_for ending ≡ 3)
  pub eeprom_failed : status_for ending ≡ 6 → HasFailed before.meter after.meter
  pub untouched : IsEarly ending → MemoryIsSame
  pub boxes_kept : IsUnopened ending → BoxesAreSame
  pub memory_kept : KeepsMemory given ending before after MemoryIsSame

-- the same of a long run, which reads no script and makes its card anew
pub record IsLoadCaused (given : Given) (before after : World) (MemoryIsSame BoxesAreSame : Type 0) (ending : Ending) : Type 0 where
  pub eeprom_failed : status_for ending ≡ 6 → HasFailed before.meter after.meter
  pub untouched : IsEarly ending → MemoryIsSame
  pub boxes_kept : IsUnopened ending → BoxesAreSame
  pub no_memory : ending ≡ NoMemory → MemoryIsSame ⊎ HoldsFixed given (content_in given.pages after.contents)

-- and of a run whose memory and boxes are gone at the end: what the memory's device counted before it, and what it had counted then
pub record IsSeenCause (words : List (List ℕ)) (seen : Seen) (memory memory_then : Meter) (ending : Ending) : Type 0 where
  pub usage : ending ≡ Usage → AskForRun words → ⊥
  pub read_failed : CountsEach seen.source seen.source_then (status_for ending ≡ 3)
  pub eeprom_failed : status_for ending ≡ 6 → HasFailed memory memory_then

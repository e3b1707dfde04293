-- The two stores that a run can be made over: the one whose pages move, and the journal.
use Rattle.std.specs.Prelude.{◌≡◌, ℕ, Bool, true, false, List, Option, Result, option_map}
use Rattle.update_journal.specs.Journal.{stable}
use Rattle.page_store.specs.Pages.{content}
use Rattle.page_store.specs.declared.places.TheConstants.{DEVICE_SIZE}
use Rattle.card_state.specs.Persistent.{Persistent}
use Rattle.card_state.specs.Places.{memory_size}
use Rattle.card_state.specs.Standing.{standing, stands_for}
use Rattle.command_line.specs.Model.{IsRequest}
use Rattle.command_line.specs.declared.requests.Request.{Request}

-- how many bytes its device has
abbrev pub size_of : Bool → ℕ
size_of true = DEVICE_SIZE
size_of false = memory_size

-- the byte that its cards have for it
abbrev pub mark_of : Bool → ℕ
mark_of true = 1
mark_of false = 0

-- the content of a device with these bytes
abbrev pub content_in : Bool → Option (List ℕ) → Option (List ℕ)
content_in true contents = content (stable contents)
content_in false contents = stable contents

-- what such a device stands for, or the place of the first check that fails, where it tells its bytes
abbrev pub memory_in : Bool → Option (List ℕ) → Option (Result Persistent ℕ)
memory_in pages contents = option_map (stands_for (mark_of pages)) (content_in pages contents)

-- the card that it stands for, if it does
abbrev pub held_in : Bool → Option (List ℕ) → Option Persistent
held_in pages contents = standing (mark_of pages) (content_in pages contents)

-- a device of so many bytes is one for a run with these words, if they are those of a run
abbrev pub IsSizeFor : List (List ℕ) → ℕ → Type 0
IsSizeFor words size = (asked : Request) → IsRequest words asked → size ≡ size_of asked.devices.pages

-- What a run of a script is given, by its words and by what is seen of it before.
use Rattle.std.specs.Prelude.{◌≡◌, ℕ, Bool, true, List, Option, Some, Result, false, None, option_map}
use Rattle.uicc_types.specs.Counts.{Meter}
use Rattle.card_state.specs.Persistent.{Persistent}
use Rattle.card_state.specs.Sections.{bare_card}
use Rattle.card_state.specs.Standing.{stands_for}
use Rattle.applet_trait.specs.Minds.{AppletState}
use Rattle.command_line.specs.Model.{IsRequest}
use Rattle.command_line.specs.declared.requests.Mode.{Mode}
use Rattle.command_line.specs.declared.requests.Mode.TheVariants as mode
use Rattle.command_line.specs.declared.requests.Request.{Request}
use Rattle.command_line.specs.declared.requests.Transport.TheVariants as transport
use Rattle.uicc_run.specs.Playing.{Given}
use Rattle.uicc_run.specs.Stores.{mark_of, memory_in}
use Rattle.uicc_run.specs.Worlds.{World}
use Rattle.uicc_run.specs.declared.listeners.Listener.{Listener}
use Rattle.uicc_run.specs.declared.listeners.Listener.TheVariants.{Card, Handset}

-- in a run of this mode
abbrev pub listener_of : Mode → Listener
listener_of (mode.Phone way) = Handset way
listener_of (mode.Load start count) = Handset transport.Direct
listener_of asked = Card

-- they go to a handset
abbrev pub is_handset : Listener → Bool
is_handset Card = false
is_handset (Handset way) = true

-- the card that the lines before `start` are added to: that with the MF alone, or none where a card is opened
abbrev pub first_of : Mode → Option Persistent
first_of mode.Open = None
first_of mode.Bip = None
first_of asked = Some bare_card

-- whether the lines after `start` go to a handset
abbrev pub is_served_by : Mode → Bool
is_served_by mode = is_handset (listener_of mode)

-- whether a run reads a script that is for a card
abbrev pub ReadsForCard : Mode → Type 0
ReadsForCard (mode.Load start count) = ⊥
ReadsForCard mode.Bip = ⊥
ReadsForCard asked = Unit {0}

-- What a run is given beside the script, read off the sink, the memory, its device and the boxes; of what the memory holds where it tells
-- its bytes.
pub record IsGiven (given : Given) (told : Bool) (taken : Option (List ℕ)) (memory : Option (Result Persistent ℕ)) (meter : Meter) (boxes : List (Option AppletState)) : Type 0 where
  pub before_is : taken ≡ given.before
  pub memory_is : told ≡ true → memory ≡ Some given.memory
  pub meter_is : meter ≡ given.meter
  pub boxes_are : boxes ≡ given.boxes

-- A run for which this is asked begins with the card with the MF alone, or with none, is made over this store, and its lines go to
-- a handset or to the card. It is one that reads a script for a card.
pub record IsAskedFor (given : Given) (asked : Request) : Type 0 where
  pub for_card : ReadsForCard asked.mode
  pub first_is : given.first ≡ first_of asked.mode
  pub store_is : given.pages ≡ asked.devices.pages
  pub served_is : given.is_served ≡ is_served_by asked.mode

-- A run in this mode is given this text and the rest, over a store with this mark: over one that tells its bytes, or over any.
pub record BeginsAs (given : Given) (told : Bool) (asked : Mode) (mark : ℕ) (before : World) : Type 0 where
  pub text_is : before.left ≡ Some given.text
  pub others_are : IsGiven given told before.taken (option_map (stands_for mark) before.contents) before.meter before.boxes
  pub for_card : ReadsForCard asked
  pub first_is : given.first ≡ first_of asked
  pub store_is : mark_of given.pages ≡ mark
  pub served_is : given.is_served ≡ is_served_by asked

-- A run is given this text and the rest, and is the one that its words ask for: over a memory that tells its bytes, or over any.
pub record RunsFrom (given : Given) (told : Bool) (words : List (List ℕ)) (before : World) : Type 0 where
  pub text_is : before.left ≡ Some given.text
  pub others_are : IsGiven given told before.taken (memory_in given.pages before.contents) before.meter before.boxes
  pub is_asked : (asked : Request) → IsRequest words asked → IsAskedFor given asked

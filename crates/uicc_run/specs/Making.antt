-- What the functions inside a run say of it, from the words to the lines after `start`. A whole run is told without it.
use Rattle.std.specs.Prelude.{◌≡◌, ◌≢◌, ◌⊎◌, ◌≤◌, ◌+◌, ℕ, Bool, true, List, [], length, Option, Some, None, Result, Ok, Err, IfSome, is_some, option_map}
use Rattle.uicc_types.specs.Counts.{Meter, Caused, Rose}
use Rattle.byte_streams.specs.Streams.{CountsEach}
use Rattle.byte_streams.specs.Reading.{IsTaken}
use Rattle.byte_streams.specs.declared.limits.TheConstants.{MOST_BYTES}
use Rattle.byte_streams.specs.declared.streams.Sink.{Ghosts as SinkWords}
use Rattle.byte_streams.specs.declared.streams.Source.{Ghosts as SourceWords}
use Rattle.script_form.specs.declared.lines.ScriptLine.{ScriptLine}
use Rattle.script_reader.specs.declared.behind.PlayEnd.{PlayEnd}
use Rattle.script_reader.specs.declared.behind.PlayEnd.TheVariants as play
use Rattle.script_reader.specs.declared.reader.ScriptReader.{ScriptReader}
use Rattle.store_form.specs.declared.store.Store.{Ghosts as StoreWords}
use Rattle.card_state.specs.Persistent.{Persistent}
use Rattle.card_state.specs.Standing.{standing, stands_for}
use Rattle.card_state.specs.declared.sizes.TheConstants.{ROW_COUNT}
use Rattle.applet_trait.specs.Minds.{minds_of, AppletState}
use Rattle.applet_trait.specs.declared.applets.Applet.{Ghosts as AppletWords}
use Rattle.card_model.specs.Counts.{IsCounted}
use Rattle.card_core.specs.declared.opening_faults.OpenFault.{OpenFault}
use Rattle.card_core.specs.declared.opening_faults.OpenFault.TheVariants as fault
use Rattle.command_line.specs.declared.requests.Mode.{Mode}
use Rattle.command_line.specs.declared.requests.Mode.TheVariants.{Bip, Load}
use Rattle.section_lines.specs.SectionReading.{AtStart}
use Rattle.long_runs.specs.declared.counts.Counts.{Counts}
use Rattle.run_steps.specs.declared.steps.MemoryFailed.{MemoryFailed as Failure}
use Rattle.uicc_run.specs.Causes.{KeepsContent}
use Rattle.uicc_run.specs.Endings.{HasFailed, IsEarly, IsUnopened, KeepsBytes, status_for}
use Rattle.uicc_run.specs.Headline.{Comes}
use Rattle.uicc_run.specs.Opening.{BeginsAs, is_handset}
use Rattle.uicc_run.specs.Loading.{ComesToLoad, HoldsFixed, IsOver}
use Rattle.uicc_run.specs.Playing.{Leaves, Given, IsOpened}
use Rattle.uicc_run.specs.Stores.{mark_of}
use Rattle.uicc_run.specs.Terminals.{ComesToBip}
use Rattle.uicc_run.specs.Worlds.{World}
use Rattle.uicc_run.specs.declared.endings.Ending.{Ending}
use Rattle.uicc_run.specs.declared.endings.Ending.TheVariants.{Usage, NoMemory, MemoryFailed, NoCard, Played, Counted}
use Rattle.uicc_run.specs.declared.endings.Task.TheVariants as task
use Rattle.uicc_run.specs.declared.endings.Refusal.TheVariants.{NotACard, NoApplet}
use Rattle.uicc_run.specs.declared.listeners.Listener.{Listener}

-- over a store: the bytes are those that it stands for
abbrev pub stored : {R W S B : Type 0} → SourceWords R → SinkWords W → StoreWords S → AppletWords B
    → R → W → S → List (Option B) → World
stored source_words sink_words store_words box_words source sink store boxes = record {
  left = source_words.left source;
  source = source_words.faults source;
  taken = sink_words.taken sink;
  sink = sink_words.faults sink;
  contents = store_words.stable store;
  meter = store_words.meter store;
  boxes = minds_of box_words.mind boxes;
}

-- over a store with this mark
abbrev pub left_of : ℕ → World → Leaves
left_of mark after = record { held = standing mark after.contents; taken = after.taken; meter = after.meter; boxes = after.boxes }

-- an end at which the memory failed, and nothing is shown but the last line: no card was open, or the run was a long one
abbrev pub IsUnshown : Ending → Type 0
IsUnshown (MemoryFailed when) = Unit {0}
IsUnshown ending = ⊥

-- A run is given this text and these boxes; its lines are for this listener, and those before `start` are added to this card, if there is
-- one.
pub record IsToPlay (given : Given) (listener : Listener) (card : Option Persistent) (left : Option (List ℕ)) (boxes : List (Option AppletState)) : Type 0 where
  pub text_is : left ≡ Some given.text
  pub boxes_are : boxes ≡ given.boxes
  pub served_is : given.is_served ≡ is_handset listener
  pub first_is : given.first ≡ card

-- What a store stands for that was made ready for the opening, if it does, is the card that is to be opened; where no card is described it is
-- what it was.
pub record StandsReady (given : Given) (section : List ScriptLine) (card : Option Persistent) (memory : Option (Result Persistent ℕ)) : Type 0 where
  pub opens : (start : Persistent) → memory ≡ Some (Ok start) → IsOpened given.boxes given.first given.memory section start
  pub described : (state : Persistent) (found : Result Persistent ℕ) → card ≡ Some state → memory ≡ Some found → found ≡ Ok state
  pub no_card : (place : ℕ) → memory ≡ Some (Err place) → given.first ≡ None
  pub kept : given.first ≡ None → memory ≡ Some given.memory

-- `start` was read, and the store was made ready for the opening; what it stands for is known where its memory tells its bytes.
pub record IsMade (given : Given) (told : Bool) (script : ScriptReader) (left taken : Option (List ℕ)) (memory : Option (Result Persistent ℕ)) (meter : Meter) (boxes : List (Option AppletState)) : Type 0 where
  pub card : Option Persistent
  pub at : AtStart given.boxes given.first given.text script left card
  pub taken_is : taken ≡ given.before
  pub counted : IsCounted given.meter meter [] []
  pub boxes_are : boxes ≡ given.boxes
  pub known : told ≡ true → StandsReady given at.section card memory

-- a store with this mark was formatted as a card is described, or it was left as it was where none is
abbrev pub makes : Option Persistent → ℕ → Option (List ℕ) → Option (List ℕ) → Type 0
makes (Some state) mark before after = IfSome after (λ content. stands_for mark content ≡ Ok state)
makes None mark before after = after ≡ before

-- why a run ends whose card was not opened
abbrev pub ending_for : OpenFault → Ending
ending_for (fault.NotACard at) = NoCard (NotACard at)
ending_for (fault.NoBox shelf) = NoCard (NoApplet shelf)
ending_for fault.Failed = MemoryFailed task.Opening
ending_for fault.PowerLost = MemoryFailed task.Opening
ending_for fault.Memory = NoMemory

-- ---- over any memory

-- a device or a store has just so many bytes, and there is a shelf for each box
pub record FitsStore {B : Type 0} (byte_count wanted : ℕ) (cast : List B) : Type 0 where
  pub size : byte_count ≡ wanted
  pub shelves : length cast ≤ ROW_COUNT

-- Whether a store tells its bytes stays, and so do its mark and its size; each fault has its cause.
pub record KeepsStoreForm {S : Type 0} (words : StoreWords S) (old new : S) (IsFailed IsLost : Type 0) : Type 0 where
  pub told : is_some (words.stable new) ≡ is_some (words.stable old)
  pub mark : words.store_mark new ≡ words.store_mark old
  pub size : words.byte_count new ≡ words.byte_count old
  pub cause : Caused (words.meter old) (words.meter new) IsFailed IsLost

-- Each end has its cause: 3 and 4 come just where the source or the sink failed, 6 only where the memory did; of a reset in which the memory failed a fault
-- was counted. A sink that tells what it has taken goes on telling it. The trace stays where the memory failed before a card was open,
-- the memory where nothing was done to it, and the boxes where no card was open; what each of these is.
pub record EndsFor (ending : Ending) (before after : World) (TraceIsSame MemoryIsSame BoxesAreSame : Type 0) : Type 0 where
  pub source_cause : CountsEach before.source after.source (status_for ending ≡ 3)
  pub sink_cause : CountsEach before.sink after.sink (status_for ending ≡ 4)
  pub memory_cause : status_for ending ≡ 6 → HasFailed before.meter after.meter
  pub reset_cause : ending ≡ Played play.ResetFailed → Rose before.meter.faults after.meter.faults
  pub tells : is_some after.taken ≡ is_some before.taken
  pub unshown : IsUnshown ending → TraceIsSame
  pub untouched : IsEarly ending → MemoryIsSame
  pub boxes : IsUnopened ending → BoxesAreSame

-- A long run ends so: not for its words, its source or its sink, nor as the lines of a script do; and for its memory only where that
-- failed. What it is for the memory and the boxes to be as they were.
pub record EndsLoad (ending : Ending) (memory memory_then : Meter) (MemoryIsSame BoxesAreSame : Type 0) : Type 0 where
  pub used : ending ≢ Usage
  pub played : (end : PlayEnd) → ending ≢ Played end
  pub unread : status_for ending ≢ 3
  pub unwritten : status_for ending ≢ 4
  pub untouched : IsEarly ending → MemoryIsSame
  pub boxes : IsUnopened ending → BoxesAreSame
  pub memory_cause : status_for ending ≡ 6 → HasFailed memory memory_then

-- A long run of so many lines from this number, before its last line, over a store that had this mark before and has this one at the end: it
-- writes nothing and reads nothing. Where there was no memory for the rest of it, the store is as it was, or it holds just the card of such a
-- run, if it tells its bytes.
pub record LoadsUntold (mark mark_then start count : ℕ) (ending : Ending) (before after : World) (ScriptIsSame TraceIsSame StoreIsSame : Type 0) : Type 0 where
  pub comes : (given : Given) (told : Bool) (taken : Option (List ℕ)) → IsOver given told (option_map (stands_for mark) before.contents) before.meter before.boxes
      → ComesToLoad given told start count ending (record (left_of mark_then after) { taken = taken })
  pub unwritten : TraceIsSame
  pub unread : ScriptIsSame
  pub no_memory : (given : Given) → mark_of given.pages ≡ mark → before.boxes ≡ given.boxes → ending ≡ NoMemory
      → StoreIsSame ⊎ HoldsFixed given after.contents

-- and where the card is only opened, of a store with this mark: no end of it is one of a formatting
pub record KeepsOpened (mark : ℕ) (ending : Ending) (before after : World) : Type 0 where
  pub bytes : KeepsBytes ending (standing mark before.contents) → after.contents ≡ before.contents
  pub formatted : ending ≢ MemoryFailed task.Formatting

-- why it ends where the card was open
abbrev pub ending_for_load : ℕ → Result Counts Failure → Ending
ending_for_load lines (Ok counts) = Counted lines counts
ending_for_load lines (Err failed) = MemoryFailed task.Counting

-- what the run of a terminal's channels comes to, and leaves alone: what it is for the memory and the boxes to be as they were
pub record ServesBip (before after : World) (MemoryIsSame BoxesAreSame : Type 0) (ending : Ending) : Type 0 where
  pub comes : (text : List ℕ) → before.left ≡ Some text → ComesToBip text before.taken after.left after.taken ending
  pub low : status_for ending ≤ 5
  pub memory_kept : MemoryIsSame
  pub boxes_kept : BoxesAreSame

-- What a run in this mode comes to before its last line, over a store that had this mark before and has this one at the end: what was carried
-- out of a script for a card, and what the store keeps; how much of the script is taken at most; a long run, and the channels of a
-- terminal; and why it ended, which was never for its words.
pub record CarriesOut (asked : Mode) (mark mark_then : ℕ) (ending : Ending) (before after : World) (ScriptIsSame TraceIsSame StoreIsSame BoxesAreSame : Type 0) : Type 0 where
  pub comes : (given : Given) (told : Bool) → BeginsAs given told asked mark before → Comes given told after.left ending (left_of mark_then after)
  pub content : (given : Given) (told : Bool) → BeginsAs given told asked mark before
      → KeepsContent given ending (standing mark before.contents) before.contents after.contents StoreIsSame
  pub taken : (text : List ℕ) → before.left ≡ Some text → IsTaken (MOST_BYTES + 1) text after.left
  pub load : (start count : ℕ) → asked ≡ Load start count → LoadsUntold mark mark_then start count ending before after ScriptIsSame TraceIsSame StoreIsSame
  pub bip : asked ≡ Bip → ServesBip before after StoreIsSame BoxesAreSame ending
  pub used : ending ≢ Usage
  pub ends : EndsFor ending before after TraceIsSame StoreIsSame BoxesAreSame

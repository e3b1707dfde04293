-- What a run owes its caller, by its words, its status and what is seen of it before and after it. Each field is a fact of its own.
use Rattle.std.specs.Prelude.{◌≡◌, ◌⊎◌, ◌+◌, ◌≤◌, ℕ, Bool, true, false, List, [], Option, Some, is_some}
use Rattle.std.specs.Io.KnownBytes.{append_known}
use Rattle.uicc_types.specs.Counts.{Rose}
use Rattle.byte_streams.specs.Streams.{CountsOnce, CountsEach}
use Rattle.byte_streams.specs.Lines.{LineList}
use Rattle.byte_streams.specs.Reading.{IsTaken}
use Rattle.byte_streams.specs.declared.limits.TheConstants.{MOST_BYTES}
use Rattle.card_state.specs.Persistent.{Persistent}
use Rattle.command_line.specs.Model.{AskForRun}
use Rattle.bip_runs.specs.Serving.{IsFirstBadBip, IsGoodBip}
use Rattle.uicc_run.specs.Causes.{IsCaused, IsLoadCaused}
use Rattle.uicc_run.specs.Endings.{HasFailed}
use Rattle.uicc_run.specs.Headline.{Closes, Traces, last_text}
use Rattle.uicc_run.specs.Loading.{AskToLoad, IsFixedCard, LoadsFrom, TracesLoad}
use Rattle.uicc_run.specs.Opening.{RunsFrom}
use Rattle.uicc_run.specs.Playing.{Given}
use Rattle.uicc_run.specs.Scripts.{CanOpen, HoldsDescribed, IsFirstBad, IsFirstTooMuch, IsGoodScript, IsUndisturbed, MeetsBad, ReachesStart, RefusesAndTells, StopsAndTells, StopsAtStart, StopsBehind, TellsNext, TellsWhy}
use Rattle.uicc_run.specs.Stores.{content_in}
use Rattle.uicc_run.specs.Terminals.{AskForBip, IsUnbroken, TracesBip}
use Rattle.uicc_run.specs.Worlds.{Seen, World, left_in, seen}
use Rattle.uicc_run.specs.declared.endings.Ending.TheVariants.{Usage, MemoryFailed}
use Rattle.uicc_run.specs.declared.endings.Task.TheVariants as task
use Rattle.uicc_run.specs.declared.endings.Refusal.{Refusal}

-- ---- which scripts end with which status

-- By the script alone, over any memory and any sink. The first three fields are of a run in which neither the source nor the sink failed and
-- whose status isn't 6. A good script ends with 0, or with 5 or 7. With a first bad line it ends with 2 and the number of that line, or with 5,
-- or, where the line comes after `start`, with 7. With a first line for which there is no room it ends with 8 and its number, or with 5. The
-- number is seen where the sink tells what it has taken. The other fields: 0 comes only for a good script, which is read to its end then; 2 and
-- 8 only for such a line; and 7 only where `start` comes after good lines.
pub record EndsByScript (given : Given) (words : List (List ℕ)) (seen : Seen) : Type 0 where
  pub good_over_any : AskForRun words → IsUndisturbed seen → IsGoodScript given → (seen.status ≡ 0) ⊎ (seen.status ≡ 5) ⊎ (seen.status ≡ 7)
  pub bad_over_any : AskForRun words → IsUndisturbed seen → (found : LineList) → IsFirstBad given found
      → ((seen.status ≡ 2) × TellsNext found seen.taken) ⊎ (seen.status ≡ 5) ⊎ ((seen.status ≡ 7) × StopsBehind given found)
  pub no_room : AskForRun words → IsUndisturbed seen → (found : LineList) → IsFirstTooMuch given found
      → ((seen.status ≡ 8) × TellsNext found seen.taken) ⊎ (seen.status ≡ 5)
  pub complete_only : seen.status ≡ 0 → IsGoodScript given
  pub read_out : seen.status ≡ 0 → seen.left ≡ Some []
  pub bad_line_only : seen.status ≡ 2 → StopsAndTells (IsFirstBad given) given.text seen.left seen.taken
  pub no_room_only : seen.status ≡ 8 → StopsAndTells (IsFirstTooMuch given) given.text seen.left seen.taken
  pub refused_only : seen.status ≡ 7 → (card : Option Persistent) × ReachesStart given card

-- By the script and what the memory holds, where that tells its bytes: so it is where the card can be opened. One that can't be is refused,
-- with why, and status 7 comes only so.
pub record EndsByCard (given : Given) (words : List (List ℕ)) (seen : Seen) : Type 0 where
  pub complete : AskForRun words → IsUndisturbed seen → IsGoodScript given → CanOpen given → (seen.status ≡ 0) ⊎ (seen.status ≡ 5)
  pub bad_line : AskForRun words → IsUndisturbed seen → (found : LineList) → MeetsBad given found
      → ((seen.status ≡ 2) × TellsNext found seen.taken) ⊎ (seen.status ≡ 5)
  pub no_card : AskForRun words → IsUndisturbed seen → (why : Refusal) → StopsAtStart given why
      → ((seen.status ≡ 7) × TellsWhy given why seen.taken) ⊎ (seen.status ≡ 5)
  pub no_card_only : seen.status ≡ 7 → RefusesAndTells given seen.taken

-- A long run is carried out to its end, where each of its rows has its box and nothing fails, if there is memory; over a memory that tells
-- nothing it may end with 7.
pub record LoadsToEnd (words : List (List ℕ)) (status : ℕ) (before after : World) : Type 0 where
  pub load_complete : (given : Given) (told : Bool) (start count : ℕ) (card : Persistent) → LoadsFrom given told start count words before
      → IsUndisturbed (seen status before after) → IsFixedCard given.boxes card → (status ≡ 0) ⊎ (status ≡ 5) ⊎ ((status ≡ 7) × (told ≡ false))

-- Statuses of the channels of a terminal: 0 to 5, of which 0 and 2 come as for a card.
pub record ServesToEnd (words : List (List ℕ)) (status : ℕ) (before after : World) : Type 0 where
  pub bip_statuses : AskForBip words → status ≤ 5
  pub bip_complete : (text : List ℕ) → AskForBip words → before.left ≡ Some text → IsUnbroken (seen status before after)
      → IsGoodBip text → (status ≡ 0) ⊎ (status ≡ 5)
  pub bip_bad_line : (text : List ℕ) → AskForBip words → before.left ≡ Some text → IsUnbroken (seen status before after)
      → (found : LineList) → IsFirstBadBip text found → ((status ≡ 2) × TellsNext found after.taken) ⊎ (status ≡ 5)
  pub bip_complete_only : (text : List ℕ) → AskForBip words → before.left ≡ Some text → status ≡ 0
      → IsGoodBip text × (after.left ≡ Some [])
  pub bip_bad_line_only : (text : List ℕ) → AskForBip words → before.left ≡ Some text → status ≡ 2
      → StopsAndTells (IsFirstBadBip text) text after.left after.taken

-- Words in no form are refused with status 1 and its line. Status 1 comes only so.
pub record RefusesWords (words : List (List ℕ)) (status : ℕ) (before after : World) : Type 0 where
  pub usage : (AskForRun words → ⊥) → Closes Usage before.taken after.taken status
  pub usage_only : status ≡ 1 → AskForRun words → ⊥

-- Why each status comes. The source counted just one failure with 3, one or none with 4, else none; the sink one with 4, else none: so neither can be
-- asked again after it failed, for that might fail too. With 6 and more than its last line, as in a reset, a fault was counted: a loss of power is
-- none. A sink that tells what it has taken goes on telling it, and one that doesn't never does.
pub record HasCauses (status : ℕ) (before after : World) : Type 0 where
  pub statuses : status ≤ 8
  pub source_failed : CountsOnce before.source after.source (status ≡ 3) (status ≡ 4)
  pub sink_failed : CountsEach before.sink after.sink (status ≡ 4)
  pub memory_failed : status ≡ 6 → HasFailed before.meter after.meter
  pub reset_failed : status ≡ 6
      → Rose before.meter.faults after.meter.faults ⊎ (after.taken ≡ append_known before.taken (last_text (MemoryFailed task.Opening)))
  pub tells : is_some after.taken ≡ is_some before.taken

-- ---- the three parts of what `run` owes

-- What was carried out, and what the sink has of it, where it tells that. Of a script for a card that tells its bytes, be the card made, opened
-- or served by a handset: where the memory tells its bytes too, the trace is that of the abstract card, and the memory holds at the end what that
-- card holds; over a memory that tells none, as an image, it shows what the card's power allows. A long run comes to the counts of a trace that
-- its lines have on its card, or, over a memory that tells nothing, of one that they have on a card with power. Where the script tells its bytes:
-- of the channels of a terminal the trace is that of the script's lines, and on each channel the card got the first of the bytes that it gave, in
-- order.
pub record HasTraces (words : List (List ℕ)) (status : ℕ) (before after : World) (MemoryIsSame BoxesAreSame : Type 0) : Type 0 where
  pub trace : (given : Given) (told : Bool) → RunsFrom given told words before
      → Traces given told after.left (left_in given.pages after) status (IsCaused given words before after MemoryIsSame BoxesAreSame)
  pub load : (given : Given) (told : Bool) (start count : ℕ) → LoadsFrom given told start count words before
      → TracesLoad given told start count before.taken (left_in given.pages after) status (IsLoadCaused given before after MemoryIsSame BoxesAreSame)
  pub bip : (text : List ℕ) → AskForBip words → before.left ≡ Some text → TracesBip text before.taken (seen status before after)

-- Which scripts end with which status, over any sink: over any memory, and by what the memory holds, where it tells its bytes. That words in no
-- form end with 1; and why 3, 4 and 6 come.
pub record HasStatuses (words : List (List ℕ)) (status : ℕ) (before after : World) : Type 0 where
  pub script : (given : Given) → RunsFrom given false words before → EndsByScript given words (seen status before after)
  pub card : (given : Given) → RunsFrom given true words before → EndsByCard given words (seen status before after)
  pub usage : RefusesWords words status before after
  pub load : LoadsToEnd words status before after
  pub bip : ServesToEnd words status before after
  pub causes : HasCauses status before after

-- What stays. The memory does where the words are in no form or there is no room for what a line describes, and for the channels of a
-- terminal, where the boxes do too. The script does where the words are in no form and in a long run; else at most 16,777,217 bytes of it are
-- taken. Where there was no memory to be had for `play` or `phone`, the device is as it was, or `start` came after good lines that describe a
-- card, and a memory that tells its bytes holds just that card.
pub record LeavesTheRest (words : List (List ℕ)) (status : ℕ) (before after : World) (ScriptIsSame MemoryIsSame BoxesAreSame : Type 0) : Type 0 where
  pub untouched : (status ≡ 1) ⊎ (status ≡ 8) → MemoryIsSame
  pub bip_untouched : AskForBip words → MemoryIsSame × BoxesAreSame
  pub unread : (AskForRun words → ⊥) → ScriptIsSame
  pub load_unread : (start count : ℕ) → AskToLoad words start count → ScriptIsSame
  pub taken : (text : List ℕ) → before.left ≡ Some text → IsTaken (MOST_BYTES + 1) text after.left
  pub no_memory : (given : Given) → RunsFrom given false words before → is_some given.first ≡ true → status ≡ 5
      → MemoryIsSame ⊎ HoldsDescribed given (content_in given.pages after.contents)

-- What a run owes its caller by its words, its status, and what is seen of it before and after it: what was carried out, and what the sink has
-- of it; which scripts end with which status; and what stays. The last three parameters say that the script, the memory and the boxes are as
-- they were.
pub record RunsAsAsked (words : List (List ℕ)) (status : ℕ) (before after : World) (ScriptIsSame MemoryIsSame BoxesAreSame : Type 0) : Type 0 where
  pub traces : HasTraces words status before after MemoryIsSame BoxesAreSame
  pub statuses : HasStatuses words status before after
  pub stays : LeavesTheRest words status before after ScriptIsSame MemoryIsSame BoxesAreSame

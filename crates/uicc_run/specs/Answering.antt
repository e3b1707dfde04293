-- What the program answers where its words ask for no page: what `run` says, over a device and boxes that are gone at the end.
use Rattle.std.specs.Prelude.{◌≡◌, ◌⊎◌, ◌+◌, ◌≤◌, ℕ, Bool, true, false, List, Option, Some, None}
use Rattle.uicc_types.specs.Counts.{Meter}
use Rattle.byte_streams.specs.Streams.{CountsOnce, CountsEach}
use Rattle.byte_streams.specs.Reading.{IsTaken}
use Rattle.byte_streams.specs.declared.limits.TheConstants.{MOST_BYTES}
use Rattle.card_state.specs.Persistent.{Persistent}
use Rattle.applet_trait.specs.Minds.{AppletState}
use Rattle.command_line.specs.Model.{IsRequest}
use Rattle.command_line.specs.declared.requests.Request.{Request}
use Rattle.uicc_run.specs.Causes.{IsSeenCause}
use Rattle.uicc_run.specs.Endings.{HasFailed, status_for}
use Rattle.uicc_run.specs.Headline.{Closes, Traces}
use Rattle.uicc_run.specs.Loading.{AskToLoad, IsFixedCard, LoadsFrom, TracesLoad}
use Rattle.uicc_run.specs.Opening.{RunsFrom}
use Rattle.uicc_run.specs.Pages.{AsksFor, AsksForNone, IsNoUse, Shows}
use Rattle.uicc_run.specs.Playing.{Given}
use Rattle.uicc_run.specs.Running.{EndsByCard, EndsByScript}
use Rattle.uicc_run.specs.Scripts.{IsUndisturbed}
use Rattle.uicc_run.specs.Stores.{size_of}
use Rattle.uicc_run.specs.Terminals.{AskForBip, TracesBip}
use Rattle.uicc_run.specs.Worlds.{World, Seen, over_bench, seen}
use Rattle.uicc_run.specs.declared.endings.Ending.TheVariants.{Usage}
use Rattle.uicc_run.specs.declared.pages.Page.{Page}

-- the memory is that of the bench, which is gone at the end
abbrev pub NameNoImage : List (List ℕ) → Type 0
NameNoImage words = (asked : Request) → IsRequest words asked → asked.devices.image ≡ None

-- A run over a device and boxes that are gone at the end: what the device stood for then, what it had counted, and the minds in the boxes.
-- Its trace is that of a memory that tells its bytes, or that of any.
pub record HasTrace (given : Given) (told : Bool) (words : List (List ℕ)) (seen : Seen) : Type 0 where
  pub held : Option Persistent
  pub meter : Meter
  pub boxes : List (Option AppletState)
  pub trace : Traces given told seen.left (record { held = held; taken = seen.taken; meter = meter; boxes = boxes }) seen.status
      (IsSeenCause words seen given.meter meter)

-- A long run of so many lines from this number, over a device and boxes that are gone at the end.
pub record HasLoaded (given : Given) (told : Bool) (start count : ℕ) (before : Option (List ℕ)) (seen : Seen) : Type 0 where
  pub held : Option Persistent
  pub meter : Meter
  pub boxes : List (Option AppletState)
  pub trace : TracesLoad given told start count before (record { held = held; taken = seen.taken; meter = meter; boxes = boxes }) seen.status
      (λ ending. status_for ending ≡ 6 → HasFailed given.meter meter)
  pub complete : (card : Persistent) → IsUndisturbed seen → IsFixedCard given.boxes card → (seen.status ≡ 0) ⊎ (seen.status ≡ 5) ⊎ ((seen.status ≡ 7) × (told ≡ false))

-- What is said over any memory, an image too, which tells nothing, and over any sink: of a script's lines the trace; by the script alone, which
-- status comes; how many bytes of it are taken at most; and what a long run comes to.
pub record KeepsToScripts (words : List (List ℕ)) (status : ℕ) (before after : World) : Type 0 where
  pub trace : (given : Given) → RunsFrom given false words before → HasTrace given false words (seen status before after)
  pub script : (given : Given) → RunsFrom given false words before → EndsByScript given words (seen status before after)
  pub taken : (text : List ℕ) → before.left ≡ Some text → IsTaken (MOST_BYTES + 1) text after.left
  pub load : (given : Given) (start count : ℕ) → LoadsFrom given false start count words before → HasLoaded given false start count before.taken (seen status before after)

-- What is said of it over a memory whose bytes were told, so that a card that can't be opened is refused, with why, and only then.
pub record HasRun (given : Given) (words : List (List ℕ)) (seen : Seen) : Type 0 where
  pub has : HasTrace given true words seen
  pub ends : EndsByCard given words seen

-- so it is over a new memory of the bench, for the store that is asked for
abbrev pub HasRunOnBench : List (List ℕ) → ℕ → World → World → Type 0
HasRunOnBench words status before after =
    (given : Given) → RunsFrom given true words (over_bench (size_of given.pages) before) → HasRun given words (seen status before after)

-- the same of a long run
abbrev pub HasLoadedOnBench : List (List ℕ) → ℕ → World → World → Type 0
HasLoadedOnBench words status before after =
    (given : Given) (start count : ℕ) → LoadsFrom given true start count words (over_bench (size_of given.pages) before)
    → HasLoaded given true start count before.taken (seen status before after)

-- the run of a terminal's channels, which is over no memory
abbrev pub HasServed : List (List ℕ) → ℕ → World → World → Type 0
HasServed words status before after =
    (text : List ℕ) → AskForBip words → before.left ≡ Some text → TracesBip text before.taken (seen status before after)

-- a page is written and nothing is read
pub record ShowsPages (words : List (List ℕ)) (status : ℕ) (before after : World) (ScriptIsSame : Type 0) : Type 0 where
  pub page : (page : Page) → AsksFor words page → Shows page before.taken after.taken status
  pub unread : (page : Page) → AsksFor words page → ScriptIsSame

-- words of no use end with their status, and no others do
pub record RefusesUseless (words : List (List ℕ)) (status : ℕ) (before after : World) : Type 0 where
  pub usage : IsNoUse words → Closes Usage before.taken after.taken status
  pub usage_only : status ≡ 1 → IsNoUse words

-- why each status comes, and that a long run takes nothing from the script
pub record HasOuterCauses (words : List (List ℕ)) (status : ℕ) (before after : World) (ScriptIsSame : Type 0) : Type 0 where
  pub load_unread : (start count : ℕ) → AskToLoad words start count → ScriptIsSame
  pub statuses : status ≤ 8
  pub source_failed : CountsOnce before.source after.source (status ≡ 3) (status ≡ 4)
  pub sink_failed : CountsEach before.sink after.sink (status ≡ 4)

-- What the program owes for its words, its status and what is seen before and after. A page is written and nothing is read. All other words
-- are those of a run: over any memory, an image too, it says which scripts are carried out, and what a status says of one; over a new memory
-- of the bench, with power and without a plan, the trace, and the counts of a long run; and the trace of a terminal's channels. Words
-- in no form are refused. Each status has its cause. `ScriptIsSame` says that the script is as it was.
pub record AnswersAsAsked (words : List (List ℕ)) (status : ℕ) (before after : World) (ScriptIsSame : Type 0) : Type 0 where
  pub page : ShowsPages words status before after ScriptIsSame
  pub script : AsksForNone words → KeepsToScripts words status before after
  pub trace : AsksForNone words → NameNoImage words → HasRunOnBench words status before after
  pub load : AsksForNone words → NameNoImage words → HasLoadedOnBench words status before after
  pub bip : AsksForNone words → HasServed words status before after
  pub usage : RefusesUseless words status before after
  pub causes : HasOuterCauses words status before after ScriptIsSame

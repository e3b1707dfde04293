-- A long run, in which a handset carries out lines that are made from a number: what it is given, and what it comes to, over a memory that
-- tells its bytes (`told` is `true`) or over any.
use Rattle.std.specs.Prelude.{◌≡◌, ℕ, Bool, true, false, List, [], Option, Some, Result, Ok, IfSome}
use Rattle.uicc_types.specs.Counts.{Meter}
use Rattle.script_reader.specs.declared.faults.ScriptFault.TheVariants as script
use Rattle.card_state.specs.Persistent.{Persistent}
use Rattle.card_state.specs.Sections.{bare_card}
use Rattle.card_state.specs.Standing.{stands_for}
use Rattle.applet_trait.specs.Minds.{AppletState}
use Rattle.card_model.specs.Counts.{IsCounted}
use Rattle.handset_model.specs.Legal.{IsLegal}
use Rattle.command_line.specs.Model.{IsRequest}
use Rattle.command_line.specs.declared.requests.Devices.{Devices}
use Rattle.command_line.specs.declared.requests.Mode.TheVariants.{Load}
use Rattle.section_lines.specs.Script.{with_lines}
use Rattle.run_steps.specs.Stepping.{Moment}
use Rattle.run_steps.specs.Views.{CardView, Known, RunShows}
use Rattle.long_runs.specs.FixedRows.{fixed_rows}
use Rattle.long_runs.specs.LoadLines.{made_lines}
use Rattle.long_runs.specs.Rows.{IsFirstRefused}
use Rattle.long_runs.specs.declared.counts.Counts.{Counts}
use Rattle.phone_runs.specs.LoadRuns.{FailsAmid, IsCountedRun}
use Rattle.phone_runs.specs.Logs.{shown, steps, trace}
use Rattle.phone_runs.specs.Runs.{Beginning}
use Rattle.uicc_run.specs.Endings.{IsUnplanned}
use Rattle.uicc_run.specs.Headline.{Closes, IsMigratedAtMost, is_known}
use Rattle.uicc_run.specs.Playing.{Given, Leaves, first_machine}
use Rattle.uicc_run.specs.Stores.{mark_of, memory_in}
use Rattle.uicc_run.specs.Worlds.{World}
use Rattle.uicc_run.specs.declared.endings.Ending.{Ending}
use Rattle.uicc_run.specs.declared.endings.Ending.TheVariants.{NoMemory, Section, MemoryFailed, NoCard, Counted}
use Rattle.uicc_run.specs.declared.endings.Task.TheVariants as task

-- what a long run is given, read off its memory, its device and the boxes; of what the memory holds where it tells its bytes
pub record IsOver (given : Given) (told : Bool) (memory : Option (Result Persistent ℕ)) (meter : Meter) (boxes : List (Option AppletState)) : Type 0 where
  pub memory_is : told ≡ true → memory ≡ Some given.memory
  pub meter_is : meter ≡ given.meter
  pub boxes_are : boxes ≡ given.boxes

-- the words ask for so many lines from this number, and the run is given the rest
pub record LoadsFrom (given : Given) (told : Bool) (start count : ℕ) (words : List (List ℕ)) (before : World) : Type 0 where
  pub devices : Devices
  pub words_are : IsRequest words (record { mode = Load start count; devices = devices })
  pub store_is : given.pages ≡ devices.pages
  pub over : IsOver given told (memory_in given.pages before.contents) before.meter before.boxes

-- the words ask for so many lines from this number
abbrev pub AskToLoad : List (List ℕ) → ℕ → ℕ → Type 0
AskToLoad words start count = (devices : Devices) × IsRequest words (record { mode = Load start count; devices = devices })

-- the card that its rows describe holds this
abbrev pub IsFixedCard : List (Option AppletState) → Persistent → Type 0
IsFixedCard boxes card = with_lines boxes (Some bare_card) fixed_rows ≡ Ok (Some card)

-- how that card is seen as it is opened: the card itself, or one that has power
abbrev pub IsFixedFirst : Given → Persistent → CardView → Type 0
IsFixedFirst given card first = Known (λ machine. machine ≡ first_machine card given.boxes) (λ on. on ≡ true) first

-- what its handset begins with: the trace is not kept
abbrev pub load_beginning : Given → CardView → Beginning
load_beginning given first = record { first = first; before = Some []; meter = given.meter }

-- this is left of a moment
pub record IsLeft (leaves : Leaves) (at : Moment) : Type 0 where
  pub held : leaves.held ≡ at.held
  pub meter : leaves.meter ≡ at.meter
  pub boxes : leaves.boxes ≡ at.boxes

-- The handset carried out all lines on the fixed card, which was seen so first, and the counts are those of the trace: it is what the rules of
-- the handset ask for, and without its notes that of a run of the card, or of steps that its power allows.
pub record Loads (given : Given) (first : CardView) (start count lines : ℕ) (counts : Counts) (leaves : Leaves) : Type 0 where
  pub card : Persistent
  pub at : Moment
  pub is_fixed : IsFixedCard given.boxes card
  pub opened : IsFixedFirst given card first
  pub lines_are : lines ≡ count
  pub counted : IsCountedRun (made_lines start count) (load_beginning given first) counts at
  pub legal : IsLegal (made_lines start count) (trace counted.log)
  pub of_card : RunShows first (steps counted.log) (shown counted.log) counted.card
  pub left : IsLeft leaves at

-- the memory failed in a reset that was asked for amid the lines
pub record FailsLoading (given : Given) (first : CardView) (start count : ℕ) (leaves : Leaves) : Type 0 where
  pub card : Persistent
  pub at : Moment
  pub is_fixed : IsFixedCard given.boxes card
  pub opened : IsFixedFirst given card first
  pub failed : FailsAmid (made_lines start count) (load_beginning given first) at
  pub left : IsLeft leaves at

-- a memory that tells these bytes holds just the card of a long run
pub record HoldsFixed (given : Given) (told : Option (List ℕ)) : Type 0 where
  pub card : Persistent
  pub is_fixed : IsFixedCard given.boxes card
  pub stands : IfSome told (λ content. stands_for (mark_of given.pages) content ≡ Ok card)

-- The memory failed or lost power while the card was opened. If it tells its bytes it stands for the card of the run, or for that migrated. No
-- plan was set.
pub record FailsToOpenFixed (given : Given) (told : Bool) (leaves : Leaves) : Type 0 where
  pub card : Persistent
  pub is_fixed : IsFixedCard given.boxes card
  pub made_at_most : told ≡ true → IsMigratedAtMost (Ok card) leaves.held
  pub counted : IsUnplanned given.meter leaves.meter

-- What the memory holds could not be opened, and it tells no bytes: one that tells them never ends so. The card of the run is known. What was
-- written or read back, and the number that the last line gives, are not. The device counted no fault and was given no plan.
pub record RefusesFixed (given : Given) (told : Bool) (leaves : Leaves) : Type 0 where
  pub untold : told ≡ false
  pub card : Persistent
  pub is_fixed : IsFixedCard given.boxes card
  pub counted : IsCounted given.meter leaves.meter [] []

-- What it comes to before its last line. The row with the number that is told is the first that can't be added to the card. Where no
-- card was opened, no plan was set either.
abbrev pub ComesToLoad : Given → Bool → ℕ → ℕ → Ending → Leaves → Type 0
ComesToLoad given told start count NoMemory leaves = IsCounted given.meter leaves.meter [] []
ComesToLoad given told start count (Section (script.BadLine number)) leaves = (so_far : Persistent) × IsFirstRefused given.boxes bare_card so_far number
ComesToLoad given told start count (MemoryFailed task.Formatting) leaves = IsUnplanned given.meter leaves.meter
ComesToLoad given told start count (MemoryFailed task.Opening) leaves = FailsToOpenFixed given told leaves
ComesToLoad given told start count (NoCard why) leaves = RefusesFixed given told leaves
ComesToLoad given told start count (Counted lines counts) leaves = (first : CardView) × (is_known first ≡ told) × Loads given first start count lines counts leaves
ComesToLoad given told start count (MemoryFailed task.Counting) leaves = (first : CardView) × (is_known first ≡ told) × FailsLoading given first start count leaves
ComesToLoad given told start count ending leaves = ⊥

-- The run ended so: nothing is put into the sink before its last line.
pub record TracesLoad (given : Given) (told : Bool) (start count : ℕ) (before : Option (List ℕ)) (leaves : Leaves) (status : ℕ) (HasCause : Ending → Type 0) : Type 0 where
  pub ending : Ending
  pub cause : HasCause ending
  pub comes : ComesToLoad given told start count ending leaves
  pub closes : Closes ending before leaves.taken status

-- What a run of the program comes to: which lines of the script were carried out, what the trace has of them, what the card's
-- memory holds, and why the run ended.
use Rattle.std.specs.Io.KnownBytes.{append_known}
use Rattle.std.specs.List.{flat_map}
use Rattle.std.specs.Prelude.{◌≡◌, ◌≢◌, ◌⊎◌, ℕ, Bool, true, false, List, [], ◌∷◌, ◌++◌, Option, Some, None, is_some, Result, Ok, Err}
use Rattle.std.specs.Result.{result_ok}
use Rattle.uicc_types.specs.Told.{Becomes}
use Rattle.byte_streams.specs.Lines.{LineList, lines}
use Rattle.byte_streams.specs.Streams.{TakesFront}
use Rattle.script_form.specs.Traces.{trace_text}
use Rattle.script_form.specs.declared.lines.ScriptLine.{ScriptLine}
use Rattle.script_form.specs.declared.lines.ScriptLine.TheVariants.{Start}
use Rattle.script_reader.specs.Said.{AreRead}
use Rattle.card_state.specs.Migration.{migrated}
use Rattle.card_state.specs.Persistent.{Persistent}
use Rattle.card_model.specs.Counts.{IsCounted}
use Rattle.card_core.specs.Boxes.{IsFirstWithoutBox}
use Rattle.card_core.specs.Openings.{with_all_shelves}
use Rattle.section_lines.specs.Script.{with_lines}
use Rattle.section_lines.specs.SectionReading.{EndsInSection, IsTakenForLast}
use Rattle.run_steps.specs.Views.{CardView, ItsPower, TheCard}
use Rattle.uicc_run.specs.Endings.{line_for, status_for, IsUnplanned}
use Rattle.uicc_run.specs.Playing.{ComesTo, Given, IsOpened, Leaves}
use Rattle.uicc_run.specs.declared.endings.Ending.{Ending}
use Rattle.uicc_run.specs.declared.endings.Ending.TheVariants.{Usage, NoMemory, Section, MemoryFailed, NoCard, Played}
use Rattle.uicc_run.specs.declared.endings.Task.TheVariants as task
use Rattle.uicc_run.specs.declared.endings.Refusal.{Refusal}
use Rattle.uicc_run.specs.declared.endings.Refusal.TheVariants.{NotACard, NoApplet}

-- nothing was put into the sink, and the memory was given no plan
pub record IsQuiet (given : Given) (leaves : Leaves) : Type 0 where
  pub written : leaves.taken ≡ given.before
  pub counted : IsUnplanned given.meter leaves.meter

-- `start` was read, and no more of the text was taken than it needs, but for the rest of the last piece. The card was not opened. `IsKnown`
-- is what is known of a memory that tells its bytes, by the lines before `start` and the card that they describe, if they do.
pub record IsNotOpened (given : Given) (told : Bool) (left : Option (List ℕ)) (leaves : Leaves) (IsKnown : List ScriptLine → Option Persistent → Type 0) : Type 0 where
  pub found : LineList
  pub more : LineList
  pub section : List ScriptLine
  pub card : Option Persistent
  pub begins : lines given.text ≡ found ++ more
  pub read : AreRead found (section ++ Start ∷ [])
  pub described : with_lines given.boxes given.first section ≡ Ok card
  pub reach : IsTakenForLast given.text found left
  pub quiet : IsQuiet given leaves
  pub known : told ≡ true → IsKnown section card

-- The memory that was to be opened holds no card: this is the first check that fails. It stands for none at the end either. Its device
-- counted no fault.
pub record IsNoCard (given : Given) (at : ℕ) (leaves : Leaves) : Type 0 where
  pub no_section : given.first ≡ None
  pub first_failed : given.memory ≡ Err at
  pub memory_kept : leaves.held ≡ None
  pub counted : IsCounted given.meter leaves.meter [] []

-- the memory holds just the card that was to be opened
pub record HoldsStart (given : Given) (section : List ScriptLine) (held : Option Persistent) : Type 0 where
  pub start : Persistent
  pub opened : IsOpened given.boxes given.first given.memory section start
  pub memory_kept : held ≡ Some start

-- The card that was to be opened has an applet on this shelf without its box, and each on a smaller shelf has one. The device of its
-- memory counted no fault.
pub record LacksBox (given : Given) (shelf : ℕ) (section : List ScriptLine) (leaves : Leaves) : Type 0 where
  pub holds : HoldsStart given section leaves.held
  pub first_missing : IsFirstWithoutBox holds.start.rows (with_all_shelves given.boxes) shelf
  pub counted : IsCounted given.meter leaves.meter [] []

-- it is for this that the card was not opened
abbrev pub IsRefused : Given → Refusal → List ScriptLine → Leaves → Type 0
IsRefused given (NotACard at) section leaves = IsNoCard given at leaves
IsRefused given (NoApplet shelf) section leaves = LacksBox given shelf section leaves

-- what a memory stands for that stood for this, where it may have failed or lost power after the migration
abbrev pub IsMigratedAtMost : Result Persistent ℕ → Option Persistent → Type 0
IsMigratedAtMost (Ok state) held = (held ≡ Some state) ⊎ (held ≡ Some (migrated state))
IsMigratedAtMost (Err at) held = held ≡ None

-- What a memory stands for that failed or lost power in the opening: the card that the lines describe, or where they describe none, what it stood for
-- before, if it did; or that card migrated.
pub record FailsToOpen (given : Given) (card held : Option Persistent) : Type 0 where
  pub made_at_most : (state : Persistent) → card ≡ Some state → IsMigratedAtMost (Ok state) held
  pub migrated_at_most : given.first ≡ None → IsMigratedAtMost given.memory held

-- There was no memory to begin with: none of the script was taken, or `start` was read and the card not opened. Nothing was shown, and the
-- device of the card's memory counted no fault and was given no plan. Where that memory tells its bytes, it stands for what it stood for before,
-- if it did, or for just the card that was to be opened.
pub record HasNoMemory (given : Given) (told : Bool) (left : Option (List ℕ)) (leaves : Leaves) : Type 0 where
  pub written : leaves.taken ≡ given.before
  pub counted : IsCounted given.meter leaves.meter [] []
  pub begun_at_most : (left ≡ Some given.text) ⊎ IsNotOpened given told left leaves (λ section card. Unit {0})
  pub memory_kept : told ≡ true → (leaves.held ≡ result_ok given.memory) ⊎ IsNotOpened given told left leaves (λ section card. HoldsStart given section leaves.held)

-- whether the card itself is known, as where its memory tells its bytes
abbrev pub is_known : CardView → Bool
is_known (TheCard machine) = true
is_known (ItsPower on) = false

-- What a run of a script comes to before its last line, where its memory tells its bytes, or over any. Before `start` the trace is empty, and
-- so it is where the card was not opened. Where the memory failed or lost power in the formatting, what it holds of that is for
-- `IsHalfMade`.
abbrev pub Comes : Given → Bool → Option (List ℕ) → Ending → Leaves → Type 0
Comes given told left Usage leaves = IsQuiet given leaves
Comes given told left NoMemory leaves = HasNoMemory given told left leaves
Comes given told left (Section fault) leaves = EndsInSection given.boxes given.first given.text left fault × IsQuiet given leaves
Comes given told left (MemoryFailed task.Formatting) leaves = IsNotOpened given told left leaves (λ section card. is_some card ≡ true)
Comes given told left (MemoryFailed task.Opening) leaves = IsNotOpened given told left leaves (λ section card. FailsToOpen given card leaves.held)
Comes given told left (NoCard why) leaves = IsNotOpened given told left leaves (λ section card. IsRefused given why section leaves)
Comes given told left (Played end) leaves = (first : CardView) × (is_known first ≡ told) × ComesTo given first left end leaves
Comes given told left ending leaves = ⊥

-- the text of the last line of an end, if it has one
abbrev pub last_text : Ending → List ℕ
last_text ending = flat_map trace_text (line_for ending)

-- The last line was taken, if there is one, and the status is that of the end; or there is one, the sink failed in that very line, and the status
-- is 4.
abbrev pub Closes : Ending → Option (List ℕ) → Option (List ℕ) → ℕ → Type 0
Closes ending before taken status =
    ((status ≡ status_for ending) × (taken ≡ append_known before (last_text ending)))
    ⊎ ((status ≡ 4) × ((line_for ending ≢ []) × Becomes (TakesFront (last_text ending)) before taken))

-- The run ended so, for this cause: what it comes to, then the last line.
pub record Traces (given : Given) (told : Bool) (left : Option (List ℕ)) (leaves : Leaves) (status : ℕ) (HasCause : Ending → Type 0) : Type 0 where
  pub ending : Ending
  pub cause : HasCause ending
  pub taken : Option (List ℕ)
  pub comes : Comes given told left ending (record leaves { taken = taken })
  pub closes : Closes ending taken leaves.taken status

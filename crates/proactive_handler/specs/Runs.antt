-- The run of an applet over the memory of a card.
use Rattle.std.specs.Prelude.{◌≡◌, ◌⊎◌, ℕ, ◌+◌, ◌<◌, Bool, if◌then◌else◌, List, [], ◌∷◌, length, map, slice_index_or, Option, Some, None, option_map, Result, Ok, Err, OnOk, OnErr}
use Rattle.uicc_types.specs.Counts.{raised_by}
use Rattle.store_form.specs.declared.store.StoreFault.{StoreFault}
use Rattle.card_state.specs.Memory.{Memory, held, IsMounted, Keeps}
use Rattle.card_state.specs.Persistent.{Registration, Persistent}
use Rattle.card_state.specs.Standing.{Agrees}
use Rattle.card_state.specs.States.{rows_of}
use Rattle.card_commits.specs.Entries.{HasRowOn}
use Rattle.card_commits.specs.Performing.{PassesOne}
use Rattle.toolkit_commands.specs.declared.commands.Proactive.{Proactive}
use Rattle.applet_trait.specs.declared.stimuli.Stimulus.{Stimulus}
use Rattle.applet_trait.specs.declared.stimuli.Act.{Act}
use Rattle.applet_trait.specs.declared.stimuli.Act.TheVariants.{Answer}
use Rattle.toolkit_model.specs.Passing.{Happening, passed_rows}
use Rattle.toolkit_model.specs.Running.{Works, Ran, run_on, most_acts}
use Rattle.toolkit_model.specs.Commands.{last_answer}
use Rattle.event_dispatch.specs.Indexes.{StandsFor}
use Rattle.proactive_handler.specs.declared.settings.Setting.{Setting as GivenSetting}
use Rattle.proactive_handler.specs.declared.endings.RunEnd.{RunEnd}
use Rattle.proactive_handler.specs.Acts.{setting_of, Stage, works_at, with_these_rows, command_of}
use Rattle.proactive_handler.specs.Counting.{Counts}
use Rattle.proactive_handler.specs.Written.{IsWritten, IsPartlyWritten}

-- what an act answers to call control
abbrev pub answer_of : Act → Option Bool
answer_of (Answer allows) = Some allows
answer_of _ = None

-- the run of an applet on a stimulus, over what it can change
abbrev pub run_of : GivenSetting → Stimulus → Works → Ran
run_of at stimulus works = run_on most_acts (setting_of at) stimulus works

-- the states with each of these rows
abbrev pub with_each_rows : List (List Registration) → Persistent → List Persistent
with_each_rows passed state = map (λ rows. with_these_rows rows state) passed

-- What a run ended with: the command that was sent, if one was, and the last answer to call control.
pub record Ended : Type 0 where
  pub sent : Option Proactive
  pub answer : Option Bool

-- a command that was sent is that of the last act
abbrev pub ended_by : Act → RunEnd → Ended
ended_by does ending = record { sent = if ending.is_sent then command_of does else None; answer = ending.answer }

-- The run came to its end: it changed what the definition changes, the store stands for the state with the rows after it, and
-- there were as many commits as are noted.
pub record IsRun (ran : Ran) (old new : Stage) (ending : Ended) : Type 0 where
  pub works_are : works_at new ≡ ran.works
  pub sent_is : ending.sent ≡ ran.sent
  pub answer_is : ending.answer ≡ last_answer ran.log
  pub stands : held new.memory ≡ option_map (with_these_rows (rows_of new.memory.table)) (held old.memory)
  pub counts : Counts (passed_rows ran.log) old.memory new.memory
  pub writes : IsWritten ran.log old.memory new.memory

-- A fault stopped one of the commits by which the rows went through these: the table has the rows before it, and the store stands
-- for those or for the ones after it. Those before it are counted, and no other.
pub record StopsAt (passed : List (List Registration)) (old new : Memory) : Type 0 where
  pub place : ℕ
  pub one_more : place + 1 < length passed
  pub table_is : slice_index_or passed place [] ≡ rows_of new.table
  pub stands : (held new ≡ option_map (with_these_rows (slice_index_or passed place [])) (held old))
      ⊎ (held new ≡ option_map (with_these_rows (slice_index_or passed (place + 1) [])) (held old))
  pub commits : new.commits ≡ raised_by place old.commits

-- A fault stopped one of the commits that are noted: which rows stand then, and which bytes.
pub record StopsIn (log : List Happening) (old new : Memory) : Type 0 where
  pub rows : StopsAt (rows_of old.table ∷ passed_rows log) old new
  pub writes : IsPartlyWritten log old new

-- A fault stopped it: the store stands for the state before it or after one of its commits.
pub record IsCut (ran : Ran) (old new : Stage) : Type 0 where
  pub passes : PassesOne (held old.memory) (held new.memory) (with_each_rows (passed_rows ran.log))
  pub stops : StopsIn ran.log old.memory new.memory

-- it comes to this run, with this act as the last, or a fault stopped it
abbrev pub RunsTo : Ran → Stage → Stage → Act → Result RunEnd StoreFault → Type 0
RunsTo ran old new does (Ok ending) = IsRun ran old new (ended_by does ending)
RunsTo ran old new does (Err fault) = IsCut ran old new

-- the same, of the run over what stands on the stage
abbrev pub Runs : (Works → Ran) → Stage → Stage → Act → Result RunEnd StoreFault → Type 0
Runs run old new does result = RunsTo (run (works_at old)) old new does result

-- ---- what it needs, and what it keeps

-- The applet on this shelf may run: its memory is mounted, it has a row there, and the index is that of the rows.
pub record MayRun (memory : Memory) (index : List (List ℕ)) (shelf : ℕ) : Type 0 where
  pub mounted : IsMounted memory
  pub row : HasRowOn memory.table shelf
  pub indexed : StandsFor index (rows_of memory.table)

-- What runs keep of a memory and of the index of its rows, also where a fault stops them.
pub record KeepsRows {X : Type 0} (old new : Memory) (index : List (List ℕ)) (result : Result X StoreFault) : Type 0 where
  -- who was registered still is
  pub rows_stay : (shelf : ℕ) → HasRowOn old.table shelf → HasRowOn new.table shelf
  -- after Ok the index is that of the rows
  pub indexed : OnOk result (StandsFor index (rows_of new.table))
  -- the rows alone change in the table
  pub table : new.table ≡ record old.table { rows = new.table.rows }
  -- after a fault the table has its form
  pub kept : OnErr result (Agrees new.mark None new.table)
  pub keeps : Keeps old new result

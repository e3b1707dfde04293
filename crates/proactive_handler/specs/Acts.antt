-- An act of an applet, carried out over the memory of a card.
use Rattle.std.specs.Prelude.{◌≡◌, ◌⊎◌, ℕ, true, List, Option, Some, None, option_map, Result, Ok, Err}
use Rattle.store_form.specs.declared.store.StoreFault.{StoreFault}
use Rattle.card_state.specs.Memory.{Memory, held}
use Rattle.card_state.specs.Persistent.{Registration, Persistent}
use Rattle.card_state.specs.States.{rows_of}
use Rattle.toolkit_commands.specs.declared.commands.Proactive.{Proactive}
use Rattle.timer_table.specs.Timers.{Owners}
use Rattle.applet_trait.specs.declared.stimuli.Stimulus.{Stimulus}
use Rattle.applet_trait.specs.declared.stimuli.Stimulus.TheVariants.{Went, Refused, Timer}
use Rattle.applet_trait.specs.declared.stimuli.Act.{Act}
use Rattle.applet_trait.specs.declared.stimuli.Act.TheVariants.{Send}
use Rattle.applet_trait.specs.Laws.{GivesTimer}
use Rattle.applet_trait.specs.Minds.{AppletState}
use Rattle.toolkit_model.specs.Passing.{passed_rows}
use Rattle.toolkit_model.specs.Running.{Setting, Works, carried, committed, admitted}
use Rattle.proactive_handler.specs.declared.settings.Setting.{Setting as GivenSetting}
use Rattle.proactive_handler.specs.declared.endings.Next.{Next}
use Rattle.proactive_handler.specs.declared.endings.Next.TheVariants.{Told as TellsNext, Idle as IdlesNext, Sent as SendsNext}
use Rattle.proactive_handler.specs.declared.endings.Reply.{Reply}
use Rattle.proactive_handler.specs.declared.endings.Reply.TheVariants.{Went as ItWent, Refused as WasRefused, Timer as GotTimer}
use Rattle.proactive_handler.specs.Counting.{Counts}
use Rattle.proactive_handler.specs.Written.{IsWritten, IsPartlyWritten}

-- what stays the same in a run, as the definitions have it
abbrev pub setting_of : GivenSetting → Setting
setting_of at = record { shelf = at.shelf.0; profile = at.profile; in_call = at.in_call }

-- what a taken timer is told by
abbrev pub timer_told : Option ℕ → Stimulus
timer_told (Some timer) = Timer timer
timer_told None = Refused

-- what an applet is told by a reply
abbrev pub stimulus_of : Reply → Stimulus
stimulus_of ItWent = Went
stimulus_of WasRefused = Refused
stimulus_of (GotTimer timer) = Timer timer

-- What comes after an act: the applet is told something, or the run ends, with a command or without.
pub data After : Type 0 where
  Told : Stimulus → After
  Idle : After
  Sent : Proactive → After

-- what comes after an act, from what the applet is told and from the command that is sent
abbrev pub next_of : Option Stimulus → Option Proactive → After
next_of (Some stimulus) sent = Told stimulus
next_of None (Some command) = Sent command
next_of None None = Idle

-- the command that an act sends
abbrev pub command_of : Act → Option Proactive
command_of (Send command) = Some command
command_of _ = None

-- what comes after this act, whose command stays where it stands
abbrev pub after : Act → Next → After
after does (TellsNext reply) = Told (stimulus_of reply)
after does IdlesNext = Idle
after does SendsNext = next_of None (command_of does)

-- ---- what stands before an act and after it

-- Where an applet runs: the memory of a card, the owners of the timers, and the applet's mind.
pub record Stage : Type 0 where
  pub memory : Memory
  pub timers : Owners
  pub mind : AppletState

-- the memory, the timers and the mind that an act is done over
abbrev pub stage : Memory → Owners → AppletState → Stage
stage memory timers mind = record { memory = memory; timers = timers; mind = mind }

-- all that a run can change of the toolkit
abbrev pub works_at : Stage → Works
works_at now = record { rows = rows_of now.memory.table; timers = now.timers; mind = now.mind }

-- a state with these rows
abbrev pub with_these_rows : List Registration → Persistent → Persistent
with_these_rows rows state = record state { rows = rows }

-- The act was carried out as it is defined, and the store stands for the state with the rows after it. It was one commit where
-- there is one.
pub record IsCarriedOut (at : Setting) (does : Act) (old new : Stage) (next : After) : Type 0 where
  pub works_are : works_at new ≡ (carried at does (works_at old)).works
  pub next_is : next ≡ next_of (carried at does (works_at old)).tells (admitted at old.timers does)
  pub stands : held new.memory ≡ option_map (with_these_rows (rows_of new.memory.table)) (held old.memory)
  pub counts : Counts (passed_rows (committed at does (carried at does (works_at old)))) old.memory new.memory
  pub writes : IsWritten (committed at does (carried at does (works_at old))) old.memory new.memory

-- A fault stopped the one commit of the act, which isn't counted: the store stands for the rows before it or for those after it,
-- and nothing else changed.
pub record IsActStopped (at : Setting) (does : Act) (old new : Stage) : Type 0 where
  pub is_commit : (carried at does (works_at old)).is_committed ≡ true
  pub works_are : works_at new ≡ works_at old
  pub stands : (held new.memory ≡ held old.memory)
      ⊎ (held new.memory ≡ option_map (with_these_rows (carried at does (works_at old)).works.rows) (held old.memory))
  pub commits : new.memory.commits ≡ old.memory.commits
  pub writes : IsPartlyWritten (committed at does (carried at does (works_at old))) old.memory new.memory

-- what an act comes to after Ok, or where a fault stops it
abbrev pub Carries : Setting → Act → Stage → Stage → Result Next StoreFault → Type 0
Carries at does old new (Ok next) = IsCarriedOut at does old new (after does next)
Carries at does old new (Err fault) = IsActStopped at does old new

-- a timer that is told of is one of the eight
abbrev pub TellsTimer : After → Type 0
TellsTimer (Told stimulus) = GivesTimer stimulus
TellsTimer _ = Unit {0}

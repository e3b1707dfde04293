-- What holds of every turn, whatever the kind.
use Rattle.std.specs.Prelude.{◌≡◌, ◌≤◌, ℕ, List, Option, Some, None}
use Rattle.toolkit_commands.specs.Table.{HasWritableTime, IsProper}
use Rattle.toolkit_commands.specs.declared.commands.Proactive.{Proactive}
use Rattle.toolkit_commands.specs.Matching.{IsBounded}
use Rattle.applet_trait.specs.declared.stimuli.Stimulus.{Stimulus}
use Rattle.applet_trait.specs.declared.stimuli.Stimulus.TheVariants.{Timer}
use Rattle.applet_trait.specs.declared.stimuli.Act.{Act}
use Rattle.applet_trait.specs.declared.stimuli.Act.TheVariants.{Done, Send, Keep}
use Rattle.applet_trait.specs.Minds.{Turn}

-- two digits can write each part of a time that is sent
abbrev pub IsWritableAct : Act → Type 0
IsWritableAct (Send command) = HasWritableTime command
IsWritableAct _ = Unit {0}

-- the number of one of the eight timers
pub record IsTimer (timer : ℕ) : Type 0 where
  pub from_1 : 1 ≤ timer
  pub up_to_8 : timer ≤ 8

-- where a timer is given, it is one of the eight (ETSI TS 102 223, 8.37)
abbrev pub GivesTimer : Stimulus → Type 0
GivesTimer (Timer timer) = IsTimer timer
GivesTimer _ = Unit {0}

-- A command that is read back as it was, if its spelling is not too long: its parts are in their ranges, and its title and
-- items within their bounds.
pub record IsSendable (command : Proactive) : Type 0 where
  pub proper : IsProper command
  pub bounded : IsBounded command

-- what is sent is such a command
abbrev pub IsProperAct : Act → Type 0
IsProperAct (Send command) = IsSendable command
IsProperAct _ = Unit {0}

-- the bytes that an act asks to be kept
abbrev pub asked_by : Act → Option (List ℕ)
asked_by (Keep bytes) = Some bytes
asked_by _ = None

-- a turn of an applet of this kind, for which these bytes are kept now
pub record IsLawful (kind : ℕ) (kept : List ℕ) (made : Turn) : Type 0 where
  pub same_kind : made.next.kind ≡ kind
  pub same_kept : made.next.kept ≡ kept
  pub asked : made.next.asked ≡ asked_by made.does
  pub reset : made.does ≡ Done → made.next.phase ≡ 0
  pub writable : IsWritableAct made.does

-- A line ends: what is left to do for it falls with each command, answer, note and reset.
use Rattle.std.specs.Prelude.{ℕ, ◌+◌, ◌-◌, ◌*◌, List}
use Rattle.handset_model.specs.declared.TheConstants.{MOST_COMMANDS}
use Rattle.handset_model.specs.declared.known.Duty.{Duty}
use Rattle.handset_model.specs.declared.known.Duty.TheVariants.{Rest, Transmit, Await, Show, ResetCard}
use Rattle.handset_model.specs.History.{Happened, Said, commands}
use Rattle.handset_model.specs.Rules.{asked}

-- how far a duty is from the end of what follows one command
abbrev pub rank : Duty → ℕ
rank Rest = 0
rank (Transmit command) = 1
rank (Show note) = 2
rank ResetCard = 2
rank Await = 3

-- what can still be done for a line for which so many commands were sent
abbrev pub work : ℕ → Duty → ℕ
work count duty = 4 * (MOST_COMMANDS - count) + rank duty

-- what is left to do in a line, after all that happened
abbrev pub work_left : List Happened → ℕ
work_left h = work (commands h) (asked h)

-- the event is no new line
abbrev pub IsOfLine : Happened → Type 0
IsOfLine (Said line) = ⊥
IsOfLine _ = Unit {0}

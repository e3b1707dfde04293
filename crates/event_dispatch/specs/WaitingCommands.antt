-- How a command that waits lies in a frame of bytes: the shelf of the applet that sent it, and the command as it is spelled
-- with the number 1.
use Rattle.std.specs.Prelude.{◌≡◌, ℕ, ◌≤◌, List, length, drop, slice_index_or, Result, Ok, Err}
use Rattle.uicc_types.specs.declared.identifiers.Shelf.{Shelf}
use Rattle.toolkit_commands.specs.declared.commands.Proactive.{Proactive}
use Rattle.toolkit_commands.specs.declared.commands.Proactive.TheVariants.{MoreTime}
use Rattle.toolkit_commands.specs.declared.commands.Details.{Details}
use Rattle.toolkit_commands.specs.declared.faults.ProactiveFault.{ProactiveFault}
use Rattle.toolkit_commands.specs.Table.{spelled, IsProper, details_of}
use Rattle.toolkit_commands.specs.Reading.{proactive_of}
use Rattle.toolkit_model.specs.Sessions.{Sent}

-- the command that was read; more time, which asks for nothing, where none was
abbrev pub read_command : Result (Details × Proactive) ProactiveFault → Proactive
read_command (Ok found) = found.1
read_command (Err fault) = MoreTime

-- the command that the bytes are read as
abbrev pub command_of : List ℕ → Proactive
command_of bytes = read_command (proactive_of bytes)

-- the command in a frame, whose first byte is the shelf
abbrev pub command_in : List ℕ → Proactive
command_in part = command_of (drop 1 part)

-- the frame holds a command that is read back
pub record IsCommandFrame (part : List ℕ) : Type 0 where
  pub begins : 1 ≤ length part
  pub ends : length part ≤ 256
  pub spelled_is : drop 1 part ≡ spelled (command_in part) 1
  pub proper : IsProper (command_in part)
  pub read : proactive_of (drop 1 part) ≡ Ok (details_of (command_in part) 1, command_in part)

-- the command of a frame, with who sent it
abbrev pub sent_in : List ℕ → Sent
sent_in part = record { shelf = slice_index_or part 0 0; command = command_in part }

-- a command that the applet on a shelf sent
abbrev pub sent : Shelf → Proactive → Sent
sent shelf command = record { shelf = shelf.0; command = command }

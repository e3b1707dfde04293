-- How the outstanding command is kept: by its bytes (ETSI TS 102 223, 6.6).
use Rattle.std.specs.Prelude.{◌≡◌, ℕ, List, Option, option_map}
use Rattle.uicc_types.specs.declared.identifiers.Shelf.{Shelf}
use Rattle.toolkit_commands.specs.declared.commands.Details.{Details}
use Rattle.toolkit_commands.specs.Table.{spelled, details_of}
use Rattle.event_dispatch.specs.WaitingCommands.{command_of}

-- the number of a shelf, where there is one
abbrev pub shelf_of : Option Shelf → Option ℕ
shelf_of shelf = option_map (λ s. s.0) shelf

-- the bytes are those of a command, and the details are its own
pub record IsSpelled (details : Details) (bytes : List ℕ) : Type 0 where
  pub bytes_are : bytes ≡ spelled (command_of bytes) details.number
  pub details_are : details ≡ details_of (command_of bytes) details.number

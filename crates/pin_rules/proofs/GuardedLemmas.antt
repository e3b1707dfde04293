-- Whatever the command, a value that is presented takes a try of its own before it is compared.
use Rattle.file_model.specs.declared.commands.PinCommand.{PinCommand}
use Rattle.file_model.specs.declared.commands.PinCommand.TheVariants.{Verify, Change, Disable, Enable, Unblock}
use Rattle.file_model.specs.Commands.{pin_outcome}
use Rattle.file_model.specs.Guards.{GuardsPins, guard_of}
use Rattle.file_model.proofs.GuardsLemmas.{verify_guarded, change_guarded, disable_guarded, enable_guarded, unblock_is_guarded}

pub guarded : (command : PinCommand) → GuardsPins (guard_of command) (pin_outcome command)
guarded Verify = verify_guarded
guarded Change = change_guarded
guarded Disable = disable_guarded
guarded Enable = enable_guarded
guarded Unblock = unblock_is_guarded

use Rattle.file_model.specs.declared.commands.PinCommand.TheVariants.{Verify, Change, Disable, Enable, Unblock}
use Rattle.file_model.proofs.PinsLemmas.{pin_verified_so, pin_changed_so, pin_disabled_so, pin_enabled_so, pin_unblocked_so}
use Rattle.file_model.proofs.PassesChangesLemmas.{pins_pass}
use Rattle.file_model.proofs.laws.pin_commands_are_lawful.Goals as goal

pub returns-clause-lawful : goal.returns-clause-lawful
returns-clause-lawful c Verify = pin_verified_so
returns-clause-lawful c Change = pin_changed_so
returns-clause-lawful c Disable = pin_disabled_so
returns-clause-lawful c Enable = pin_enabled_so
returns-clause-lawful c Unblock = pin_unblocked_so

pub returns-clause-passes : goal.returns-clause-passes
returns-clause-passes c = pins_pass

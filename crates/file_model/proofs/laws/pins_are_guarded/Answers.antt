use Rattle.file_model.specs.declared.commands.PinCommand.TheVariants.{Verify, Change, Disable, Enable, Unblock}
use Rattle.file_model.proofs.GuardsLemmas.{verify_guarded, change_guarded, disable_guarded, enable_guarded, unblock_is_guarded}
use Rattle.file_model.proofs.laws.pins_are_guarded.Goals as goal

pub returns : goal.returns
returns c Verify = verify_guarded
returns c Change = change_guarded
returns c Disable = disable_guarded
returns c Enable = enable_guarded
returns c Unblock = unblock_is_guarded

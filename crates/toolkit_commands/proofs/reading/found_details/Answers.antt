use Rattle.std.proofs.Common.{◌∙◌}
use Rattle.toolkit_commands.proofs.ProactiveOfLemmas.{details_read_ok, details_read_err, details_of_read}
use Rattle.toolkit_commands.proofs.reading.found_details.Goals as goal

pub returns-in-Ok-clause-exact : goal.returns-in-Ok-clause-exact
returns-in-Ok-clause-exact c = details_read_ok c.args.bytes.now c.in-Ok.details c.in-Ok.ensures

pub returns-in-Ok-clause-of_command : goal.returns-in-Ok-clause-of_command
returns-in-Ok-clause-of_command c details command e =
    returns-in-Ok-clause-exact c ∙ details_of_read c.args.bytes.now details command e

pub returns-in-Err-clause-exact : goal.returns-in-Err-clause-exact
returns-in-Err-clause-exact c = details_read_err c.args.bytes.now _ c.in-Err.ensures

pub returns-in-Err-clause-of_command : goal.returns-in-Err-clause-of_command
returns-in-Err-clause-of_command c details command e =
    returns-in-Err-clause-exact c ∙ details_of_read c.args.bytes.now details command e

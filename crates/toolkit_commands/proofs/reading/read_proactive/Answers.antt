use Rattle.std.proofs.Common.{sym, Ok, Err}
use Rattle.toolkit_commands.proofs.FourFaultsLemmas.{result_is_bounded, result_is_spelled}
use Rattle.toolkit_commands.proofs.reading.read_proactive.Goals as goal

pub returns-in-Ok-clause-bounded : goal.returns-in-Ok-clause-bounded
returns-in-Ok-clause-bounded c =
    result_is_bounded c.args.bytes.now (Ok (c.in-Ok.details, c.read_command.new.command)) (sym c.in-Ok.ensures.exact)

pub returns-in-Ok-clause-read_back : goal.returns-in-Ok-clause-read_back
returns-in-Ok-clause-read_back c =
    result_is_spelled c.args.bytes.now (Ok (c.in-Ok.details, c.read_command.new.command)) (sym c.in-Ok.ensures.exact) c.requires

pub returns-in-Err-clause-read_back : goal.returns-in-Err-clause-read_back
returns-in-Err-clause-read_back c =
    result_is_spelled c.args.bytes.now (Err c.in-Err.fault) (sym c.in-Err.ensures.exact) c.requires

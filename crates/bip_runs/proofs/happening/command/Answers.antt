use Rattle.std.proofs.Common.{◌∙◌}
use Rattle.bip_runs.proofs.TakesFrontLemmas.{command_put, tells_front, tells_put, tells_whole}
use Rattle.bip_runs.proofs.happening.command.Goals as goal

pub returns-in-Err-clause-tells : goal.returns-in-Err-clause-tells
returns-in-Err-clause-tells g c = tells_front _ _ _ c.in-Err.ensures.err

pub returns-in-Ok-clause-tells : goal.returns-in-Ok-clause-tells
returns-in-Ok-clause-tells g c = tells_put c.write_trace.result _ _ _ c.write_trace.ensures.ok c.write_trace.ensures.err ∙ tells_whole _ _ _ c.in-Ok.ensures.ok

pub returns-in-Ok-clause-shown : goal.returns-in-Ok-clause-shown
returns-in-Ok-clause-shown g c history is =
    command_put c.write_trace.result _ _ _ _ _ _ _ c.as_slice-command.ensures.value (c.command-response.ensures.answer _ is)
    c.in-Ok.ensures.ok c.write_trace.ensures.ok c.write_trace.ensures.err

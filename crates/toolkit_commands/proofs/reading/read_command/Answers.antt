use Rattle.std.proofs.Common.{refl, subst}
use Rattle.toolkit_commands.specs.Steps.{Tells, command_of}
use Rattle.toolkit_commands.proofs.ProactiveOfLemmas.{opened_by_table}
use Rattle.toolkit_commands.proofs.reading.read_command.Goals as goal

pub returns-clause-exact : goal.returns-clause-exact
returns-clause-exact c =
    let content = c.in_ok-objects_in.field-0.now in
    subst (Tells c.details_and.result c.details_and.new.command)
    (opened_by_table c.args.bytes.now content (command_of content) c.in_ok-objects_in.ensures.exact refl) c.details_and.ensures.exact

use Rattle.toolkit_commands.proofs.LengthsOfCommandsLemmas.{length_put}
use Rattle.bip_channels.proofs.responses.put.Goals as goal

pub returns-clause-size : goal.returns-clause-size
returns-clause-size c = rw c.in-Ok.ensures.ok (length_put c.args.objects.now c.args.tag c.args.value.now c.requires.short)

use Rattle.bip_channels.proofs.TaggedLemmas.{length_put_long}
use Rattle.bip_channels.proofs.responses.put_bytes.Goals as goal

pub returns-clause-size : goal.returns-clause-size
returns-clause-size c = rw c.in-Ok.ensures.ok (length_put_long c.args.objects.now 54 c.args.bytes.now c.requires.short)

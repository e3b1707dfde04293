use Rattle.bip_channels.proofs.KeptCarriedLemmas.{cut_is, after_cut}
use Rattle.bip_channels.proofs.terminal.Bip.cut_link.Goals as goal

pub returns-clause-event : goal.returns-clause-event
returns-clause-event c = λ channels is_kept. cut_is channels c.args.self.now is_kept c.args.channel c.drop_link.result c.drop_link.ensures.event

pub returns-clause-after : goal.returns-clause-after
returns-clause-after c = λ channels is_kept. after_cut channels c.args.self.now is_kept c.args.channel c.drop_link.new.self c.drop_link.ensures.after

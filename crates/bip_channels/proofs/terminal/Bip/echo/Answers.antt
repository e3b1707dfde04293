use Rattle.bip_channels.proofs.KeptCarriedLemmas.{echo_is, after_echo}
use Rattle.bip_channels.proofs.terminal.Bip.echo.Goals as goal

pub returns-clause-event : goal.returns-clause-event
returns-clause-event c = λ channels is_kept. echo_is channels c.args.self.now is_kept c.args.channel c.args.count c.bring_back.result c.bring_back.ensures.event

pub returns-clause-after : goal.returns-clause-after
returns-clause-after c = λ channels is_kept. after_echo channels c.args.self.now is_kept c.args.channel c.args.count c.bring_back.new.self c.bring_back.ensures.after

use Rattle.bip_channels.proofs.TrafficLemmas.{open_tells, open_is_front}
use Rattle.bip_channels.proofs.laws.each_channel_tells.Goals as goal

pub returns : goal.returns
returns c = record { tells = open_tells; prefix = open_is_front }

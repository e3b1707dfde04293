use Rattle.bip_channels.specs.History.{channel_after, given, got}
use Rattle.bip_channels.proofs.TellsLemmas.{tells, is_front, closes, opens}
use Rattle.bip_channels.proofs.laws.received_is_prefix.Goals as goal

pub returns : goal.returns
returns c =
    record {
      tells = tells;
      prefix = λ size history fit. is_front (channel_after size history) (given size history) (got size history) (tells size history fit);
      closes = closes;
      opens = opens;
    }

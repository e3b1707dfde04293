use Rattle.phone_runs.proofs.ExchangesLemmas.{responses_taken}
use Rattle.phone_runs.proofs.ApduOfLemmas.{responses_some}
use Rattle.phone_runs.proofs.fetching.responses_are_taken.Goals as goal

pub returns : goal.returns
returns c = responses_taken c.cards_go_on.ensures.events c.responses_are_read.ensures responses_some

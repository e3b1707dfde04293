use Rattle.phone_runs.proofs.ExchangesLemmas.{announced_fetched}
use Rattle.phone_runs.proofs.fetching.announced_commands_are_fetched.Goals as goal

pub returns : goal.returns
returns c = announced_fetched c.fetches_give_commands.ensures.gives

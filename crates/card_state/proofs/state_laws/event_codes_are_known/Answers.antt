use Rattle.card_state.proofs.AreEventCodesLemmas.{codes_known}
use Rattle.card_state.proofs.state_laws.event_codes_are_known.Goals as goal

pub returns : goal.returns
returns c = codes_known

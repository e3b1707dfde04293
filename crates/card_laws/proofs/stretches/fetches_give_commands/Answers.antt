use Rattle.card_laws.proofs.FetchingLemmas.{fetch_gives, fetch_carried_out}
use Rattle.card_laws.proofs.stretches.fetches_give_commands.Goals as goal

pub returns-clause-gives : goal.returns-clause-gives
returns-clause-gives c = fetch_gives

pub returns-clause-carried : goal.returns-clause-carried
returns-clause-carried c = fetch_carried_out c.cards_go_on.ensures.good c.cards_go_on.ensures.answers

use Rattle.card_core.proofs.AreSelectedLemmas.{opened_selected}
use Rattle.card_core.proofs.channels.open.Goals as goal

pub returns-in-Some-clause-selected : goal.returns-in-Some-clause-selected
returns-in-Some-clause-selected c = λ files start all. opened_selected files c.args.channels.now c.open.new.self c.channel.result c.in-Some.number start all c.in-Some.ensures.opened

use Rattle.card_laws.proofs.NotedLemmas.{command_noted, command_gives}
use Rattle.card_laws.proofs.KeepsThroughoutLemmas.{all_noted, all_gives, all_follow}
use Rattle.card_laws.proofs.stretches.events_are_noted.Goals as goal

pub returns-clause-events : goal.returns-clause-events
returns-clause-events c = λ knows card events runs ready can. (
  all_noted c.cards_go_on.ensures.events knows runs command_noted card events ready can,
  all_gives c.cards_go_on.ensures.events knows runs command_gives card events ready can,
)

pub returns-clause-follow : goal.returns-clause-follow
returns-clause-follow c = λ knows card early late runs ready can. all_follow c.cards_go_on.ensures.events knows runs card early late ready can

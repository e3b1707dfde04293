use Rattle.card_laws.proofs.LeavesUnansweredLemmas.{others_leave}
use Rattle.card_laws.proofs.stretches.unanswered_commands_stay.Goals as goal

pub returns : goal.returns
returns c = others_leave c.cards_go_on.ensures.answers

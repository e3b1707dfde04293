use Rattle.card_laws.proofs.ActInTurnLemmas.{all_act, command_acts}
use Rattle.card_laws.proofs.stretches.applets_act_at_each_event.Goals as goal

pub returns : goal.returns
returns c = λ knows card events runs ready can. all_act c.cards_go_on.ensures.events command_acts knows runs card events ready can

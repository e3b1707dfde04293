use Rattle.card_laws.proofs.ActInTurnLemmas.{command_acts}
use Rattle.card_laws.proofs.AfterActLemmas.{turn_tells}
use Rattle.card_laws.proofs.stretches.applets_act_in_turn.Goals as goal

pub returns-clause-commands : goal.returns-clause-commands
returns-clause-commands c = command_acts

pub returns-clause-turns : goal.returns-clause-turns
returns-clause-turns c = turn_tells

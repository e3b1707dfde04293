use Rattle.card_laws.proofs.TakingLemmas.{carried_taken}
use Rattle.card_laws.proofs.stretches.carried_commands_are_taken.Goals as goal

pub returns : goal.returns
returns c = carried_taken

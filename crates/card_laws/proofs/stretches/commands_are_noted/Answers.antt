use Rattle.toolkit_model.specs.Steps.{Report}
use Rattle.card_laws.proofs.NotedLemmas.{command_noted, command_gives, envelope_gives}
use Rattle.card_laws.proofs.stretches.commands_are_noted.Goals as goal

pub returns-clause-envelopes : goal.returns-clause-envelopes
returns-clause-envelopes c = λ envelope state. (envelope_gives envelope state, command_gives (Report envelope) state)

pub returns-clause-alone : goal.returns-clause-alone
returns-clause-alone c = command_gives

pub returns-clause-commands : goal.returns-clause-commands
returns-clause-commands c = command_noted

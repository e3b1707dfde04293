use Rattle.card_laws.proofs.NumberAfterLemmas as numbers
use Rattle.card_laws.proofs.sending.commands_are_numbered.Goals as goal

pub returns-clause-numbered : goal.returns-clause-numbered
returns-clause-numbered c = numbers.commands_are_numbered

pub returns-clause-in_range : goal.returns-clause-in_range
returns-clause-in_range c = numbers.numbers_are_in_range

pub returns-clause-come_back : goal.returns-clause-come_back
returns-clause-come_back c = numbers.numbers_come_back

pub returns-clause-differ : goal.returns-clause-differ
returns-clause-differ c = numbers.numbers_differ

use Rattle.phone_runs.proofs.EndsAreOfTheCardLemmas.{ended_of_card}
use Rattle.phone_runs.proofs.EndsAreBegunLemmas.{ended_begun}
use Rattle.phone_runs.proofs.RunsAreLegalLemmas.{begun, legal, of_the_card}
use Rattle.phone_runs.proofs.laws.phone_runs_are_lawful.Goals as goal

pub returns-clause-legal : goal.returns-clause-legal
returns-clause-legal c = legal

pub returns-clause-begun : goal.returns-clause-begun
returns-clause-begun c = begun

pub returns-clause-card : goal.returns-clause-card
returns-clause-card c = of_the_card

pub returns-clause-ended : goal.returns-clause-ended
returns-clause-ended c = ended_begun

pub returns-clause-card_ended : goal.returns-clause-card_ended
returns-clause-card_ended c = ended_of_card

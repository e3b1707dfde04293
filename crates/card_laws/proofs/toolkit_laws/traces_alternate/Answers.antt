use Rattle.std.specs.Prelude.{is_some}
use Rattle.toolkit_model.specs.Commands.{unanswered}
use Rattle.card_laws.specs.Traces.{signals}
use Rattle.card_laws.proofs.EventsInLemmas.{step_good}
use Rattle.card_laws.proofs.TracesLemmas.{run_alternates, ends_between}
use Rattle.card_laws.proofs.toolkit_laws.traces_alternate.Goals as goal

pub returns-clause-alternate : goal.returns-clause-alternate
returns-clause-alternate c = λ old new steps items runs.
    run_alternates c.cards_go_on.ensures.good c.cards_go_on.ensures.answers c.cards_go_on.ensures.refused c.answers_are_lawful.ensures.never_failed runs
    (step_good c.restarts_are_good.ensures c.answers_are_lawful.ensures.lawful c.answers_are_lawful.ensures.faults c.cards_stay_good.ensures.answers c.cards_stay_good.ensures.faults) old new steps items

pub returns-clause-between : goal.returns-clause-between
returns-clause-between c = λ old new steps items runs good have run.
    ends_between (is_some (unanswered old.card.session)) (signals items) (returns-clause-alternate c old new steps items runs good have run)

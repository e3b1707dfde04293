use Rattle.std.proofs.Common.{refl}
use Rattle.card_model.specs.States.{powered, woken}
use Rattle.card_model.proofs.WokenLemmas.{woken_is_good}
use Rattle.phone_runs.proofs.HandsetsAreServedLemmas.{all_served}
use Rattle.phone_runs.proofs.handset_laws.handsets_are_served.Goals as goal

pub returns-clause-served : goal.returns-clause-served
returns-clause-served c = λ old new steps lines trace good on keeps run.
    all_served c.cards_go_on.ensures.events c.unanswered_commands_stay.ensures c.details_are_read.ensures c.announced_commands_are_fetched.ensures c.responses_are_taken.ensures old
    (record { order = c.cards_go_on.ensures.good old.card good; basic = good.channels.basic }) on new steps lines trace keeps run

pub returns-clause-from_start : goal.returns-clause-from_start
returns-clause-from_start c = λ persistent boxes new steps lines trace sound shelves has kinds keeps run.
    returns-clause-served c (powered (woken persistent boxes)) new steps lines trace (woken_is_good persistent boxes sound shelves has kinds) refl keeps run

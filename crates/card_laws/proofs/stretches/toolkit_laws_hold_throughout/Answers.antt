use Rattle.std.proofs.Common.{subst}
use Rattle.card_model.specs.Instructions.{is_known}
use Rattle.card_laws.specs.Moving.{AllCanHappen}
use Rattle.card_laws.proofs.NotedLemmas.{command_gives}
use Rattle.card_laws.proofs.KeepsThroughoutLemmas.{stretch_keeps}
use Rattle.card_laws.proofs.stretches.toolkit_laws_hold_throughout.Goals as goal

pub returns-clause-cards : goal.returns-clause-cards
returns-clause-cards c = λ knows card early middle late runs ready can.
    stretch_keeps c.cards_go_on.ensures.events knows runs command_gives c.toolkit_laws_hold_of_cards.ensures.reach c.toolkit_laws_hold_of_cards.ensures.events
    c.responses_reach_who_asked.ensures c.sessions_stay_in_order.ensures card early middle late ready can

pub returns-clause-runs : goal.returns-clause-runs
returns-clause-runs c = λ old new steps items run early middle late runs ready is.
    returns-clause-cards c is_known old.card early middle late runs ready
    (subst (AllCanHappen is_known old.card) is (c.toolkit_laws_hold_of_runs.ensures.events old new steps items run).0)

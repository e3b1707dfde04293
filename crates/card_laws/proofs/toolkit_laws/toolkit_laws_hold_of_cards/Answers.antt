use Rattle.std.proofs.Common.{sym, subst}
use Rattle.toolkit_model.specs.Orderly.{asks}
use Rattle.toolkit_model.specs.Passing.{ToolkitState}
use Rattle.toolkit_model.specs.Awaiting.{awaited, ReachesWhoAsked}
use Rattle.card_model.specs.Toolkit.{toolkit_of}
use Rattle.card_laws.specs.Moving.{all_taken, noted_of}
use Rattle.card_laws.proofs.RunsTargetsLemmas.{runs_targets}
use Rattle.card_laws.proofs.toolkit_laws.toolkit_laws_hold_of_cards.Goals as goal

pub returns-clause-one : goal.returns-clause-one
returns-clause-one c = λ knows card events runs ready can.
    let all = c.cards_go_on.ensures.events knows card events runs ready can in
    (c.one_command_is_outstanding.ensures.one (all_taken knows card events) (toolkit_of card) ready.order all.0, c.one_command_is_outstanding.ensures.between (all_taken knows card events) (toolkit_of card) ready.order all.0)

pub returns-clause-reach : goal.returns-clause-reach
returns-clause-reach c = λ knows card events shelf runs ready can.
    let all = c.cards_go_on.ensures.events knows card events runs ready can in
    subst (λ (state : ToolkitState). ReachesWhoAsked shelf (awaited shelf (asks card.session)) (noted_of knows card events).log (awaited shelf (asks state.session))) (sym all.1)
    (c.responses_reach_who_asked.ensures (all_taken knows card events) (toolkit_of card) shelf ready.order all.0)

pub returns-clause-events : goal.returns-clause-events
returns-clause-events c = λ knows card events shelf runs ready can.
    c.no_event_is_lost.ensures (all_taken knows card events) (toolkit_of card) shelf ready.order (c.cards_go_on.ensures.events knows card events runs ready can).0

pub returns-clause-order : goal.returns-clause-order
returns-clause-order c = λ knows card bytes command ready is. runs_targets c.idle_targets_run_in_order.ensures.by_envelope c.idle_targets_run_in_order.ensures.by_card card ready command

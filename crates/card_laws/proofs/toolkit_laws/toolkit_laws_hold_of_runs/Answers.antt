use Rattle.std.proofs.Common.{List, ◌∷◌, sym, ◌∙◌, ap, subst}
use Rattle.toolkit_model.specs.Orderly.{asks}
use Rattle.toolkit_model.specs.Awaiting.{awaited, ReachesWhoAsked}
use Rattle.card_model.specs.Instructions.{is_known}
use Rattle.card_model.specs.States.{CardState}
use Rattle.card_model.specs.Toolkit.{toolkit_of}
use Rattle.card_laws.specs.Happened.{events_in, noted_in}
use Rattle.card_laws.specs.Moving.{HasOrder, Event, Answers, AllCanHappen, card_after_all}
use Rattle.card_laws.proofs.EventsInLemmas.{Lead, run_leads, early_can, run_good}
use Rattle.card_laws.proofs.toolkit_laws.toolkit_laws_hold_of_runs.Goals as goal

pub returns-clause-events : goal.returns-clause-events
returns-clause-events c = run_leads

pub returns-clause-good : goal.returns-clause-good
returns-clause-good c = run_good c.restarts_are_good.ensures c.answers_are_lawful.ensures.lawful c.answers_are_lawful.ensures.faults c.cards_stay_good.ensures.answers c.cards_stay_good.ensures.faults

pub returns-clause-laws : goal.returns-clause-laws
returns-clause-laws c = λ old new steps items run runs ready.
    let events : List Event = events_in old steps items new run in
    let lead : Lead old.card events new.card = run_leads old new steps items run in
    let all = c.cards_go_on.ensures.events is_known old.card events runs ready lead.0 in
    let one = c.toolkit_laws_hold_of_cards.ensures.one is_known old.card events runs ready lead.0 in
    record {
      one = one.0;
      between = one.1;
      reach = λ shelf. subst (λ (card : CardState). ReachesWhoAsked shelf (awaited shelf (asks old.card.session)) (noted_in old steps items new run).log (awaited shelf (asks card.session))) lead.1
          (c.toolkit_laws_hold_of_cards.ensures.reach is_known old.card events shelf runs ready lead.0);
      lost = λ shelf. c.toolkit_laws_hold_of_cards.ensures.events is_known old.card events shelf runs ready lead.0;
      order = λ early late bytes command is took.
          let can : AllCanHappen is_known old.card early = early_can old.card early (Answers bytes ∷ late) (subst (AllCanHappen is_known old.card) is lead.0) in
          c.toolkit_laws_hold_of_cards.ensures.order is_known (card_after_all is_known old.card early) bytes command (c.cards_go_on.ensures.events is_known old.card early runs ready can).2 took;
      toolkit = sym (ap toolkit_of lead.1) ∙ all.1;
      in_order = subst HasOrder lead.1 all.2;
    }

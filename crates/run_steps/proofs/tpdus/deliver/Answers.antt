use Rattle.t0_link.specs.Linking.{Linked, link_answer}
use Rattle.run_steps.specs.Ends.{end_words}
use Rattle.run_steps.proofs.DeliversLemmas.{delivers}
use Rattle.run_steps.proofs.tpdus.deliver.Goals as goal

pub returns-clause-delivers : goal.returns-clause-delivers
returns-clause-delivers g c = λ old is.
    let left : Linked = record { answer = c.exchange-outcome.new.out; kept = c.exchange-outcome.new.self.kept } in
    delivers end_words old c.args.end.now c.prepare-is_set.new.end c.exchange-outcome.new.card c.clear_plan.new.self c.runs_are_counted.ensures.plans is
    (λ apdu result answer transmitted. transmitted) (link_answer c.args.link.now.kept c.args.tpdu.now) c.exchange-outcome.result left c.prepare-is_set.result (c.prepare-is_set.ensures c.args.link.now.kept) c.clear_plan.ensures
    c.exchange-outcome.ensures.moves c.exchange-outcome.ensures.none_kept

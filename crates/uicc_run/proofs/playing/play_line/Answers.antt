-- A line does nothing, is out of place, or goes to card or link, where reset or sink may fail: each is joined to the lines before it.
use Rattle.std.proofs.Common.{false, refl, ap}
use Rattle.uicc_types.specs.declared.runs.Step.TheVariants as step
use Rattle.t0_link.specs.Linking.{LinkState}
use Rattle.script_reader.proofs.BehindLemmas.{bad_behind}
use Rattle.run_steps.proofs.SteppingLemmas.{plans_more}
use Rattle.run_steps.proofs.StandingLemmas.{machine_minds, machine_stands}
use Rattle.uicc_run.proofs.HasKindsOfLemmas.{machine_kinds}
use Rattle.uicc_run.proofs.PlayingLemmas.{breaks_in, comes_to_end, ends_playing, fails_in, plays_further, plays_on, stands_there, step_breaks, step_does, tpdu_breaks, tpdu_does}
use Rattle.uicc_run.specs.Steps.{may_stand}
use Rattle.uicc_run.specs.Accounts.{Takes, Transfers}
use Rattle.uicc_run.proofs.playing.play_line.Goals as goal

pub returns-in-Err-clause-played : goal.returns-in-Err-clause-played
returns-in-Err-clause-played g c = λ given first playing.
    comes_to_end given first _ _ _ (ends_playing given first _ _ _ _ _ _ (machine_stands c.args.card.now.parts) (λ machine is. record { kinds = machine_kinds c.args.card.now.parts machine is; minds = machine_minds c.args.card.now.parts machine is }) (λ found follows. c.in-Err.ensures.gives (may_stand given.is_served) given.text found follows) playing)

pub returns-in-Nothing-clause-played : goal.returns-in-Nothing-clause-played
returns-in-Nothing-clause-played g c = λ given first playing.
    plays_on given first _ _ _ _ c.read_behind.new.line (λ found follows. c.in-Ok.ensures.gives (may_stand given.is_served) given.text found follows) _ _ c.in-Nothing.ensures.0 c.in-Nothing.ensures.1 playing

pub returns-in-OutOfPlace-clause-played : goal.returns-in-OutOfPlace-clause-played
returns-in-OutOfPlace-clause-played g c = λ given first playing.
    ends_playing given first _ _ _ _ _ _ (machine_stands c.args.card.now.parts) (λ machine is. record { kinds = machine_kinds c.args.card.now.parts machine is; minds = machine_minds c.args.card.now.parts machine is }) (λ found follows. bad_behind (may_stand given.is_served) given.text found c.read_behind.new.script _ c.read_behind.new.line _ (c.in-Ok.ensures.gives (may_stand given.is_served) given.text found follows) (stands_there given c.read_behind.new.line false playing.unserved c.in-OutOfPlace.ensures) c.number.ensures) playing

pub returns-in-Ok-exchange-clause-played : goal.returns-in-Ok-exchange-clause-played
returns-in-Ok-exchange-clause-played g c = λ given first playing.
    plays_further given first _ _ _ _ c.read_behind.new.line (λ found follows. c.in-Ok.ensures.gives (may_stand given.is_served) given.text found follows) c.args.link.now.kept c.clear.new.self.kept _ _ (Takes (step.Apdu c.in-Sends.apdu.now)) c.runs_are_counted.ensures.join c.plans_are_set_in_order.ensures
    c.in-Sends.ensures.0.0 c.in-Sends.ensures.0.1 (λ old seen. step_does (step.Apdu c.in-Sends.apdu.now) c.args.link.now.kept c.clear.new.self.kept old _ _ (ap (λ (l : LinkState). l.kept) c.clear.ensures) (c.in-Ok-exchange.ensures.gives old seen).taken) playing

pub returns-in-Err-exchange-clause-played : goal.returns-in-Err-exchange-clause-played
returns-in-Err-exchange-clause-played g c = λ given first playing.
    breaks_in given first _ _ _ (g.R.Source.left c.read_behind.new.source) c.read_behind.new.line (λ found follows. c.in-Ok.ensures.gives (may_stand given.is_served) given.text found follows) c.args.link.now.kept c.clear.new.self.kept _ _ (Takes (step.Apdu c.in-Sends.apdu.now)) c.runs_are_counted.ensures.join
    c.in-Sends.ensures.0.1 (λ old seen. step_breaks (step.Apdu c.in-Sends.apdu.now) c.args.link.now.kept c.clear.new.self.kept old _ _ (c.in-Err-exchange.ensures.gives old seen)) playing

pub returns-in-Ok-restart-clause-played : goal.returns-in-Ok-restart-clause-played
returns-in-Ok-restart-clause-played g c = λ given first playing.
    plays_further given first _ _ _ _ c.read_behind.new.line (λ found follows. c.in-Ok.ensures.gives (may_stand given.is_served) given.text found follows) c.args.link.now.kept c.clear-in-Resets.new.self.kept _ _ (Takes step.Reset) c.runs_are_counted.ensures.join c.plans_are_set_in_order.ensures
    c.in-Resets.ensures.0 c.in-Resets.ensures.1 (λ old seen. step_does step.Reset c.args.link.now.kept c.clear-in-Resets.new.self.kept old _ _ (ap (λ (l : LinkState). l.kept) c.clear-in-Resets.ensures) (c.in-Ok-restart.ensures.gives old seen).taken) playing

pub returns-in-Err-SinkFailed-clause-played : goal.returns-in-Err-SinkFailed-clause-played
returns-in-Err-SinkFailed-clause-played g c = λ given first playing.
    let gives = rw c.in-Err-SinkFailed.field-0-is at c.in-Err-SinkFailed.ensures.gives in
    breaks_in given first _ _ _ (g.R.Source.left c.read_behind.new.source) c.read_behind.new.line (λ found follows. c.in-Ok.ensures.gives (may_stand given.is_served) given.text found follows) c.args.link.now.kept c.clear-in-Resets.new.self.kept _ _ (Takes step.Reset) c.runs_are_counted.ensures.join
    c.in-Resets.ensures.1 (λ old seen. step_breaks step.Reset c.args.link.now.kept c.clear-in-Resets.new.self.kept old _ _ (gives old seen)) playing

pub returns-in-Err-ResetFailed-clause-played : goal.returns-in-Err-ResetFailed-clause-played
returns-in-Err-ResetFailed-clause-played g c = λ given first playing.
    let gives = rw c.in-Err-ResetFailed.field-0-is at c.in-Err-ResetFailed.ensures.gives in
    fails_in given first _ _ _ (g.R.Source.left c.read_behind.new.source) c.read_behind.new.line (λ found follows. c.in-Ok.ensures.gives (may_stand given.is_served) given.text found follows) c.args.link.now.kept _ _ c.runs_are_counted.ensures.join c.plans_are_set_in_order.ensures c.in-Resets.ensures.1 gives playing

pub returns-in-Plans-clause-played : goal.returns-in-Plans-clause-played
returns-in-Plans-clause-played g c = λ given first playing.
    plays_further given first _ _ _ _ c.read_behind.new.line (λ found follows. c.in-Ok.ensures.gives (may_stand given.is_served) given.text found follows) c.args.link.now.kept c.args.link.now.kept _ _ (Takes (step.Plan c.in-Plans.plan)) c.runs_are_counted.ensures.join c.plans_are_set_in_order.ensures
    c.in-Plans.ensures.0 c.in-Plans.ensures.1 (λ old seen. step_does (step.Plan c.in-Plans.plan) c.args.link.now.kept c.args.link.now.kept old _ _ refl (plans_more old c.args.card.now c.plan.new.self _ c.in-Plans.plan seen c.plan.ensures)) playing

pub returns-in-Ok-take_tpdu-clause-played : goal.returns-in-Ok-take_tpdu-clause-played
returns-in-Ok-take_tpdu-clause-played g c = λ given first playing.
    plays_further given first _ _ _ _ c.read_behind.new.line (λ found follows. c.in-Ok.ensures.gives (may_stand given.is_served) given.text found follows) c.args.link.now.kept c.take_tpdu.new.link.kept _ _ (Transfers c.in-Transfers.tpdu.now) c.runs_are_counted.ensures.join c.plans_are_set_in_order.ensures
    c.in-Transfers.ensures.0.0 c.in-Transfers.ensures.0.1
    (λ old seen. tpdu_does c.in-Transfers.tpdu.now c.args.link.now.kept c.take_tpdu.new.link.kept old _ _ (c.in-Ok-take_tpdu.ensures.gives old seen)) playing

pub returns-in-Err-take_tpdu-clause-played : goal.returns-in-Err-take_tpdu-clause-played
returns-in-Err-take_tpdu-clause-played g c = λ given first playing.
    breaks_in given first _ _ _ (g.R.Source.left c.read_behind.new.source) c.read_behind.new.line (λ found follows. c.in-Ok.ensures.gives (may_stand given.is_served) given.text found follows) c.args.link.now.kept c.take_tpdu.new.link.kept _ _ (Transfers c.in-Transfers.tpdu.now) c.runs_are_counted.ensures.join
    c.in-Transfers.ensures.0.1 (λ old seen. tpdu_breaks c.in-Transfers.tpdu.now c.args.link.now.kept c.take_tpdu.new.link.kept old _ _ (c.in-Err-take_tpdu.ensures.gives old seen)) playing

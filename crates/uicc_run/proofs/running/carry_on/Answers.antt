use Rattle.std.proofs.Common.{inl, inr, refl, ap, ◌∙◌}
use Rattle.run_steps.specs.Ends.{moment_at}
use Rattle.phone_runs.proofs.LineLemmas.{ends_amid, starts_serving, stops_at_start}
use Rattle.uicc_run.specs.Opening.{is_handset}
use Rattle.uicc_run.specs.Playing.{beginning}
use Rattle.uicc_run.proofs.ServingLemmas.{opening, plays_first, serves_first, serves_to}
use Rattle.uicc_run.proofs.running.carry_on.Goals as goal

-- ---- a handset that was started

pub returns-in-Ok-clause-comes : goal.returns-in-Ok-clause-comes
returns-in-Ok-clause-comes g c = λ given first is started.
    let from = moment_at c.args.card.now (g.W.Sink.taken c.args.trace.now) in
    let stands = serves_first given first c.args.reader.now (g.R.Source.left c.args.script.now) from started in
    inr (
      is ∙ ap is_handset c.in-Handset.is,
      serves_to given first _ _ from started _ _ (moment_at c.play_lines.new.card (g.W.Sink.taken c.play_lines.new.trace))
          (c.play_lines.ensures.served given.text (opening started.section) (beginning given first) refl
          (starts_serving given.text (opening started.section) (beginning given first) _ _ _ from _ stands (c.in-Ok.ensures.starts (beginning given first) stands.begins))),
    )

-- ---- one in whose start the run ended

pub returns-in-Err-clause-comes : goal.returns-in-Err-clause-comes
returns-in-Err-clause-comes g c = λ given first is started.
    let from = moment_at c.args.card.now (g.W.Sink.taken c.args.trace.now) in
    let stands = serves_first given first c.args.reader.now (g.R.Source.left c.args.script.now) from started in
    inr (
      is ∙ ap is_handset c.in-Handset.is,
      serves_to given first _ _ from started _ _ (moment_at c.start_phone.new.card (g.W.Sink.taken c.start_phone.new.trace))
          (ends_amid given.text (opening started.section) (beginning given first) _ c.in-Err.end _ _ c.end_of.ensures
          (stops_at_start given.text (opening started.section) (beginning given first) _ _ from _ c.in-Err.end stands (c.in-Err.ensures.starts (beginning given first) stands.begins))),
    )

-- ---- the card

pub returns-in-Card-clause-comes : goal.returns-in-Card-clause-comes
returns-in-Card-clause-comes g c = λ given first is started.
    let unserved = is ∙ ap is_handset c.in-Card.is in
    inl (unserved, c.play_lines-in-Card.ensures.played given first (ap is_handset c.in-Card.is) (plays_first given first _ _ _ started unserved))

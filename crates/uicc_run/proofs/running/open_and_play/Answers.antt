-- The card opened is the one at the end of the link, and the store handed back is that card's: the lines are told from one to the other.
use Rattle.std.proofs.Common.{ap, ◌∙◌}
use Rattle.card_core.specs.Parts.{CardParts}
use Rattle.card_core.specs.Cards.{parts_of}
use Rattle.uicc_run.specs.BetweenLines.{IsStarted}
use Rattle.uicc_run.specs.Playing.{ComesTo}
use Rattle.uicc_run.proofs.HasKindsOfLemmas.{at_end}
use Rattle.uicc_run.proofs.EndsForLemmas.{ends_played, rose_as}
use Rattle.uicc_run.proofs.OpeningLemmas.{formatted_then, given_back, refusal_keeps, refused, starts_seen}
use Rattle.uicc_run.proofs.running.open_and_play.Goals as goal

pub returns-in-Ok-clause-comes : goal.returns-in-Ok-clause-comes
returns-in-Ok-clause-comes g c = λ given told served tells made.
    let parts = parts_of g.S.Store g.B.Applet c.in-Ok.card in
    let started = starts_seen given told c.args.reader.now (g.R.Source.left c.args.script.now) (g.W.Sink.taken c.args.trace.now) _ _ _ _ parts c.runs_are_counted.ensures.join made (λ is. c.in-Ok.ensures.opened.opens.card ∙ tells is)
    c.in-Ok.ensures.opened.opened c.in-Ok.ensures.opened.on c.in-Ok.ensures.opened.rests c.in-Ok.ensures.opened.ready.good c.in-Ok.ensures.opened.calm in (
      started.0,
      started.1,
      given_back (ComesTo given started.0 (g.R.Source.left c.carry_on-end.new.script) c.carry_on-end.result) (g.W.Sink.taken c.carry_on-end.new.trace) c.carry_on-end.new.card.parts _ _ _ _
          (c.close-store.ensures.mark ∙ ap (λ (p : CardParts). p.store_mark) c.into_parts-card.ensures.parts) (c.close-store.ensures.told ∙ ap (λ (p : CardParts). p.told) c.into_parts-card.ensures.parts)
          (c.close-store.ensures.meter ∙ ap (λ (p : CardParts). p.meter) c.into_parts-card.ensures.parts) (c.close-store.ensures.boxes ∙ ap (λ (p : CardParts). p.boxes) c.into_parts-card.ensures.parts)
          (c.carry_on-end.ensures.comes given started.0 served
          (at_end (IsStarted given started.0 c.args.reader.now (g.R.Source.left c.args.script.now)) c.new-card.result parts (g.W.Sink.taken c.args.trace.now) c.new-card.ensures.parts c.new-card.ensures.waiting started.2)),
    )

pub returns-in-Err-clause-comes : goal.returns-in-Err-clause-comes
returns-in-Err-clause-comes g c = λ given told served tells made.
    rw c.ending_of.ensures (refused given told c.args.reader.now (g.R.Source.left c.args.script.now) (g.W.Sink.taken c.args.trace.now) _ _ _ _ _ _ _ _
    c.runs_are_counted.ensures.join tells c.in-Err.ensures.keeps.mark made c.in-Err.fault c.in-Err.ensures.refuses.found c.in-Err.ensures.refuses.left c.in-Err.ensures.keeps.cause)

pub returns-in-Err-clause-memory : goal.returns-in-Err-clause-memory
returns-in-Err-clause-memory g c = record {
  bytes = λ refusal.
      refusal_keeps c.in-Err.fault _ _ _ c.in-Err.ensures.refuses.left (rw c.ending_of.ensures at refusal);
  formatted = λ failed. formatted_then c.in-Err.fault (rw c.ending_of.ensures at failed);
}

pub returns-in-Ok-clause-ends : goal.returns-in-Ok-clause-ends
returns-in-Ok-clause-ends g c =
    let opened = c.in-Ok.ensures.opened.calm in
    ends_played c.carry_on-end.result _ _ _ _ c.carry_on-end.ensures.tallies.source_cause c.carry_on-end.ensures.tallies.steps.sink
    (λ reset. rose_as (g.S.Store.meter c.args.store) c.new-card.result.parts.meter c.carry_on-end.new.card.parts.meter _
    (ap (λ (p : CardParts). p.meter.faults) c.new-card.ensures.parts ∙ opened.no_fault (λ none. none))
    (c.close-store.ensures.meter ∙ ap (λ (p : CardParts). p.meter) c.into_parts-card.ensures.parts)
    (c.carry_on-end.ensures.tallies.reset reset))
    c.carry_on-end.ensures.tallies.steps.tells

use Rattle.std.proofs.Common.{[], Some, refl, ap, ◌∙◌}
use Rattle.card_core.specs.Parts.{CardParts}
use Rattle.card_core.specs.Cards.{parts_of}
use Rattle.phone_runs.specs.Playing.{Begins}
use Rattle.uicc_run.specs.Loading.{load_beginning}
use Rattle.uicc_run.proofs.HasKindsOfLemmas.{at_end}
use Rattle.uicc_run.proofs.EndsForLemmas.{ends_counted, rose_as}
use Rattle.uicc_run.proofs.LoadingLemmas.{as_ended, counted_on, load_begins_seen, load_closes, memory_keeps, never_wanting, not_loaded}
use Rattle.uicc_run.proofs.OpeningLemmas.{kept_on}
use Rattle.uicc_run.proofs.loading.open_and_load.Goals as goal

pub returns-in-Ok-clause-comes : goal.returns-in-Ok-clause-comes
returns-in-Ok-clause-comes g c = λ given told taken card stands fixed counted boxes.
    let loading = load_begins_seen given told card _ _ _ _ (parts_of g.S.Store g.B.Applet c.in-Ok.card) c.runs_are_counted.ensures.join stands counted boxes c.in-Ok.ensures.opened.opened c.in-Ok.ensures.opened.on c.in-Ok.ensures.opened.rests c.in-Ok.ensures.opened.calm in
    let begins = at_end (Begins (load_beginning given loading.first)) c.new-card.result (parts_of g.S.Store g.B.Applet c.in-Ok.card) (Some []) c.new-card.ensures.parts c.new-card.ensures.waiting loading.begins in
    let came = c.count_lines-outcome.ensures.counts (load_beginning given loading.first) refl begins in
    as_ended given told c.args.start c.args.count c.counted.result _ _ c.counted.ensures
    (load_closes given told loading.first c.args.start c.args.count card taken c.count_lines-outcome.new.card.parts _ _ _ _ came.taken came.waiting c.count_lines-outcome.result
    c.phone_runs_are_lawful.ensures.legal c.phone_runs_are_lawful.ensures.card loading.known fixed loading.opened
    (c.close-store.ensures.mark ∙ ap (λ (p : CardParts). p.store_mark) c.into_parts-card.ensures.parts) (c.close-store.ensures.told ∙ ap (λ (p : CardParts). p.told) c.into_parts-card.ensures.parts)
    (c.close-store.ensures.meter ∙ ap (λ (p : CardParts). p.meter) c.into_parts-card.ensures.parts) (c.close-store.ensures.boxes ∙ ap (λ (p : CardParts). p.boxes) c.into_parts-card.ensures.parts) came.gives)

pub returns-in-Err-clause-comes : goal.returns-in-Err-clause-comes
returns-in-Err-clause-comes g c = λ given told taken card stands fixed counted boxes.
    as_ended given told c.args.start c.args.count c.ending_of.result _ _ c.ending_of.ensures
    (not_loaded given told c.args.start c.args.count card _ _ _ _ _ _ c.in-Err.fault stands boxes fixed c.in-Err.ensures.refuses.found c.in-Err.ensures.refuses.left c.in-Err.ensures.keeps.mark refl
    (kept_on given.meter _ _ counted c.in-Err.ensures.keeps.cause) (counted_on given _ _ c.in-Err.fault c.runs_are_counted.ensures.join counted c.in-Err.ensures.keeps.cause))

pub returns-in-Ok-clause-bytes : goal.returns-in-Ok-clause-bytes
returns-in-Ok-clause-bytes g c = λ wants. absurd (never_wanting c.args.count c.count_lines-outcome.result c.counted.result c.counted.ensures wants)

pub returns-in-Err-clause-bytes : goal.returns-in-Err-clause-bytes
returns-in-Err-clause-bytes g c = λ wants. memory_keeps c.in-Err.fault _ _ _ c.ending_of.result c.ending_of.ensures wants c.in-Err.ensures.refuses.left

pub returns-in-Ok-clause-ends : goal.returns-in-Ok-clause-ends
returns-in-Ok-clause-ends g c =
    ends_counted c.args.count c.count_lines-outcome.result c.counted.result _ _ _ c.counted.ensures
    (λ failed. rose_as (g.S.Store.meter c.args.store) c.new-card.result.parts.meter c.count_lines-outcome.new.card.parts.meter _
    (ap (λ (p : CardParts). p.meter.faults) c.new-card.ensures.parts ∙ c.in-Ok.ensures.opened.calm.no_fault (λ none. none))
    (c.close-store.ensures.meter ∙ ap (λ (p : CardParts). p.meter) c.into_parts-card.ensures.parts)
    (c.count_lines-outcome.ensures.failed failed))

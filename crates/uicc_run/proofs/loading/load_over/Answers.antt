use Rattle.std.proofs.Common.{◌≡◌, sym, subst, Ok, IfSome}
use Rattle.card_state.specs.Standing.{stands_for}
use Rattle.uicc_run.proofs.LoadingLemmas.{counted_from, kept_from, stands_now}
use Rattle.uicc_run.proofs.OpeningLemmas.{memory_tells}
use Rattle.uicc_run.proofs.loading.load_over.Goals as goal

pub returns-in-Ok-clause-comes : goal.returns-in-Ok-clause-comes
returns-in-Ok-clause-comes g c = λ given told taken fixed is.
    c.open_and_load.ensures.comes given told taken c.args.section.now
    (λ tells. stands_now _ _ _ _ c.args.section.now (memory_tells _ _ given.memory (is.memory_is tells)) c.in-Ok.ensures.keeps.told c.in-Ok.ensures.keeps.mark c.in-Ok.ensures.stands) fixed
    (counted_from _ _ _ is.meter_is c.format.ensures.keeps.cause (λ so. cc (so, c.in-Ok.is)) (λ so. cc (so, c.in-Ok.is))) is.boxes_are

pub returns-in-Err-clause-comes : goal.returns-in-Err-clause-comes
returns-in-Err-clause-comes g c = λ given told taken fixed is. kept_from _ _ _ is.meter_is c.in-Err.ensures.keeps.cause

pub returns-in-Ok-clause-no_memory : goal.returns-in-Ok-clause-no_memory
returns-in-Ok-clause-no_memory g c = λ wants.
    subst (λ told. IfSome told (λ content. stands_for (g.S.Store.store_mark c.args.store) content ≡ Ok c.args.section.now)) (sym (c.open_and_load.ensures.bytes wants)) c.in-Ok.ensures.stands

pub returns-in-Err-clause-no_memory : goal.returns-in-Err-clause-no_memory
returns-in-Err-clause-no_memory g c = λ wants. absurd (cc)

-- No page is filled where the map lies, so it stays ill formed, and the content stays all FF even where a fault tears a page.
use Rattle.std.proofs.Common.{◌≡◌, ◌*◌, ◌∙◌, refl, ap, subst, arith, rules}
use Rattle.uicc_types.specs.Counts.{raised_by}
use Rattle.uicc_types.proofs.IsCalmLemmas.{calm_same, caused_then, calm_ok}
use Rattle.page_store.specs.Calls.{calls_to_blank}
use Rattle.page_store.proofs.CallsLemmas.{page_call, all_blanks_left, blank_done, blank_fault, blanks_done, first_blank, faulted}
use Rattle.page_store.proofs.InPageLemmas.{HasLength}
use Rattle.page_store.proofs.BlanksLemmas.{first_torn, first_filled, page_filled, page_torn_told, all_filled}
use Rattle.page_store.proofs.filling.fill_pages.Goals as goal

pub returns-in_err-prepare-clause-same : goal.returns-in_err-prepare-clause-same
returns-in_err-prepare-clause-same g c =
    let long = subst (λ n. HasLength (g.S.CountedStore.stable c.args.store.now) n) c.requires.below.size (g.met.S.CountedStore.told_length c.args.store.now) in
    first_torn (g.S.CountedStore.stable c.args.store.now) (g.S.CountedStore.stable c.prepare.new.self) long c.requires.no_map c.in_err-prepare.ensures.writes.torn

pub loop-page-init : goal.loop-page-init
loop-page-init g c =
    let long = subst (λ n. HasLength (g.S.CountedStore.stable c.args.store.now) n) c.requires.below.size (g.met.S.CountedStore.told_length c.args.store.now) in
    let filled = first_filled (g.S.CountedStore.stable c.args.store.now) (g.S.CountedStore.stable c.prepare.new.self) long c.requires.no_map c.in_ok-prepare.ensures.writes.ok in
    record {
      filling = filled.filling;
      recovered = c.in_ok-prepare.ensures.ready;
      size = refl;
      mark = refl;
      calls = all_blanks_left (g.S.CountedStore.meter c.prepare.new.self).programs;
      calm = calm_same (g.S.CountedStore.meter c.prepare.new.self);
    }

pub returns-in_err-prepare-2-clause-same : goal.returns-in_err-prepare-2-clause-same
returns-in_err-prepare-2-clause-same g c =
    let long = subst (λ n. HasLength (g.S.CountedStore.stable c.args.store.now) n) c.requires.below.size (g.met.S.CountedStore.told_length c.args.store.now) in
    let long' = subst (λ n. HasLength (g.S.CountedStore.stable c.prepare.new.self) n) (c.in_ok-prepare.ensures.keeps.size ∙ c.requires.below.size) (g.met.S.CountedStore.told_length c.prepare.new.self) in
    let filled = first_filled (g.S.CountedStore.stable c.args.store.now) (g.S.CountedStore.stable c.prepare.new.self) long c.requires.no_map c.in_ok-prepare.ensures.writes.ok in
    page_torn_told c.loop-page.page (64 * c.loop-page.page) (g.S.CountedStore.stable c.prepare.new.self) (g.S.CountedStore.stable c.loop-page.store) (g.S.CountedStore.stable c.prepare-in-loop-page.new.self) refl long' filled.no_map c.loop-page.auto.page
    c.loop-page.invariant.filling c.in_err-prepare-2.ensures.writes.torn ∙ filled.same

pub loop-page-preserved : goal.loop-page-preserved
loop-page-preserved g c =
    let long' = subst (λ n. HasLength (g.S.CountedStore.stable c.prepare.new.self) n) (c.in_ok-prepare.ensures.keeps.size ∙ c.requires.below.size) (g.met.S.CountedStore.told_length c.prepare.new.self) in
    record {
      filling = page_filled c.loop-page.page (64 * c.loop-page.page) (g.S.CountedStore.stable c.prepare.new.self) (g.S.CountedStore.stable c.loop-page.store) (g.S.CountedStore.stable c.prepare-in-loop-page.new.self) refl long' c.loop-page.auto.page c.loop-page-test.true
          c.loop-page.invariant.filling c.in_ok-prepare-2.ensures.writes.ok;
      recovered = c.in_ok-prepare-2.ensures.ready;
      size = c.in_ok-prepare-2.ensures.keeps.size ∙ c.loop-page.invariant.size;
      mark = c.in_ok-prepare-2.ensures.keeps.mark ∙ c.loop-page.invariant.mark;
      calls = blank_done c.loop-page.page 64 (g.S.CountedStore.meter c.prepare.new.self).programs (g.S.CountedStore.meter c.loop-page.store).programs (g.S.CountedStore.meter c.prepare-in-loop-page.new.self).programs c.loop-page-test.true refl
          c.loop-page.invariant.calls c.in_ok-prepare-2.ensures.calls.all;
      calm = caused_then _ (g.S.CountedStore.meter c.loop-page.store) _ c.loop-page.invariant.calm (calm_ok _ _ (λ e. cc) (λ e. cc) c.in_ok-prepare-2.ensures.cause);
    }

pub returns-clause-same : goal.returns-clause-same
returns-clause-same g c =
    let long = subst (λ n. HasLength (g.S.CountedStore.stable c.args.store.now) n) c.requires.below.size (g.met.S.CountedStore.told_length c.args.store.now) in
    let long' = subst (λ n. HasLength (g.S.CountedStore.stable c.prepare.new.self) n) (c.in_ok-prepare.ensures.keeps.size ∙ c.requires.below.size) (g.met.S.CountedStore.told_length c.prepare.new.self) in
    let filled = first_filled (g.S.CountedStore.stable c.args.store.now) (g.S.CountedStore.stable c.prepare.new.self) long c.requires.no_map c.in_ok-prepare.ensures.writes.ok in
    (all_filled (64 * c.loop-page.page) (g.S.CountedStore.stable c.prepare.new.self) (g.S.CountedStore.stable c.loop-page.store) (omega (arith, c.loop-page-test.false, c.loop-page.auto.page-end)) long' filled.no_map c.loop-page.invariant.filling).0 ∙ filled.same

pub returns-clause-blank : goal.returns-clause-blank
returns-clause-blank g c =
    let long = subst (λ n. HasLength (g.S.CountedStore.stable c.args.store.now) n) c.requires.below.size (g.met.S.CountedStore.told_length c.args.store.now) in
    let long' = subst (λ n. HasLength (g.S.CountedStore.stable c.prepare.new.self) n) (c.in_ok-prepare.ensures.keeps.size ∙ c.requires.below.size) (g.met.S.CountedStore.told_length c.prepare.new.self) in
    let filled = first_filled (g.S.CountedStore.stable c.args.store.now) (g.S.CountedStore.stable c.prepare.new.self) long c.requires.no_map c.in_ok-prepare.ensures.writes.ok in
    (all_filled (64 * c.loop-page.page) (g.S.CountedStore.stable c.prepare.new.self) (g.S.CountedStore.stable c.loop-page.store) (omega (arith, c.loop-page-test.false, c.loop-page.auto.page-end)) long' filled.no_map c.loop-page.invariant.filling).1

pub returns-in_err-prepare-clause-calls : goal.returns-in_err-prepare-clause-calls
returns-in_err-prepare-clause-calls g c =
    faulted calls_to_blank (g.S.CountedStore.meter c.args.store.now).programs (g.S.CountedStore.meter c.prepare.new.self).programs c.from_residual.result c.from_residual.ensures.0
    (first_blank (g.S.CountedStore.meter c.args.store.now).programs (g.S.CountedStore.meter c.prepare.new.self).programs c.in_err-prepare.ensures.calls.no_more)

pub returns-in_err-prepare-2-clause-calls : goal.returns-in_err-prepare-2-clause-calls
returns-in_err-prepare-2-clause-calls g c =
    let first : (g.S.CountedStore.meter c.prepare.new.self).programs ≡ raised_by 1 (g.S.CountedStore.meter c.args.store.now).programs = c.in_ok-prepare.ensures.calls.all ∙ ap (λ n. raised_by n (g.S.CountedStore.meter c.args.store.now).programs) (page_call 0 64 refl) in
    faulted calls_to_blank (g.S.CountedStore.meter c.args.store.now).programs (g.S.CountedStore.meter c.prepare-in-loop-page.new.self).programs c.from_residual-in_err-prepare-2.result c.from_residual-in_err-prepare-2.ensures.0
    (blank_fault c.loop-page.page 64 (g.S.CountedStore.meter c.args.store.now).programs (g.S.CountedStore.meter c.prepare.new.self).programs (g.S.CountedStore.meter c.loop-page.store).programs (g.S.CountedStore.meter c.prepare-in-loop-page.new.self).programs
    c.loop-page-test.true refl first c.loop-page.invariant.calls c.in_err-prepare-2.ensures.calls.no_more)

pub returns-clause-calls : goal.returns-clause-calls
returns-clause-calls g c =
    let first : (g.S.CountedStore.meter c.prepare.new.self).programs ≡ raised_by 1 (g.S.CountedStore.meter c.args.store.now).programs = c.in_ok-prepare.ensures.calls.all ∙ ap (λ n. raised_by n (g.S.CountedStore.meter c.args.store.now).programs) (page_call 0 64 refl) in
    record {
      all = blanks_done c.loop-page.page (g.S.CountedStore.meter c.args.store.now).programs (g.S.CountedStore.meter c.prepare.new.self).programs (g.S.CountedStore.meter c.loop-page.store).programs (omega (arith, c.loop-page-test.false, c.loop-page.auto.page-end)) first c.loop-page.invariant.calls;
      no_more = search rules;
    }

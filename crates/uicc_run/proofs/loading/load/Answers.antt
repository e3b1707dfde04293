use Rattle.std.proofs.Common.{◌≡◌, Some, Ok, ap, sym, ◌∙◌, subst, inl, inr, refl, IfSome}
use Rattle.card_state.specs.Standing.{stands_for}
use Rattle.applet_trait.specs.Minds.{minds_of}
use Rattle.section_lines.specs.Script.{with_lines}
use Rattle.long_runs.specs.FixedRows.{fixed_rows}
use Rattle.uicc_run.specs.Loading.{IsFixedCard}
use Rattle.uicc_run.proofs.OpeningLemmas.{none_counted}
use Rattle.uicc_run.proofs.loading.load.Goals as goal

pub returns-in-Ok-describe_rows-clause-comes : goal.returns-in-Ok-describe_rows-clause-comes
returns-in-Ok-describe_rows-clause-comes g c = λ given told taken is.
    c.load_over.ensures.comes given told taken
    (subst (λ boxes. IsFixedCard boxes c.describe_rows.new.section) (ap (minds_of g.B.Applet.mind) c.as_slice.ensures.value ∙ is.boxes_are)
    (subst (λ bare. with_lines (minds_of g.B.Applet.mind c.as_slice.result.now) (Some bare) fixed_rows ≡ Ok (Some c.describe_rows.new.section)) c.in-Ok.ensures c.in-Ok-describe_rows.ensures)) is

pub returns-in-Ok-describe_rows-clause-no_memory : goal.returns-in-Ok-describe_rows-clause-no_memory
returns-in-Ok-describe_rows-clause-no_memory g c = λ given mark boxes wants.
    inr (record {
      card = c.describe_rows.new.section;
      is_fixed = subst (λ b. IsFixedCard b c.describe_rows.new.section) (ap (minds_of g.B.Applet.mind) c.as_slice.ensures.value ∙ boxes)
          (subst (λ bare. with_lines (minds_of g.B.Applet.mind c.as_slice.result.now) (Some bare) fixed_rows ≡ Ok (Some c.describe_rows.new.section)) c.in-Ok.ensures c.in-Ok-describe_rows.ensures);
      stands = subst (λ m. IfSome (g.S.Store.stable c.load_over.result.1) (λ content. stands_for m content ≡ Ok c.describe_rows.new.section)) (sym mark) (c.load_over.ensures.no_memory wants);
    })

pub returns-clause-comes : goal.returns-clause-comes
returns-clause-comes g c = λ given told taken is. none_counted given _ is.meter_is

pub returns-clause-no_memory : goal.returns-clause-no_memory
returns-clause-no_memory g c = λ given mark boxes wants. inl refl

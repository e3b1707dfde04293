use Rattle.std.proofs.Common.{◌≡◌, ◌⊎◌, ℕ, subst, ◌∙◌, inl, inr, ⊎_elim, IfSome, Ok}
use Rattle.std.proofs.lemmas.Result.{on_ok_weaker, on_err_weaker}
use Rattle.card_state.specs.Standing.{stands_for}
use Rattle.layout_section.proofs.KeepsFirstLemmas.{kept_same, kept_then, kept_last}
use Rattle.layout_section.proofs.LayingLemmas.{told_stands}
use Rattle.layout_section.proofs.formatting.format.Goals as goal

pub returns-clause-stands : goal.returns-clause-stands
returns-clause-stands g c =
    on_ok_weaker c.commit_first.result
    (λ is.
    subst (λ (mark : ℕ). IfSome (g.S.Store.stable c.commit_first.new.store) (λ content. stands_for mark content ≡ Ok c.args.section.now)) (c.mark-mark.ensures.mark ∙ c.in_ok-recover.ensures.keeps.mark)
    (told_stands (g.S.Store.stable c.commit_first.new.store) c.mark-mark.result c.args.section.now c.spelled-card.result c.spelled-card.ensures.spells is))
    c.commit_first.ensures.written

pub returns-clause-first_last : goal.returns-clause-first_last
returns-clause-first_last g c =
    let before = kept_then _ _ _ (kept_same _ _ c.recover.ensures.keeps.stable) c.prepare_card.ensures.first in
    on_err_weaker c.commit_first.result
    (λ whole.
    kept_last (g.S.Store.store_mark c.args.store.now) c.args.section.now (g.S.Store.stable c.args.store.now) (g.S.Store.stable c.prepare_card.new.store) (g.S.Store.stable c.commit_first.new.store) before c.commit_first.ensures.keeps.told
    (⊎_elim {C = (g.S.Store.stable c.commit_first.new.store ≡ g.S.Store.stable c.prepare_card.new.store) ⊎ IfSome (g.S.Store.stable c.commit_first.new.store) (λ content. stands_for (g.S.Store.store_mark c.args.store.now) content ≡ Ok c.args.section.now)}
    (λ same. inl same)
    (λ is. inr
    (subst (λ (mark : ℕ). IfSome (g.S.Store.stable c.commit_first.new.store) (λ content. stands_for mark content ≡ Ok c.args.section.now)) (c.mark-mark.ensures.mark ∙ c.in_ok-recover.ensures.keeps.mark)
    (told_stands (g.S.Store.stable c.commit_first.new.store) c.mark-mark.result c.args.section.now c.spelled-card.result c.spelled-card.ensures.spells is)))
    whole))
    c.commit_first.ensures.whole

-- An EF is no DF.
use Rattle.std.proofs.Common.{◌≡◌, ◌≢◌, ◌⊎◌, ℕ, ◌==◌, true, false, IsTrue, ◌-◌, sym, ◌∙◌, ap, ⊎_elim}
use Rattle.std.proofs.lemmas.Bool.{cases_Bool, eqb-true, false≢true}
use Rattle.card_state.specs.Kinds.{df_kind, is_ef_kind}

pub not_df : (kind : ℕ) → IsTrue (is_ef_kind kind) → (kind == df_kind) ≡ false
not_df kind is =
    ⊎_elim {C = (kind == df_kind) ≡ false} (λ df. absurd (let none : is_ef_kind df_kind ≡ true = ap is_ef_kind (sym (eqb-true kind df_kind df)) ∙ is in false≢true none)) (λ other. other) (cases_Bool (kind == df_kind))

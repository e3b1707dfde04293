-- How often a file is read, as the answer of the command shows it.
use Rattle.std.proofs.Common.{◌≡◌, ◌≢◌, ◌⊎◌, ℕ, [], refl, Result, Ok, Err, OnOk, OnErr, sym, ap, ◌∙◌, inl, inr}
use Rattle.uicc_types.specs.declared.answers.Answer.{Answer}
use Rattle.uicc_types.specs.declared.answers.StatusWord.{StatusWord}
use Rattle.uicc_types.specs.declared.answers.TheConstants.StatusWord.{SECURITY_NOT_SATISFIED}

module _ {S : Type 0} (tried : Result S StatusWord) (granted once now : ℕ) where
  pub at_most_once : OnOk tried (now ≡ once) → OnErr tried (now ≡ granted) → (now ≡ granted) ⊎ (now ≡ once)
  at_most_once done refused = by_end tried done refused where
    by_end : (end : Result S StatusWord) → OnOk end (now ≡ once) → OnErr end (now ≡ granted) → (now ≡ granted) ⊎ (now ≡ once)
    by_end (Ok selection) done refused = inr done
    by_end (Err status) done refused = inl refused

  -- where the answer says that access isn't granted, nothing was read of it
  pub not_granted : (before after : Answer) → OnErr tried (now ≡ granted) → OnOk tried (after ≡ before) → OnOk tried (before.status.0 ≢ SECURITY_NOT_SATISFIED.0) → after.status ≡ SECURITY_NOT_SATISFIED → now ≡ granted
  not_granted before after refused same other is = by_end tried refused same other where
    by_end : (end : Result S StatusWord) → OnErr end (now ≡ granted) → OnOk end (after ≡ before) → OnOk end (before.status.0 ≢ SECURITY_NOT_SATISFIED.0) → now ≡ granted
    by_end (Ok selection) refused same other = absurd (other (ap (λ (answer : Answer). answer.status.0) (sym same) ∙ ap (λ (status : StatusWord). status.0) is))
    by_end (Err status) refused same other = refused

  -- where data were answered, the command wasn't refused
  pub with_data : (after : Answer) → OnOk tried (now ≡ once) → ((status : StatusWord) → tried ≡ Err status → after.body ≡ []) → after.body ≢ [] → now ≡ once
  with_data after done refused some = by_end tried done refused where
    by_end : (end : Result S StatusWord) → OnOk end (now ≡ once) → ((status : StatusWord) → end ≡ Err status → after.body ≡ []) → now ≡ once
    by_end (Ok selection) done refused = done
    by_end (Err status) done refused = absurd (some (refused status refl))

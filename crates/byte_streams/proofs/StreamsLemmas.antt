-- What the counts of a source and a sink say of a whole run.
use Rattle.std.proofs.Common.{◌≡◌, ◌≢◌, ◌⊎◌, ◌≤◌, ℕ, inl, inr, ap, ◌∙◌, subst, ⊎_elim}
use Rattle.std.proofs.Math.Nat.{le_refl}
use Rattle.std.proofs.lemmas.Bool.Decides.{eqb_tells}
use Rattle.uicc_types.specs.Counts.{Rose, raised}
use Rattle.byte_streams.specs.Streams.{CountsEach, CountsOnce}

-- a count that was raised rose
pub raised_rose : (before now : ℕ) → now ≡ raised before → Rose before now
raised_rose before now is = subst (λ n. n ≤ now) is (le_refl now)

-- a run that ends with its own status, or with another since its last line was lost, has counted at most one failure of its source
pub once : (before now own failed lost status : ℕ) → CountsEach before now (own ≡ failed) → (status ≡ failed → own ≡ failed) → (status ≡ own) ⊎ (status ≡ lost) → CountsOnce before now (status ≡ failed) (status ≡ lost)
once before now own failed lost status each its closed = record {
  failed = λ is. each.failed (its is);
  no_failure = λ other kept. ⊎_elim {C = now ≡ before} (λ own_it_is. each.no_failure (λ is. other (own_it_is ∙ is))) (λ is. absurd (kept is)) closed;
  at_most_one = ⊎_elim {C = (now ≡ before) ⊎ (now ≡ raised before)} (λ yes. inr (each.failed yes.1)) (λ no. inl (each.no_failure no.1)) (eqb_tells own failed);
}

-- and a failure of its sink, before its last line or in that
pub once_at_last : (before mid now own lost status : ℕ) → CountsEach before mid (own ≡ lost) → CountsEach mid now ((status ≡ lost) × (own ≢ lost)) → (status ≡ own) ⊎ (status ≡ lost) → CountsEach before now (status ≡ lost)
once_at_last before mid now own lost status first last closed = record {
  failed = λ is. ⊎_elim {C = now ≡ raised before} (λ yes. last.no_failure (λ both. both.1 yes.1) ∙ first.failed yes.1) (λ no. last.failed (is, no.1) ∙ ap raised (first.no_failure no.1)) (eqb_tells own lost);
  no_failure = λ other.
      let unlost : own ≢ lost = λ own_is. other (⊎_elim {C = status ≡ lost} (λ is. is ∙ own_is) (λ is. is) closed) in
      last.no_failure (λ both. other both.0) ∙ first.no_failure unlost;
}

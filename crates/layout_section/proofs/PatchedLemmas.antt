-- Parts that are put into bytes at equal distances, or in front.
use Rattle.std.proofs.Common.{◌≡◌, ℕ, ◌+◌, ◌*◌, ◌≤◌, ◌<◌, List, length, drop, [], refl, sym, subst, ◌∙◌, ap, inl, ⊎_elim, arith, take, append_assoc, take_at}
use Rattle.std.proofs.lemmas.Bool.{cases_eq}
use Rattle.list_laws.specs.Patches.{patched}
use Rattle.list_laws.proofs.PatchesLemmas.{range-patched_apart, range-patched_there}
use Rattle.card_state.specs.Decoding.{bytes_at}

places_apart : (step a b : ℕ) → a < b → step * a + step ≤ step * b
places_apart step a b less = grind arith

-- one part more, after those that lie there
pub one_more_there : (R : ℕ → List ℕ → Type 0) (step width at : ℕ) (part bytes : List ℕ) → width ≤ step → length part ≡ width → step * at + width ≤ length bytes → R at part
    → ((k : ℕ) → k < at → R k (bytes_at bytes (step * k) width)) → (k : ℕ) → k < at + 1 → R k (bytes_at (patched (step * at) part bytes) (step * k) width)
one_more_there R step width at part bytes wide long fits new before k low =
    let inside : step * at + length part ≤ length bytes = omega arith in
    ⊎_elim {C = R k (bytes_at (patched (step * at) part bytes) (step * k) width)}
    (λ same.
    subst (R k)
    (sym (ap (λ (n : ℕ). bytes_at (patched (step * at) part bytes) (step * n) width) same ∙ ap (λ (n : ℕ). bytes_at (patched (step * at) part bytes) (step * at) n) (sym long) ∙ range-patched_there (step * at) part bytes inside))
    (subst (λ (n : ℕ). R n part) (sym same) new))
    (λ other.
    let less : k < at = omega arith in
    let apart : step * k + step ≤ step * at = places_apart step k at less in
    subst (R k) (sym (range-patched_apart (step * at) part bytes inside (step * k) width (omega arith) (inl (omega arith)))) (before k less))
    (cases_eq k at)

pub front_there : (bytes old : List ℕ) → take (length bytes) (patched 0 bytes old) ≡ bytes
unfolding patched
front_there bytes old = ap (λ (l : List ℕ). take (length bytes) l) (append_assoc [] bytes (drop (0 + length bytes) old)) ∙ take_at bytes (drop (0 + length bytes) old) (length bytes) refl

-- Numbers of two bytes in a template.
use Rattle.std.proofs.Common.{get_or, ◌≡◌, ℕ, ◌+◌, List, [], ◌∷◌, sym, ◌∙◌, ap, arith, slice_range}
use Rattle.std.specs.Int.{w16, from_be_bytes}
use Rattle.list_laws.proofs.SliceRangeLemmas.{get_or-range}
use Rattle.card_state.specs.Decoding.{number_at}

pub number_read : (bytes : List ℕ) (at a b : ℕ) → a ≡ get_or bytes at 0 → b ≡ get_or bytes (at + 1) 0 → from_be_bytes w16 (a ∷ b ∷ []) ≡ number_at bytes at
number_read bytes at a b first second =
    let p : a ≡ get_or (slice_range bytes at (at + 2)) 0 0 = first ∙ sym (get_or-range bytes at 2 0 (omega arith) ∙ ap (λ (n : ℕ). get_or bytes n 0) (omega arith)) in
    let q : b ≡ get_or (slice_range bytes at (at + 2)) 1 0 = second ∙ sym (get_or-range bytes at 2 1 (omega arith)) in
    ap (λ (x : ℕ). from_be_bytes w16 (x ∷ b ∷ [])) p ∙ ap (λ (y : ℕ). from_be_bytes w16 (get_or (slice_range bytes at (at + 2)) 0 0 ∷ y ∷ [])) q

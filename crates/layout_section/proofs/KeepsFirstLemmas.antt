-- The first bytes of a store while a card is written after them, and after a fault.
use Rattle.std.proofs.Common.{refl, ◌≡◌, ◌⊎◌, ℕ, ◌+◌, ◌≤◌, List, length, sym, ◌∙◌, subst, inl, inr, arith, Some, None, Option, Result, Ok, Err, OnOk, OnErr, IfSome, option_map, is_some}
use Rattle.list_laws.specs.Patches.{patched, Torn}
use Rattle.list_laws.proofs.PatchesLemmas.{patched_before}
use Rattle.uicc_types.specs.Told.{Becomes}
use Rattle.card_state.specs.Persistent.{Persistent}
use Rattle.card_state.specs.Standing.{stands_for}
use Rattle.layout_section.specs.Laying.{KeepsFirst, KeepsFirstOr}

pub kept_then : (a b c : Option (List ℕ)) → Becomes KeepsFirst a b → Becomes KeepsFirst b c → Becomes KeepsFirst a c
kept_then None None None first second = tt
kept_then None None (Some c) first second = second
kept_then None (Some b) c first second = absurd first
kept_then (Some a) None c first second = absurd first
kept_then (Some a) (Some b) None first second = second
kept_then (Some a) (Some b) (Some c) first second = λ k low. second k low ∙ first k low

pub kept_same : (a b : Option (List ℕ)) → b ≡ a → Becomes KeepsFirst a b
kept_same a b same = subst (λ (o : Option (List ℕ)). Becomes KeepsFirst a o) (sym same) (itself a) where
  itself : (o : Option (List ℕ)) → Becomes KeepsFirst o o
  itself None = tt
  itself (Some held) = λ k low. refl

kept_put : (a b : Option (List ℕ)) (size at : ℕ) (part : List ℕ) → IfSome a (λ held. length held ≡ size) → 832 ≤ at → at + length part ≤ size → b ≡ option_map (patched at part) a → Becomes KeepsFirst a b
kept_put a b size at part long high fits is = subst (λ (o : Option (List ℕ)). Becomes KeepsFirst a o) (sym is) (put a long) where
  put : (o : Option (List ℕ)) → IfSome o (λ held. length held ≡ size) → Becomes KeepsFirst o (option_map (patched at part) o)
  put None long' = tt
  put (Some held) long' = λ k low. patched_before at part held (omega arith) k (omega arith)

kept_torn : (a b : Option (List ℕ)) (at count : ℕ) → 832 ≤ at → Becomes (Torn at count) a b → Becomes KeepsFirst a b
kept_torn None None at count high torn = tt
kept_torn None (Some b) at count high torn = torn
kept_torn (Some a) None at count high torn = torn
kept_torn (Some a) (Some b) at count high torn = λ k low. torn.before k (omega arith)

-- whether the part was written or torn
pub kept_part : {X Y : Type 0} (result : Result X Y) (a b : Option (List ℕ)) (size at : ℕ) (part : List ℕ) → IfSome a (λ held. length held ≡ size) → size ≡ 65536 → 832 ≤ at → at + length part ≤ 65536
    → OnOk result (b ≡ option_map (patched at part) a) → OnErr result (Becomes (Torn at (length part)) a b) → Becomes KeepsFirst a b
kept_part (Ok x) a b size at part long is high fits put torn = kept_put a b size at part long high (omega arith) put
kept_part (Err y) a b size at part long is high fits put torn = kept_torn a b at (length part) high torn

pub told_still : (R : List ℕ → List ℕ → Type 0) (a b : Option (List ℕ)) → Becomes R a b → is_some b ≡ is_some a
told_still R None None is = refl
told_still R None (Some b) is = absurd is
told_still R (Some a) None is = absurd is
told_still R (Some a) (Some b) is = refl

pub kept_or : (mark : ℕ) (state : Persistent) (a b : Option (List ℕ)) → Becomes KeepsFirst a b → Becomes (KeepsFirstOr mark state) a b
kept_or mark state None None kept = tt
kept_or mark state None (Some b) kept = kept
kept_or mark state (Some a) None kept = kept
kept_or mark state (Some a) (Some b) kept = inl kept

stands_or : (mark : ℕ) (state : Persistent) (a b : Option (List ℕ)) → is_some b ≡ is_some a → IfSome b (λ content. stands_for mark content ≡ Ok state) → Becomes (KeepsFirstOr mark state) a b
stands_or mark state None None told stands = tt
stands_or mark state None (Some b) told stands = cc told
stands_or mark state (Some a) None told stands = cc told
stands_or mark state (Some a) (Some b) told stands = inr stands

-- after the parts the first bytes were written, or not
pub kept_last : (mark : ℕ) (state : Persistent) (a b c : Option (List ℕ)) → Becomes KeepsFirst a b → is_some c ≡ is_some b → (c ≡ b) ⊎ IfSome c (λ content. stands_for mark content ≡ Ok state)
    → Becomes (KeepsFirstOr mark state) a c
kept_last mark state a b c kept told (inl same) = kept_or mark state a c (subst (λ (o : Option (List ℕ)). Becomes KeepsFirst a o) (sym same) kept)
kept_last mark state a b c kept told (inr stands) = stands_or mark state a c (told ∙ told_still KeepsFirst a b kept) stands

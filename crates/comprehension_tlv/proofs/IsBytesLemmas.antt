-- Steps that may fail, and the bytes that they leave.
use Rattle.std.proofs.Common.{◌≡◌, ℕ, suc, ◌<◌, List, [], ◌∷◌, ◌++◌, get_or, Result, Ok, Err, refl, inl, inr, ◌⊎◌}
use Rattle.comprehension_tlv.specs.declared.faults.TlvFault.{TlvFault}
use Rattle.comprehension_tlv.specs.Reading.{◌>>=◌}

abbrev pub IsBytes : List ℕ → Type 0
IsBytes bytes = (i : ℕ) → get_or bytes i 0 < 256

pub IsBytes-tail : (first : ℕ) (others : List ℕ) → IsBytes (first ∷ others) → IsBytes others
IsBytes-tail first others h i = h (suc i)

-- the value of a step that did not fail
pub bind_ok : {A B : Type 0} (r : Result A TlvFault) (f : A → Result B TlvFault) (y : B) → (r >>= f) ≡ Ok y → (x : A) × (r ≡ Ok x) × (f x ≡ Ok y)
bind_ok (Ok x) f y e = (x, refl, e)
bind_ok (Err d) f y e = absurd cc

abbrev pub done : {A : Type 0} → A → Result A TlvFault
done x = Ok x

abbrev good : {A E : Type 0} → A → Result A E
good x = Ok x

-- the values of results that are the same, whatever the faults
pub ok_is : {A E : Type 0} (x y : A) → good {A = A} {E = E} x ≡ good y → x ≡ y
ok_is x y e = cc

-- a result is a value or a fault
pub either : {A : Type 0} (r : Result A TlvFault) → ((x : A) × (r ≡ Ok x)) ⊎ ((fault : TlvFault) × (r ≡ Err fault))
either (Ok x) = inl (x, refl)
either (Err fault) = inr (fault, refl)

pub IsBytes-append_right : (front rest : List ℕ) → IsBytes (front ++ rest) → IsBytes rest
IsBytes-append_right [] rest h = h
IsBytes-append_right (first ∷ others) rest h = IsBytes-append_right others rest (IsBytes-tail first (others ++ rest) h)

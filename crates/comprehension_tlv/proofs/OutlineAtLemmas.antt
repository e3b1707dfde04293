-- The outline of some bytes, object by object, and how it answers to whole spellings.
use Rattle.std.proofs.Common.{◌≡◌, ◌≢◌, ℕ, zero, suc, ◌+◌, ◌-◌, ◌*◌, ◌%◌, ◌^◌, ◌<◌, ◌≤◌, Bool, cond, ◌||◌, eqb, leb, List, [], ◌∷◌, ◌++◌, length, Some, None, Result, Ok, Err, refl, sym, ap, subst, ◌∙◌, append_assoc, add-zero, arith, inl, inr, length-append}
use Rattle.list_laws.proofs.CondLemmas.{chosen}
use Rattle.comprehension_tlv.specs.declared.faults.TlvFault.{TlvFault}
use Rattle.comprehension_tlv.specs.declared.faults.TlvFault.TheVariants.{NoTag}
use Rattle.comprehension_tlv.specs.Model.{Object, IsLength, IsObject, IsObjects}
use Rattle.comprehension_tlv.specs.Reading.{◌>>=◌, long_tag_at, tag_at, value_at, object_at, Outline, ended, begun, with_first, outline_within, outline_at, IsEnding, IsOutline}
use Rattle.comprehension_tlv.proofs.IsBytesLemmas.{IsBytes, bind_ok, ok_is, either, IsBytes-append_right}
use Rattle.comprehension_tlv.proofs.ObjectAtLemmas.{value_takes, object_takes, object_again}

-- ---- what is left is shorter

long_tag_shorter : (at : ℕ) (others : List ℕ) (x : Bool × ℕ × List ℕ) → long_tag_at at others ≡ Ok x → length x.2 < length (127 ∷ others)
long_tag_shorter at [] x e = absurd cc
long_tag_shorter at (high ∷ []) x e = absurd cc
long_tag_shorter at (high ∷ low ∷ others) x e =
    let n : ℕ = 256 * high + low in
    subst (λ (y : Bool × ℕ × List ℕ). length y.2 < length (127 ∷ high ∷ low ∷ others)) (ok_is (leb (2 ^ 15) n, n % 2 ^ 15, others) x e) (omega arith)

tag_shorter : (at : ℕ) (bytes : List ℕ) (x : Bool × ℕ × List ℕ) → tag_at at bytes ≡ Ok x → length x.2 < length bytes
unfolding tag_at
tag_shorter at [] x e = absurd cc
tag_shorter at (first ∷ others) x e =
    let long : Result (Bool × ℕ × List ℕ) TlvFault = long_tag_at at others in
    let short : Result (Bool × ℕ × List ℕ) TlvFault = Ok (leb 128 first, first % 128, others) in
    elim (chosen (eqb first 0 || eqb first 128 || eqb first 255) (Err (NoTag at)) (cond (eqb first 127) long short) (Ok x) e) [
      | inl none ↦ absurd (let f = none.1 in cc)
      | inr some ↦ elim (chosen (eqb first 127) long short (Ok x) some.1) [
        | inl is_long ↦ long_tag_shorter at others x is_long.1
        | inr is_short ↦ subst (λ (y : Bool × ℕ × List ℕ). length y.2 < length (first ∷ others)) (ok_is (leb 128 first, first % 128, others) x is_short.1) (omega arith)
      ]
    ]

some_length : (front : List ℕ) (len : ℕ) → IsLength front len → 0 < length front
some_length [] len h = absurd h
some_length (first ∷ others) len h = omega arith

value_shorter : (at : ℕ) (bytes value rest : List ℕ) → value_at at bytes ≡ Ok (value, rest) → length rest < length bytes
value_shorter at bytes value rest e =
    let v = value_takes at bytes value rest e in
    let some = some_length v.0 (length value) v.2 in
    rw v.1 (omega (arith, length-append (v.0 ++ value) rest, length-append v.0 value))

pub object_shorter : (at : ℕ) (bytes : List ℕ) (object : Object) (rest : List ℕ) → object_at at bytes ≡ Ok (object, rest) → length rest < length bytes
unfolding object_at
object_shorter at bytes object rest e =
    let after : Bool × ℕ × List ℕ → Result (Object × List ℕ) TlvFault = λ tag. value_at at tag.2 >>= (λ value. Ok (record { flag = tag.0; tag = tag.1; value = value.0 }, value.1)) in
    let b = bind_ok (tag_at at bytes) after (object, rest) e in
    let tag = b.0 in
    let last : List ℕ × List ℕ → Result (Object × List ℕ) TlvFault = λ value. Ok (record { flag = tag.0; tag = tag.1; value = value.0 }, value.1) in
    let d = bind_ok (value_at at tag.2) last (object, rest) b.2 in
    let value = d.0 in
    let made : Object = record { flag = tag.0; tag = tag.1; value = value.0 } in
    let same = ok_is (made, value.1) (object, rest) d.2 in
    let t = tag_shorter at bytes tag b.1 in
    let v = value_shorter at tag.2 value.0 value.1 d.1 in
    subst (λ (y : Object × List ℕ). length y.1 < length bytes) same (omega arith)

-- ---- one object, or the fault

with_first-same : (r : Result (Object × List ℕ) TlvFault) (f g : List ℕ → Outline) → ((object : Object) (rest : List ℕ) → r ≡ Ok (object, rest) → f rest ≡ g rest) → with_first r f ≡ with_first r g
with_first-same (Ok x) f g same = ap (begun x.0) (same x.0 x.1 refl)
with_first-same (Err fault) f g same = refl

within_enough : (most more at : ℕ) (bytes : List ℕ) → length bytes ≤ most → length bytes ≤ more → outline_within most at bytes ≡ outline_within more at bytes
unfolding outline_within
within_enough zero zero at bytes p q = refl
within_enough zero (suc more) at [] p q = refl
within_enough zero (suc more) at (first ∷ others) p q = absurd (omega arith)
within_enough (suc most) zero at [] p q = refl
within_enough (suc most) zero at (first ∷ others) p q = absurd (omega arith)
within_enough (suc most) (suc more) at [] p q = refl
within_enough (suc most) (suc more) at (first ∷ others) p q =
    with_first-same (object_at at (first ∷ others)) _ _ (λ object rest e.
    let shorter = object_shorter at (first ∷ others) object rest e in
    within_enough most more (at + (length (first ∷ others) - length rest)) rest (omega arith) (omega arith))

pub outline_at-nil : (at : ℕ) → outline_at at [] ≡ ended None
unfolding outline_at outline_within
outline_at-nil at = refl

pub outline_at-object : (at : ℕ) (bytes : List ℕ) (object : Object) (rest : List ℕ) → object_at at bytes ≡ Ok (object, rest) → outline_at at bytes ≡ begun object (outline_at (at + (length bytes - length rest)) rest)
unfolding outline_at outline_within
outline_at-object at [] object rest e = absurd (omega (arith, object_shorter at [] object rest e))
outline_at-object at (first ∷ others) object rest e =
    let shorter = object_shorter at (first ∷ others) object rest e in
    let step : List ℕ → Outline = λ left. outline_within (length others) (at + (length (first ∷ others) - length left)) left in
    ap (λ (r : Result (Object × List ℕ) TlvFault). with_first r step) e ∙
    ap (begun object) (within_enough (length others) (length rest) (at + (length (first ∷ others) - length rest)) rest (omega arith) (omega arith))

pub outline_at-fault : (at : ℕ) (bytes : List ℕ) (fault : TlvFault) → 0 < length bytes → object_at at bytes ≡ Err fault → outline_at at bytes ≡ ended (Some fault)
unfolding outline_at outline_within
outline_at-fault at [] fault some e = absurd (omega arith)
outline_at-fault at (first ∷ others) fault some e =
    let step : List ℕ → Outline = λ left. outline_within (length others) (at + (length (first ∷ others) - length left)) left in
    ap (λ (r : Result (Object × List ℕ) TlvFault). with_first r step) e

-- ---- whole spellings

-- a list of objects is read again
pub outline_again : (at : ℕ) (bytes : List ℕ) (objects : List Object) → IsObjects bytes objects → outline_at at bytes ≡ record { objects = objects; fault = None }
outline_again at bytes [] h = ap (outline_at at) h ∙ outline_at-nil at
outline_again at bytes (object ∷ others) h =
    let first = h.0 in
    let rest = h.1 in
    ap (outline_at at) h.2 ∙ outline_at-object at (first ++ rest) object rest (object_again at first rest object h.3) ∙
    ap (begun object) (outline_again (at + (length (first ++ rest) - length rest)) rest others h.4)

begun_is : (at : ℕ) (bytes first rest : List ℕ) (object : Object) (others : Outline) → bytes ≡ first ++ rest → IsObject first object → IsOutline (at + (length bytes - length rest)) rest others → IsOutline at bytes (begun object others)
begun_is at bytes first rest object others whole spelled left =
    let size : length bytes - length rest ≡ length first = rw whole (omega (arith, length-append first rest)) in
    let place : at + (length bytes - length rest) + length left.front ≡ at + length (first ++ left.front) = rw size (omega (arith, length-append first left.front)) in
    record {
      front = first ++ left.front;
      rest = left.rest;
      whole = whole ∙ ap (λ (x : List ℕ). first ++ x) left.whole ∙ sym (append_assoc first left.front left.rest);
      spelled = (first, left.front, refl, spelled, left.spelled);
      ending = subst (λ (k : ℕ). IsEnding k left.rest others.fault) place left.ending;
    }

fault_is : (at : ℕ) (bytes : List ℕ) (fault : TlvFault) → bytes ≢ [] → object_at at bytes ≡ Err fault → IsOutline at bytes (ended (Some fault))
fault_is at bytes fault some e =
    record { front = []; rest = bytes; whole = refl; spelled = refl; ending = (some, rw add-zero e) }

within_is : (most at : ℕ) (bytes : List ℕ) → IsBytes bytes → length bytes ≤ most → IsOutline at bytes (outline_at at bytes)
within_is most at [] fits p = rw (outline_at-nil at) (record { front = []; rest = []; whole = refl; spelled = refl; ending = refl })
within_is zero at (first ∷ others) fits p = absurd (omega arith)
within_is (suc most) at (first ∷ others) fits p =
    elim (either (object_at at (first ∷ others))) [
      | inl ok ↦
          let object = ok.0.0 in
          let rest = ok.0.1 in
          let place : ℕ = at + (length (first ∷ others) - length rest) in
          let taken = object_takes at (first ∷ others) object rest fits ok.1 in
          let shorter = object_shorter at (first ∷ others) object rest ok.1 in
          let left_fits : IsBytes rest = IsBytes-append_right taken.0 rest (subst IsBytes taken.1 fits) in
          let left = within_is most place rest left_fits (omega arith) in
          subst (IsOutline at (first ∷ others)) (sym (outline_at-object at (first ∷ others) object rest ok.1))
          (begun_is at (first ∷ others) taken.0 rest object (outline_at place rest) taken.1 taken.2 left)
      | inr bad ↦
          subst (IsOutline at (first ∷ others)) (sym (outline_at-fault at (first ∷ others) bad.0 (omega arith) bad.1))
          (fault_is at (first ∷ others) bad.0 (λ (h : first ∷ others ≡ []). cc) bad.1)
    ]

pub outline_at_is : (at : ℕ) (bytes : List ℕ) → IsBytes bytes → IsOutline at bytes (outline_at at bytes)
outline_at_is at bytes fits = within_is (length bytes) at bytes fits (omega arith)

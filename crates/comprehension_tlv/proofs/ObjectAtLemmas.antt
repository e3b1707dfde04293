-- A tag, a length, a value and an object: what is read is spelled so, and what is spelled so is read again.
use Rattle.std.proofs.Common.{◌≡◌, ℕ, ◌+◌, ◌*◌, ◌%◌, ◌^◌, ◌<◌, ◌≤◌, Bool, true, false, cond, ◌||◌, eqb, ltb, leb, List, [], ◌∷◌, ◌++◌, length, take, drop, Result, Ok, Err, refl, sym, ap, subst, ◌∙◌, append_assoc, arith, inl, inr, take_at, drop_at, take-append-drop, length-append, length-take}
use Rattle.std.proofs.lemmas.Bool.{cases_lt, ltb-true, ltb-false, lt-ltb, le-ltb, le-leb, lt-leb, eqb-true, eqb-false, ne_eqb, or_parts}
use Rattle.list_laws.proofs.CondLemmas.{chosen}
use Rattle.comprehension_tlv.specs.declared.faults.TlvFault.{TlvFault}
use Rattle.comprehension_tlv.specs.declared.faults.TlvFault.TheVariants.{NoTag, BadLength, CutShort}
use Rattle.comprehension_tlv.specs.Model.{Object, flagged, IsTag, IsLength, IsObject}
use Rattle.comprehension_tlv.specs.Reading.{◌>>=◌, long_tag_at, tag_at, one_byte_at, two_bytes_at, length_at, value_at, object_at}
use Rattle.comprehension_tlv.proofs.IsBytesLemmas.{IsBytes, IsBytes-tail, bind_ok, done, ok_is}

-- ---- tags

flag_of_byte : (n : ℕ) → n < 256 → n ≡ flagged (leb 128 n) 128 + n % 128
flag_of_byte n lt =
    elim (cases_lt n 128) [
      | inl below ↦ rw (lt-leb 128 n below) (omega arith)
      | inr above ↦ rw (le-leb 128 n above) (omega arith)
    ]

flag_of_two : (n : ℕ) → n < 2 ^ 16 → n ≡ flagged (leb (2 ^ 15) n) (2 ^ 15) + n % 2 ^ 15
flag_of_two n lt =
    elim (cases_lt n (2 ^ 15)) [
      | inl below ↦ rw (lt-leb (2 ^ 15) n below) (omega arith)
      | inr above ↦ rw (le-leb (2 ^ 15) n above) (omega arith)
    ]

abbrev TakesTag : List ℕ → Bool → ℕ → List ℕ → Type 0
TakesTag bytes flag tag rest = (front : List ℕ) × (bytes ≡ front ++ rest) × IsTag front flag tag

long_tag_takes : (at : ℕ) (others : List ℕ) (flag : Bool) (tag : ℕ) (rest : List ℕ) → IsBytes others → long_tag_at at others ≡ Ok (flag, tag, rest) → TakesTag (127 ∷ others) flag tag rest
long_tag_takes at [] flag tag rest fits e = absurd cc
long_tag_takes at (high ∷ []) flag tag rest fits e = absurd cc
long_tag_takes at (high ∷ low ∷ others) flag tag rest fits e =
    let n : ℕ = 256 * high + low in
    let lt : n < 2 ^ 16 = omega (arith, fits 0, fits 1) in
    subst (λ (x : Bool × ℕ × List ℕ). TakesTag (127 ∷ high ∷ low ∷ others) x.0 x.1 x.2) (ok_is (leb (2 ^ 15) n, n % 2 ^ 15, others) (flag, tag, rest) e) (127 ∷ high ∷ low ∷ [], refl, (refl, omega arith, flag_of_two n lt))

short_tag_takes : (first : ℕ) (others : List ℕ) → first < 256 → (first ≡ 0 → ⊥) → (first ≡ 128 → ⊥) → (first ≡ 255 → ⊥) → (first ≡ 127 → ⊥) → TakesTag (first ∷ others) (leb 128 first) (first % 128) others
short_tag_takes first others lt a b c d =
    (first ∷ [], refl, (omega arith, omega arith, flag_of_byte first lt))

pub tag_takes : (at : ℕ) (bytes : List ℕ) (flag : Bool) (tag : ℕ) (rest : List ℕ) → IsBytes bytes → tag_at at bytes ≡ Ok (flag, tag, rest) → TakesTag bytes flag tag rest
unfolding tag_at
tag_takes at [] flag tag rest fits e = absurd cc
tag_takes at (first ∷ others) flag tag rest fits e =
    let long : Result (Bool × ℕ × List ℕ) TlvFault = long_tag_at at others in
    let short : Result (Bool × ℕ × List ℕ) TlvFault = Ok (leb 128 first, first % 128, others) in
    elim (chosen (eqb first 0 || eqb first 128 || eqb first 255) (Err (NoTag at)) (cond (eqb first 127) long short) (Ok (flag, tag, rest)) e) [
      | inl none ↦ absurd (let f = none.1 in cc)
      | inr some ↦ elim (chosen (eqb first 127) long short (Ok (flag, tag, rest)) some.1) [
        | inl is_long ↦ rw (eqb-true first 127 is_long.0) (long_tag_takes at others flag tag rest (IsBytes-tail first others fits) is_long.1)
        | inr is_short ↦
            let p = or_parts (eqb first 0 || eqb first 128) (eqb first 255) some.0 in
            let q = or_parts (eqb first 0) (eqb first 128) p.0 in
            subst (λ (x : Bool × ℕ × List ℕ). TakesTag (first ∷ others) x.0 x.1 x.2) (ok_is (leb 128 first, first % 128, others) (flag, tag, rest) is_short.1)
            (short_tag_takes first others (fits 0) (eqb-false first 0 q.0) (eqb-false first 128 q.1) (eqb-false first 255 p.1) (eqb-false first 127 is_short.0))
      ]
    ]

short_tag_again : (at first : ℕ) (rest : List ℕ) (flag : Bool) (tag : ℕ) → 0 < tag → tag < 127 → first ≡ flagged flag 128 + tag → tag_at at (first ∷ rest) ≡ Ok (flag, tag, rest)
unfolding tag_at
short_tag_again at first rest false tag low high is =
    rw (ne_eqb first 0 (λ e. omega arith), ne_eqb first 128 (λ e. omega arith), ne_eqb first 255 (λ e. omega arith), ne_eqb first 127 (λ e. omega arith), lt-leb 128 first (omega arith))
    (ap (λ (t : ℕ). done (false, t, rest)) (omega arith))
short_tag_again at first rest true tag low high is =
    rw (ne_eqb first 0 (λ e. omega arith), ne_eqb first 128 (λ e. omega arith), ne_eqb first 255 (λ e. omega arith), ne_eqb first 127 (λ e. omega arith), le-leb 128 first (omega arith))
    (ap (λ (t : ℕ). done (true, t, rest)) (omega arith))

long_tag_again : (at high low : ℕ) (rest : List ℕ) (flag : Bool) (tag : ℕ) → tag < 2 ^ 15 → 256 * high + low ≡ flagged flag (2 ^ 15) + tag → tag_at at (127 ∷ high ∷ low ∷ rest) ≡ Ok (flag, tag, rest)
unfolding tag_at
long_tag_again at high low rest false tag lt is =
    rw (is, lt-leb (2 ^ 15) (0 + tag) (omega arith)) (ap (λ (t : ℕ). done (false, t, rest)) (omega arith))
long_tag_again at high low rest true tag lt is =
    rw (is, le-leb (2 ^ 15) (2 ^ 15 + tag) (omega arith)) (ap (λ (t : ℕ). done (true, t, rest)) (omega arith))

pub tag_again : (at : ℕ) (front rest : List ℕ) (flag : Bool) (tag : ℕ) → IsTag front flag tag → tag_at at (front ++ rest) ≡ Ok (flag, tag, rest)
tag_again at [] rest flag tag h = absurd h
tag_again at (first ∷ []) rest flag tag h = short_tag_again at first rest flag tag h.0 h.1 h.2
tag_again at (first ∷ high ∷ []) rest flag tag h = absurd h
tag_again at (first ∷ high ∷ low ∷ []) rest flag tag h =
    rw h.0 (long_tag_again at high low rest flag tag h.1 h.2)
tag_again at (first ∷ high ∷ low ∷ more ∷ others) rest flag tag h = absurd h

-- ---- lengths

abbrev TakesLength : List ℕ → ℕ → List ℕ → Type 0
TakesLength bytes len rest = (front : List ℕ) × (bytes ≡ front ++ rest) × IsLength front len

one_byte_takes : (at : ℕ) (others : List ℕ) (len : ℕ) (rest : List ℕ) → one_byte_at at others ≡ Ok (len, rest) → TakesLength (129 ∷ others) len rest
one_byte_takes at [] len rest e = absurd cc
one_byte_takes at (low ∷ others) len rest e =
    subst (λ (x : ℕ × List ℕ). TakesLength (129 ∷ low ∷ others) x.0 x.1) (ok_is (low, others) (len, rest) e) (129 ∷ low ∷ [], refl, (refl, refl))

two_bytes_take : (at : ℕ) (others : List ℕ) (len : ℕ) (rest : List ℕ) → two_bytes_at at others ≡ Ok (len, rest) → TakesLength (130 ∷ others) len rest
two_bytes_take at [] len rest e = absurd cc
two_bytes_take at (high ∷ []) len rest e = absurd cc
two_bytes_take at (high ∷ low ∷ others) len rest e =
    subst (λ (x : ℕ × List ℕ). TakesLength (130 ∷ high ∷ low ∷ others) x.0 x.1) (ok_is (256 * high + low, others) (len, rest) e) (130 ∷ high ∷ low ∷ [], refl, (refl, refl))

pub length_takes : (at : ℕ) (bytes : List ℕ) (len : ℕ) (rest : List ℕ) → length_at at bytes ≡ Ok (len, rest) → TakesLength bytes len rest
unfolding length_at
length_takes at [] len rest e = absurd cc
length_takes at (first ∷ others) len rest e =
    let wanted : Result (ℕ × List ℕ) TlvFault = Ok (len, rest) in
    let two : Result (ℕ × List ℕ) TlvFault = cond (eqb first 130) (two_bytes_at at others) (Err (BadLength at)) in
    let one : Result (ℕ × List ℕ) TlvFault = cond (eqb first 129) (one_byte_at at others) two in
    elim (chosen (ltb first 128) (Ok (first, others)) one wanted e) [
      | inl short ↦ subst (λ (x : ℕ × List ℕ). TakesLength (first ∷ others) x.0 x.1) (ok_is (first, others) (len, rest) short.1) (first ∷ [], refl, (ltb-true first 128 short.0, refl))
      | inr long ↦ elim (chosen (eqb first 129) (one_byte_at at others) two wanted long.1) [
        | inl is_one ↦ rw (eqb-true first 129 is_one.0) (one_byte_takes at others len rest is_one.1)
        | inr more ↦ elim (chosen (eqb first 130) (two_bytes_at at others) (Err (BadLength at)) wanted more.1) [
          | inl is_two ↦ rw (eqb-true first 130 is_two.0) (two_bytes_take at others len rest is_two.1)
          | inr bad ↦ absurd (let f = bad.1 in cc)
        ]
      ]
    ]

pub length_again : (at : ℕ) (front rest : List ℕ) (len : ℕ) → IsLength front len → length_at at (front ++ rest) ≡ Ok (len, rest)
unfolding length_at
length_again at [] rest len h = absurd h
length_again at (first ∷ []) rest len h = rw (lt-ltb first 128 h.0, h.1) refl
length_again at (form ∷ low ∷ []) rest len h = rw (h.0, h.1) refl
length_again at (form ∷ high ∷ low ∷ []) rest len h = rw (h.0, h.1) refl
length_again at (form ∷ high ∷ low ∷ more ∷ others) rest len h = absurd h

-- ---- values

pub value_takes : (at : ℕ) (bytes value rest : List ℕ) → value_at at bytes ≡ Ok (value, rest) → (front : List ℕ) × (bytes ≡ front ++ value ++ rest) × IsLength front (length value)
unfolding value_at
value_takes at bytes value rest e =
    let b = bind_ok (length_at at bytes) (λ len. cond (ltb (length len.1) len.0) (Err (CutShort at)) (Ok (take len.0 len.1, drop len.0 len.1))) (value, rest) e in
    let len = b.0 in
    let t = length_takes at bytes len.0 len.1 b.1 in
    elim (chosen (ltb (length len.1) len.0) (Err (CutShort at)) (Ok (take len.0 len.1, drop len.0 len.1)) (Ok (value, rest)) b.2) [
      | inl short ↦ absurd (let f = short.1 in cc)
      | inr fits ↦
          let room : len.0 ≤ length len.1 = ltb-false (length len.1) len.0 fits.0 in
          let same : length (take len.0 len.1) ≡ len.0 = omega (arith, length-take len.0 len.1) in
          let whole : bytes ≡ t.0 ++ take len.0 len.1 ++ drop len.0 len.1 = t.1 ∙ ap (λ (x : List ℕ). t.0 ++ x) (sym (take-append-drop len.0 len.1)) ∙ sym (append_assoc t.0 (take len.0 len.1) (drop len.0 len.1)) in
          subst (λ (x : List ℕ × List ℕ). (front : List ℕ) × (bytes ≡ front ++ x.0 ++ x.1) × IsLength front (length x.0)) (ok_is (take len.0 len.1, drop len.0 len.1) (value, rest) fits.1)
          (t.0, whole, subst (λ (n : ℕ). IsLength t.0 n) (sym same) t.2)
    ]

pub value_again : (at : ℕ) (front value rest : List ℕ) → IsLength front (length value) → value_at at (front ++ value ++ rest) ≡ Ok (value, rest)
unfolding value_at
value_again at front value rest h =
    let room : ltb (length (value ++ rest)) (length value) ≡ false = le-ltb _ _ (omega (arith, length-append value rest)) in
    rw (append_assoc front value rest, length_again at front (value ++ rest) (length value) h, room, take_at value rest (length value) refl, drop_at value rest (length value) refl) refl

-- ---- objects

pub object_takes : (at : ℕ) (bytes : List ℕ) (object : Object) (rest : List ℕ) → IsBytes bytes → object_at at bytes ≡ Ok (object, rest) → (first : List ℕ) × (bytes ≡ first ++ rest) × IsObject first object
unfolding object_at
object_takes at bytes object rest fits e =
    let after : Bool × ℕ × List ℕ → Result (Object × List ℕ) TlvFault = λ tag. value_at at tag.2 >>= (λ value. Ok (record { flag = tag.0; tag = tag.1; value = value.0 }, value.1)) in
    let b = bind_ok (tag_at at bytes) after (object, rest) e in
    let tag = b.0 in
    let t = tag_takes at bytes tag.0 tag.1 tag.2 fits b.1 in
    let last : List ℕ × List ℕ → Result (Object × List ℕ) TlvFault = λ value. Ok (record { flag = tag.0; tag = tag.1; value = value.0 }, value.1) in
    let d = bind_ok (value_at at tag.2) last (object, rest) b.2 in
    let value = d.0 in
    let v = value_takes at tag.2 value.0 value.1 d.1 in
    let made : Object = record { flag = tag.0; tag = tag.1; value = value.0 } in
    let first : List ℕ = t.0 ++ v.0 ++ value.0 in
    let whole : bytes ≡ first ++ value.1 = t.1 ∙ ap (λ (x : List ℕ). t.0 ++ x) v.1 ∙ (simp append_assoc) in
    subst (λ (x : Object × List ℕ). (first : List ℕ) × (bytes ≡ first ++ x.1) × IsObject first x.0) (ok_is (made, value.1) (object, rest) d.2)
    (first, whole, record { tag_bytes = t.0; length_bytes = v.0; tag_form = t.2; length_form = v.2; whole = refl })

pub object_again : (at : ℕ) (first rest : List ℕ) (object : Object) → IsObject first object → object_at at (first ++ rest) ≡ Ok (object, rest)
unfolding object_at
object_again at first rest object h =
    let parted : first ++ rest ≡ h.tag_bytes ++ (h.length_bytes ++ object.value ++ rest) = rw h.whole (simp append_assoc) in
    rw (parted, tag_again at h.tag_bytes (h.length_bytes ++ object.value ++ rest) object.flag object.tag h.tag_form, value_again at h.length_bytes object.value rest h.length_form) refl

-- Lists and templates: what is read is spelled so, what is spelled so is read, and what is written is read again.
use Rattle.std.proofs.Common.{◌≡◌, ℕ, ◌+◌, ◌-◌, ◌^◌, ◌<◌, ◌≤◌, Bool, List, [], ◌∷◌, ◌++◌, length, Option, Some, None, Result, Ok, Err, refl, sym, ap, subst, ◌∙◌, append-nil, arith, inl, inr}
use Rattle.std.specs.List.{All, AllByRecursion}
use Rattle.std.proofs.lemmas.Bool.{cases_lt, lt-ltb, le-ltb}
use Rattle.std.proofs.lemmas.List.{get_or_past, length-append}
use Rattle.comprehension_tlv.specs.declared.faults.TlvFault.{TlvFault}
use Rattle.comprehension_tlv.specs.declared.faults.TlvFault.TheVariants.{Trailing}
use Rattle.comprehension_tlv.specs.Model.{Object, flagged, IsTag, IsLength, IsObject, IsObjects, IsTemplate}
use Rattle.comprehension_tlv.specs.Reading.{◌>>=◌, value_at, object_at, Outline, outline, flaw, unless_fault, objects_of, IsEnding, unless_trailing, template_of}
use Rattle.comprehension_tlv.specs.Writing.{shortest_length, tagged, spelling, spellings, IsWritableObject}
use Rattle.comprehension_tlv.proofs.IsBytesLemmas.{IsBytes, bind_ok, ok_is}
use Rattle.comprehension_tlv.proofs.ObjectAtLemmas.{value_takes, value_again, object_again}
use Rattle.comprehension_tlv.proofs.OutlineAtLemmas.{outline_again, outline_at_is}

-- ---- lists

pub IsBytes-from_All : (bytes : List ℕ) → All (λ byte. byte < 256) bytes → IsBytes bytes
IsBytes-from_All bytes h i =
    elim (cases_lt i (length bytes)) [
      | inl within ↦ h i 0 within
      | inr past ↦ rw (get_or_past bytes i 0 past) (omega arith)
    ]

pub objects_again : (bytes : List ℕ) (objects : List Object) → IsObjects bytes objects → objects_of bytes ≡ Ok objects
objects_again bytes objects h = ap (λ (o : Outline). unless_fault o.objects o.fault) (outline_again 0 bytes objects h)

pub unless_fault_is : (found : List Object) (fault : Option TlvFault) (objects : List Object) → unless_fault found fault ≡ Ok objects → (found ≡ objects) × (fault ≡ None)
unless_fault_is found None objects e = (ok_is found objects e, refl)
unless_fault_is found (Some fault) objects e = absurd cc

pub objects_found : (bytes : List ℕ) (objects : List Object) → IsBytes bytes → objects_of bytes ≡ Ok objects → IsObjects bytes objects
objects_found bytes objects fits e =
    let is = outline_at_is 0 bytes fits in
    let both = unless_fault_is (outline bytes).objects (flaw bytes) objects e in
    let no_rest : is.rest ≡ [] = subst (IsEnding (0 + length is.front) is.rest) both.1 is.ending in
    let front : is.front ≡ bytes = sym (append-nil is.front) ∙ ap (λ (x : List ℕ). is.front ++ x) (sym no_rest) ∙ sym is.whole in
    subst (λ (x : List ℕ). IsObjects x objects) front (subst (IsObjects is.front) both.0 is.spelled)

-- ---- templates

filled_is : (tag len : ℕ) (x : List ℕ × List ℕ) (number : ℕ) (content : List ℕ) → unless_trailing tag len x ≡ Ok (number, content) → (tag ≡ number) × (x.0 ≡ content) × (x.1 ≡ [])
filled_is tag len (found, []) number content e =
    let same = ok_is (tag, found) (number, content) e in
    (ap (λ (p : ℕ × List ℕ). p.0) same, ap (λ (p : ℕ × List ℕ). p.1) same, refl)
filled_is tag len (found, more ∷ others) number content e = absurd cc

pub template_found : (bytes : List ℕ) (tag : ℕ) (content : List ℕ) → template_of bytes ≡ Ok (tag, content) → IsTemplate bytes tag content
unfolding template_of
template_found [] tag content e = absurd cc
template_found (first ∷ others) tag content e =
    let b = bind_ok (value_at 0 others) (unless_trailing first (length (first ∷ others))) (tag, content) e in
    let f = filled_is first (length (first ∷ others)) b.0 tag content b.2 in
    let v = value_takes 0 others b.0.0 b.0.1 b.1 in
    let whole : first ∷ others ≡ first ∷ v.0 ++ b.0.0 = ap (λ (x : List ℕ). first ∷ x) (v.1 ∙ ap (λ (x : List ℕ). v.0 ++ b.0.0 ++ x) f.2 ∙ append-nil (v.0 ++ b.0.0)) in
    let found : IsTemplate (first ∷ others) first b.0.0 = record { length_bytes = v.0; length_form = v.2; whole = whole } in
    subst (IsTemplate (first ∷ others) tag) f.1 (subst (λ (n : ℕ). IsTemplate (first ∷ others) n b.0.0) f.0 found)

pub template_again : (bytes : List ℕ) (tag : ℕ) (content : List ℕ) → IsTemplate bytes tag content → template_of bytes ≡ Ok (tag, content)
unfolding template_of
template_again bytes tag content h =
    let read : value_at 0 (h.length_bytes ++ content) ≡ Ok (content, []) =
    ap (value_at 0) (sym (append-nil (h.length_bytes ++ content))) ∙ value_again 0 h.length_bytes content [] h.length_form in
    ap template_of h.whole ∙ ap (λ (r : Result (List ℕ × List ℕ) TlvFault). r >>= unless_trailing tag (length (tag ∷ h.length_bytes ++ content))) read

pub template_is : (bytes others found rest : List ℕ) (first : ℕ) → bytes ≡ first ∷ others → value_at 0 others ≡ Ok (found, rest) → rest ≡ [] → template_of bytes ≡ Ok (first, found)
unfolding template_of
template_is bytes others found rest first whole read end =
    ap template_of whole ∙ ap (λ (r : Result (List ℕ × List ℕ) TlvFault). r >>= unless_trailing first (length (first ∷ others))) read ∙
    ap (λ (x : List ℕ). unless_trailing first (length (first ∷ others)) (found, x)) end

-- what has no value after its first byte is no template, and neither is what goes on after it
pub no_template : (bytes others : List ℕ) (first : ℕ) (fault : TlvFault) (tag : ℕ) (content : List ℕ) → bytes ≡ first ∷ others → value_at 0 others ≡ Err fault → IsTemplate bytes tag content → ⊥
unfolding template_of
no_template bytes others first fault tag content whole read h =
    let left : template_of bytes ≡ Err fault = ap template_of whole ∙ ap (λ (r : Result (List ℕ × List ℕ) TlvFault). r >>= unless_trailing first (length (first ∷ others))) read in
    let right = template_again bytes tag content h in
    cc

pub trails : (bytes others found rest : List ℕ) (first tag : ℕ) (content : List ℕ) → bytes ≡ first ∷ others → value_at 0 others ≡ Ok (found, rest) → 0 < length rest → IsTemplate bytes tag content → ⊥
unfolding template_of
trails bytes others found [] first tag content whole read more h = absurd (omega arith)
trails bytes others found (next ∷ rest) first tag content whole read more h =
    let left : template_of bytes ≡ Err (Trailing (length (first ∷ others) - length (next ∷ rest))) = ap template_of whole ∙ ap (λ (r : Result (List ℕ × List ℕ) TlvFault). r >>= unless_trailing first (length (first ∷ others))) read in
    let right = template_again bytes tag content h in
    cc

-- ---- no bytes have two readings

pub one_list : (bytes : List ℕ) (some others : List Object) → IsObjects bytes some → IsObjects bytes others → some ≡ others
one_list bytes some others a b = ok_is some others (sym (objects_again bytes some a) ∙ objects_again bytes others b)

pub one_template : (bytes content others : List ℕ) (tag number : ℕ) → IsTemplate bytes tag content → IsTemplate bytes number others → (tag ≡ number) × (content ≡ others)
one_template bytes content others tag number a b =
    let same = ok_is (tag, content) (number, others) (sym (template_again bytes tag content a) ∙ template_again bytes number others b) in
    (ap (λ (p : ℕ × List ℕ). p.0) same, ap (λ (p : ℕ × List ℕ). p.1) same)

-- ---- what is written

shortest_is : (len : ℕ) → len < 2 ^ 16 → IsLength (shortest_length len) len
shortest_is len lt =
    elim (cases_lt len 128) [
      | inl short ↦ rw (lt-ltb len 128 short) (short, refl)
      | inr long ↦ elim (cases_lt len 256) [
        | inl one ↦ rw (le-ltb len 128 long, lt-ltb len 256 one) (refl, refl)
        | inr two ↦ rw (le-ltb len 128 long, le-ltb len 256 two) (refl, omega arith)
      ]
    ]

tag_is : (flag : Bool) (tag : ℕ) → 1 ≤ tag → tag ≤ 126 → IsTag ((flagged flag 128 + tag) ∷ []) flag tag
tag_is flag tag low high = (omega arith, omega arith, refl)

spelling_is : (object : Object) → IsWritableObject object → IsObject (spelling object) object
unfolding tagged
spelling_is object h =
    record {
      tag_bytes = (flagged object.flag 128 + object.tag) ∷ [];
      length_bytes = shortest_length (length object.value);
      tag_form = tag_is object.flag object.tag h.low h.high;
      length_form = shortest_is (length object.value) h.small;
      whole = refl;
    }

pub spellings_are : (objects : List Object) → AllByRecursion IsWritableObject objects → IsObjects (spellings objects) objects
spellings_are [] h = refl
spellings_are (object ∷ others) h = (spelling object, spellings others, refl, spelling_is object h.0, spellings_are others h.1)

pub spelled_is : (tag : ℕ) (content : List ℕ) → length content < 2 ^ 16 → IsTemplate (tagged tag content) tag content
unfolding tagged
spelled_is tag content lt =
    record { length_bytes = shortest_length (length content); length_form = shortest_is (length content) lt; whole = refl }

-- where a walk ends at a fault, no object begins
pub no_object : (at : ℕ) (rest : List ℕ) (fault : TlvFault) (first others : List ℕ) (object : Object) → IsEnding at rest (Some fault) → rest ≡ first ++ others → IsObject first object → ⊥
no_object at rest fault first others object ending whole is =
    let read = object_again at first others object is in
    let same : object_at at rest ≡ Err fault = ending.1 in
    let e : object_at at (first ++ others) ≡ Err fault = ap (object_at at) (sym whole) ∙ same in
    cc

-- ---- how long things are

length_fits : (front : List ℕ) (len : ℕ) → IsLength front len → 1 ≤ length front
length_fits [] len h = absurd h
length_fits (first ∷ others) len h = omega arith

tag_fits : (front : List ℕ) (flag : Bool) (tag : ℕ) → IsTag front flag tag → 1 ≤ length front
tag_fits [] flag tag h = absurd h
tag_fits (first ∷ others) flag tag h = omega arith

pub object_fits : (bytes : List ℕ) (object : Object) → IsObject bytes object → length object.value + 2 ≤ length bytes
object_fits bytes object h =
    let tag = tag_fits h.tag_bytes object.flag object.tag h.tag_form in
    let len = length_fits h.length_bytes (length object.value) h.length_form in
    rw h.whole (omega (arith, length-append (h.tag_bytes ++ h.length_bytes) object.value, length-append h.tag_bytes h.length_bytes))

pub template_fits : (bytes : List ℕ) (tag : ℕ) (content : List ℕ) → IsTemplate bytes tag content → length content + 2 ≤ length bytes
template_fits bytes tag content h =
    let len = length_fits h.length_bytes (length content) h.length_form in
    rw h.whole (omega (arith, length-append h.length_bytes content))

-- The first object with a tag, found while a list is walked.
use Rattle.std.proofs.Common.{◌≡◌, ℕ, ◌+◌, ◌≤◌, List, [], ◌∷◌, ◌++◌, length, Option, Some, None, Result, Ok, eqb, refl, sym, ap, subst, ◌∙◌, arith, IfSome, length-append}
use Rattle.std.proofs.lemmas.Bool.{cond_both}
use Rattle.comprehension_tlv.specs.declared.faults.TlvFault.{TlvFault}
use Rattle.comprehension_tlv.specs.Model.{Object, IsObjects}
use Rattle.comprehension_tlv.specs.Reading.{◌>>=◌, objects_of, Outline, ended, outline, flaw, unless_fault, first_value, value_of}
use Rattle.comprehension_tlv.proofs.IsBytesLemmas.{IsBytes, done, bind_ok}
use Rattle.comprehension_tlv.proofs.ReadingLemmas.{objects_again, objects_found, object_fits, unless_fault_is}

abbrev pub first_or : Option (List ℕ) → Option (List ℕ) → Option (List ℕ)
first_or (Some x) later = Some x
first_or None later = later

first_or-none : (found : Option (List ℕ)) → first_or found None ≡ found
first_or-none None = refl
first_or-none (Some x) = refl

IfSome-longer : (value : Option (List ℕ)) (short long : ℕ) → short ≤ long → IfSome value (λ found. length found + 2 ≤ short) → IfSome value (λ found. length found + 2 ≤ long)
IfSome-longer None short long le h = tt
IfSome-longer (Some found) short long le h = omega arith

value_is : (some others : Option (List ℕ)) → done some ≡ done others → some ≡ others
value_is some others e = cc

abbrev at_tag : ℕ → Result (List Object) TlvFault → Result (Option (List ℕ)) TlvFault
at_tag tag objects = objects >>= λ found. Ok (first_value tag found)

pub value_at_end : (tag : ℕ) (bytes : List ℕ) (found : Option (List ℕ)) (left : Outline) → first_or found (first_value tag left.objects) ≡ first_value tag (outline bytes).objects → left.fault ≡ flaw bytes → left ≡ ended None → value_of tag bytes ≡ Ok found
value_at_end tag bytes found left same fault e =
    let no_fault : flaw bytes ≡ None = sym fault ∙ ap (λ (o : Outline). o.fault) e in
    let none : first_value tag left.objects ≡ None = ap (λ (o : Outline). first_value tag o.objects) e in
    let value : first_value tag (outline bytes).objects ≡ found = sym same ∙ ap (first_or found) none ∙ first_or-none found in
    ap (λ (f : Option TlvFault). at_tag tag (unless_fault (outline bytes).objects f)) no_fault ∙ ap (λ (v : Option (List ℕ)). Ok v) value

-- where the list is spelled, the walk meets no fault, and the value is that of its objects
pub no_fault : (bytes : List ℕ) (left : Outline) (fault : TlvFault) (objects : List Object) → IsObjects bytes objects → left.fault ≡ flaw bytes → left ≡ ended (Some fault) → ⊥
no_fault bytes left fault objects h same e =
    let is : flaw bytes ≡ Some fault = sym same ∙ ap (λ (o : Outline). o.fault) e in
    let none = unless_fault_is (outline bytes).objects (flaw bytes) objects (objects_again bytes objects h) in
    let clash = none.1 in
    cc

pub value_of_list : (tag : ℕ) (bytes : List ℕ) (found : Option (List ℕ)) (objects : List Object) → IsObjects bytes objects → value_of tag bytes ≡ Ok found → found ≡ first_value tag objects
value_of_list tag bytes found objects h e =
    let read : value_of tag bytes ≡ Ok (first_value tag objects) = ap (at_tag tag) (objects_again bytes objects h) in
    value_is found (first_value tag objects) (sym e ∙ read)

-- the value of an object is shorter than the list by its tag and its length
first_value_fits : (tag : ℕ) (bytes : List ℕ) (objects : List Object) → IsObjects bytes objects → IfSome (first_value tag objects) (λ found. length found + 2 ≤ length bytes)
first_value_fits tag bytes [] h = tt
first_value_fits tag bytes (object ∷ others) h =
    let whole : length bytes ≡ length (h.0 ++ h.1) = ap length h.2 in
    let here : length object.value + 2 ≤ length bytes = omega (arith, object_fits h.0 object h.3, length-append h.0 h.1) in
    let later = IfSome-longer (first_value tag others) (length h.1) (length bytes) (omega (arith, length-append h.0 h.1)) (first_value_fits tag h.1 others h.4) in
    cond_both (eqb object.tag tag) (Some object.value) (first_value tag others) (λ (v : Option (List ℕ)). IfSome v (λ found. length found + 2 ≤ length bytes)) (λ e. here) (λ e. later)

pub value_fits : (tag : ℕ) (bytes : List ℕ) (value : Option (List ℕ)) → IsBytes bytes → value_of tag bytes ≡ Ok value → IfSome value (λ found. length found + 2 ≤ length bytes)
value_fits tag bytes value fits e =
    let b = bind_ok (objects_of bytes) (λ objects. Ok (first_value tag objects)) value e in
    let is : first_value tag b.0 ≡ value = value_is (first_value tag b.0) value b.2 in
    subst (λ (v : Option (List ℕ)). IfSome v (λ found. length found + 2 ≤ length bytes)) is (first_value_fits tag bytes b.0 (objects_found bytes b.0 fits b.1))

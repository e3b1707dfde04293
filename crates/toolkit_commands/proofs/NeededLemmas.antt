-- What follows where an object was found.
use Rattle.std.proofs.Common.{◌≡◌, ℕ, eqb, List, [], ◌∷◌, Option, Some, None, Result, Ok, inl, inr, IfOk, Bor, option_copied, ok_or}
use Rattle.std.proofs.lemmas.Bool.{cases_Bool}
use Rattle.comprehension_tlv.specs.declared.faults.TlvFault.{TlvFault}
use Rattle.comprehension_tlv.specs.Model.{Object}
use Rattle.comprehension_tlv.specs.Reading.{◌>>=◌ as ◌>>='◌, outline, flaw, unless_fault, first_value, value_of}
use Rattle.toolkit_commands.specs.declared.faults.ProactiveFault.{ProactiveFault}
use Rattle.toolkit_commands.specs.declared.faults.ProactiveFault.TheVariants.{Missing}
use Rattle.toolkit_commands.specs.Values.{values}
use Rattle.toolkit_commands.specs.Steps.{items_in}
use Rattle.toolkit_commands.specs.Counting.{IsFirst}

first_of : (objects : List Object) (value : List ℕ) → first_value 0x0F objects ≡ Some value → IsFirst (values 0x0F objects) value
first_of [] value e = absurd cc
first_of (object ∷ others) value e =
    elim (cases_Bool (eqb object.tag 0x0F)) [
      | inl here ↦ rw here (let same : Some object.value ≡ Some value = rw here at e in cc)
      | inr later ↦ rw later (first_of others value (rw later at e))
    ]

value_first : (tag : ℕ) (objects : List Object) (fault : Option TlvFault) (value : Option (List ℕ)) → (unless_fault objects fault >>=' λ found. Ok (first_value tag found)) ≡ Ok value → first_value tag objects ≡ value
value_first tag objects None value e = cc
value_first tag objects (Some fault) value e = absurd cc

pub item_found : (tag : ℕ) (content : List ℕ) (found : Option (Bor (List ℕ))) (r : Result (Bor (List ℕ)) ProactiveFault) → value_of tag content ≡ Ok (option_copied found) → r ≡ ok_or found Missing → IfOk r (λ value. tag ≡ 0x0F → IsFirst (items_in content) value.now)
item_found tag content None r e is = rw is tt
item_found tag content (Some value) r e is =
    rw is (λ same. first_of (outline content).objects value.now (rw same at (value_first tag (outline content).objects (flaw content) (Some value.now) e)))

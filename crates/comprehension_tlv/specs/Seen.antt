-- What the values of the code stand for.
use Rattle.std.specs.Prelude.{◌≡◌, Option, Some, None, Result, Ok, Err}
use Rattle.comprehension_tlv.specs.Model.{Object}
use Rattle.comprehension_tlv.specs.Reading.{Outline, ended, begun}
use Rattle.comprehension_tlv.specs.declared.faults.TlvFault.{TlvFault}
use Rattle.comprehension_tlv.specs.declared.objects.Part.{Part}

-- a part without where it lies in memory
abbrev pub object_of : Part → Object
object_of part = record { flag = part.flag; tag = part.tag; value = part.value.now }

-- What a walk answered, between the outline of what it had left and that of what it has left now: the parts in order,
-- then the end or the fault, again and again.
abbrev pub IsNext : Outline → Result (Option Part) TlvFault → Outline → Type 0
IsNext old (Ok (Some part)) new = old ≡ begun (object_of part) new
IsNext old (Ok None) new = (old ≡ ended None) × (new ≡ old)
IsNext old (Err fault) new = (old ≡ ended (Some fault)) × (new ≡ old)

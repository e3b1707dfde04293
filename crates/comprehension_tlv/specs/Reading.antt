-- Reading from left to right, with the first fault that is met. Each function takes the place at which its object
-- begins, which its fault tells, and gives what was read and the bytes after it.
use Rattle.std.specs.Prelude.{◌≡◌, ℕ, zero, suc, ◌+◌, ◌-◌, ◌*◌, ◌%◌, ◌^◌, Bool, ◌||◌, List, [], ◌∷◌, length, take, drop, Option, Some, None, ◌≢◌, ◌++◌, Result, Ok, Err, nat_lt, nat_le, ◌==◌, if◌then◌else◌}
use Rattle.comprehension_tlv.specs.Model.{Object, IsObjects}
use Rattle.comprehension_tlv.specs.declared.faults.TlvFault.{TlvFault}
use Rattle.comprehension_tlv.specs.declared.faults.TlvFault.TheVariants.{NoTag, BadLength, CutShort, Trailing}

-- what was read is read on by the next step; a fault ends the reading
infixl 10 ◌>>=◌
abbrev pub ◌>>=◌ : {A B : Type 0} → Result A TlvFault → (A → Result B TlvFault) → Result B TlvFault
(Ok x) >>= f = f x
(Err e) >>= f = Err e

-- what a function returned, seen by view, is what reading gives
abbrev pub Gives : {X Y : Type 0} → (X → Y) → Result X TlvFault → Result Y TlvFault → Type 0
Gives view (Ok x) read = read ≡ Ok (view x)
Gives view (Err e) read = read ≡ Err e

-- the two bytes of a long tag, of which b16 is the flag
abbrev pub long_tag_at : ℕ → List ℕ → Result (Bool × ℕ × List ℕ) TlvFault
long_tag_at at (high ∷ low ∷ rest) =
    Ok (nat_le (2 ^ 15) (256 * high + low), (256 * high + low) % 2 ^ 15, rest)
long_tag_at at _ = Err (CutShort at)

-- the flag and the tag at the front, and what follows: one byte, or 7F and two bytes; 00, 80 and FF begin no tag (ETSI TS 101 220, 7.1.1)
unfoldable pub tag_at : ℕ → List ℕ → Result (Bool × ℕ × List ℕ) TlvFault
tag_at at [] = Err (CutShort at)
tag_at at (first ∷ rest) =
    if (first == 0) || (first == 128) || (first == 255) then Err (NoTag at)
    else (if first == 127 then long_tag_at at rest else Ok (nat_le 128 first, first % 128, rest))

-- the length that stands in the byte after 81
abbrev pub one_byte_at : ℕ → List ℕ → Result (ℕ × List ℕ) TlvFault
one_byte_at at (low ∷ rest) = Ok (low, rest)
one_byte_at at [] = Err (CutShort at)

-- the length that stands in the two bytes after 82
abbrev pub two_bytes_at : ℕ → List ℕ → Result (ℕ × List ℕ) TlvFault
two_bytes_at at (high ∷ low ∷ rest) = Ok (256 * high + low, rest)
two_bytes_at at _ = Err (CutShort at)

-- the length at the front, and what follows: 00 to 7F stand for themselves, 81 and 82 for the one byte or the two after them (7.1.2)
unfoldable pub length_at : ℕ → List ℕ → Result (ℕ × List ℕ) TlvFault
length_at at [] = Err (CutShort at)
length_at at (first ∷ rest) =
    if nat_lt first 128 then Ok (first, rest)
    else (if first == 129 then one_byte_at at rest
    else (if first == 130 then two_bytes_at at rest else Err (BadLength at)))

-- a length and as many bytes
unfoldable pub value_at : ℕ → List ℕ → Result (List ℕ × List ℕ) TlvFault
value_at at bytes = do
  len ← length_at at bytes
  if nat_lt (length len.1) len.0 then Err (CutShort at) else Ok (take len.0 len.1, drop len.0 len.1)

-- the object at the front, and what follows: a tag, a length and as many bytes of value
unfoldable pub object_at : ℕ → List ℕ → Result (Object × List ℕ) TlvFault
object_at at bytes = do
  tag ← tag_at at bytes
  value ← value_at at tag.2
  Ok (record { flag = tag.0; tag = tag.1; value = value.0 }, value.1)

-- What a walk over some bytes meets: the objects up to the first fault, and that fault, where there is one.
pub record Outline : Type 0 where
  pub objects : List Object
  pub fault : Option TlvFault

-- no object is met, but this fault, if it is one
abbrev pub ended : Option TlvFault → Outline
ended fault = record { objects = []; fault = fault }

-- this object is met first, and then what the others come to
abbrev pub begun : Object → Outline → Outline
begun object others = record { objects = object ∷ others.objects; fault = others.fault }

-- the object that is met first and the outline of what follows it, or the fault that is met first
abbrev pub with_first : Result (Object × List ℕ) TlvFault → (List ℕ → Outline) → Outline
with_first (Ok x) others = begun x.0 (others x.1)
with_first (Err fault) others = ended (Some fault)

-- the outline of bytes that stand at a place, where there are at most so many objects
unfoldable pub outline_within : ℕ → ℕ → List ℕ → Outline
outline_within zero at bytes = ended None
outline_within (suc most) at [] = ended None
outline_within (suc most) at (first ∷ others) =
    with_first (object_at at (first ∷ others)) (λ rest. outline_within most (at + (length (first ∷ others) - length rest)) rest)

-- the outline of bytes that stand at a place
unfoldable pub outline_at : ℕ → List ℕ → Outline
outline_at at bytes = outline_within (length bytes) at bytes

-- the outline of bytes that stand at place 0
abbrev pub outline : List ℕ → Outline
outline bytes = outline_at 0 bytes

-- the first fault of a list of objects, if it has one
abbrev pub flaw : List ℕ → Option TlvFault
flaw bytes = (outline bytes).fault

-- the objects, or the fault if there is one
abbrev pub unless_fault : List Object → Option TlvFault → Result (List Object) TlvFault
unless_fault objects None = Ok objects
unless_fault objects (Some fault) = Err fault

-- all objects of a list, or its first fault
abbrev pub objects_of : List ℕ → Result (List Object) TlvFault
objects_of bytes = unless_fault (outline bytes).objects (flaw bytes)

-- what stands where the objects end: nothing, or bytes that begin no object, with the fault that tells their place
abbrev pub IsEnding : ℕ → List ℕ → Option TlvFault → Type 0
IsEnding at rest None = rest ≡ []
IsEnding at rest (Some fault) = (rest ≢ []) × (object_at at rest ≡ Err fault)

-- the outline of bytes that stand at a place, said by whole spellings: objects, and then an end or a fault
pub record IsOutline (at : ℕ) (bytes : List ℕ) (outline : Outline) : Type 0 where
  pub front : List ℕ
  pub rest : List ℕ
  pub whole : bytes ≡ front ++ rest
  pub spelled : IsObjects front outline.objects
  pub ending : IsEnding (at + length front) rest outline.fault

-- the value of the first object with the tag, whichever flag it has
abbrev pub first_value : ℕ → List Object → Option (List ℕ)
first_value tag [] = None
first_value tag (object ∷ others) = if object.tag == tag then Some object.value else first_value tag others

-- in a list of objects the value of the first with the tag, if there is one; or the first fault of the list
abbrev pub value_of : ℕ → List ℕ → Result (Option (List ℕ)) TlvFault
value_of tag bytes = objects_of bytes >>= λ objects. Ok (first_value tag objects)

-- a template's tag and content; its own faults have the place 0
abbrev pub unless_trailing : ℕ → ℕ → List ℕ × List ℕ → Result (ℕ × List ℕ) TlvFault
unless_trailing tag len (content, []) = Ok (tag, content)
unless_trailing tag len (content, more ∷ others) = Err (Trailing (len - length (more ∷ others)))

-- a BER template: one byte of tag, and the content, which fills the rest as its length says
unfoldable pub template_of : List ℕ → Result (ℕ × List ℕ) TlvFault
template_of [] = Err (CutShort 0)
template_of (tag ∷ others) = value_at 0 others >>= unless_trailing tag (length (tag ∷ others))

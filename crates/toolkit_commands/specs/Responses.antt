-- What a terminal response says (ETSI TS 102 223, 6.8): to which command it answers, and with which result.
use Rattle.std.specs.Prelude.{ℕ, Bool, false, ◌&&◌, List, [], ◌∷◌, Option, Some, None, Result, Ok, Err, ◌==◌, if◌then◌else◌}
use Rattle.comprehension_tlv.specs.Model.{Object}
use Rattle.comprehension_tlv.specs.Reading.{first_value, objects_of}
use Rattle.comprehension_tlv.specs.declared.faults.TlvFault.{TlvFault}
use Rattle.toolkit_commands.specs.Table.{required}
use Rattle.toolkit_commands.specs.declared.commands.Details.{Details}
use Rattle.toolkit_commands.specs.declared.responses.Response.{Response}
use Rattle.toolkit_commands.specs.declared.tags.TheConstants.{COMMAND_DETAILS, RESULT, TEXT_STRING, ITEM_IDENTIFIER}

-- a general result without additional information (8.12)
abbrev pub result_object : ℕ → Object
result_object general = required RESULT (general ∷ [])

-- a value of one byte, or else the other number
abbrev pub one_or : List ℕ → ℕ → ℕ
one_or (item ∷ []) other = item
one_or _ other = other

-- the first item identifier of one byte, or 0
abbrev pub item_among : List Object → ℕ
item_among [] = 0
item_among (object ∷ others) =
    if object.tag == ITEM_IDENTIFIER then one_or object.value (item_among others) else item_among others

-- a text string without its coding; none, or one of length 0, is the empty text
abbrev pub text_after : Option (List ℕ) → List ℕ
text_after None = []
text_after (Some []) = []
text_after (Some (coding ∷ text)) = text

-- the details are these
abbrev pub details_match : Details → Option (List ℕ) → Bool
details_match details (Some (number ∷ kind ∷ qualifier ∷ [])) =
    (number == details.number) && (kind == details.kind) && (qualifier == details.qualifier)
details_match details _ = false

-- a response needs a result of at least one byte, which is the general result (8.12); the item and the text come with it
abbrev pub with_result : List Object → Option (List ℕ) → Option Response
with_result objects (Some (result ∷ more)) =
    Some (record { result = result; item = item_among objects; text = text_after (first_value TEXT_STRING objects) })
with_result objects _ = None

-- a response to the command with these details, which it has to repeat
abbrev pub response_among : Details → Result (List Object) TlvFault → Option Response
response_among details (Err fault) = None
response_among details (Ok objects) =
    if details_match details (first_value COMMAND_DETAILS objects) then with_result objects (first_value RESULT objects) else None

-- what the bytes answer to the command with these details, if they do
unfoldable pub response_of : Details → List ℕ → Option Response
response_of details bytes = response_among details (objects_of bytes)

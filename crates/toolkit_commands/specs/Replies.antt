-- What is taken note of in one walk over the objects of a terminal response, and what it says. Of a public clause all but `replied` is an
-- inner word: what a response is stands in `Responses`.
use Rattle.std.specs.Prelude.{ℕ, List, [], ◌∷◌, Option, Some, None, Result, Ok, Err, unwrap_or, option_copied, ◌==◌, if◌then◌else◌}
use Rattle.comprehension_tlv.specs.Model.{Object}
use Rattle.comprehension_tlv.specs.declared.faults.TlvFault.{TlvFault}
use Rattle.toolkit_commands.specs.Responses.{details_match, text_after}
use Rattle.toolkit_commands.specs.declared.commands.Details.{Details}
use Rattle.toolkit_commands.specs.declared.responses.Response.{Response}
use Rattle.toolkit_commands.specs.declared.tags.TheConstants.{COMMAND_DETAILS, RESULT, TEXT_STRING, ITEM_IDENTIFIER}
use Rattle.toolkit_commands.specs.declared.responses.Found.{Found}
use Rattle.toolkit_commands.specs.declared.responses.ResponseRef.{ResponseRef}

-- the response, without where its text lies
abbrev pub replied : ResponseRef → Response
replied reply = record { result = reply.result; item = reply.item; text = reply.text.now }

-- the values of the first objects with each tag that counts, and the first item identifier of one byte
pub record Values : Type 0 where
  pub details : Option (List ℕ)
  pub result : Option (List ℕ)
  pub text : Option (List ℕ)
  pub item : Option ℕ

-- what the walk has found
abbrev pub values_of : Found → Values
values_of found = record {
  details = option_copied found.details;
  result = option_copied found.result;
  text = option_copied found.text;
  item = found.item;
}

-- before the first object
abbrev pub nothing : Values
nothing = record { details = None; result = None; text = None; item = None }

-- a value, where none was found before
abbrev pub first_of : Option (List ℕ) → List ℕ → Option (List ℕ)
first_of (Some before) value = Some before
first_of None value = Some value

-- an item identifier of one byte, where none was found before
abbrev pub item_first_found : Option ℕ → List ℕ → Option ℕ
item_first_found (Some item) value = Some item
item_first_found None (item ∷ []) = Some item
item_first_found None _ = None

-- once an object was met, each of the four by itself
abbrev pub with_object : Object → Values → Values
with_object object found = record {
  details = if object.tag == COMMAND_DETAILS then first_of found.details object.value else found.details;
  result = if object.tag == RESULT then first_of found.result object.value else found.result;
  text = if object.tag == TEXT_STRING then first_of found.text object.value else found.text;
  item = if object.tag == ITEM_IDENTIFIER then item_first_found found.item object.value else found.item;
}

-- once all of them were met
abbrev pub values_from : Values → List Object → Values
values_from found [] = found
values_from found (object ∷ others) = values_from (with_object object found) others

-- the values of a list that was read without fault
abbrev pub values_in : Result (List Object) TlvFault → Option Values
values_in (Ok objects) = Some (values_from nothing objects)
values_in (Err fault) = None

-- by the value of the result object, which has a byte at least
abbrev pub answer_with : Values → Option (List ℕ) → Option Response
answer_with found (Some (result ∷ more)) = Some (record { result = result; item = unwrap_or found.item 0; text = text_after found.text })
answer_with found _ = None

-- what they answer to the command with these details
abbrev pub response_from : Details → Values → Option Response
response_from details found = if details_match details found.details then answer_with found found.result else None

-- What one walk takes note of is the first value of each tag, and so what it answers is the response.
use Rattle.std.proofs.Common.{◌≡◌, refl, sym, ap, ◌∙◌, ℕ, ◌+◌, ◌≤◌, Bool, true, false, cond, List, [], ◌∷◌, length, Option, Some, None, Result, Ok, Err, subst, arith, IfSome, IfOk, unwrap_or, option_map, ◌==◌, ◌-◌}
use Rattle.std.specs.Result.{result_ok, IsErr}
use Rattle.comprehension_tlv.specs.Model.{Object}
use Rattle.comprehension_tlv.specs.Reading.{◌>>=◌, first_value, objects_of}
use Rattle.comprehension_tlv.specs.declared.faults.TlvFault.{TlvFault}
use Rattle.comprehension_tlv.proofs.ValueOfLemmas.{value_fits}
use Rattle.comprehension_tlv.proofs.IsBytesLemmas.{IsBytes}
use Rattle.toolkit_commands.specs.Responses.{item_among, one_or, details_match, with_result, response_among, response_of, text_after}
use Rattle.toolkit_commands.specs.declared.commands.Details.{Details}
use Rattle.toolkit_commands.specs.declared.responses.Response.{Response}
use Rattle.toolkit_commands.specs.declared.tags.TheConstants.{COMMAND_DETAILS, RESULT, TEXT_STRING, ITEM_IDENTIFIER}
use Rattle.toolkit_commands.specs.declared.responses.Mismatch.{Mismatch}
use Rattle.toolkit_commands.specs.declared.responses.ResponseRef.{ResponseRef}
use Rattle.toolkit_commands.specs.Replies.{replied, Values, nothing, first_of, item_first_found, with_object, values_from, values_in, answer_with, response_from}

abbrev or_first : Option (List ℕ) → Option (List ℕ) → Option (List ℕ)
or_first (Some before) later = Some before
or_first None later = later

-- one object more
met : (b : Bool) (found later : Option (List ℕ)) (value : List ℕ) → or_first (cond b (first_of found value) found) later ≡ or_first found (cond b (Some value) later)
met true None later value = refl
met true (Some before) later value = refl
met false found later value = refl

module _ (tag : ℕ) where
  abbrev met_all : Option (List ℕ) → List Object → Option (List ℕ)
  met_all found [] = found
  met_all found (object ∷ others) = met_all (cond (object.tag == tag) (first_of found object.value) found) others

  met_first : (objects : List Object) (found : Option (List ℕ)) → met_all found objects ≡ or_first found (first_value tag objects)
  met_first [] None = refl
  met_first [] (Some before) = refl
  met_first (object ∷ others) found =
      met_first others (cond (object.tag == tag) (first_of found object.value) found) ∙ met (object.tag == tag) found (first_value tag others) object.value

-- ---- each of the four by itself

details_from : (objects : List Object) (found : Values) → (values_from found objects).details ≡ met_all COMMAND_DETAILS found.details objects
details_from [] found = refl
details_from (object ∷ others) found = details_from others (with_object object found)

result_from : (objects : List Object) (found : Values) → (values_from found objects).result ≡ met_all RESULT found.result objects
result_from [] found = refl
result_from (object ∷ others) found = result_from others (with_object object found)

text_from : (objects : List Object) (found : Values) → (values_from found objects).text ≡ met_all TEXT_STRING found.text objects
text_from [] found = refl
text_from (object ∷ others) found = text_from others (with_object object found)

item_met : (b : Bool) (found : Option ℕ) (value : List ℕ) (later : ℕ) → unwrap_or (cond b (item_first_found found value) found) later ≡ unwrap_or found (cond b (one_or value later) later)
item_met true (Some item) value later = refl
item_met true None [] later = refl
item_met true None (item ∷ []) later = refl
item_met true None (item ∷ other ∷ others) later = refl
item_met false found value later = refl

item_from : (objects : List Object) (found : Values) → unwrap_or (values_from found objects).item 0 ≡ unwrap_or found.item (item_among objects)
item_from [] found = refl
item_from (object ∷ others) found =
    item_from others (with_object object found) ∙ item_met (object.tag == ITEM_IDENTIFIER) found.item object.value (item_among others)

module _ (objects : List Object) where
  abbrev all : Values
  all = values_from nothing objects

  details_are : all.details ≡ first_value COMMAND_DETAILS objects
  details_are = details_from objects nothing ∙ met_first COMMAND_DETAILS objects None

  result_is : all.result ≡ first_value RESULT objects
  result_is = result_from objects nothing ∙ met_first RESULT objects None

  text_is : all.text ≡ first_value TEXT_STRING objects
  text_is = text_from objects nothing ∙ met_first TEXT_STRING objects None

  item_is : unwrap_or all.item 0 ≡ item_among objects
  item_is = item_from objects nothing

  with_same : (found : Option (List ℕ)) → answer_with all found ≡ with_result objects found
  with_same None = refl
  with_same (Some []) = refl
  with_same (Some (result ∷ more)) =
      ap (λ (n : ℕ). Some (record { result = result; item = n; text = text_after all.text })) item_is
      ∙ ap (λ (t : Option (List ℕ)). Some (record { result = result; item = item_among objects; text = text_after t })) text_is

  answers : (details : Details) → response_from details all ≡ response_among details (Ok objects)
  answers details =
      ap (λ (d : Option (List ℕ)). cond (details_match details d) (answer_with all all.result) None) details_are
      ∙ ap (λ (r : Option Response). cond (details_match details (first_value COMMAND_DETAILS objects)) r None)
      (ap (answer_with all) result_is ∙ with_same (first_value RESULT objects))

abbrev pub answered : Details → Option Values → Option Response
answered details None = None
answered details (Some found) = response_from details found

-- what was taken note of answers what the bytes answer
pub reply_is : (details : Details) (bytes : List ℕ) → answered details (values_in (objects_of bytes)) ≡ response_of details bytes
unfolding response_of
reply_is details bytes = of_read (objects_of bytes) where
  of_read : (read : Result (List Object) TlvFault) → answered details (values_in read) ≡ response_among details read
  of_read (Ok objects) = answers objects details
  of_read (Err fault) = refl

-- ---- the text is no longer than the bytes

abbrev value_in : Result (List Object) TlvFault → Result (Option (List ℕ)) TlvFault
value_in read = read >>= λ objects. Ok (first_value TEXT_STRING objects)

text_value : (read : Result (List Object) TlvFault) (found : Values) → values_in read ≡ Some found → value_in read ≡ Ok found.text
text_value (Ok objects) found is = ap (λ (t : Option (List ℕ)). Ok t) (sym (text_is objects) ∙ ap (λ (v : Values). v.text) (some_is is)) where
  some_is : Some (values_from nothing objects) ≡ Some found → values_from nothing objects ≡ found
  some_is e = cc e
text_value (Err fault) found is = cc is

after_fits : (text : Option (List ℕ)) (most : ℕ) → IfSome text (λ value. length value + 2 ≤ most) → length (text_after text) ≤ most - 1
after_fits None most fits = omega arith
after_fits (Some []) most fits = omega arith
after_fits (Some (coding ∷ text)) most fits = omega (arith, fits)

pub reply_fits : (details : Details) (bytes : List ℕ) (found : Values) (result : Result ResponseRef Mismatch) → IsBytes bytes → values_in (objects_of bytes) ≡ Some found
    → option_map replied (result_ok result) ≡ response_from details found → IfOk result (λ reply. length reply.text.now ≤ length bytes - 1)
reply_fits details bytes found (Err mismatch) all there is = tt
reply_fits details bytes found (Ok reply) all there is =
    subst (λ (t : List ℕ). length t ≤ length bytes - 1) (sym (text_of (details_match details found.details) found.result is))
    (after_fits found.text (length bytes) (value_fits TEXT_STRING bytes found.text all (text_value (objects_of bytes) found there))) where
      text_of : (named : Bool) (value : Option (List ℕ)) → Some (replied reply) ≡ cond named (answer_with found value) None → reply.text.now ≡ text_after found.text
      text_of false value is = cc is
      text_of true None is = cc is
      text_of true (Some []) is = cc is
      text_of true (Some (result ∷ more)) is = ap (λ (r : Response). r.text) (some_is is) where
        some_is : Some (replied reply) ≡ Some (record { result = result; item = unwrap_or found.item 0; text = text_after found.text }) → replied reply ≡ record { result = result; item = unwrap_or found.item 0; text = text_after found.text }
        some_is e = cc e

pub no_reply : (result : Result ResponseRef Mismatch) → IsErr result → option_map replied (result_ok result) ≡ None
no_reply (Err mismatch) is = refl
no_reply (Ok reply) is = cc is

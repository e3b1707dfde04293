-- What a handset reads of a command that a card spelled, and what the card reads of a response.
use Rattle.std.proofs.Common.{◌≡◌, ℕ, ◌+◌, ◌≤◌, Bool, true, false, List, [], ◌∷◌, length, Option, Some, None, Result, Ok, Err, refl, sym, ◌∙◌, ap, subst, arith, inl, inr, ◌==◌, ◌&&◌, if◌then◌else◌, is_some, unwrap_or, option_and_then}
use Rattle.std.proofs.lemmas.Bool.{eq-eqb, cases_lt, lt-ltb, le-ltb, and_from}
use Rattle.std.specs.List.{AllByRecursion}
use Rattle.comprehension_tlv.specs.Model.{Object, flagged, IsLength, IsObject, IsObjects, IsTemplate}
use Rattle.comprehension_tlv.specs.Reading.{first_value, objects_of, template_of}
use Rattle.comprehension_tlv.specs.Writing.{shortest_length, tagged, spelling, spellings}
use Rattle.comprehension_tlv.specs.declared.faults.TlvFault.{TlvFault}
use Rattle.toolkit_commands.specs.Matching.{IsCommand}
use Rattle.toolkit_commands.specs.Reading.{TypeRow, row_of_type, lacks_one, needed_by, by_row, by_details, details_in, three, command_among, in_list, in_template, list_of, or_tlv, proactive_of, no_details, details_found, value}
use Rattle.toolkit_commands.specs.Responses.{details_match, with_result, response_among, response_of}
use Rattle.toolkit_commands.specs.Table.{details_of, spelled}
use Rattle.toolkit_commands.specs.Values.{◌>>=◌, is_pair}
use Rattle.toolkit_commands.specs.declared.commands.Details.{Details}
use Rattle.toolkit_commands.specs.declared.commands.Proactive.{Proactive}
use Rattle.toolkit_commands.specs.declared.faults.ProactiveFault.{ProactiveFault}
use Rattle.toolkit_commands.specs.declared.faults.ProactiveFault.TheVariants.{Missing, BadData}
use Rattle.toolkit_commands.specs.declared.tags.TheConstants.{PROACTIVE_COMMAND, DEVICE_IDENTITIES, RESULT}
use Rattle.toolkit_commands.specs.declared.devices.TheConstants.{CARD}
use Rattle.handset_model.specs.Sending.{reply_objects, response_objects}
use Rattle.handset_model.specs.declared.commands.Reply.{Reply}
use Rattle.handset_model.specs.declared.commands.Reply.TheVariants as reply
use Rattle.phone_runs.specs.Exchanges.{DetailsAreRead, ResponsesAreRead}

-- ---- writing

-- each length has its shortest form
shortest_is : (len : ℕ) → IsLength (shortest_length len) len
shortest_is len =
    elim (cases_lt len 128) [
      | inl short ↦ rw (lt-ltb len 128 short) (short, refl)
      | inr long ↦ elim (cases_lt len 256) [
        | inl one ↦ rw (le-ltb len 128 long, lt-ltb len 256 one) (refl, refl)
        | inr two ↦ rw (le-ltb len 128 long, le-ltb len 256 two) (refl, omega arith)
      ]
    ]

-- a tag of one byte
abbrev HasTag : Object → Type 0
HasTag object = (1 ≤ object.tag) × (object.tag ≤ 126)

spelling_is : (object : Object) → HasTag object → IsObject (spelling object) object
unfolding tagged
spelling_is object has = record {
  tag_bytes = (flagged object.flag 128 + object.tag) ∷ [];
  length_bytes = shortest_length (length object.value);
  tag_form = (omega (arith, has.0), omega (arith, has.1), refl);
  length_form = shortest_is (length object.value);
  whole = refl;
}

-- what is written is a list of these objects, however long their values are
spellings_are : (objects : List Object) → AllByRecursion HasTag objects → IsObjects (spellings objects) objects
spellings_are [] have = refl
spellings_are (object ∷ others) have = (spelling object, spellings others, refl, spelling_is object have.0, spellings_are others have.1)

-- ---- a response

reply_tags : (reply : Reply) → AllByRecursion HasTag (reply_objects reply)
reply_tags (reply.Result general) = ((omega arith, omega arith), tt)
reply_tags reply.Unable = ((omega arith, omega arith), tt)
reply_tags (reply.Left timer value) = ((omega arith, omega arith), ((omega arith, omega arith), ((omega arith, omega arith), tt)))
reply_tags other = ((omega arith, omega arith), ((omega arith, omega arith), tt))

-- a result comes first
with_reply : (details : Details) (reply : Reply) → is_some (with_result (response_objects details reply) (first_value RESULT (response_objects details reply))) ≡ true
with_reply details (reply.Result general) = refl
with_reply details other = refl

named_so : (details : Details) → details_match details (Some (details.number ∷ details.kind ∷ details.qualifier ∷ [])) ≡ true
named_so details =
    and_from ((details.number == details.number) && (details.kind == details.kind)) (details.qualifier == details.qualifier) (and_from (details.number == details.number) (details.kind == details.kind) (eq-eqb details.number details.number refl) (eq-eqb details.kind details.kind refl)) (eq-eqb details.qualifier details.qualifier refl)

among : (details : Details) (reply : Reply) → is_some (response_among details (Ok (response_objects details reply))) ≡ true
among details reply =
    subst (λ (b : Bool). is_some (if b then with_result (response_objects details reply) (first_value RESULT (response_objects details reply)) else None) ≡ true) (sym (named_so details)) (with_reply details reply)

pub responses_read : ((bytes : List ℕ) (objects : List Object) → IsObjects bytes objects → objects_of bytes ≡ Ok objects) → ResponsesAreRead
unfolding response_of
responses_read reads details reply =
    let is : objects_of (spellings (response_objects details reply)) ≡ Ok (response_objects details reply) =
    reads _ _ (spellings_are (response_objects details reply) ((omega arith, omega arith), ((omega arith, omega arith), reply_tags reply))) in
    subst (λ (read : Result (List Object) TlvFault). is_some (response_among details read) ≡ true) (sym is) (among details reply)

-- ---- the details of a command

-- the list of objects in the bytes, with the details of the command
pub record HasDetails (bytes : List ℕ) (details : Details) : Type 0 where
  pub list : List Object
  pub is : list_of bytes ≡ Some list
  pub details_are : details_in list ≡ Some details

found_so : (bytes : List ℕ) (details : Details) → HasDetails bytes details → details_found bytes ≡ details
unfolding details_found
found_so bytes details has =
    ap (λ (found : Option (List Object)). unwrap_or (option_and_then details_in found) no_details) has.is ∙ ap (λ (found : Option Details). unwrap_or found no_details) has.details_are

by_row_so : (details : Details) (list : List Object) (found : Option TypeRow) (read : Details × Proactive) → by_row details list found ≡ Ok read → read.0 ≡ details
by_row_so details list None read is = absurd (cc)
by_row_so details list (Some row) read is = by_test (row.has_qualifier details.qualifier && is_pair (value DEVICE_IDENTITIES list) CARD row.destination) (row.says details.qualifier list) is where
  said : (says : Result Proactive ProactiveFault) → (says >>= λ command. Ok (details, command)) ≡ Ok read → read.0 ≡ details
  said (Ok command) same = cc
  said (Err fault) same = absurd (cc)

  by_test : (b : Bool) (says : Result Proactive ProactiveFault) → (if b then (says >>= λ command. Ok (details, command)) else Err BadData) ≡ Ok read → read.0 ≡ details
  by_test true says same = said says same
  by_test false says same = absurd (cc)

by_details_so : (list : List Object) (found : Option Details) (details : Details) (read : Details × Proactive) → found ≡ Some details → by_details list found ≡ Ok read → read.0 ≡ details
by_details_so list None details read is same = absurd (cc)
by_details_so list (Some own) details read is same = let equal : own ≡ details = cc in by_row_so own list (row_of_type own.kind) read same ∙ equal

among_so : (list : List Object) (details : Details) (read : Details × Proactive) → details_in list ≡ Some details → command_among list ≡ Ok read → read.0 ≡ details
unfolding command_among
among_so list details read is same = by_lack (lacks_one list (needed_by (details_in list))) same where
  by_lack : (b : Bool) → (if b then Err Missing else by_details list (details_in list)) ≡ Ok read → read.0 ≡ details
  by_lack true same = absurd (cc)
  by_lack false same = by_details_so list (details_in list) details read is same

read_so : (bytes : List ℕ) (details : Details) → HasDetails bytes details → (read : Details × Proactive) → proactive_of bytes ≡ Ok read → read.0 ≡ details
unfolding proactive_of
read_so bytes details has read same = among_so has.list details read has.details_are (ap or_tlv (sym has.is) ∙ same)

-- the bytes of a command have its details
module _ (reads : (bytes : List ℕ) (objects : List Object) → IsObjects bytes objects → objects_of bytes ≡ Ok objects) (opens : (bytes content : List ℕ) (tag : ℕ) → IsTemplate bytes tag content → template_of bytes ≡ Ok (tag, content)) where
  have_details : (bytes : List ℕ) (command : Proactive) (number : ℕ) → IsCommand bytes command number → HasDetails bytes (details_of command number)
  unfolding list_of
  have_details bytes command number is = record {
    list = is.list;
    is = ap in_template (opens bytes is.content PROACTIVE_COMMAND is.template) ∙ ap in_list (reads is.content is.list is.spelled);
    details_are = ap three (is.has.firsts.0 (omega arith));
  }

  pub details_read : ((command : Proactive) (number : ℕ) → length (spelled command number) ≤ 255 → IsCommand (spelled command number) command number) → DetailsAreRead
  details_read has_objects command number short =
      let has : HasDetails (spelled command number) (details_of command number) = have_details (spelled command number) command number (has_objects command number short) in
      record { found = found_so (spelled command number) (details_of command number) has; read = read_so (spelled command number) (details_of command number) has }

-- The tests of each command come to its refusals, in their order; what passes them is carried out.
use Rattle.std.proofs.Common.{◌≡◌, refl, sym, ap, ◌∙◌, ℕ, ◌+◌, Bool, true, false, not, List, [], Option, Some, None, ◌==◌, ◌&&◌, ◌||◌, nat_le, length, is_some, option_map, unwrap_or, Result, Ok, Err}
use Rattle.uicc_types.specs.declared.answers.StatusWord.{StatusWord}
use Rattle.uicc_types.specs.declared.answers.TheConstants.StatusWord.{WRONG_LENGTH, WRONG_PARAMETERS, WRONG_DATA, CONDITIONS_NOT_SATISFIED, SECURITY_NOT_SATISFIED, TOOLKIT_BUSY}
use Rattle.apdu_form.specs.Model.{Apdu}
use Rattle.card_state.specs.Persistent.{Registration}
use Rattle.access_rules.specs.declared.rules.Verified.{Verified}
use Rattle.file_model.specs.Chains.{refused_if, given, and_given}
use Rattle.apdu_form.specs.Fields.{has_data, has_no_data, has_le_alone, has_no_parameters}
use Rattle.file_model.specs.Records.{other_length}
use Rattle.file_model.proofs.ChainsLemmas.{past_unless, past_given}
use Rattle.toolkit_commands.specs.declared.commands.Details.{Details}
use Rattle.toolkit_commands.specs.declared.envelopes.Envelope.{Envelope}
use Rattle.toolkit_commands.specs.declared.responses.Response.{Response}
use Rattle.toolkit_commands.specs.Envelopes.{envelope_of}
use Rattle.toolkit_commands.specs.Responses.{response_of}
use Rattle.toolkit_commands.specs.Table.{details_of}
use Rattle.toolkit_model.specs.Sessions.{Outstanding}
use Rattle.toolkit_model.specs.Orderly.{asks}
use Rattle.toolkit_model.specs.Driving.{is_idle}
use Rattle.toolkit_model.specs.Registry.{installed_row, deleted_row}
use Rattle.toolkit_model.specs.Commands.{profiled, enveloped, is_busy, call_data, unfetched, unanswered, pending, command_bytes, fetched, responded, installed, delete_carried}
use Rattle.card_model.specs.States.{CardState}
use Rattle.card_model.specs.Toolkit.{ToolkitOutcome, toolkit_of, coming_to, has_shelf, row_or_status, kind_in, profile_taken, command_fetched, response_taken, envelope_taken, applet_installed, applet_deleted}
use Rattle.cat_commands.specs.Trying.{data_tried, fetch_tried, response_given, response_tried, envelope_given, envelope_tried, install_tried, delete_tried}

-- ---- chains

refused_then : {X Y : Type 0} (tried : Result X StatusWord) (f : X → Result Y StatusWord) (status : StatusWord) → tried ≡ Err status → and_given tried f ≡ Err status
unfolding and_given
refused_then tried f status is = ap (λ r. and_given r f) is

goes_then : {X Y : Type 0} (tried : Result X StatusWord) (f : X → Result Y StatusWord) (x : X) → tried ≡ Ok x → and_given tried f ≡ f x
unfolding and_given
goes_then tried f x is = ap (λ r. and_given r f) is

-- ---- the commands of the handset

-- the parameters and the data, and then the rest
data_then : {Y : Type 0} (apdu : Apdu) (f : Unit → Result Y StatusWord)
    → and_given (data_tried apdu) f ≡ refused_if (not (has_no_parameters apdu)) WRONG_PARAMETERS (refused_if (not (has_data apdu)) WRONG_LENGTH (f tt))
unfolding data_tried and_given
data_then apdu f =
    past_unless (not (has_no_parameters apdu)) WRONG_PARAMETERS (refused_if (not (has_data apdu)) WRONG_LENGTH (Ok tt)) f
    ∙ ap (refused_if (not (has_no_parameters apdu)) WRONG_PARAMETERS) (past_unless (not (has_data apdu)) WRONG_LENGTH (Ok tt) f)

profile_is : (card : CardState) (apdu : Apdu) → profile_taken card apdu ≡ and_given (data_tried apdu) (λ done. Ok (coming_to card [] (profiled apdu.body (toolkit_of card))))
unfolding profile_taken
profile_is card apdu = sym (data_then apdu (λ done. Ok (coming_to card [] (profiled apdu.body (toolkit_of card)))))

pub profile_refused : (card : CardState) (apdu : Apdu) (status : StatusWord) → data_tried apdu ≡ Err status → profile_taken card apdu ≡ Err status
profile_refused card apdu status is = profile_is card apdu ∙ refused_then (data_tried apdu) (λ done. Ok (coming_to card [] (profiled apdu.body (toolkit_of card)))) status is

pub profile_goes : (card : CardState) (apdu : Apdu) (done : Unit) → data_tried apdu ≡ Ok done → profile_taken card apdu ≡ Ok (coming_to card [] (profiled apdu.body (toolkit_of card)))
profile_goes card apdu done is = profile_is card apdu ∙ goes_then (data_tried apdu) (λ d. Ok (coming_to card [] (profiled apdu.body (toolkit_of card)))) done is

-- ---- FETCH

module _ {Y : Type 0} (wanted : ℕ → Bool) (f : Outstanding → Y) where
  abbrev fetch_chain : Bool → Bool → Option Outstanding → Result Y StatusWord
  fetch_chain zero le out = refused_if zero WRONG_PARAMETERS (refused_if le WRONG_LENGTH (given out CONDITIONS_NOT_SATISFIED (λ o. refused_if (not (wanted (length (command_bytes o)))) (other_length (length (command_bytes o))) (Ok (f o)))))

  abbrev fetch_tests : Bool → Bool → Option Outstanding → Result Unit StatusWord
  fetch_tests zero le out = refused_if zero WRONG_PARAMETERS (refused_if le WRONG_LENGTH (given (option_map (λ o. length (command_bytes o)) out) CONDITIONS_NOT_SATISFIED (λ count. refused_if (not (wanted count)) (other_length count) (Ok tt))))

  last_test : (b : Bool) (status : StatusWord) (y : Y) → refused_if b status (Ok y) ≡ and_given {X = Unit} (refused_if b status (Ok tt)) (λ done. Ok y)
  unfolding refused_if and_given
  last_test true status y = refl
  last_test false status y = refl

  fetch_alike : (zero le : Bool) (out : Option Outstanding) → fetch_chain zero le out ≡ and_given (fetch_tests zero le out) (λ done. given out CONDITIONS_NOT_SATISFIED (λ o. Ok (f o)))
  unfolding refused_if given and_given
  fetch_alike true le out = refl
  fetch_alike false true out = refl
  fetch_alike false false None = refl
  fetch_alike false false (Some o) = last_test (not (wanted (length (command_bytes o)))) (other_length (length (command_bytes o))) (f o)

fetch_is : (card : CardState) (apdu : Apdu) → command_fetched card apdu ≡ and_given (fetch_tried (pending card.session) apdu) (λ done. given (unfetched card.session) CONDITIONS_NOT_SATISFIED (λ out. Ok (coming_to card (command_bytes out) (fetched out (toolkit_of card)))))
unfolding command_fetched fetch_tried
fetch_is card apdu =
    fetch_alike (λ count. unwrap_or apdu.expected 0 == 256 || unwrap_or apdu.expected 0 == count) (λ out. coming_to card (command_bytes out) (fetched out (toolkit_of card)))
    (not (has_no_parameters apdu)) (not (has_le_alone apdu)) (unfetched card.session)

pub fetch_refused : (card : CardState) (apdu : Apdu) (status : StatusWord) → fetch_tried (pending card.session) apdu ≡ Err status → command_fetched card apdu ≡ Err status
fetch_refused card apdu status is =
    fetch_is card apdu ∙ refused_then (fetch_tried (pending card.session) apdu) (λ done. given (unfetched card.session) CONDITIONS_NOT_SATISFIED (λ out. Ok (coming_to card (command_bytes out) (fetched out (toolkit_of card))))) status is

pub fetch_goes : (card : CardState) (apdu : Apdu) (out : Outstanding) (done : Unit) → unfetched card.session ≡ Some out → fetch_tried (pending card.session) apdu ≡ Ok done
    → command_fetched card apdu ≡ Ok (coming_to card (command_bytes out) (fetched out (toolkit_of card)))
unfolding given
fetch_goes card apdu out done there is =
    fetch_is card apdu ∙ goes_then (fetch_tried (pending card.session) apdu) (λ d. given (unfetched card.session) CONDITIONS_NOT_SATISFIED (λ o. Ok (coming_to card (command_bytes o) (fetched o (toolkit_of card))))) done is
    ∙ ap (λ o. given o CONDITIONS_NOT_SATISFIED (λ each. Ok (coming_to card (command_bytes each) (fetched each (toolkit_of card))))) there

none_refused : (zero le : Bool) (status : StatusWord) (wanted : ℕ → Bool) (done : Unit {0}) → refused_if {X = Unit {0}} zero WRONG_PARAMETERS (refused_if le WRONG_LENGTH (given {X = ℕ} {Y = Unit {0}} None CONDITIONS_NOT_SATISFIED (λ count. refused_if (not (wanted count)) (other_length count) (Ok tt)))) ≡ Ok done → false ≡ true
unfolding refused_if given
none_refused true le status wanted done is = cc is
none_refused false true status wanted done is = cc is
none_refused false false status wanted done is = cc is

-- what passes the tests is there
pub fetch_there : (pending : Option ℕ) (apdu : Apdu) (done : Unit) → fetch_tried pending apdu ≡ Ok done → is_some pending ≡ true
unfolding fetch_tried
fetch_there None apdu done is = none_refused (not (has_no_parameters apdu)) (not (has_le_alone apdu)) WRONG_LENGTH (λ count. unwrap_or apdu.expected 0 == 256 || unwrap_or apdu.expected 0 == count) done is
fetch_there (Some count) apdu done is = refl

-- ---- TERMINAL RESPONSE

abbrev pub details_for : Option Outstanding → Option Details
details_for out = option_map (λ o. details_of o.command o.number) out

response_alike : {Y : Type 0} (out : Option Outstanding) (bytes : List ℕ) (f : Outstanding → Response → Result Y StatusWord)
    → given out CONDITIONS_NOT_SATISFIED (λ o. given (response_of (details_of o.command o.number) bytes) WRONG_DATA (f o))
    ≡ and_given (response_given (details_for out) bytes) (λ reply. given out CONDITIONS_NOT_SATISFIED (λ o. f o reply))
unfolding given and_given
response_alike None bytes f = refl
response_alike (Some o) bytes f = by_reply (response_of (details_of o.command o.number) bytes) where
  by_reply : (reply : Option Response) → given reply WRONG_DATA (f o) ≡ and_given (given reply WRONG_DATA (λ response. Ok response)) (λ response. f o response)
  by_reply None = refl
  by_reply (Some response) = refl

abbrev pub answered_by : CardState → Response → Outstanding → Result ToolkitOutcome StatusWord
answered_by card reply out = Ok (coming_to card [] (responded out reply (toolkit_of card)))

response_is : (card : CardState) (apdu : Apdu) → response_taken card apdu ≡ and_given (response_tried (details_for (unanswered card.session)) apdu) (λ reply. given (unanswered card.session) CONDITIONS_NOT_SATISFIED (answered_by card reply))
unfolding response_taken response_tried
response_is card apdu =
    sym (data_then apdu (λ done. given (unanswered card.session) CONDITIONS_NOT_SATISFIED (λ o. given (response_of (details_of o.command o.number) apdu.body) WRONG_DATA (λ reply. answered_by card reply o))))
    ∙ ap (λ (r : Result ToolkitOutcome StatusWord). and_given (data_tried apdu) (λ done. r)) (response_alike (unanswered card.session) apdu.body (λ o reply. answered_by card reply o))
    ∙ sym (past_given (data_tried apdu) (λ done. response_given (details_for (unanswered card.session)) apdu.body) (λ reply. given (unanswered card.session) CONDITIONS_NOT_SATISFIED (answered_by card reply)))

pub response_refused : (card : CardState) (apdu : Apdu) (status : StatusWord) → response_tried (details_for (unanswered card.session)) apdu ≡ Err status → response_taken card apdu ≡ Err status
response_refused card apdu status is =
    response_is card apdu ∙ refused_then (response_tried (details_for (unanswered card.session)) apdu) (λ reply. given (unanswered card.session) CONDITIONS_NOT_SATISFIED (answered_by card reply)) status is

pub response_goes : (card : CardState) (apdu : Apdu) (out : Outstanding) (reply : Response) → unanswered card.session ≡ Some out → response_tried (details_for (unanswered card.session)) apdu ≡ Ok reply → response_taken card apdu ≡ answered_by card reply out
unfolding given
response_goes card apdu out reply there is =
    response_is card apdu ∙ goes_then (response_tried (details_for (unanswered card.session)) apdu) (λ r. given (unanswered card.session) CONDITIONS_NOT_SATISFIED (answered_by card r)) reply is
    ∙ ap (λ o. given o CONDITIONS_NOT_SATISFIED (answered_by card reply)) there

no_details : (tried : Result Unit StatusWord) (bytes : List ℕ) (reply : Response) → and_given tried (λ done. response_given None bytes) ≡ Ok reply → false ≡ true
unfolding given and_given
no_details (Err status) bytes reply is = cc is
no_details (Ok done) bytes reply is = cc is

-- what passes the tests was fetched
pub response_there : (out : Option Outstanding) (apdu : Apdu) (reply : Response) → response_tried (details_for out) apdu ≡ Ok reply → is_some out ≡ true
unfolding response_tried
response_there None apdu reply is = no_details (data_tried apdu) apdu.body reply is
response_there (Some o) apdu reply is = refl

-- ---- ENVELOPE

abbrev pub reported_by : CardState → Apdu → Envelope → Result ToolkitOutcome StatusWord
reported_by card apdu envelope =
    refused_if (is_busy envelope (toolkit_of card)) TOOLKIT_BUSY (Ok (coming_to card (call_data envelope (toolkit_of card)) (enveloped envelope (toolkit_of card))))

envelope_alike : {Y : Type 0} (o : Option Envelope) (f : Envelope → Result Y StatusWord) → given o WRONG_DATA f ≡ and_given (given o WRONG_DATA (λ envelope. Ok envelope)) f
unfolding given and_given
envelope_alike None f = refl
envelope_alike (Some envelope) f = refl

envelope_is : (card : CardState) (apdu : Apdu) → envelope_taken card apdu ≡ and_given (envelope_tried apdu) (reported_by card apdu)
unfolding envelope_taken envelope_tried
envelope_is card apdu =
    sym (data_then apdu (λ done. given (envelope_of apdu.body) WRONG_DATA (reported_by card apdu)))
    ∙ ap (λ (r : Result ToolkitOutcome StatusWord). and_given (data_tried apdu) (λ done. r)) (envelope_alike (envelope_of apdu.body) (reported_by card apdu))
    ∙ sym (past_given (data_tried apdu) (λ done. envelope_given apdu.body) (reported_by card apdu))

pub envelope_refused : (card : CardState) (apdu : Apdu) (status : StatusWord) → envelope_tried apdu ≡ Err status → envelope_taken card apdu ≡ Err status
envelope_refused card apdu status is = envelope_is card apdu ∙ refused_then (envelope_tried apdu) (reported_by card apdu) status is

pub envelope_busy : (card : CardState) (apdu : Apdu) (envelope : Envelope) → envelope_tried apdu ≡ Ok envelope → is_busy envelope (toolkit_of card) ≡ true → envelope_taken card apdu ≡ Err TOOLKIT_BUSY
unfolding refused_if
envelope_busy card apdu envelope is busy =
    envelope_is card apdu ∙ goes_then (envelope_tried apdu) (reported_by card apdu) envelope is
    ∙ ap (λ b. refused_if b TOOLKIT_BUSY (Ok (coming_to card (call_data envelope (toolkit_of card)) (enveloped envelope (toolkit_of card))))) busy

pub envelope_goes : (card : CardState) (apdu : Apdu) (envelope : Envelope) → envelope_tried apdu ≡ Ok envelope → is_busy envelope (toolkit_of card) ≡ false
    → envelope_taken card apdu ≡ Ok (coming_to card (call_data envelope (toolkit_of card)) (enveloped envelope (toolkit_of card)))
unfolding refused_if
envelope_goes card apdu envelope is free =
    envelope_is card apdu ∙ goes_then (envelope_tried apdu) (reported_by card apdu) envelope is
    ∙ ap (λ b. refused_if b TOOLKIT_BUSY (Ok (coming_to card (call_data envelope (toolkit_of card)) (enveloped envelope (toolkit_of card))))) free

-- ---- INSTALL and DELETE

three_then : {X Y : Type 0} (a b c : Bool) (next : Result X StatusWord) (f : X → Result Y StatusWord)
    → refused_if a WRONG_PARAMETERS (refused_if b WRONG_LENGTH (refused_if c SECURITY_NOT_SATISFIED (and_given next f))) ≡ and_given (refused_if a WRONG_PARAMETERS (refused_if b WRONG_LENGTH (refused_if c SECURITY_NOT_SATISFIED next))) f
unfolding refused_if and_given
three_then true b c next f = refl
three_then false true c next f = refl
three_then false false true next f = refl
three_then false false false next f = refl

abbrev pub installed_by : CardState → Registration → ToolkitOutcome
installed_by card row = record { body = []; passed = installed row (toolkit_of card); next_sequence = card.persistent.next_sequence + 1 }

install_is : (card : CardState) (seen : Verified) (apdu : Apdu) → applet_installed card seen apdu ≡ and_given (install_tried card.persistent (kind_in card apdu.p2) seen apdu) (λ row. Ok (installed_by card row))
unfolding applet_installed install_tried
install_is card seen apdu =
    three_then (not (nat_le 1 apdu.p1 && has_shelf apdu)) (not (has_data apdu)) (not seen.adm1) (row_or_status (installed_row card.persistent (kind_in card apdu.p2) apdu.p2 apdu.p1 apdu.body)) (λ row. Ok (installed_by card row))

pub install_refused : (card : CardState) (seen : Verified) (apdu : Apdu) (status : StatusWord) → install_tried card.persistent (kind_in card apdu.p2) seen apdu ≡ Err status → applet_installed card seen apdu ≡ Err status
install_refused card seen apdu status is = install_is card seen apdu ∙ refused_then (install_tried card.persistent (kind_in card apdu.p2) seen apdu) (λ row. Ok (installed_by card row)) status is

pub install_goes : (card : CardState) (seen : Verified) (apdu : Apdu) (row : Registration) → install_tried card.persistent (kind_in card apdu.p2) seen apdu ≡ Ok row → applet_installed card seen apdu ≡ Ok (installed_by card row)
install_goes card seen apdu row is = install_is card seen apdu ∙ goes_then (install_tried card.persistent (kind_in card apdu.p2) seen apdu) (λ r. Ok (installed_by card r)) row is

delete_is : (card : CardState) (seen : Verified) (apdu : Apdu) → applet_deleted card seen apdu ≡ and_given (delete_tried card.persistent.rows (is_idle (asks card.session) apdu.p2) seen apdu) (λ row. Ok (coming_to card [] (delete_carried row.shelf (toolkit_of card))))
unfolding applet_deleted delete_tried
delete_is card seen apdu =
    three_then (not (apdu.p1 == 0x00 && has_shelf apdu)) (not (has_no_data apdu)) (not seen.adm1) (row_or_status (deleted_row card.persistent.rows apdu.p2 (is_idle (asks card.session) apdu.p2))) (λ row. Ok (coming_to card [] (delete_carried row.shelf (toolkit_of card))))

pub delete_refused : (card : CardState) (seen : Verified) (apdu : Apdu) (status : StatusWord) → delete_tried card.persistent.rows (is_idle (asks card.session) apdu.p2) seen apdu ≡ Err status → applet_deleted card seen apdu ≡ Err status
delete_refused card seen apdu status is =
    delete_is card seen apdu ∙ refused_then (delete_tried card.persistent.rows (is_idle (asks card.session) apdu.p2) seen apdu) (λ row. Ok (coming_to card [] (delete_carried row.shelf (toolkit_of card)))) status is

pub delete_goes : (card : CardState) (seen : Verified) (apdu : Apdu) (row : Registration) → delete_tried card.persistent.rows (is_idle (asks card.session) apdu.p2) seen apdu ≡ Ok row
    → applet_deleted card seen apdu ≡ Ok (coming_to card [] (delete_carried row.shelf (toolkit_of card)))
delete_goes card seen apdu row is =
    delete_is card seen apdu ∙ goes_then (delete_tried card.persistent.rows (is_idle (asks card.session) apdu.p2) seen apdu) (λ r. Ok (coming_to card [] (delete_carried r.shelf (toolkit_of card)))) row is

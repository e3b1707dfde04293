-- What is tested of a command before anything moves, over what a table and a session tell.
use Rattle.std.specs.Prelude.{ℕ, ◌-◌, ◌==◌, not, ◌&&◌, ◌||◌, nat_le, nat_lt, Bool, false, if◌then◌else◌, List, [], length, filter, slice_get, Option, unwrap_or, Result, Ok, Err}
use Rattle.std.specs.Option.{option_map_or}
use Rattle.uicc_types.specs.declared.answers.StatusWord.{StatusWord}
use Rattle.uicc_types.specs.declared.answers.TheConstants.StatusWord.{WRONG_LENGTH, WRONG_PARAMETERS, WRONG_DATA, CONDITIONS_NOT_SATISFIED, SECURITY_NOT_SATISFIED}
use Rattle.apdu_form.specs.Model.{Apdu}
use Rattle.card_state.specs.declared.entries.Row.{Row}
use Rattle.card_state.specs.declared.entries.Loaded.{Loaded}
use Rattle.card_state.specs.Checks.{shows_item}
use Rattle.card_state.specs.Persistent.{Registration, Persistent}
use Rattle.card_state.specs.States.{registration_of}
use Rattle.access_rules.specs.declared.rules.Verified.{Verified}
use Rattle.file_model.specs.Chains.{given, and_given, needs}
use Rattle.apdu_form.specs.Fields.{has_data, has_no_data, has_le_alone, has_no_parameters}
use Rattle.file_model.specs.Records.{other_length}
use Rattle.toolkit_commands.specs.declared.commands.Details.{Details}
use Rattle.toolkit_commands.specs.declared.envelopes.Envelope.{Envelope}
use Rattle.toolkit_commands.specs.declared.envelopes.Envelope.TheVariants.{Event}
use Rattle.toolkit_commands.specs.declared.responses.Response.{Response}
use Rattle.toolkit_commands.specs.Envelopes.{envelope_of}
use Rattle.toolkit_commands.specs.Responses.{response_of}
use Rattle.toolkit_model.specs.Sessions.{Sent, SessionState}
use Rattle.toolkit_model.specs.Commands.{late_places, is_call, is_reported_once, forgetting, call_data_of}
use Rattle.toolkit_model.specs.Driving.{is_idle}
use Rattle.toolkit_model.specs.Registry.{installed_row, deleted_row}
use Rattle.card_model.specs.Toolkit.{has_shelf, row_or_status}

-- what was found by value, without where it lies
abbrev pub seen : {T U : Type 0} → (T → U) → Result T StatusWord → Result U StatusWord
seen view (Ok x) = Ok (view x)
seen view (Err status) = Err status

-- ---- the commands of the handset

-- P1 and P2 are 00, and there are data
unfoldable pub data_tried : Apdu → Result Unit StatusWord
data_tried apdu =
    needs (has_no_parameters apdu) WRONG_PARAMETERS (
    needs (has_data apdu) WRONG_LENGTH (
    Ok tt))

-- FETCH of a command of so many bytes, if there is one
unfoldable pub fetch_tried : Option ℕ → Apdu → Result Unit StatusWord
fetch_tried pending apdu =
    needs (has_no_parameters apdu) WRONG_PARAMETERS (
    needs (has_le_alone apdu) WRONG_LENGTH (
    given pending CONDITIONS_NOT_SATISFIED (λ count.
    needs (unwrap_or apdu.expected 0 == 256 || unwrap_or apdu.expected 0 == count) (other_length count) (
    Ok tt))))

-- what these data answer to the command with these details, if one was fetched
abbrev pub response_given : Option Details → List ℕ → Result Response StatusWord
response_given details bytes =
    given details CONDITIONS_NOT_SATISFIED (λ known.
    given (response_of known bytes) WRONG_DATA (λ response.
    Ok response))

-- a TERMINAL RESPONSE is tested: its parameters and its length, and then whether its data respond to the command with these details
unfoldable pub response_tried : Option Details → Apdu → Result Response StatusWord
response_tried details apdu = and_given (data_tried apdu) (λ done. response_given details apdu.body)

-- the envelope that the data are, or 6A80
abbrev pub envelope_given : List ℕ → Result Envelope StatusWord
envelope_given bytes = given (envelope_of bytes) WRONG_DATA (λ envelope. Ok envelope)

-- an ENVELOPE is tested: its parameters and its length, and then whether its data are one
unfoldable pub envelope_tried : Apdu → Result Envelope StatusWord
envelope_tried apdu = and_given (data_tried apdu) (λ done. envelope_given apdu.body)

-- those of these shelves whose applets wait for an answer are more than there are places for so many late triggers, or call control is
-- not answered now
abbrev pub is_busy_with : List Sent → ℕ → Envelope → List ℕ → Bool
is_busy_with asked late envelope shelves =
    let suspended = length (filter (λ shelf. not (is_idle asked shelf)) shelves) in
    nat_lt (late_places - late) suspended || (is_call envelope && nat_lt 0 suspended)

-- a session once this was reported
abbrev pub reported_in : Envelope → SessionState → SessionState
reported_in (Event code body) session = if is_reported_once code then forgetting code session else session
reported_in _ session = session

-- what an envelope is answered with, after this answer of the applets to call control
abbrev pub data_for : Envelope → Option Bool → List ℕ
data_for envelope answer = if is_call envelope then call_data_of answer else []

-- the row of this shelf has an item in the menu
abbrev pub has_item_on : Loaded → ℕ → Bool
has_item_on table shelf = option_map_or shows_item (slice_get table.rows shelf) false

-- ---- INSTALL and DELETE

-- the row for an applet of this kind, or of none
unfoldable pub install_tried : Persistent → Option ℕ → Verified → Apdu → Result Registration StatusWord
install_tried state kind seen apdu =
    needs (nat_le 1 apdu.p1 && has_shelf apdu) WRONG_PARAMETERS (
    needs (has_data apdu) WRONG_LENGTH (
    needs seen.adm1 SECURITY_NOT_SATISFIED (
    row_or_status (installed_row state kind apdu.p2 apdu.p1 apdu.body))))

-- the row that goes, where its applet is idle or isn't
unfoldable pub delete_tried : List Registration → Bool → Verified → Apdu → Result Registration StatusWord
delete_tried rows idle seen apdu =
    needs (apdu.p1 == 0x00 && has_shelf apdu) WRONG_PARAMETERS (
    needs (has_no_data apdu) WRONG_LENGTH (
    needs seen.adm1 SECURITY_NOT_SATISFIED (
    row_or_status (deleted_row rows apdu.p2 idle))))

-- a row for this shelf as the registration that it stands for, or why there is none
abbrev pub registration_for : ℕ → Result Row StatusWord → Result Registration StatusWord
registration_for shelf (Ok row) = Ok (registration_of shelf row)
registration_for shelf (Err status) = Err status

-- whether it was found, and if not, why not
abbrev pub allowed : Result Registration StatusWord → Result Unit StatusWord
allowed (Ok row) = Ok tt
allowed (Err status) = Err status

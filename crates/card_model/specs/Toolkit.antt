-- The commands between a handset and the toolkit of a card (ETSI TS 102 221, 11.2), and those that install and delete applets:
-- what each is refused for, in the written order, and what it makes of the toolkit.
use Rattle.std.specs.Prelude.{ℕ, ◌+◌, ◌==◌, ◌&&◌, ◌||◌, nat_le, Bool, List, [], length, map, Option, unwrap_or, option_map, Result, Ok, Err}
use Rattle.uicc_types.specs.declared.answers.StatusWord.{StatusWord}
use Rattle.uicc_types.specs.declared.answers.TheConstants.StatusWord.{WRONG_LENGTH, WRONG_PARAMETERS, WRONG_DATA, NO_ROOM, TOOLKIT_BUSY, CONDITIONS_NOT_SATISFIED, SECURITY_NOT_SATISFIED, REFERENCE_NOT_FOUND}
use Rattle.apdu_form.specs.Model.{Apdu}
use Rattle.card_state.specs.Persistent.{Registration, Persistent}
use Rattle.access_rules.specs.declared.rules.Verified.{Verified}
use Rattle.file_model.specs.Chains.{refused_if, given, and_given, needs}
use Rattle.apdu_form.specs.Fields.{has_data, has_no_data, has_le_alone, has_no_parameters}
use Rattle.file_model.specs.Records.{other_length}
use Rattle.toolkit_commands.specs.Envelopes.{envelope_of}
use Rattle.toolkit_model.specs.declared.faults.RowFault.{RowFault}
use Rattle.toolkit_model.specs.declared.faults.RowFault.TheVariants.{BadData, NoBox, Narrow, Taken, MenuFull, Spent, NoRow, NotIdle}
use Rattle.toolkit_model.specs.Orderly.{asks}
use Rattle.toolkit_model.specs.Passing.{ToolkitState, Passed, passed_rows}
use Rattle.toolkit_model.specs.Registry.{installed_row, deleted_row}
use Rattle.toolkit_model.specs.Running.{mind_on}
use Rattle.toolkit_model.specs.Driving.{is_idle}
use Rattle.toolkit_model.specs.Commands.{profiled, enveloped, is_busy, call_data, unfetched, unanswered, command_bytes, fetched, reply_to, responded, installed, delete_carried}
use Rattle.card_model.specs.States.{CardState}
use Rattle.card_model.specs.declared.instructions.CatCommand.{CatCommand}
use Rattle.card_model.specs.declared.instructions.CatCommand.TheVariants.{TerminalProfile, Fetch, TerminalResponse, Envelope, InstallApplet, DeleteApplet}

-- A command of the toolkit was carried out: the data of its answer, what the toolkit came to, and the next sequence number of a
-- row, which stands in each commit.
pub record ToolkitOutcome : Type 0 where
  pub body : List ℕ
  pub passed : Passed
  pub next_sequence : ℕ

-- the rows of a card, its session and the minds of its applets
abbrev pub toolkit_of : CardState → ToolkitState
toolkit_of card = record { rows = card.persistent.rows; session = card.session; minds = card.boxes }

-- no row was made
abbrev pub coming_to : CardState → List ℕ → Passed → ToolkitOutcome
coming_to card body passed = record { body = body; passed = passed; next_sequence = card.persistent.next_sequence }

-- what the card held for good, with other rows and another next sequence number
abbrev pub with_rows : Persistent → ℕ → List Registration → Persistent
with_rows persistent next_sequence rows = record persistent { rows = rows; next_sequence = next_sequence }

-- what the card held for good after each commit
abbrev pub states_passed : Persistent → ToolkitOutcome → List Persistent
states_passed persistent outcome = map (with_rows persistent outcome.next_sequence) (passed_rows outcome.passed.log)

-- ---- TERMINAL PROFILE (11.2.1)

-- TERMINAL PROFILE: what it comes to; it is refused where P1 and P2 are not 00 (6A86) and without data (6700)
unfoldable pub profile_taken : CardState → Apdu → Result ToolkitOutcome StatusWord
profile_taken card apdu =
    needs (has_no_parameters apdu) WRONG_PARAMETERS (
    needs (has_data apdu) WRONG_LENGTH (
    Ok (coming_to card [] (profiled apdu.body (toolkit_of card)))))

-- ---- FETCH (11.2.3)

-- so many bytes may be asked for: 256 stands for all of them
abbrev pub is_length_of : List ℕ → ℕ → Bool
is_length_of bytes expected = expected == 256 || expected == length bytes

-- FETCH: what it comes to, the bytes of the command that is to be fetched. It is refused where P1 and P2 are not 00 (6A86), with data or without
-- Le (6700), where no command is to be fetched (6985), and where Le is another length than that of the command, where 00 stands for all (6CXX).
unfoldable pub command_fetched : CardState → Apdu → Result ToolkitOutcome StatusWord
command_fetched card apdu =
    needs (has_no_parameters apdu) WRONG_PARAMETERS (
    needs (has_le_alone apdu) WRONG_LENGTH (
    given (unfetched card.session) CONDITIONS_NOT_SATISFIED (λ out.
    needs (is_length_of (command_bytes out) (unwrap_or apdu.expected 0)) (other_length (length (command_bytes out))) (
    Ok (coming_to card (command_bytes out) (fetched out (toolkit_of card)))))))

-- ---- TERMINAL RESPONSE (11.2.4)

-- TERMINAL RESPONSE: what it comes to. It is refused where P1 and P2 are not 00 (6A86), without data (6700), where no command is fetched and not
-- answered (6985), and where its data are no response to that one (6A80).
unfoldable pub response_taken : CardState → Apdu → Result ToolkitOutcome StatusWord
response_taken card apdu =
    needs (has_no_parameters apdu) WRONG_PARAMETERS (
    needs (has_data apdu) WRONG_LENGTH (
    given (unanswered card.session) CONDITIONS_NOT_SATISFIED (λ out.
    given (reply_to out apdu.body) WRONG_DATA (λ reply.
    Ok (coming_to card [] (responded out reply (toolkit_of card)))))))

-- ---- ENVELOPE (11.2.2)

-- ENVELOPE: what it comes to; call control alone is answered with data. It is refused where P1 and P2 are not 00 (6A86), without data (6700),
-- where the data are no envelope (6A80), and where there is no place left to keep it for the applets that wait, or where call
-- control would have to wait (9300).
unfoldable pub envelope_taken : CardState → Apdu → Result ToolkitOutcome StatusWord
envelope_taken card apdu =
    needs (has_no_parameters apdu) WRONG_PARAMETERS (
    needs (has_data apdu) WRONG_LENGTH (
    given (envelope_of apdu.body) WRONG_DATA (λ envelope.
    refused_if (is_busy envelope (toolkit_of card)) TOOLKIT_BUSY (
    Ok (coming_to card (call_data envelope (toolkit_of card)) (enveloped envelope (toolkit_of card)))))))

-- ---- INSTALL and DELETE, which this card has of its own

-- with which status a row is not made, or does not go
abbrev pub row_status : RowFault → StatusWord
row_status BadData = WRONG_DATA
row_status NoBox = REFERENCE_NOT_FOUND
row_status Narrow = NO_ROOM
row_status Taken = CONDITIONS_NOT_SATISFIED
row_status MenuFull = NO_ROOM
row_status Spent = NO_ROOM
row_status NoRow = REFERENCE_NOT_FOUND
row_status NotIdle = CONDITIONS_NOT_SATISFIED

-- the row, or the status of its fault
abbrev pub row_or_status : Result Registration RowFault → Result Registration StatusWord
row_or_status (Ok row) = Ok row
row_or_status (Err fault) = Err (row_status fault)

-- P2 is one of the 32 shelves
abbrev pub has_shelf : Apdu → Bool
has_shelf apdu = nat_le apdu.p2 31

-- the kind of the applet in the box on a shelf, if there is one
abbrev pub kind_in : CardState → ℕ → Option ℕ
kind_in card shelf = option_map (λ mind. mind.kind) (mind_on card.boxes shelf)

-- P1 is the priority of the applet on the shelf P2. The new row takes the next sequence number, which rises in the same commit.
unfoldable pub applet_installed : CardState → Verified → Apdu → Result ToolkitOutcome StatusWord
applet_installed card seen apdu =
    needs (nat_le 1 apdu.p1 && has_shelf apdu) WRONG_PARAMETERS (
    needs (has_data apdu) WRONG_LENGTH (
    needs seen.adm1 SECURITY_NOT_SATISFIED (
    and_given (row_or_status (installed_row card.persistent (kind_in card apdu.p2) apdu.p2 apdu.p1 apdu.body)) (λ row.
    Ok (record { body = []; passed = installed row (toolkit_of card); next_sequence = card.persistent.next_sequence + 1 })))))

-- the applet on the shelf P2
unfoldable pub applet_deleted : CardState → Verified → Apdu → Result ToolkitOutcome StatusWord
applet_deleted card seen apdu =
    needs (apdu.p1 == 0x00 && has_shelf apdu) WRONG_PARAMETERS (
    needs (has_no_data apdu) WRONG_LENGTH (
    needs seen.adm1 SECURITY_NOT_SATISFIED (
    and_given (row_or_status (deleted_row card.persistent.rows apdu.p2 (is_idle (asks card.session) apdu.p2))) (λ row.
    Ok (coming_to card [] (delete_carried row.shelf (toolkit_of card)))))))

-- ---- the commands by their names

-- what a command of the toolkit comes to, or its refusal
unfoldable pub toolkit_outcome : CatCommand → CardState → Verified → Apdu → Result ToolkitOutcome StatusWord
toolkit_outcome TerminalProfile card seen apdu = profile_taken card apdu
toolkit_outcome Fetch card seen apdu = command_fetched card apdu
toolkit_outcome TerminalResponse card seen apdu = response_taken card apdu
toolkit_outcome Envelope card seen apdu = envelope_taken card apdu
toolkit_outcome InstallApplet card seen apdu = applet_installed card seen apdu
toolkit_outcome DeleteApplet card seen apdu = applet_deleted card seen apdu

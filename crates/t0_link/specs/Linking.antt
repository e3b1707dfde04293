-- What the link does with a TPDU.
use Rattle.std.specs.Prelude.{ℕ, ◌+◌, ◌*◌, ◌%◌, ◌==◌, if◌then◌else◌, List, [], length, Option, Some, None}
use Rattle.uicc_types.specs.declared.answers.Answer.{Answer}
use Rattle.uicc_types.specs.declared.answers.StatusWord.{StatusWord}
use Rattle.uicc_types.specs.declared.answers.TheConstants.StatusWord.{CONDITIONS_NOT_SATISFIED, WRONG_LENGTH}
use Rattle.apdu_form.specs.Model.{ne_of}
use Rattle.t0_link.specs.declared.answers.TheConstants.{MORE_DATA, WRONG_LE}
use Rattle.t0_link.specs.declared.tpdus.Transfer.{Transfer}
use Rattle.t0_link.specs.declared.tpdus.Transfer.TheVariants.{GetResponse, Outgoing, Incoming}
use Rattle.t0_link.specs.Tpdus.{transfer_in, p3_of, apdu_of}

-- ---- what is answered and kept

-- what is seen of a link: what it keeps, and how often it was given bytes to exchange, be they a TPDU or not, or sent GET RESPONSE by itself
pub record LinkState : Type 0 where
  pub kept : Option Answer
  pub tpdus : ℕ

-- what the link answers, and what it keeps then: nothing, or data with a status, for GET RESPONSE to fetch
pub record Linked : Type 0 where
  pub answer : Answer
  pub kept : Option Answer

-- an answer without data
abbrev pub status_alone : StatusWord → Answer
status_alone status = record { body = []; status = status }

-- SW1, and in SW2 a count of bytes, 1 to 256, where 00 stands for 256
abbrev pub counting : ℕ → ℕ → StatusWord
counting sw1 count = record { 0 = sw1 * 256 + count % 256 }

-- there is nothing to keep of an answer without data
abbrev pub kept_of : Answer → Option Answer
kept_of answer = if length answer.body == 0 then None else Some answer

-- ---- the link's own answers

-- bytes that are no TPDU are refused, and what is kept stays
abbrev pub misformed : Option Answer → Linked
misformed kept = record { answer = status_alone WRONG_LENGTH; kept = kept }

-- GET RESPONSE: what is kept is given once, to who asks for its length; who asks for another is told it
abbrev pub fetched : ℕ → Option Answer → Linked
fetched p3 None = record { answer = status_alone CONDITIONS_NOT_SATISFIED; kept = None }
fetched p3 (Some answer) =
    if length answer.body == ne_of p3 then record { answer = answer; kept = None }
    else record { answer = status_alone (counting WRONG_LE (length answer.body)); kept = Some answer }

-- ---- what the link makes of the card's answer

-- it is given as it is
abbrev pub given : Answer → Linked
given answer = record { answer = answer; kept = None }

-- its status, or that it has so many data
abbrev pub announced : Answer → Answer
announced answer = if length answer.body == 0 then answer else status_alone (counting MORE_DATA (length answer.body))

-- its data are kept with its status, and announced
abbrev pub kept_back : Answer → Linked
kept_back answer = record { answer = announced answer; kept = kept_of answer }

-- ---- the course of a TPDU

-- the link answers it by itself; or it drops what it kept, passes one APDU to the card, and makes this of the card's answer
pub data Course : Type 0 where
  Answers : Linked → Course
  Passes : List ℕ → (Answer → Linked) → Course

-- The link answers bytes that are no TPDU, and GET RESPONSE, by itself. A TPDU whose data come from the card is passed as it is, and its answer given
-- as it is; of one whose data go to the card the APDU is passed, and the data of the answer are kept (ETSI TS 102 221, 7.3.1.1).
abbrev pub course_of : Option Answer → List ℕ → Option Transfer → Course
course_of kept tpdu None = Answers (misformed kept)
course_of kept tpdu (Some GetResponse) = Answers (fetched (p3_of tpdu) kept)
course_of kept tpdu (Some Outgoing) = Passes tpdu given
course_of kept tpdu (Some Incoming) = Passes (apdu_of tpdu) kept_back

-- what the link does with these bytes, by what it keeps
unfoldable pub link_answer : Option Answer → List ℕ → Course
link_answer kept tpdu = course_of kept tpdu (transfer_in tpdu)

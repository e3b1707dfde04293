-- What a command comes to over the link, whatever the card: the APDU that is passed for it, and the card's answer to that, cut to Le.
use Rattle.std.specs.Prelude.{◌≡◌, ◌≢◌, ◌≤◌, ◌/◌, ◌%◌, ℕ, List, [], ◌∷◌, length, Option, None, unwrap_or}
use Rattle.uicc_types.specs.declared.answers.Answer.{Answer}
use Rattle.apdu_form.specs.Model.{Apdu, data_field}
use Rattle.t0_link.specs.declared.answers.TheConstants.{MORE_DATA}
use Rattle.t0_link.specs.declared.tpdus.Transfer.{Transfer}
use Rattle.t0_link.specs.declared.tpdus.Transfer.TheVariants.{GetResponse, Outgoing, Incoming}
use Rattle.t0_link.specs.Tpdus.{transfer_of}
use Rattle.t0_link.specs.Linking.{Course, Answers, Passes}
use Rattle.t0_link.specs.Carrying.{cut_answer_to}

-- a command that reads is passed with its Le, or with 00; any other one is passed without Le
abbrev pub passed_by : Transfer → Apdu → List ℕ
passed_by GetResponse command = []
passed_by Outgoing command = command.class ∷ command.ins ∷ command.p1 ∷ command.p2 ∷ unwrap_or command.expected 0 % 256 ∷ []
passed_by Incoming command = command.class ∷ command.ins ∷ command.p1 ∷ command.p2 ∷ data_field command.body

-- the APDU that the link passes for a command
abbrev pub passed_apdu : Apdu → List ℕ
passed_apdu command = passed_by (transfer_of command.ins command.p1) command

-- SW1 isn't 61: of data that wait the link alone tells
abbrev pub IsPlain : Answer → Type 0
IsPlain answer = answer.status.0 / 256 ≢ MORE_DATA

-- the course passes this APDU, and leaves the card's answer to it, cut to what is expected; nothing is kept
abbrev pub GivesAnswer : List ℕ → Option ℕ → Course → Type 0
GivesAnswer passed expected (Answers own) = ⊥
GivesAnswer passed expected (Passes apdu linked) =
    (apdu ≡ passed) × ((answer : Answer) → length answer.body ≤ 256 → IsPlain answer → linked answer ≡ record { answer = cut_answer_to expected answer; kept = None })

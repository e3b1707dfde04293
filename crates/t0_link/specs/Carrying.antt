-- A command over the link: the terminal sends it as a TPDU, and fetches its data.
use Rattle.std.specs.Prelude.{ℕ, ◌+◌, ◌-◌, ◌^◌, ◌≤◌, ◌/◌, ◌%◌, ◌==◌, ◌&&◌, ◌||◌, Bool, true, false, if◌then◌else◌, List, ◌∷◌, length, min, Option, Some, None, is_some, unwrap_or}
use Rattle.uicc_types.specs.declared.answers.Answer.{Answer}
use Rattle.apdu_form.specs.Model.{Apdu, command_in, cut_to}
use Rattle.t0_link.specs.declared.answers.TheConstants.{MORE_DATA}
use Rattle.t0_link.specs.declared.instructions.TheConstants.{STATUS}
use Rattle.t0_link.specs.declared.tpdus.Transfer.{Transfer}
use Rattle.t0_link.specs.declared.tpdus.Transfer.TheVariants.{GetResponse, Outgoing, Incoming}
use Rattle.t0_link.specs.Tpdus.{transfer_of}
use Rattle.t0_link.specs.Linking.{Linked, Course, Answers, Passes, link_answer, fetched}

-- ---- which commands the link carries

-- whether a command can be sent as a TPDU of this sort
abbrev pub is_carried_by : Transfer → Apdu → Bool
is_carried_by GetResponse command = false
is_carried_by Outgoing command = length command.body == 0 && (is_some command.expected || command.ins == STATUS)
is_carried_by Incoming command = true

-- A command that reads has no data and has Le, which STATUS alone may lack; any other one may have both. GET RESPONSE is the link's own.
abbrev pub is_carried : Apdu → Bool
is_carried command = is_carried_by (transfer_of command.ins command.p1) command

-- some bytes are a command that the link carries
abbrev pub is_some_carried : Option Apdu → Bool
is_some_carried None = false
is_some_carried (Some command) = is_carried command

-- these bytes are a command that the link carries
abbrev pub carried : List ℕ → Bool
carried bytes = is_some_carried (command_in bytes)

-- ---- its TPDU

-- P3: the count of the data that go to the card, or Le, 00 where it is 256 or not there
abbrev pub p3_for : Transfer → Apdu → ℕ
p3_for GetResponse command = unwrap_or command.expected 0 % 256
p3_for Outgoing command = unwrap_or command.expected 0 % 256
p3_for Incoming command = length command.body

-- the TPDU of a command
abbrev pub tpdu_of : Apdu → List ℕ
tpdu_of command = command.class ∷ command.ins ∷ command.p1 ∷ command.p2 ∷ p3_for (transfer_of command.ins command.p1) command ∷ command.body

-- ---- what the terminal makes of the link's answer

-- an answer whose data are cut to Le, where there is one
abbrev pub cut_answer_to : Option ℕ → Answer → Answer
cut_answer_to expected answer = record answer { body = cut_to expected answer.body }

-- the answer is 61XX: data wait
abbrev pub is_followed : Answer → Bool
is_followed answer = answer.status.0 / 256 == MORE_DATA

-- it follows 61XX with GET RESPONSE for XX
abbrev pub followed : Linked → Linked
followed linked = if is_followed linked.answer then fetched (linked.answer.status.0 % 256) linked.kept else linked

-- what it has in the end
abbrev pub received : Option ℕ → Linked → Linked
received expected linked = record { answer = cut_answer_to expected (followed linked).answer; kept = (followed linked).kept }

-- the course of a TPDU whose answer the terminal receives so
abbrev pub then_received : Option ℕ → Course → Course
then_received expected (Answers linked) = Answers (received expected linked)
then_received expected (Passes apdu linked) = Passes apdu (λ answer. received expected (linked answer))

-- what comes of a command that the terminal sends, by what the link keeps
unfoldable pub command_answer : Option Answer → Apdu → Course
command_answer kept command = then_received command.expected (link_answer kept (tpdu_of command))

-- ---- how many TPDUs that takes

-- a count rose so often at least, or stands at its end
abbrev pub RoseBy : ℕ → ℕ → ℕ → Type 0
RoseBy times before now = min (before + times) (2 ^ 64 - 1) ≤ now

-- the command's own, and GET RESPONSE after it where the answer to one whose data go to the card has data
abbrev pub tpdus_by : Transfer → List ℕ → ℕ
tpdus_by Incoming (byte ∷ more) = 2
tpdus_by transfer bytes = 1

-- how many TPDUs a command is sent by whose answer has these data
abbrev pub tpdus_sent : Apdu → List ℕ → ℕ
tpdus_sent command body = tpdus_by (transfer_of command.ins command.p1) body

-- the same of a command that was read and that the link carries; none of any other
abbrev pub tpdus_if_carried : Option Apdu → List ℕ → ℕ
tpdus_if_carried None body = 0
tpdus_if_carried (Some command) body = if is_carried command then tpdus_sent command body else 0

-- by how many TPDUs at least these bytes go over the link, where their answer has these data
abbrev pub tpdus_for : List ℕ → List ℕ → ℕ
tpdus_for bytes body = tpdus_if_carried (command_in bytes) body

-- The course of a command.
use Rattle.std.proofs.Common.{◌≡◌, ℕ, List, Some, None, Ok, Err, ◌∙◌, ap, ◌↔◌, Bool, false, Option, IsTrue, Result, OnOk, subst}
use Rattle.std.specs.Prelude.{⊤}
use Rattle.uicc_types.specs.declared.answers.Answer.{Answer}
use Rattle.apdu_form.specs.Model.{Apdu}
use Rattle.t0_link.specs.declared.endpoint.Endpoint.{Ghosts as EndpointWords}
use Rattle.t0_link.specs.declared.endpoint.LinkFault.{LinkFault}
use Rattle.t0_link.specs.declared.endpoint.LinkFault.TheVariants.{NoPower}
use Rattle.t0_link.specs.declared.tpdus.Transfer.{Transfer}
use Rattle.t0_link.specs.declared.tpdus.Transfer.TheVariants.{GetResponse, Outgoing, Incoming}
use Rattle.t0_link.specs.Tpdus.{transfer_of, transfer_in}
use Rattle.t0_link.proofs.CommandAnswerLemmas.{by_transfer, tpdu_fits}
use Rattle.t0_link.specs.Linking.{Linked, Course, Answers, Passes, given, course_of, link_answer}
use Rattle.t0_link.specs.Carrying.{is_carried, is_carried_by, tpdu_of, received, then_received, command_answer}
use Rattle.t0_link.specs.Exchanging.{HasPassed, Exchanges, IsPassed}
use Rattle.t0_link.specs.Transmitting.{Transmits}

-- ---- a TPDU

-- what holds of the course by the way of a TPDU's data holds of the link's answer, where the link keeps what it kept
pub by_kept : (P : Course → Type 0) (kept before : Option Answer) (tpdu : List ℕ) (transfer : Option Transfer) → kept ≡ before → transfer ≡ transfer_in tpdu → P (course_of kept tpdu transfer) → P (link_answer before tpdu)
by_kept P kept before tpdu transfer same is known = subst (λ (k : Option Answer). P (link_answer k tpdu)) same (by_transfer P kept tpdu transfer is known)

-- the link answers by itself: it isn't `NoPower`
pub own_off : (on : Bool) → (◌≡◌ {A = Result ⊤ LinkFault} (Ok tt) (Err NoPower)) ↔ (⊥ × (on ≡ false))
own_off on = (λ is. cc is, λ both. elim both.0 [ ])

-- it passes an APDU: then the endpoint alone decides
pub passed_off : (result : Result ⊤ LinkFault) (on : Bool) → (result ≡ Err NoPower) ↔ (on ≡ false) → (result ≡ Err NoPower) ↔ (Unit {0} × (on ≡ false))
passed_off result on off = (λ is. (tt, off.0 is), λ both. off.1 both.1)

-- what an endpoint answers is given as it is, and nothing is kept
pub given_back : {E : Type 0} (words : EndpointWords E) (old new : E) (apdu : List ℕ) (result : Result ⊤ LinkFault) (answer : Answer) (kept : Option Answer) → kept ≡ None
    → Transmits words.is_on words.step words.lost old new apdu result answer → HasPassed words old new apdu given result (record { answer = answer; kept = kept })
given_back words old new apdu result answer kept none transmitted = record {
  answer = answer;
  transmitted = transmitted;
  answered = on_ok result (ap (λ (left : Option Answer). record { answer = answer; kept = left }) none);
} where
  on_ok : {P : Type 0} (result : Result ⊤ LinkFault) → P → OnOk result P
  on_ok (Ok done) holds = holds
  on_ok (Err fault) holds = tt

-- ---- a command

-- ---- its TPDU is passed

passed_by : (transfer : Transfer) (kept : Option Answer) (tpdu : List ℕ) (command : Apdu) → IsTrue (is_carried_by transfer command) → IsPassed (course_of kept tpdu (Some transfer))
passed_by GetResponse kept tpdu command known = cc
passed_by Outgoing kept tpdu command known = tt
passed_by Incoming kept tpdu command known = tt

-- a command that is carried is passed to the card
pub carried_passes : (kept : Option Answer) (command : Apdu) → IsTrue (is_carried command) → IsPassed (link_answer kept (tpdu_of command))
carried_passes kept command known =
    by_transfer IsPassed kept (tpdu_of command) (Some (transfer_of command.ins command.p1)) (tpdu_fits command known) (passed_by (transfer_of command.ins command.p1) kept (tpdu_of command) command known)

-- ---- what the terminal receives

module _ {E : Type 0} (words : EndpointWords E) (old new : E) (expected : Option ℕ) where
  received_after : (course : Course) (linked left : Linked) → left ≡ received expected linked → Exchanges words old new course (Ok tt) linked → Exchanges words old new (then_received expected course) (Ok tt) left
  received_after (Answers own) linked left is exchanged = (exchanged.0, is ∙ ap (received expected) exchanged.1)
  received_after (Passes apdu make) linked left is exchanged = record {
    answer = exchanged.answer;
    transmitted = exchanged.transmitted;
    answered = is ∙ ap (received expected) exchanged.answered;
  }

  fault_after : (course : Course) (fault : LinkFault) (linked left : Linked) → Exchanges words old new course (Err fault) linked → Exchanges words old new (then_received expected course) (Err fault) left
  fault_after (Answers own) fault linked left exchanged = exchanged
  fault_after (Passes apdu make) fault linked left exchanged = record {
    answer = exchanged.answer;
    transmitted = exchanged.transmitted;
    answered = tt;
  }

pub both_are : (linked : Linked) (answer : Answer) (kept : Option Answer) → answer ≡ linked.answer → kept ≡ linked.kept → record { answer = answer; kept = kept } ≡ linked
both_are linked answer kept is keeps = ap (λ (given : Answer). record { answer = given; kept = kept }) is ∙ ap (λ (left : Option Answer). record { answer = linked.answer; kept = left }) keeps

-- the terminal receives the link's answer to the TPDU
pub command_received : {E : Type 0} (words : EndpointWords E) (old new : E) (kept : Option Answer) (command : Apdu) (linked left : Linked) → left ≡ received command.expected linked
    → Exchanges words old new (link_answer kept (tpdu_of command)) (Ok tt) linked → Exchanges words old new (command_answer kept command) (Ok tt) left
unfolding command_answer
command_received words old new kept command linked left is exchanged = received_after words old new command.expected (link_answer kept (tpdu_of command)) linked left is exchanged

-- or the fault that stopped it
pub command_stopped : {E : Type 0} (words : EndpointWords E) (old new : E) (kept : Option Answer) (command : Apdu) (fault : LinkFault) (linked left : Linked)
    → Exchanges words old new (link_answer kept (tpdu_of command)) (Err fault) linked → Exchanges words old new (command_answer kept command) (Err fault) left
unfolding command_answer
command_stopped words old new kept command fault linked left exchanged = fault_after words old new command.expected (link_answer kept (tpdu_of command)) fault linked left exchanged

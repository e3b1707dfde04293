-- A terminal's command that comes to the card, by itself or over a link.
use Rattle.std.proofs.Common.{◌≡◌, ℕ, Bool, true, false, List, [], ◌∷◌, Option, Some, None, Result, Ok, Err, refl, sym, ap, ◌∙◌, subst, arith, IfSome, IsTrue}
use Rattle.std.specs.Prelude.{⊤}
use Rattle.list_laws.proofs.IfSomeLemmas.{if_some_at}
use Rattle.uicc_types.specs.Told.{AreBytes}
use Rattle.uicc_types.specs.declared.answers.Answer.{Answer}
use Rattle.uicc_types.specs.declared.runs.TraceItem.{TraceItem}
use Rattle.uicc_types.specs.declared.runs.TraceItem.TheVariants as item
use Rattle.apdu_form.specs.Model.{Apdu, command_in}
use Rattle.t0_link.proofs.CommandAnswerLemmas.{carried_gives}
use Rattle.t0_link.specs.Carrying.{carried, command_answer, is_carried, is_some_carried}
use Rattle.t0_link.specs.Exchanging.{Exchanges}
use Rattle.t0_link.specs.Linking.{Answers, Course, Linked, Passes}
use Rattle.t0_link.specs.Passing.{GivesAnswer, passed_apdu}
use Rattle.t0_link.specs.Transmitting.{Transmits}
use Rattle.t0_link.specs.declared.endpoint.LinkFault.{LinkFault}
use Rattle.t0_link.specs.declared.endpoint.LinkFault.TheVariants.{PowerLost, NoPower}
use Rattle.card_model.specs.Counts.{IsCounted}
use Rattle.card_model.specs.States.{IsGood, Machine}
use Rattle.card_core.specs.Cards.{IsCardReady, card_of}
use Rattle.run_steps.proofs.SendsLemmas.{bare_reply, sends_off}
use Rattle.run_steps.proofs.DeliversLemmas.{off_counted}
use Rattle.run_steps.proofs.ItemOfLemmas.{IsShownAs, IsShownAsOne, command_shown, counted_over, cut, cut_over, failed}
use Rattle.run_steps.proofs.SteppingLemmas.{idle_counted}
use Rattle.run_steps.proofs.StandingLemmas.{machine_is}
use Rattle.run_steps.specs.Ends.{Comes, End, Meets, MeetsAnswer, MeetsCut, end_words}
use Rattle.run_steps.specs.Runs.{is_calm}
use Rattle.run_steps.specs.Taking.{machine_of, Sends, seen}
use Rattle.run_steps.specs.Views.{IsBare, IsReply}
use Rattle.run_steps.specs.Tpdus.{item_of, shown_over}
use Rattle.run_steps.specs.Stepped.{without_bytes, GivesOwnStep, LinkChangesNoStep}

-- ---- by itself

-- it met the card
met_so : (old new : End) (apdu : List ℕ) (shown : TraceItem) → Meets old apdu shown new → Comes old apdu shown new
met_so old new apdu shown met = record { sends = met.takes.sends; counted = met.takes.counted; replies = met.takes.replies; kept = met.takes.kept; waits = met.waits }

-- the card was off
off_so : (old new : End) (apdu : List ℕ) → old.parts.is_on ≡ false → new ≡ old → Comes old apdu item.Off new
off_so old new apdu off same = record {
  sends = λ machine is. sends_off old.parts new.parts apdu machine is off (ap (λ (e : End). machine_of e.parts) same);
  counted = subst (λ (e : End). IsCounted old.parts.meter e.parts.meter [] (item.Off ∷ [])) (sym same) (off_counted old.parts.meter (idle_counted old.parts.meter));
  replies = (off, ap (λ (e : End). e.parts.is_on) same ∙ off);
  kept = let stays : new.parts.meter.faults ≡ old.parts.meter.faults = ap (λ (e : End). e.parts.meter.faults) same in omega arith;
  waits = ap (λ (e : End). e.waiting) same;
}

pub came : (result : Result ⊤ LinkFault) (old new : End) (apdu : List ℕ) (out : Answer)
    → Transmits {E = End} (λ end. end.parts.is_on) MeetsAnswer MeetsCut old new apdu result out → Comes old apdu (seen result out) new
came (Ok done) old new apdu out met = met_so old new apdu (item_of out) met
came (Err PowerLost) old new apdu out met = met_so old new apdu item.Cut met.0
came (Err NoPower) old new apdu out met = off_so old new apdu met.0 met.1

-- ---- over a link

-- these bytes are a command that the link carries
pub record IsCarriedCommand (bytes : List ℕ) : Type 0 where
  pub command : Apdu
  pub reads : command_in bytes ≡ Some command
  pub carries : IsTrue (is_carried command)

carried_by : (bytes : List ℕ) (read : Option Apdu) → command_in bytes ≡ read → IsTrue (is_some_carried read) → IsCarriedCommand bytes
carried_by bytes None reads carries = absurd (cc)
carried_by bytes (Some command) reads carries = record { command = command; reads = reads; carries = carries }

pub carried_command : (bytes : List ℕ) → IsTrue (carried bytes) → IsCarriedCommand bytes
carried_command bytes carries = carried_by bytes (command_in bytes) refl carries

-- no bytes tell whether the memory failed
calm_by_status : (shown : TraceItem) → is_calm (without_bytes shown) ≡ is_calm shown
calm_by_status (item.Command apdu) = refl
calm_by_status other = refl

calm_alike : (shown other : TraceItem) → without_bytes other ≡ without_bytes shown → is_calm other ≡ true → is_calm shown ≡ true
calm_alike shown other alike calm = sym (calm_by_status shown) ∙ ap is_calm (sym alike) ∙ calm_by_status other ∙ calm

-- what may come of a command may come of it over a link that shows a failure without data
replies_over : (make : Answer → Linked) (on after : Bool) (shown : TraceItem) → IsBare (shown_over make shown) → IsReply on shown after → IsReply on (shown_over make shown) after
replies_over make on after (item.Answer body status) bare replies = (replies.0, bare, replies.2)
replies_over make on after item.Cut bare replies = replies
replies_over make on after item.Off bare replies = replies
replies_over make on after other bare replies = absurd replies

module _ (old new : End) (bytes : List ℕ) where
  -- the link passed an APDU, which met the card, and of what that showed it made this
  passed_so : (apdu : List ℕ) (make : Answer → Linked) (shown other : TraceItem) → ((machine : Machine) → machine_of old.parts ≡ Some machine → GivesOwnStep machine bytes (Passes apdu make)) → IsShownAsOne (Passes apdu make)
      → Meets old apdu shown new → other ≡ shown_over make shown → Comes old bytes other new
  passed_so apdu make shown other own once met made = let seen_as : IsShownAs shown (shown_over make shown) = once shown (bare_reply old.parts.is_on new.parts.is_on shown met.takes.replies) in record {
    sends = λ machine is.
        let sent : Sends machine apdu shown new.parts = met.takes.sends machine is in
        let step = own machine is shown sent.machine sent.gives in
        subst (λ (i : TraceItem). Sends machine bytes i new.parts) (sym made)
        (record { machine = sent.machine; told = sent.told; gives = step.gives; rests = λ calm. sent.rests (calm_alike shown (shown_over make shown) step.alike calm) });
    counted = counted_over old.parts.meter new.parts.meter [] shown other (ap failed made ∙ seen_as.failed_as) (ap cut made ∙ cut_over make shown) met.takes.counted;
    replies = subst (λ (i : TraceItem). IsReply old.parts.is_on i new.parts.is_on) (sym made) (replies_over make old.parts.is_on new.parts.is_on shown seen_as.bare met.takes.replies);
    kept = met.takes.kept;
    waits = met.waits;
  }

  by_course : (passed : List ℕ) (expected : Option ℕ) (course : Course) (result : Result ⊤ LinkFault) (left : Linked) → ((machine : Machine) → machine_of old.parts ≡ Some machine → GivesOwnStep machine bytes course)
      → GivesAnswer passed expected course → IsShownAsOne course → Exchanges end_words old new course result left → Comes old bytes (seen result left.answer) new
  by_course passed expected (Answers linked) result left own passes once exchanged = absurd passes
  by_course passed expected (Passes apdu make) (Ok done) left own passes once exchanged =
      passed_so apdu make (item_of exchanged.answer) (item_of left.answer) own once exchanged.transmitted (ap (λ (l : Linked). item_of l.answer) exchanged.answered)
  by_course passed expected (Passes apdu make) (Err PowerLost) left own passes once exchanged = passed_so apdu make item.Cut item.Cut own once exchanged.transmitted.0 refl
  by_course passed expected (Passes apdu make) (Err NoPower) left own passes once exchanged = off_so old new bytes exchanged.transmitted.0 exchanged.transmitted.1

  pub came_over : LinkChangesNoStep → IsCardReady old.parts → AreBytes bytes → IsTrue (carried bytes) → (kept : Option Answer) (result : Result ⊤ LinkFault) (left : Linked)
      → IfSome (command_in bytes) (λ command. Exchanges end_words old new (command_answer kept command) result left) → Comes old bytes (seen result left.answer) new
  came_over steps ready are_bytes carries kept result left exchanged =
      let found = carried_command bytes carries in
      by_course (passed_apdu found.command) found.command.expected (command_answer kept found.command) result left
      (λ machine is. steps machine kept bytes found.command (if_some_at (card_of old.parts) IsGood machine.card ready.good (machine_is old.parts machine is).card) are_bytes found.reads found.carries)
      (carried_gives kept found.command found.carries) (command_shown kept found.command)
      (if_some_at (command_in bytes) (λ command. Exchanges end_words old new (command_answer kept command) result left) found.command exchanged found.reads)

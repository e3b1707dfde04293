-- A command of a handset is answered: the handset and the card agree then, and FETCH and TERMINAL RESPONSE are served.
use Rattle.std.proofs.Common.{◌≡◌, ℕ, ◌≤◌, Bool, true, false, List, ◌∷◌, length, Option, Some, None, Result, Ok, Err, refl, sym, ◌∙◌, ap, subst, inl, inr, ◌==◌, ◌/◌, ◌%◌, ◌⊎◌, if◌then◌else◌, IfSome}
use Rattle.std.proofs.lemmas.Bool.{false≢true}
use Rattle.std.specs.Prelude.{⊤}
use Rattle.uicc_types.specs.declared.answers.Answer.{Answer}
use Rattle.uicc_types.specs.declared.answers.StatusWord.{StatusWord}
use Rattle.uicc_types.specs.declared.answers.TheConstants.StatusWord.{DONE}
use Rattle.toolkit_commands.specs.Reading.{proactive_of, details_found}
use Rattle.toolkit_commands.specs.declared.commands.Details.{Details}
use Rattle.toolkit_commands.specs.declared.commands.Proactive.{Proactive}
use Rattle.toolkit_commands.specs.declared.faults.ProactiveFault.{ProactiveFault}
use Rattle.toolkit_model.specs.Commands.{command_bytes, as_fetched, unanswered}
use Rattle.toolkit_model.specs.Sessions.{Outstanding}
use Rattle.card_model.specs.Answers.{answer}
use Rattle.card_model.specs.States.{CardState, Machine, powered}
use Rattle.card_laws.specs.ToolkitLaws.{EventsGoOn}
use Rattle.card_laws.specs.Staying.{OthersLeaveUnanswered}
use Rattle.card_laws.proofs.LeavesUnansweredLemmas.{none_held}
use Rattle.handset_model.specs.History.{Happened, Sent, Answered, as_held, brought, held_by, held, held_after, kind_of, kind_of_report, announced, announced_by, is_silent, known}
use Rattle.handset_model.specs.Rules.{asked, answered_at, answered, fetched}
use Rattle.handset_model.specs.Sending.{apdu_of}
use Rattle.handset_model.specs.declared.commands.Command.{Command}
use Rattle.handset_model.specs.declared.commands.Report.{Report}
use Rattle.handset_model.specs.declared.known.Duty.TheVariants.{Transmit}
use Rattle.handset_model.specs.declared.known.Held.{Held}
use Rattle.handset_model.specs.declared.known.Known.{Known}
use Rattle.handset_model.specs.declared.commands.Command.TheVariants as sent
use Rattle.handset_model.specs.declared.commands.Report.TheVariants as report
use Rattle.phone_runs.specs.Exchanges.{ReadsDetails, DetailsAreRead, CanServe, Announces, Awaits, IsFetched, AnnouncedCommandsAreFetched, ResponsesAreTaken}
use Rattle.phone_runs.specs.HandsetServing.{IsServing, is_fetch_or_response}
use Rattle.phone_runs.proofs.AgreesLemmas.{Meets, Agrees, IsStill, speaks}
use Rattle.phone_runs.proofs.DutyLemmas.{HoldsIn, suits_followed, suits_calling, suits_reporting, suits_fetched}
use Rattle.phone_runs.proofs.ExchangesLemmas.{answer_to, next, stays_ready, tells, leaves, few_waiting}

-- ---- what was fetched

-- the bytes of an answer are those of a command that the handset has to answer from then on
pub record Brings (card : CardState) (answer : Answer) : Type 0 where
  pub out : Outstanding
  pub short : length (command_bytes out) ≤ 255
  pub body : answer.body ≡ command_bytes out
  pub status : answer.status ≡ DONE
  pub awaits : unanswered card.session ≡ Some (as_fetched out)

module _ (reads : DetailsAreRead) (card : CardState) (answer : Answer) (brings : Brings card answer) where
  details_are : ReadsDetails brings.out.command brings.out.number
  details_are = reads brings.out.command brings.out.number brings.short

  found_awaits : Awaits card (details_found answer.body)
  found_awaits = record { out = as_fetched brings.out; held = brings.awaits; is = sym (ap details_found brings.body ∙ details_are.found) }

  read_awaits : (read : Details × Proactive) → proactive_of answer.body ≡ Ok read → Awaits card read.0
  read_awaits read is = record { out = as_fetched brings.out; held = brings.awaits; is = sym (details_are.read read (ap proactive_of (sym brings.body) ∙ is)) }

  holds_found : (old : Option Held) (found : Result (Details × Proactive) ProactiveFault) → proactive_of answer.body ≡ found → HoldsIn (Awaits card) old → HoldsIn (Awaits card) (held_by (as_held found) old)
  holds_found old (Ok read) is holds = read_awaits read is
  holds_found old (Err fault) is holds = holds

  nothing_told : IfSome (announced_by answer) (Announces card)
  nothing_told = subst (λ (status : StatusWord). IfSome (if status.0 / 256 == 0x91 then Some (status.0 % 256) else None) (Announces card)) (sym brings.status) tt

  meets_fetched : (before : Known) → Meets card (announced_by answer) (fetched (proactive_of answer.body) (details_found answer.body) before)
  meets_fetched before =
      suits_fetched (Announces card) (Awaits card) (IfSome (announced_by answer) (Announces card)) (proactive_of answer.body) (details_found answer.body) before found_awaits read_awaits nothing_told

-- ---- what is held

-- where the handset has to answer nothing it holds nothing
holds_none : (card later : CardState) → unanswered card.session ≡ None → (held : Option Held) → HoldsIn (Awaits card) held → HoldsIn (Awaits later) held
holds_none card later none None holds = tt
holds_none card later none (Some held) holds = let both = sym none ∙ holds.held in absurd (cc)

-- what is held is held on
holds_on : (card later : CardState) → unanswered later.session ≡ unanswered card.session → (held : Option Held) → HoldsIn (Awaits card) held → HoldsIn (Awaits later) held
holds_on card later same None holds = tt
holds_on card later same (Some held) holds = record { out = holds.out; held = same ∙ holds.held; is = holds.is }

reports_bring_nothing : (told : Report) (answer : Answer) → brought (kind_of_report told) answer ≡ None
reports_bring_nothing (report.MenuSelection item) answer = refl
reports_bring_nothing other answer = refl

-- ---- what comes next

reports_meet : (card : CardState) (told : Report) (answer : Answer) (before : Known) → IfSome (announced_by answer) (Announces card) → Meets card (announced_by answer) (answered (kind_of_report told) answer before)
reports_meet card (report.CallControl digits) answer before tells = suits_calling (Announces card) (Awaits card) (IfSome (announced_by answer) (Announces card)) answer before tells tells
reports_meet card other answer before tells = suits_reporting (Announces card) (Awaits card) (IfSome (announced_by answer) (Announces card)) answer before tells tells

another_meets : (card : CardState) (answer : Answer) (before : Known) → IfSome (announced_by answer) (Announces card) → Meets card (announced_by answer) (answered (kind_of sent.SendProfile) answer before)
another_meets card answer before tells = suits_followed (Announces card) (Awaits card) (IfSome (announced_by answer) (Announces card)) answer before tells

-- ---- an exchange

-- what the card needs for a command
abbrev pub Allows : CardState → Command → Type 0
Allows card (sent.Fetch size) = Announces card size
Allows card (sent.Respond details reply) = Awaits card details
Allows card _ = ⊤

allows_so : (card : CardState) (told : Option ℕ) (command : Command) → Meets card told (Transmit command) → Allows card command
allows_so card told (sent.Fetch size) meets = meets
allows_so card told (sent.Respond details reply) meets = meets
allows_so card told other meets = tt

module _ (goes : EventsGoOn) (others : OthersLeaveUnanswered) (reads : DetailsAreRead) (fetches : AnnouncedCommandsAreFetched) (responds : ResponsesAreTaken) where
  fetch_brings : (card : CardState) (size : ℕ) → CanServe card → Announces card size → Brings (next card (sent.Fetch size)) (answer_to card (sent.Fetch size))
  fetch_brings card size ready announces =
      let is : IsFetched card size = fetches card size ready announces in
      record { out = is.out; short = few_waiting card ready.order is.out is.waits; body = is.gives.body; status = is.gives.status; awaits = is.gives.awaits }

  holds_after : (card : CardState) (command : Command) (old : Option Held) → CanServe card → Allows card command → HoldsIn (Awaits card) old
      → HoldsIn (Awaits (next card command)) (held_by (brought (kind_of command) (answer_to card command)) (held_after command old))
  holds_after card sent.SelectMf old ready allows holds = holds_on card (next card sent.SelectMf) (leaves card ready sent.SelectMf others tt) old holds
  holds_after card sent.SendProfile old ready allows holds = holds_on card (next card sent.SendProfile) (leaves card ready sent.SendProfile others tt) old holds
  holds_after card (sent.Fetch size) old ready allows holds =
      let is : IsFetched card size = fetches card size ready allows in
      let later : CardState = next card (sent.Fetch size) in
      holds_found reads later (answer_to card (sent.Fetch size)) (fetch_brings card size ready allows) old _ refl (holds_none card later (none_held card.session is.out is.waits) old holds)
  holds_after card (sent.Respond details reply) old ready allows holds = tt
  holds_after card (sent.Tell told) old ready allows holds =
      subst (λ (found : Option Held). HoldsIn (Awaits (next card (sent.Tell told))) (held_by found old)) (sym (reports_bring_nothing told (answer_to card (sent.Tell told))))
      (holds_on card (next card (sent.Tell told)) (leaves card ready (sent.Tell told) others tt) old holds)
  holds_after card sent.AskStatus old ready allows holds = holds_on card (next card sent.AskStatus) (leaves card ready sent.AskStatus others tt) old holds

  meets_after : (card : CardState) (command : Command) (before : Known) → CanServe card → Allows card command
      → Meets (next card command) (announced_by (answer_to card command)) (answered (kind_of command) (answer_to card command) before)
  meets_after card sent.SelectMf before ready allows = tt
  meets_after card sent.SendProfile before ready allows = another_meets (next card sent.SendProfile) (answer_to card sent.SendProfile) before (tells card ready sent.SendProfile goes tt)
  meets_after card (sent.Fetch size) before ready allows = meets_fetched reads (next card (sent.Fetch size)) (answer_to card (sent.Fetch size)) (fetch_brings card size ready allows) before
  meets_after card (sent.Respond details reply) before ready allows =
      another_meets (next card (sent.Respond details reply)) (answer_to card (sent.Respond details reply)) before (tells card ready (sent.Respond details reply) goes tt)
  meets_after card (sent.Tell told) before ready allows = reports_meet (next card (sent.Tell told)) told (answer_to card (sent.Tell told)) before (tells card ready (sent.Tell told) goes tt)
  meets_after card sent.AskStatus before ready allows = another_meets (next card sent.AskStatus) (answer_to card sent.AskStatus) before (tells card ready sent.AskStatus goes tt)

  -- FETCH and TERMINAL RESPONSE are served
  serves : (card : CardState) (command : Command) → CanServe card → Allows card command → is_fetch_or_response (apdu_of command) ≡ true → IsServing (answer_to card command).status
  unfolding apdu_of
  serves card (sent.Fetch size) ready allows is = inl (fetches card size ready allows).gives.status
  serves card (sent.Respond details reply) ready allows is = either (responds card details reply ready allows) where
    either : ((answer card (apdu_of (sent.Respond details reply))).status ≡ DONE) ⊎ ((answer card (apdu_of (sent.Respond details reply))).status.0 / 256 ≡ 0x91)
        → IsServing (answer_to card (sent.Respond details reply)).status
    either (inl done) = inl done
    either (inr told) = inr (inl told)
  serves card other ready allows is = absurd (false≢true is)

  -- ---- both

  module _ (h : List Happened) (command : Command) (machine : Machine) (agrees : Agrees h machine) (sends : asked h ≡ Transmit command) where
    loud : is_silent h ≡ false
    loud = speaks h machine (Transmit command) agrees sends (λ still. absurd still)

    allowed : Allows machine.card command
    allowed = allows_so machine.card (announced h) command (subst (Meets machine.card (announced h)) sends (agrees.meets loud))

    pub served : is_fetch_or_response (apdu_of command) ≡ true → IsServing (answer_to machine.card command).status
    served is = serves machine.card command agrees.ready allowed is

    pub agrees_answered : Agrees (Answered (answer_to machine.card command) ∷ Sent command ∷ h) (powered (next machine.card command))
    unfolding known
    agrees_answered = record {
      ready = stays_ready machine.card agrees.ready command goes;
      has_power = λ silent. refl;
      holds = λ silent. holds_after machine.card command (held h) agrees.ready allowed (agrees.holds loud);
      meets = λ silent.
          subst (λ (b : Bool). Meets (next machine.card command) (announced_by (answer_to machine.card command)) (answered_at b (answer_to machine.card command) (known (Sent command ∷ h)))) (sym silent)
          (meets_after machine.card command (known (Sent command ∷ h)) agrees.ready allowed);
      rests = λ silent. subst (λ (b : Bool). IsStill (answered_at b (answer_to machine.card command) (known (Sent command ∷ h)))) (sym silent) tt;
    }

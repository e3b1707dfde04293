-- What a card answers to a command of a handset, and what waits after it.
use Rattle.std.proofs.Common.{◌≡◌, ℕ, zero, suc, ◌+◌, ◌≤◌, Bool, true, false, List, [], ◌∷◌, length, Option, Some, None, Result, Ok, Err, refl, sym, ◌∙◌, ap, subst, arith, inl, inr, ◌==◌, ◌/◌, ◌%◌, ◌||◌, ◌⊎◌, not, if◌then◌else◌, is_some, IfSome, MatchResult, option_map, slice_set}
use Rattle.std.proofs.lemmas.Bool.{eq-eqb, ne_eqb, false≢true}
use Rattle.std.specs.Prelude.{⊤}
use Rattle.uicc_types.specs.declared.answers.Answer.{Answer}
use Rattle.uicc_types.specs.declared.answers.StatusWord.{StatusWord}
use Rattle.uicc_types.specs.declared.answers.TheConstants.StatusWord.{DONE, WRONG_LENGTH, WRONG_PARAMETERS, WRONG_DATA, CONDITIONS_NOT_SATISFIED}
use Rattle.apdu_form.specs.Model.{Apdu, ne_of}
use Rattle.apdu_form.specs.Classes.{channel_of}
use Rattle.file_model.specs.Chains.{and_given}
use Rattle.file_model.specs.Outcomes.{FileOutcome}
use Rattle.file_model.specs.Records.{other_length}
use Rattle.file_model.specs.Selecting.{status_told, telling}
use Rattle.file_model.specs.declared.selections.Selection.{Selection}
use Rattle.file_model.specs.Channels.{is_open}
use Rattle.file_model.specs.Commands.{file_outcome}
use Rattle.file_model.proofs.ChainsLemmas.{unless_so, given_so}
use Rattle.file_model.specs.declared.commands.FileCommand.TheVariants as file
use Rattle.comprehension_tlv.specs.Writing.{spellings}
use Rattle.toolkit_commands.specs.Envelopes.{envelope_of}
use Rattle.toolkit_commands.specs.Responses.{response_of}
use Rattle.toolkit_commands.specs.declared.commands.Details.{Details}
use Rattle.toolkit_commands.specs.declared.responses.Response.{Response}
use Rattle.toolkit_model.specs.Commands.{command_bytes, unfetched, unanswered, pending, fetched, responded, reply_to}
use Rattle.toolkit_model.specs.Sessions.{Outstanding}
use Rattle.toolkit_model.specs.Steps.{Fetch}
use Rattle.card_model.specs.Answers.{Answered, answer, carried_out, file_tried, toolkit_tried, settled, told_pending, event_told}
use Rattle.card_model.specs.Instructions.{is_known}
use Rattle.card_model.specs.States.{CardState}
use Rattle.card_model.specs.Toolkit.{ToolkitOutcome, toolkit_of, coming_to, is_length_of, profile_taken, command_fetched, response_taken, envelope_taken, toolkit_outcome}
use Rattle.card_model.specs.declared.instructions.Instruction.TheVariants.{File, Toolkit}
use Rattle.card_model.proofs.ToldPendingLemmas.{pending_few}
use Rattle.card_model.proofs.TriedLemmas.{cut_result, cut_so}
use Rattle.card_model.specs.declared.instructions.CatCommand.TheVariants as toolkit
use Rattle.card_laws.specs.Fetching.{FetchesGiveCommands}
use Rattle.card_laws.specs.ToolkitLaws.{EventsGoOn}
use Rattle.card_laws.specs.Moving.{HasOrder, Answers, if_carried, command_by, taken}
use Rattle.card_laws.specs.Staying.{LeavesUnanswered, OthersLeaveUnanswered}
use Rattle.card_laws.proofs.InsOfLemmas.{other_if, report_leaves}
use Rattle.handset_model.specs.Sending.{response_objects, apdu_of}
use Rattle.handset_model.specs.History.{announced_by}
use Rattle.handset_model.specs.declared.commands.Command.{Command}
use Rattle.handset_model.specs.declared.commands.Reply.{Reply}
use Rattle.handset_model.specs.declared.commands.Command.TheVariants as sent
use Rattle.phone_runs.specs.Exchanges.{ResponsesAreRead, CanServe, Announces, AnnouncedCommandsAreFetched, ResponsesAreTaken}
use Rattle.phone_runs.proofs.ApduOfLemmas.{past_unless, past_given, instruction_of, parts_of, carried, comes, answer_so, taken_so}

-- ---- the basic channel stays open

open_set : (channels : List (Option Selection)) (channel : ℕ) (selection : Selection) → is_open channels 0 ≡ true → is_open (slice_set channels channel (Some selection)) 0 ≡ true
open_set [] channel selection basic = absurd (false≢true basic)
open_set (first ∷ others) zero selection basic = refl
open_set (first ∷ others) (suc channel) selection basic = basic

abbrev OpenIn : Result Answered StatusWord → Type 0
OpenIn came = MatchResult came (λ answered. is_open answered.state.channels 0 ≡ true) (λ status. ⊤)

file_open : (card : CardState) → is_open card.channels 0 ≡ true → (apdu : Apdu) (is_status : Bool) (outcome : Result FileOutcome StatusWord) → OpenIn (and_given (file_tried card apdu outcome) (λ answered. Ok (event_told is_status answered)))
unfolding and_given
file_open card basic apdu true (Ok done) = open_set card.channels (channel_of apdu.class) done.selection basic
file_open card basic apdu false (Ok done) = open_set card.channels (channel_of apdu.class) done.selection basic
file_open card basic apdu is_status (Err status) = tt

toolkit_open : (card : CardState) → is_open card.channels 0 ≡ true → (outcome : Result ToolkitOutcome StatusWord) → OpenIn (and_given (toolkit_tried card outcome) (λ answered. Ok (event_told false answered)))
unfolding and_given
toolkit_open card basic (Ok done) = basic
toolkit_open card basic (Err status) = tt

carried_open : (card : CardState) → is_open card.channels 0 ≡ true → (command : Command) → OpenIn (carried card command)
unfolding carried_out
carried_open card basic sent.SelectMf = file_open card basic (parts_of sent.SelectMf) false _
carried_open card basic sent.AskStatus = file_open card basic (parts_of sent.AskStatus) true _
carried_open card basic other = toolkit_open card basic _

comes_open : (card : CardState) → is_open card.channels 0 ≡ true → (command : Command) → OpenIn (comes card command)
comes_open card basic command = cut_so (λ answered. is_open answered.state.channels 0 ≡ true) (λ status. ⊤) _ (carried card command) (λ answered is. is) (carried_open card basic command)

settled_open : (card : CardState) → is_open card.channels 0 ≡ true → (came : Result Answered StatusWord) → OpenIn came → is_open (settled card came).state.channels 0 ≡ true
settled_open card basic (Ok answered) is = is
settled_open card basic (Err status) is = basic

-- ---- what is told

-- a status that tells of no command to be fetched
abbrev IsPlain : StatusWord → Type 0
IsPlain status = (status.0 / 256 == 0x91) ≡ false

abbrev PlainIn : Result Answered StatusWord → Type 0
PlainIn came = MatchResult came (λ answered. IsPlain answered.status) IsPlain

abbrev AnyOutcome : ToolkitOutcome → Type 0
AnyOutcome outcome = ⊤

profile_plain : (card : CardState) (apdu : Apdu) → MatchResult (profile_taken card apdu) AnyOutcome IsPlain
unfolding profile_taken
profile_plain card apdu = unless_so AnyOutcome IsPlain _ _ _ refl (λ _. unless_so AnyOutcome IsPlain _ _ _ refl (λ _. tt))

response_plain : (card : CardState) (apdu : Apdu) → MatchResult (response_taken card apdu) AnyOutcome IsPlain
unfolding response_taken
response_plain card apdu =
    unless_so AnyOutcome IsPlain _ _ _ refl (λ _.
    unless_so AnyOutcome IsPlain _ _ _ refl (λ _.
    given_so AnyOutcome IsPlain (unanswered card.session) _ _ refl (λ out is.
    given_so AnyOutcome IsPlain (reply_to out apdu.body) _ _ refl (λ reply answers. tt))))

envelope_plain : (card : CardState) (apdu : Apdu) → MatchResult (envelope_taken card apdu) AnyOutcome IsPlain
unfolding envelope_taken
envelope_plain card apdu =
    unless_so AnyOutcome IsPlain _ _ _ refl (λ _.
    unless_so AnyOutcome IsPlain _ _ _ refl (λ _.
    given_so AnyOutcome IsPlain (envelope_of apdu.body) _ _ refl (λ envelope is.
    unless_so AnyOutcome IsPlain _ _ _ refl (λ _. tt))))

status_plain : (card : CardState) (selection : Selection) (apdu : Apdu) → MatchResult (status_told card.persistent selection apdu) (λ outcome. IsPlain outcome.status) IsPlain
unfolding status_told telling
status_plain card selection apdu =
    let P : FileOutcome → Type 0 = λ outcome. IsPlain outcome.status in
    unless_so P IsPlain _ _ _ refl (λ _.
    unless_so P IsPlain _ _ _ refl (λ _.
    given_so P IsPlain _ _ _ refl (λ df is. refl)))

toolkit_so : (card : CardState) (outcome : Result ToolkitOutcome StatusWord) → MatchResult outcome AnyOutcome IsPlain → PlainIn (and_given (toolkit_tried card outcome) (λ answered. Ok (event_told false answered)))
unfolding and_given
toolkit_so card (Ok outcome) is = refl
toolkit_so card (Err status) is = is

status_so : (card : CardState) (apdu : Apdu) (outcome : Result FileOutcome StatusWord) → MatchResult outcome (λ done. IsPlain done.status) IsPlain → PlainIn (and_given (file_tried card apdu outcome) (λ answered. Ok (event_told true answered)))
unfolding and_given
status_so card apdu (Ok outcome) is = is
status_so card apdu (Err status) is = is

-- after SELECT and FETCH a handset looks for no command
abbrev pub LooksForCommands : Command → Type 0
LooksForCommands sent.SelectMf = ⊥
LooksForCommands (sent.Fetch size) = ⊥
LooksForCommands _ = ⊤

carried_plain : (card : CardState) (command : Command) → LooksForCommands command → PlainIn (carried card command)
unfolding carried_out toolkit_outcome file_outcome
carried_plain card sent.SelectMf looks = absurd looks
carried_plain card sent.SendProfile looks = toolkit_so card _ (profile_plain card (parts_of sent.SendProfile))
carried_plain card (sent.Fetch size) looks = absurd looks
carried_plain card (sent.Respond details reply) looks = toolkit_so card _ (response_plain card (parts_of (sent.Respond details reply)))
carried_plain card (sent.Tell report) looks = toolkit_so card _ (envelope_plain card (parts_of (sent.Tell report)))
carried_plain card sent.AskStatus looks = status_so card (parts_of sent.AskStatus) _ (status_plain card _ (parts_of sent.AskStatus))

comes_plain : (card : CardState) (command : Command) → LooksForCommands command → PlainIn (comes card command)
comes_plain card command looks = cut_so (λ answered. IsPlain answered.status) IsPlain _ (carried card command) (λ answered is. is) (carried_plain card command looks)

settled_plain : (card : CardState) (came : Result Answered StatusWord) → PlainIn came → IsPlain (settled card came).status
settled_plain card (Ok answered) is = is
settled_plain card (Err status) is = is

-- the length that a status tells
abbrev length_in : StatusWord → Option ℕ
length_in status = if status.0 / 256 == 0x91 then Some (status.0 % 256) else None

plain_tells : (P : ℕ → Type 0) (status : StatusWord) → IsPlain status → IfSome (length_in status) P
plain_tells P status plain = subst (λ (b : Bool). IfSome (if b then Some (status.0 % 256) else None) P) (sym plain) tt

told_so : (count : Option ℕ) (status : StatusWord) → IfSome count (λ n. n ≤ 255) → IsPlain status → IfSome (length_in (told_pending count status)) (λ size. count ≡ Some size)
told_so None status few plain = plain_tells _ status plain
told_so (Some count) status few plain = by_done (status.0 == DONE.0) where
  tells : (status.0 == status.0) ≡ true → IfSome (length_in (record { 0 = 0x9100 + count })) (λ size. Some count ≡ Some size)
  tells same =
      let high : ((0x9100 + count) / 256 == 0x91) ≡ true = eq-eqb ((0x9100 + count) / 256) 0x91 (omega (arith, few)) in
      let low : count ≡ (0x9100 + count) % 256 = omega (arith, few) in
      subst (λ (b : Bool). IfSome (if b then Some ((0x9100 + count) % 256) else None) (λ size. Some count ≡ Some size)) (sym high) (ap (λ (n : ℕ). Some n) low)

  by_done : (b : Bool) → IfSome (length_in (if b then record { 0 = 0x9100 + count } else status)) (λ size. Some count ≡ Some size)
  by_done true = tells (eq-eqb status.0 status.0 refl)
  by_done false = plain_tells _ status plain

-- a command that was done is answered so
done_told : (count : Option ℕ) → IfSome count (λ n. n ≤ 255) → (told_pending count DONE ≡ DONE) ⊎ ((told_pending count DONE).0 / 256 ≡ 0x91)
done_told None few = inl refl
done_told (Some count) few = inr (omega (arith, few))

-- ---- an exchange

-- as a card answers
abbrev pub answer_to : CardState → Command → Answer
answer_to card command = record { body = (answer card (apdu_of command)).body; status = (answer card (apdu_of command)).status }

abbrev pub next : CardState → Command → CardState
next card command = (answer card (apdu_of command)).state

-- neither FETCH nor TERMINAL RESPONSE
abbrev pub IsAnother : Command → Type 0
IsAnother (sent.Fetch size) = ⊥
IsAnother (sent.Respond details reply) = ⊥
IsAnother _ = ⊤

another_leaves : (card : CardState) (command : Command) → IsAnother command → LeavesUnanswered (if_carried (carried card command) (command_by (instruction_of command) card (parts_of command)))
another_leaves card sent.SelectMf another = other_if (carried card sent.SelectMf) None tt
another_leaves card sent.SendProfile another = other_if (carried card sent.SendProfile) (command_by (Toolkit toolkit.TerminalProfile) card (parts_of sent.SendProfile)) tt
another_leaves card (sent.Fetch size) another = absurd another
another_leaves card (sent.Respond details reply) another = absurd another
another_leaves card (sent.Tell report) another = other_if (carried card (sent.Tell report)) _ (report_leaves (envelope_of (parts_of (sent.Tell report)).body))
another_leaves card sent.AskStatus another = other_if (carried card sent.AskStatus) (command_by (File file.Status) card (parts_of sent.AskStatus)) tt

-- what is pending is short
few_pending : (card : CardState) → HasOrder card → IfSome (pending card.session) (λ n. n ≤ 255)
few_pending card order = pending_few card.session order.order.session.underway.out_sendable

-- and what waits to be fetched
pub few_waiting : (card : CardState) → HasOrder card → (out : Outstanding) → unfetched card.session ≡ Some out → length (command_bytes out) ≤ 255
few_waiting card order out is = subst (λ found. IfSome (option_map (λ (each : Outstanding). length (command_bytes each)) found) (λ count. count ≤ 255)) is (few_pending card order)

module _ (card : CardState) (ready : CanServe card) (command : Command) where
  pub stays_ready : EventsGoOn → CanServe (next card command)
  stays_ready goes = record {
    order = (goes is_known card (Answers (apdu_of command) ∷ []) refl ready.order (tt, tt)).2;
    basic = ap (λ (answered : Answered). is_open answered.state.channels 0) (answer_so card ready.basic command) ∙ settled_open card ready.basic (comes card command) (comes_open card ready.basic command);
  }

  -- what the status tells waits then
  pub tells : EventsGoOn → LooksForCommands command → IfSome (announced_by (answer_to card command)) (Announces (next card command))
  tells goes looks =
      let same = answer_so card ready.basic command in
      let order : HasOrder (next card command) = (stays_ready goes).order in
      subst (λ (answered : Answered). IfSome (pending answered.state.session) (λ n. n ≤ 255) → IfSome (length_in answered.status) (λ size. pending answered.state.session ≡ Some size)) (sym same)
      (λ few. told_so (pending (settled card (comes card command)).state.session) (settled card (comes card command)).status few (settled_plain card (comes card command) (comes_plain card command looks)))
      (few_pending (next card command) order)

  -- what the handset has to answer it still has to answer
  pub leaves : OthersLeaveUnanswered → IsAnother command → unanswered (next card command).session ≡ unanswered card.session
  leaves others another = others is_known card (apdu_of command) refl ready.order (subst LeavesUnanswered (sym (taken_so card ready.basic command)) (another_leaves card command another))

-- ---- FETCH

length_fits : (bytes : List ℕ) (size : ℕ) → length bytes ≡ size → is_length_of bytes (ne_of size) ≡ true
length_fits bytes size is = by_zero (size == 0) where
  or_true : (a b : Bool) → b ≡ true → (a || b) ≡ true
  or_true true b same = refl
  or_true false b same = same

  by_zero : (b : Bool) → ((if b then 256 else size) == 256 || (if b then 256 else size) == length bytes) ≡ true
  by_zero true = refl
  by_zero false = or_true (size == 256) (size == length bytes) (eq-eqb size (length bytes) (sym is))

fetch_done : (card : CardState) (size : ℕ) (out : Outstanding) → unfetched card.session ≡ Some out → length (command_bytes out) ≡ size
    → command_fetched card (parts_of (sent.Fetch size)) ≡ Ok (coming_to card (command_bytes out) (fetched out (toolkit_of card)))
unfolding command_fetched
fetch_done card size out waits is =
    past_unless _ WRONG_PARAMETERS _ refl
    ∙ past_unless _ WRONG_LENGTH _ refl
    ∙ past_given (unfetched card.session) out CONDITIONS_NOT_SATISFIED _ waits
    ∙ past_unless (is_length_of (command_bytes out) (ne_of size)) (other_length (length (command_bytes out))) _ (length_fits (command_bytes out) size is)

-- the command that waits
pub record Waits (card : CardState) (size : ℕ) : Type 0 where
  pub out : Outstanding
  pub unfetched_is : unfetched card.session ≡ Some out
  pub length_is : length (command_bytes out) ≡ size

pub waits_so : (card : CardState) (size : ℕ) → Announces card size → Waits card size
waits_so card size is = by_out (unfetched card.session) refl is where
  by_out : (found : Option Outstanding) → unfetched card.session ≡ found → option_map (λ (each : Outstanding). length (command_bytes each)) found ≡ Some size → Waits card size
  by_out None same counted = absurd (cc)
  by_out (Some out) same counted = record { out = out; unfetched_is = same; length_is = cc }

fetch_taken : (card : CardState) (size : ℕ) → CanServe card → (waits : Waits card size) → taken is_known card (apdu_of (sent.Fetch size)) ≡ Some (Fetch waits.out)
unfolding carried_out toolkit_outcome and_given
fetch_taken card size ready waits =
    taken_so card ready.basic (sent.Fetch size)
    ∙ ap (λ (came : Result ToolkitOutcome StatusWord). if_carried (and_given (toolkit_tried card came) (λ answered. Ok (event_told false answered))) (option_map (λ out. Fetch out) (unfetched card.session)))
    (fetch_done card size waits.out waits.unfetched_is waits.length_is)
    ∙ ap (option_map (λ out. Fetch out)) waits.unfetched_is

pub announced_fetched : FetchesGiveCommands → AnnouncedCommandsAreFetched
announced_fetched gives card size ready announces =
    let waits = waits_so card size announces in
    record { out = waits.out; waits = waits.unfetched_is; gives = gives is_known card (apdu_of (sent.Fetch size)) waits.out refl (omega (arith, few_waiting card ready.order waits.out waits.unfetched_is)) (fetch_taken card size ready waits) }

-- ---- TERMINAL RESPONSE

pub record HasValue {X : Type 0} (found : Option X) : Type 0 where
  pub value : X
  pub is : found ≡ Some value

value_in : {X : Type 0} (found : Option X) → is_some found ≡ true → HasValue found
value_in None is = absurd (false≢true is)
value_in (Some value) is = record { value = value; is = refl }

some_data : (content : List ℕ) → 1 ≤ length content → (length content == 0) ≡ false
some_data content some = ne_eqb (length content) 0 (λ none. omega (arith, some, none))

response_done : (card : CardState) (details : Details) (reply : Reply) (out : Outstanding) (read : Response) → unanswered card.session ≡ Some out → reply_to out (spellings (response_objects details reply)) ≡ Some read
    → 1 ≤ length (spellings (response_objects details reply))
    → response_taken card (parts_of (sent.Respond details reply)) ≡ Ok (coming_to card [] (responded out read (toolkit_of card)))
unfolding response_taken
response_done card details reply out read held answers some =
    past_unless _ WRONG_PARAMETERS _ refl
    ∙ past_unless _ WRONG_LENGTH _ (ap not (some_data (spellings (response_objects details reply)) some))
    ∙ past_given (unanswered card.session) out CONDITIONS_NOT_SATISFIED _ held
    ∙ past_given (reply_to out (spellings (response_objects details reply))) read WRONG_DATA _ answers

response_status : (card : CardState) (came : Result ToolkitOutcome StatusWord) (outcome : ToolkitOutcome) → came ≡ Ok outcome
    → (settled card (cut_result None (and_given (toolkit_tried card came) (λ answered. Ok (event_told false answered))))).status ≡ DONE
unfolding and_given
response_status card came outcome is = ap (λ (each : Result ToolkitOutcome StatusWord). (settled card (cut_result None (and_given (toolkit_tried card each) (λ answered. Ok (event_told false answered))))).status) is

pub responses_taken : EventsGoOn → ResponsesAreRead → ((details : Details) (reply : Reply) → 1 ≤ length (spellings (response_objects details reply))) → ResponsesAreTaken
unfolding carried_out toolkit_outcome
responses_taken goes reads some card details reply ready awaits =
    let command : Command = sent.Respond details reply in
    let content : List ℕ = spellings (response_objects details reply) in
    let read : HasValue (reply_to awaits.out content) = value_in (reply_to awaits.out content) (subst (λ (named : Details). is_some (response_of named content) ≡ true) (sym awaits.is) (reads details reply)) in
    let done = response_status card (response_taken card (parts_of command)) _ (response_done card details reply awaits.out read.value awaits.held read.is (some details reply)) in
    let same = answer_so card ready.basic command in
    subst (λ (answered : Answered). IfSome (pending answered.state.session) (λ n. n ≤ 255) → (answered.status ≡ DONE) ⊎ (answered.status.0 / 256 ≡ 0x91)) (sym same)
    (λ few. subst (λ (status : StatusWord). (told_pending (pending (settled card (comes card command)).state.session) status ≡ DONE) ⊎ ((told_pending (pending (settled card (comes card command)).state.session) status).0 / 256 ≡ 0x91)) (sym done)
    (done_told (pending (settled card (comes card command)).state.session) few))
    (few_pending (next card command) (stays_ready card ready command goes).order)

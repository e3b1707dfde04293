-- What a card answers where it takes a command of the toolkit: to FETCH the command that is fetched. It never takes a wake.
use Rattle.std.proofs.Common.{◌≡◌, ◌≤◌, ℕ, Bool, true, false, List, length, Option, Some, None, Result, Ok, Err, refl, sym, ◌∙◌, ap, subst, arith, ◌==◌, ◌||◌, MatchResult, option_map, option_and_then, take, unwrap_or, take_all}
use Rattle.std.specs.Prelude.{⊤}
use Rattle.std.proofs.lemmas.Bool.{eqb-true, not-false}
use Rattle.uicc_types.specs.Told.{AreBytes}
use Rattle.uicc_types.specs.declared.answers.StatusWord.{StatusWord}
use Rattle.uicc_types.specs.declared.answers.TheConstants.StatusWord.{DONE}
use Rattle.apdu_form.specs.Model.{Apdu, cut_to}
use Rattle.card_state.specs.Persistent.{Registration}
use Rattle.file_model.specs.Chains.{and_given}
use Rattle.file_model.proofs.ChainsLemmas.{unless_so, given_so}
use Rattle.file_model.specs.declared.commands.FileCommand.TheVariants as file
use Rattle.toolkit_commands.specs.Envelopes.{envelope_of}
use Rattle.toolkit_commands.specs.declared.envelopes.Envelope.{Envelope}
use Rattle.toolkit_commands.specs.declared.responses.Response.{Response as Reply}
use Rattle.toolkit_model.specs.declared.faults.RowFault.{RowFault}
use Rattle.toolkit_model.specs.Sessions.{Outstanding}
use Rattle.toolkit_model.specs.Commands.{if_fetched, unfetched, unanswered, reply_to, command_bytes, as_fetched, fetched}
use Rattle.toolkit_model.specs.Registry.{installed_row}
use Rattle.toolkit_model.specs.Steps.{ToolkitInput, Profile, Status, Report, Fetch, Respond, Delete, Wake}
use Rattle.card_model.specs.Answers.{Answered, settled, told_pending, with_pending, on_toolkit, toolkit_tried, carried_out, carried_with, cut_answer, tried, answer_of, is_carried_out}
use Rattle.card_model.specs.Chained.{Any}
use Rattle.card_model.proofs.ChainedLemmas.{past}
use Rattle.card_model.proofs.TriedLemmas.{cut_result, all_so}
use Rattle.card_model.specs.Instructions.{has_toolkit}
use Rattle.card_model.specs.States.{CardState, IsGood}
use Rattle.card_model.specs.Toolkit.{ToolkitOutcome, toolkit_of, coming_to, is_length_of, kind_in, command_fetched, toolkit_outcome}
use Rattle.card_model.specs.declared.instructions.Instruction.{Instruction}
use Rattle.card_model.specs.declared.instructions.Instruction.TheVariants.{File, Toolkit}
use Rattle.card_model.specs.declared.instructions.CatCommand.TheVariants as toolkit
use Rattle.card_laws.specs.Fetching.{GivesCommand, FetchesCommand}
use Rattle.card_laws.specs.ToolkitLaws.{GoodCardsHaveOrder, AnswersGoOn}
use Rattle.card_laws.specs.Moving.{if_row, command_by, if_carried, taken, GoesOn, GoesOnBy}
use Rattle.card_laws.specs.Traces.{ins_of}
use Rattle.card_laws.proofs.InsOfLemmas.{IsFetch, answer_names}
use Rattle.card_laws.proofs.IsStatusLemmas.{few_fetched}
use Rattle.card_laws.proofs.TakenLemmas.{of_taken}

-- such an answer to a command that was taken, but for the bytes that the status tells of; an answer has 256 bytes at most
abbrev pub Suits : Option ToolkitInput → Answered → Type 0
Suits (Some (Fetch out)) answered = (length (command_bytes out) ≤ 256 → answered.body ≡ command_bytes out) × (answered.status ≡ DONE) × (answered.state.session.out ≡ Some (as_fetched out))
Suits (Some (Wake rows minds)) answered = ⊥
Suits _ answered = ⊤

-- ---- each instruction

reports_suit : (read : Option Envelope) (answered : Answered) → Suits (option_map (λ envelope. Report envelope) read) answered
reports_suit None answered = tt
reports_suit (Some envelope) answered = tt

replies_suit : (out : Outstanding) (reply : Option Reply) (answered : Answered) → Suits (option_map (λ each. Respond out each) reply) answered
replies_suit out None answered = tt
replies_suit out (Some reply) answered = tt

responses_suit : (bytes : List ℕ) (held : Option Outstanding) (answered : Answered) → Suits (option_and_then (λ out. option_map (λ reply. Respond out reply) (reply_to out bytes)) held) answered
responses_suit bytes None answered = tt
responses_suit bytes (Some out) answered = replies_suit out (reply_to out bytes) answered

rows_suit : (row : Result Registration RowFault) (answered : Answered) → Suits (if_row row) answered
rows_suit (Ok row) answered = tt
rows_suit (Err fault) answered = tt

-- Le asks for all bytes of the command
all_asked : (expected : Option ℕ) (body : List ℕ) → is_length_of body (unwrap_or expected 0) ≡ true → length body ≤ 256 → cut_to expected body ≡ body
all_asked None body asks few = refl
all_asked (Some most) body asks few = by_first (most == 256) (most == length body) refl refl asks where
  by_first : (first second : Bool) → (most == 256) ≡ first → (most == length body) ≡ second → (first || second) ≡ true → take most body ≡ body
  by_first true second is same asks = let all : most ≡ 256 = eqb-true most 256 is in take_all most body (omega (arith, few, all))
  by_first false true is same asks = let all : most ≡ length body = eqb-true most (length body) same in take_all most body (omega (arith, all))
  by_first false false is same asks = cc

fetches_suit : (card : CardState) (apdu : Apdu) → MatchResult (command_fetched card apdu) (λ done. Suits (option_map (λ out. Fetch out) (unfetched card.session)) (cut_answer apdu.expected (on_toolkit card done))) Any
unfolding command_fetched fetched
fetches_suit card apdu =
    let P : ToolkitOutcome → Type 0 = λ done. Suits (option_map (λ out. Fetch out) (unfetched card.session)) (cut_answer apdu.expected (on_toolkit card done)) in
    past P _ _ _ (past P _ _ _ (given_so P Any (unfetched card.session) _ _ tt (λ out is. unless_so P Any _ _ _ tt (λ asks.
    subst (λ (found : Option Outstanding). Suits (option_map (λ each. Fetch each) found) (cut_answer apdu.expected (on_toolkit card (coming_to card (command_bytes out) (fetched out (toolkit_of card)))))) (sym is)
    (all_asked apdu.expected (command_bytes out) (not-false _ asks), refl, refl)))))

module _ (card : CardState) (apdu : Apdu) where
  abbrev S : Option ToolkitInput → Result Answered StatusWord → Type 0
  S command result = MatchResult result (Suits command) Any

  always : (command : Option ToolkitInput) → ((answered : Answered) → Suits command answered) → (result : Result Answered StatusWord) → S command result
  always command suits (Err status) = tt
  always command suits (Ok answered) = suits answered

  of_fetch : (command : Option ToolkitInput) (outcome : Result ToolkitOutcome StatusWord) → MatchResult outcome (λ done. Suits command (cut_answer apdu.expected (on_toolkit card done))) Any
      → S command (cut_result apdu.expected (and_given (toolkit_tried card outcome) (λ answered. Ok answered)))
  unfolding and_given
  of_fetch command (Err status) suits = tt
  of_fetch command (Ok outcome) suits = suits

  carried_suits : (instruction : Instruction) → S (command_by instruction card apdu) (cut_result apdu.expected (carried_with true instruction card apdu))
  unfolding carried_out toolkit_outcome
  carried_suits (File file.Status) = always (Some Status) (λ answered. tt) _
  carried_suits (Toolkit toolkit.TerminalProfile) = always (Some (Profile apdu.body)) (λ answered. tt) _
  carried_suits (Toolkit toolkit.Fetch) = of_fetch (option_map (λ out. Fetch out) (unfetched card.session)) (command_fetched card apdu) (fetches_suit card apdu)
  carried_suits (Toolkit toolkit.TerminalResponse) = always _ (responses_suit apdu.body (unanswered card.session)) _
  carried_suits (Toolkit toolkit.Envelope) = always _ (reports_suit (envelope_of apdu.body)) _
  carried_suits (Toolkit toolkit.InstallApplet) = always _ (rows_suit (installed_row card.persistent (kind_in card apdu.p2) apdu.p2 apdu.p1 apdu.body)) _
  carried_suits (Toolkit toolkit.DeleteApplet) = always (Some (Delete apdu.p2)) (λ answered. tt) _
  carried_suits _ = always None (λ answered. tt) _

  by_carried : (command : Option ToolkitInput) (result : Result Answered StatusWord) → S command (cut_result apdu.expected result) → Suits (if_carried result command) (settled card (cut_result apdu.expected result))
  unfolding and_given
  by_carried command (Err status) suits = tt
  by_carried command (Ok answered) suits = suits

-- ---- the answer

pub taken_suits : (knows : Instruction → Bool) (card : CardState) (bytes : List ℕ) → has_toolkit knows ≡ true → Suits (taken knows card bytes) (settled card (tried knows card bytes))
taken_suits knows card bytes runs =
    of_taken knows card bytes runs (λ command result. Suits command (settled card result)) (all_so _ (λ status. tt))
    (λ apdu instruction read. by_carried card apdu (command_by instruction card apdu) (carried_with true instruction card apdu) (carried_suits card apdu instruction))

-- no other command is to be fetched
fetch_told : (out : Outstanding) (answered : Answered) → length (command_bytes out) ≤ 256 → Suits (Some (Fetch out)) answered → GivesCommand out (with_pending answered)
fetch_told out answered few is = record {
  body = is.0 few;
  status = ap (λ (held : Option Outstanding). told_pending (option_map (λ (each : Outstanding). length (command_bytes each)) (if_fetched false held)) answered.status) is.2 ∙ is.1;
  awaits = ap (if_fetched true) is.2;
}

pub fetch_gives : (knows : Instruction → Bool) (card : CardState) (bytes : List ℕ) (out : Outstanding) → has_toolkit knows ≡ true → length (command_bytes out) ≤ 256 → taken knows card bytes ≡ Some (Fetch out) → GivesCommand out (answer_of knows card bytes)
unfolding answer_of
fetch_gives knows card bytes out runs few is =
    fetch_told out (settled card (tried knows card bytes)) few (subst (λ (command : Option ToolkitInput). Suits command (settled card (tried knows card bytes))) is (taken_suits knows card bytes runs))

-- ---- a FETCH that was carried out

pub fetch_carried_out : GoodCardsHaveOrder → AnswersGoOn → (knows : Instruction → Bool) (card : CardState) (bytes : List ℕ) → has_toolkit knows ≡ true → IsGood card → AreBytes bytes → ins_of bytes ≡ 0x12
    → is_carried_out (answer_of knows card bytes).status ≡ true → FetchesCommand knows card bytes
fetch_carried_out order goes knows card bytes runs good are named done =
    let fetch : IsFetch (taken knows card bytes) = (answer_names knows card bytes runs good are).fetch named done in
    let went : GoesOnBy (Fetch fetch.0) card (answer_of knows card bytes) =
    subst (λ (command : Option ToolkitInput). GoesOn command card (answer_of knows card bytes)) fetch.1 (goes knows card bytes runs (order card good)) in
    record { out = fetch.0; waits = went.accepted; is = fetch.1; gives = fetch_gives knows card bytes fetch.0 runs (omega (arith, few_fetched card.session fetch.0 good.session.underway.out_sendable went.accepted)) fetch.1 }

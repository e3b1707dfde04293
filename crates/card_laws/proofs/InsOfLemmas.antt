-- By which instruction byte a command of the toolkit is known, where it is carried out.
use Rattle.std.proofs.Common.{◌≡◌, ℕ, ◌+◌, ◌≤◌, Bool, true, false, List, length, Option, Some, None, Result, Ok, Err, refl, sym, ◌∙◌, ap, subst, arith, option_and_then, ◌==◌, ◌||◌, ◌/◌, MatchResult, option_map, if◌then◌else◌}
use Rattle.std.proofs.lemmas.Bool.{false≢true, eq-eqb, eqb-true, ne_eqb}
use Rattle.uicc_types.specs.Told.{AreBytes}
use Rattle.uicc_types.specs.declared.answers.StatusWord.{StatusWord}
use Rattle.uicc_types.specs.declared.answers.TheConstants.StatusWord.{DONE, END_OF_FILE, FILE_DEACTIVATED}
use Rattle.apdu_form.specs.Model.{Apdu}
use Rattle.card_state.specs.Persistent.{Registration}
use Rattle.file_model.specs.Chains.{and_given}
use Rattle.file_model.specs.Records.{other_length}
use Rattle.file_model.proofs.ChainsLemmas.{unless_so, given_so}
use Rattle.apdu_form.specs.Classes.{family}
use Rattle.file_model.specs.declared.commands.FileCommand.TheVariants as file
use Rattle.toolkit_commands.specs.Envelopes.{envelope_of}
use Rattle.toolkit_commands.specs.declared.envelopes.Envelope.{Envelope}
use Rattle.toolkit_commands.specs.declared.responses.Response.{Response as Reply}
use Rattle.toolkit_model.specs.declared.faults.RowFault.{RowFault}
use Rattle.toolkit_model.specs.Sessions.{Outstanding}
use Rattle.toolkit_model.specs.Commands.{unfetched, unanswered, reply_to, command_bytes, pending}
use Rattle.toolkit_model.specs.Registry.{installed_row}
use Rattle.toolkit_model.specs.Steps.{ToolkitInput, Profile, Status, Report, Fetch, Respond, Delete}
use Rattle.card_model.specs.Answers.{Answered, settled, told_pending, with_pending, toolkit_tried, carried_out, carried_with, answer_of, is_carried_out}
use Rattle.card_model.proofs.TriedLemmas.{cut_result, command_is}
use Rattle.card_model.specs.Instructions.{has_toolkit}
use Rattle.card_model.proofs.RowNamedLemmas.{IsNamed, named_so}
use Rattle.card_model.specs.States.{CardState, IsGood}
use Rattle.card_model.specs.Toolkit.{ToolkitOutcome, kind_in, command_fetched, response_taken, toolkit_outcome}
use Rattle.card_model.specs.declared.instructions.Instruction.{Instruction}
use Rattle.card_model.specs.declared.instructions.Instruction.TheVariants.{File, Toolkit}
use Rattle.card_model.specs.declared.instructions.CatCommand.TheVariants as toolkit
use Rattle.card_laws.specs.Moving.{if_row, command_by, if_carried, taken}
use Rattle.card_laws.proofs.TakenLemmas.{of_taken}
use Rattle.card_laws.specs.Staying.{LeavesUnanswered}
use Rattle.card_laws.specs.Traces.{ins_of}
use Rattle.card_laws.proofs.IsStatusLemmas.{few_fetched}

-- ---- refusals

abbrev pub IsRefusal : StatusWord → Type 0
IsRefusal status = is_carried_out status ≡ false

none_of_four : (a b c d : Bool) → a ≡ false → b ≡ false → c ≡ false → d ≡ false → (a || b || c || d) ≡ false
none_of_four true b c d first second third fourth = absurd (false≢true (sym first))
none_of_four false true c d first second third fourth = absurd (false≢true (sym second))
none_of_four false false true d first second third fourth = absurd (false≢true (sym third))
none_of_four false false false d first second third fourth = fourth

-- `6CXX`
pub length_refused : (count : ℕ) → count ≤ 255 → IsRefusal (other_length count)
length_refused count few =
    none_of_four ((other_length count).0 == DONE.0) ((other_length count).0 / 256 == 0x91) ((other_length count).0 == END_OF_FILE.0) ((other_length count).0 == FILE_DEACTIVATED.0)
    (ne_eqb _ _ (λ is. omega (arith, is, few))) (ne_eqb _ _ (λ is. omega (arith, is, few))) (ne_eqb _ _ (λ is. omega (arith, is, few))) (ne_eqb _ _ (λ is. omega (arith, is, few)))

first_false : (a b c d : Bool) → (a || b || c || d) ≡ false → a ≡ false
first_false true b c d is = absurd (false≢true (sym is))
first_false false b c d is = refl

-- a refusal is told as it is
pub told_refused : (count : Option ℕ) (status : StatusWord) → IsRefusal status → IsRefusal (told_pending count status)
told_refused None status is = is
told_refused (Some count) status is =
    by_done (status.0 == DONE.0) (first_false (status.0 == DONE.0) (status.0 / 256 == 0x91) (status.0 == END_OF_FILE.0) (status.0 == FILE_DEACTIVATED.0) is) where
      by_done : (b : Bool) → b ≡ false → IsRefusal (if b then record { 0 = 0x9100 + count } else status)
      by_done true done = absurd (false≢true (sym done))
      by_done false done = is

fetch_so : (card : CardState) (apdu : Apdu) → IsGood card → MatchResult (command_fetched card apdu) (λ outcome. (out : Outstanding) × (unfetched card.session ≡ Some out)) IsRefusal
unfolding command_fetched
fetch_so card apdu good =
    let P : ToolkitOutcome → Type 0 = λ outcome. (out : Outstanding) × (unfetched card.session ≡ Some out) in
    unless_so P IsRefusal _ _ _ refl (λ _.
    unless_so P IsRefusal _ _ _ refl (λ _.
    given_so P IsRefusal (unfetched card.session) _ _ refl (λ out is.
    unless_so P IsRefusal _ _ _ (length_refused (length (command_bytes out)) (few_fetched card.session out good.session.underway.out_sendable is)) (λ _. (out, is)))))

abbrev Responds : CardState → Apdu → Type 0
Responds card apdu = (out : Outstanding) × (reply : Reply) × (unanswered card.session ≡ Some out) × (reply_to out apdu.body ≡ Some reply)

response_so : (card : CardState) (apdu : Apdu) → MatchResult (response_taken card apdu) (λ outcome. Responds card apdu) IsRefusal
unfolding response_taken
response_so card apdu =
    let P : ToolkitOutcome → Type 0 = λ outcome. Responds card apdu in
    unless_so P IsRefusal _ _ _ refl (λ _.
    unless_so P IsRefusal _ _ _ refl (λ _.
    given_so P IsRefusal (unanswered card.session) _ _ refl (λ out is.
    given_so P IsRefusal (reply_to out apdu.body) _ _ refl (λ reply answers. (out, reply, is, answers)))))

-- ---- which command is taken

-- those that the byte names
abbrev is_fetch : Instruction → Bool
is_fetch (Toolkit toolkit.Fetch) = true
is_fetch _ = false

abbrev is_response : Instruction → Bool
is_response (Toolkit toolkit.TerminalResponse) = true
is_response _ = false

abbrev TellsBoth : Instruction → ℕ → ℕ → Type 0
TellsBoth instruction class ins = (is_fetch instruction ≡ (ins == 0x12)) × (is_response instruction ≡ (ins == 0x14))

both_told : (knows : Instruction → Bool) (class ins : ℕ) (instruction : Instruction) → IsNamed knows class ins instruction → TellsBoth instruction class ins
both_told =
    named_so TellsBoth
    ((refl, refl), ((refl, refl), ((refl, refl), ((refl, refl), ((refl, refl), ((refl, refl), ((refl, refl), ((refl, refl), ((refl, refl), ((refl, refl), ((refl, refl), ((refl, refl), ((refl, refl), ((refl, refl), ((refl, refl), ((refl, refl), ((refl, refl), ((refl, refl), ((refl, refl), ((refl, refl), ((refl, refl), ((refl, refl), ((refl, refl), ((refl, refl), ((refl, refl), tt)))))))))))))))))))))))))

abbrev pub IsFetch : Option ToolkitInput → Type 0
IsFetch command = (out : Outstanding) × (command ≡ Some (Fetch out))

abbrev pub IsResponse : Option ToolkitInput → Type 0
IsResponse command = (out : Outstanding) × (reply : Reply) × (command ≡ Some (Respond out reply))

-- By its byte, where it is carried out: FETCH is fetching, TERMINAL RESPONSE is responding, and no other is either.
pub record Names (ins : ℕ) (command : Option ToolkitInput) (status : StatusWord) : Type 0 where
  pub fetch : ins ≡ 0x12 → is_carried_out status ≡ true → IsFetch command
  pub response : ins ≡ 0x14 → is_carried_out status ≡ true → IsResponse command
  pub other : (ins ≡ 0x12 → ⊥) → (ins ≡ 0x14 → ⊥) → LeavesUnanswered command

abbrev NamesIn : CardState → ℕ → Option ToolkitInput → Result Answered StatusWord → Type 0
NamesIn card ins command result = Names ins command (with_pending (settled card result)).status

refused_names : (card : CardState) (ins : ℕ) (status : StatusWord) → IsRefusal status → NamesIn card ins None (Err status)
refused_names card ins status is =
    let told : IsRefusal (told_pending (pending card.session) status) = told_refused (pending card.session) status is in
    record { fetch = λ same done. absurd (false≢true (sym told ∙ done)); response = λ same done. absurd (false≢true (sym told ∙ done)); other = λ no_fetch no_response. tt }

-- a command that is carried out or not leaves unanswered what it leaves where it is
pub other_if : (result : Result Answered StatusWord) (command : Option ToolkitInput) → LeavesUnanswered command → LeavesUnanswered (if_carried result command)
other_if (Ok answered) command is = is
other_if (Err status) command is = tt

other_names : (card : CardState) (ins : ℕ) (result : Result Answered StatusWord) (command : Option ToolkitInput) → false ≡ (ins == 0x12) → false ≡ (ins == 0x14) → LeavesUnanswered command → NamesIn card ins (if_carried result command) result
other_names card ins result command no_fetch no_response other = record {
  fetch = λ same done. absurd (false≢true (no_fetch ∙ eq-eqb ins 0x12 same));
  response = λ same done. absurd (false≢true (no_response ∙ eq-eqb ins 0x14 same));
  other = λ not_fetch not_response. other_if result command other;
}

pub report_leaves : (found : Option Envelope) → LeavesUnanswered (option_map (λ envelope. Report envelope) found)
report_leaves None = tt
report_leaves (Some envelope) = tt

installs : (found : Result Registration RowFault) → LeavesUnanswered (if_row found)
installs (Ok row) = tt
installs (Err fault) = tt

fetch_names : (card : CardState) (ins : ℕ) → 0x12 ≡ ins → (outcome : Result ToolkitOutcome StatusWord) → MatchResult outcome (λ done. (out : Outstanding) × (unfetched card.session ≡ Some out)) IsRefusal
    → let result : Result Answered StatusWord = and_given (toolkit_tried card outcome) (λ answered. Ok answered) in NamesIn card ins (if_carried result (option_map (λ out. Fetch out) (unfetched card.session))) result
unfolding and_given
fetch_names card ins byte (Err status) is = refused_names card ins status is
fetch_names card ins byte (Ok outcome) is = record {
  fetch = λ same done. (is.0, ap (option_map (λ out. Fetch out)) is.1);
  response = λ same done. absurd (omega (arith, byte, same));
  other = λ no_fetch no_response. absurd (no_fetch (sym byte));
}

response_names : (card : CardState) (apdu : Apdu) (ins : ℕ) → 0x14 ≡ ins → (outcome : Result ToolkitOutcome StatusWord) → MatchResult outcome (λ done. Responds card apdu) IsRefusal
    → let result : Result Answered StatusWord = and_given (toolkit_tried card outcome) (λ answered. Ok answered) in
    NamesIn card ins (if_carried result (option_and_then (λ out. option_map (λ reply. Respond out reply) (reply_to out apdu.body)) (unanswered card.session))) result
unfolding and_given
response_names card apdu ins byte (Err status) is = refused_names card ins status is
response_names card apdu ins byte (Ok outcome) is = record {
  fetch = λ same done. absurd (omega (arith, byte, same));
  response = λ same done. (
    is.0,
    is.1,
    ap (λ (found : Option Outstanding). option_and_then (λ out. option_map (λ reply. Respond out reply) (reply_to out apdu.body)) found) is.2 ∙ ap (option_map (λ reply. Respond is.0 reply)) is.3,
  );
  other = λ no_fetch no_response. absurd (no_response (sym byte));
}

module _ (card : CardState) (good : IsGood card) (apdu : Apdu) where
  abbrev result : Instruction → Result Answered StatusWord
  result instruction = carried_with true instruction card apdu

  carried_names : (instruction : Instruction) → TellsBoth instruction 0 apdu.ins → NamesIn card apdu.ins (if_carried (result instruction) (command_by instruction card apdu)) (result instruction)
  unfolding carried_out toolkit_outcome
  carried_names (File file.Status) is = other_names card apdu.ins _ (Some Status) is.0 is.1 tt
  carried_names (Toolkit toolkit.TerminalProfile) is = other_names card apdu.ins _ (Some (Profile apdu.body)) is.0 is.1 tt
  carried_names (Toolkit toolkit.Fetch) is = fetch_names card apdu.ins (sym (eqb-true apdu.ins 0x12 (sym is.0))) (command_fetched card apdu) (fetch_so card apdu good)
  carried_names (Toolkit toolkit.TerminalResponse) is = response_names card apdu apdu.ins (sym (eqb-true apdu.ins 0x14 (sym is.1))) (response_taken card apdu) (response_so card apdu)
  carried_names (Toolkit toolkit.Envelope) is = other_names card apdu.ins _ _ is.0 is.1 (report_leaves (envelope_of apdu.body))
  carried_names (Toolkit toolkit.InstallApplet) is = other_names card apdu.ins _ _ is.0 is.1 (installs (installed_row card.persistent (kind_in card apdu.p2) apdu.p2 apdu.p1 apdu.body))
  carried_names (Toolkit toolkit.DeleteApplet) is = other_names card apdu.ins _ (Some (Delete apdu.p2)) is.0 is.1 tt
  carried_names _ is = other_names card apdu.ins _ None is.0 is.1 tt

cut_names : (card : CardState) (ins : ℕ) (command : Option ToolkitInput) (expected : Option ℕ) (result : Result Answered StatusWord) → NamesIn card ins command result → NamesIn card ins command (cut_result expected result)
unfolding and_given
cut_names card ins command expected (Err status) names = names
cut_names card ins command expected (Ok answered) names = names

pub answer_names : (knows : Instruction → Bool) (card : CardState) (bytes : List ℕ) → has_toolkit knows ≡ true → IsGood card → AreBytes bytes → Names (ins_of bytes) (taken knows card bytes) (answer_of knows card bytes).status
unfolding answer_of
answer_names knows card bytes runs good are =
    let refused : (status : StatusWord) → IsRefusal status → NamesIn card (ins_of bytes) None (Err status) = refused_names card (ins_of bytes) in
    of_taken knows card bytes runs (NamesIn card (ins_of bytes)) (record {
      length_is = refused _ refl;
      class_is = refused _ refl;
      secure_is = refused _ refl;
      channel_is = refused _ refl;
      instruction_is = refused _ refl;
    })
    (λ apdu instruction read.
    let result : Result Answered StatusWord = carried_with true instruction card apdu in
    let command : Option ToolkitInput = if_carried result (command_by instruction card apdu) in
    cut_names card (ins_of bytes) command apdu.expected result
    (subst (λ (ins : ℕ). NamesIn card ins command result) (sym (ap ins_of (command_is bytes apdu are read.read).spelling)) (carried_names card good apdu instruction (both_told knows (family apdu.class) apdu.ins instruction read.named))))

-- A command of the toolkit that is carried out is taken.
use Rattle.std.proofs.Common.{◌≡◌, ◌⊎◌, inl, inr, ℕ, Bool, true, false, List, length, Option, Some, None, Result, Ok, Err, refl, sym, ◌∙◌, ap, MatchResult, is_some, option_map, option_and_then}
use Rattle.std.specs.Prelude.{⊤}
use Rattle.std.proofs.lemmas.Bool.{false≢true}
use Rattle.uicc_types.specs.declared.answers.StatusWord.{StatusWord}
use Rattle.uicc_types.specs.declared.answers.TheConstants.StatusWord.{WRONG_LENGTH, NO_SUCH_CLASS, NO_SECURE_MESSAGING, NO_SUCH_CHANNEL, NO_SUCH_INSTRUCTION}
use Rattle.apdu_form.specs.Model.{Apdu}
use Rattle.card_state.specs.Persistent.{Registration}
use Rattle.access_rules.specs.declared.rules.Verified.{Verified}
use Rattle.file_model.specs.Chains.{refused_if, and_given}
use Rattle.file_model.specs.Commands.{file_outcome}
use Rattle.file_model.specs.Outcomes.{FileOutcome}
use Rattle.file_model.specs.Selecting.{status_told}
use Rattle.file_model.proofs.ChainsLemmas.{unless_so, given_so}
use Rattle.apdu_form.specs.Classes.{channel_of}
use Rattle.file_model.specs.declared.commands.FileCommand.TheVariants as file
use Rattle.toolkit_commands.specs.Envelopes.{envelope_of}
use Rattle.toolkit_model.specs.declared.faults.RowFault.{RowFault}
use Rattle.toolkit_model.specs.declared.faults.RowFault.TheVariants.{BadData, NoBox, Narrow, Taken, MenuFull, Spent, NoRow, NotIdle}
use Rattle.toolkit_model.specs.Commands.{unfetched, unanswered, reply_to, command_bytes, pending}
use Rattle.toolkit_model.specs.Registry.{installed_row}
use Rattle.toolkit_model.specs.Steps.{ToolkitInput, Status, Report, Fetch, Respond}
use Rattle.card_model.specs.Answers.{Answered, settled, with_pending, file_tried, toolkit_tried, selection_on, seen_by, then_polled, carried_out, carried_with, answer_of, is_carried_out}
use Rattle.card_model.proofs.TriedLemmas.{cut_result, IsRead}
use Rattle.card_model.specs.Instructions.{has_toolkit}
use Rattle.card_model.specs.States.{CardState, IsGood}
use Rattle.card_model.specs.Toolkit.{ToolkitOutcome, kind_in, row_status, row_or_status, profile_taken, command_fetched, response_taken, envelope_taken, applet_installed, applet_deleted, toolkit_outcome}
use Rattle.card_model.specs.declared.instructions.Instruction.{Instruction}
use Rattle.card_model.specs.declared.instructions.Instruction.TheVariants.{File, Toolkit}
use Rattle.card_model.specs.declared.instructions.CatCommand.{CatCommand}
use Rattle.card_model.specs.declared.instructions.CatCommand.TheVariants as toolkit
use Rattle.card_laws.specs.Moving.{if_row, command_of, command_by, if_carried, taken}
use Rattle.card_laws.specs.Taking.{moves_toolkit, TakesWhatItReads}
use Rattle.card_laws.proofs.InsOfLemmas.{IsRefusal, length_refused, told_refused}
use Rattle.card_laws.proofs.TakenLemmas.{of_taken}
use Rattle.card_laws.proofs.IsStatusLemmas.{few_fetched}

-- ---- rows

row_refused : (fault : RowFault) → IsRefusal (row_status fault)
row_refused BadData = refl
row_refused NoBox = refl
row_refused Narrow = refl
row_refused Taken = refl
row_refused MenuFull = refl
row_refused Spent = refl
row_refused NoRow = refl
row_refused NotIdle = refl

row_so : (P : Result Registration RowFault → Type 0) → ((row : Registration) → P (Ok row)) → (found : Result Registration RowFault) (outcome : Registration → ToolkitOutcome)
    → MatchResult (and_given (row_or_status found) (λ row. Ok (outcome row))) (λ done. P found) IsRefusal
unfolding and_given
row_so P holds (Ok row) outcome = holds row
row_so P holds (Err fault) outcome = row_refused fault

-- ---- each instruction

-- where it is done there is a command of the toolkit, and else it is refused
abbrev IsOne : Option ToolkitInput → Result ToolkitOutcome StatusWord → Type 0
IsOne command outcome = MatchResult outcome (λ done. is_some command ≡ true) IsRefusal

-- where it is carried out there is one if its instruction is of the toolkit; else it is none of those, or refused
abbrev Comes : Bool → Option ToolkitInput → Result Answered StatusWord → Type 0
Comes moves command result =
    MatchResult result (λ answered. moves ≡ true → is_some command ≡ true) (λ status. ((command ≡ None) × (moves ≡ false)) ⊎ IsRefusal status)

module _ (card : CardState) (apdu : Apdu) where
  past : (P : Type 0) (bad : Bool) (status : StatusWord) (next : Result ToolkitOutcome StatusWord) → IsRefusal status → MatchResult next (λ done. P) IsRefusal → MatchResult (refused_if bad status next) (λ done. P) IsRefusal
  past P bad status next refused rest = unless_so (λ done. P) IsRefusal bad status next refused (λ _. rest)

  pub outcome_is : IsGood card → (seen : Verified) (command : CatCommand) → IsOne (command_of command card apdu) (toolkit_outcome command card seen apdu)
  unfolding toolkit_outcome profile_taken command_fetched response_taken envelope_taken applet_installed applet_deleted
  outcome_is good seen toolkit.TerminalProfile = past (true ≡ true) _ _ _ refl (past (true ≡ true) _ _ _ refl refl)
  outcome_is good seen toolkit.Fetch =
      let P : Type 0 = is_some (option_map (λ out. Fetch out) (unfetched card.session)) ≡ true in
      past P _ _ _ refl (past P _ _ _ refl (given_so (λ done. P) IsRefusal (unfetched card.session) _ _ refl (λ out is.
      past P _ _ _ (length_refused (length (command_bytes out)) (few_fetched card.session out good.session.underway.out_sendable is)) (ap (λ found. is_some (option_map (λ each. Fetch each) found)) is))))
  outcome_is good seen toolkit.TerminalResponse =
      let P : Type 0 = is_some (option_and_then (λ out. option_map (λ reply. Respond out reply) (reply_to out apdu.body)) (unanswered card.session)) ≡ true in
      past P _ _ _ refl (past P _ _ _ refl (
      given_so (λ done. P) IsRefusal (unanswered card.session) _ _ refl (λ out is.
      given_so (λ done. P) IsRefusal (reply_to out apdu.body) _ _ refl (λ reply answers.
      ap (λ found. is_some (option_and_then (λ each. option_map (λ said. Respond each said) (reply_to each apdu.body)) found)) is ∙ ap (λ found. is_some (option_map (λ said. Respond out said) found)) answers))))
  outcome_is good seen toolkit.Envelope =
      let P : Type 0 = is_some (option_map (λ envelope. Report envelope) (envelope_of apdu.body)) ≡ true in
      past P _ _ _ refl (past P _ _ _ refl (given_so (λ done. P) IsRefusal (envelope_of apdu.body) _ _ refl (λ envelope is.
      past P _ _ _ refl (ap (λ found. is_some (option_map (λ each. Report each) found)) is))))
  outcome_is good seen toolkit.InstallApplet =
      let found : Result Registration RowFault = installed_row card.persistent (kind_in card apdu.p2) apdu.p2 apdu.p1 apdu.body in
      let P : Type 0 = is_some (if_row found) ≡ true in
      past P _ _ _ refl (past P _ _ _ refl (past P _ _ _ refl (row_so (λ each. is_some (if_row each) ≡ true) (λ row. refl) found _)))
  outcome_is good seen toolkit.DeleteApplet = past (true ≡ true) _ _ _ refl (past (true ≡ true) _ _ _ refl (past (true ≡ true) _ _ _ refl (row_so (λ each. true ≡ true) (λ row. refl) _ _)))

  status_is : MatchResult (status_told card.persistent (selection_on card (channel_of apdu.class)) apdu) (λ done. ⊤) IsRefusal
  unfolding status_told
  status_is =
      let P : FileOutcome → Type 0 = λ done. ⊤ in
      unless_so P IsRefusal _ _ _ refl (λ _.
      unless_so P IsRefusal _ _ _ refl (λ _.
      given_so P IsRefusal _ _ _ refl (λ file _. tt)))

  -- ---- what comes of each

  other_comes : (result : Result Answered StatusWord) → Comes false None result
  other_comes (Ok answered) = λ moves. absurd (false≢true moves)
  other_comes (Err status) = inl (refl, refl)

  toolkit_comes : (command : Option ToolkitInput) (outcome : Result ToolkitOutcome StatusWord) → IsOne command outcome → Comes true command (and_given (toolkit_tried card outcome) (λ answered. Ok answered))
  unfolding and_given
  toolkit_comes command (Ok outcome) is = λ moves. is
  toolkit_comes command (Err status) is = inr is

  status_comes : (outcome : Result FileOutcome StatusWord) → MatchResult outcome (λ done. ⊤) IsRefusal → Comes true (Some Status) (and_given (file_tried card apdu outcome) (λ answered. Ok (then_polled answered)))
  unfolding and_given
  status_comes (Ok outcome) is = λ moves. refl
  status_comes (Err status) is = inr is

  carried_comes : IsGood card → (instruction : Instruction) → Comes (moves_toolkit instruction) (command_by instruction card apdu) (carried_with true instruction card apdu)
  unfolding carried_out file_outcome
  carried_comes good (File file.Status) = status_comes (status_told card.persistent (selection_on card (channel_of apdu.class)) apdu) status_is
  carried_comes good (Toolkit command) = toolkit_comes (command_of command card apdu) _ (outcome_is good (seen_by card) command)
  carried_comes good _ = other_comes _

-- ---- the answer

abbrev IsDone : CardState → Result Answered StatusWord → Type 0
IsDone card result = is_carried_out (with_pending (settled card result)).status ≡ true

not_done : (card : CardState) (status : StatusWord) → IsRefusal status → IsDone card (Err status) → ⊥
not_done card status is done = false≢true (sym (told_refused (pending card.session) status is) ∙ done)

-- it is taken as what it is
record IsTaken (moves : Bool) (command found : Option ToolkitInput) : Type 0 where
  takes : found ≡ command
  is_one : moves ≡ true → is_some command ≡ true

by_carried : (card : CardState) (moves : Bool) (command : Option ToolkitInput) (expected : Option ℕ) (result : Result Answered StatusWord) → Comes moves command result → IsDone card (cut_result expected result)
    → IsTaken moves command (if_carried result command)
unfolding and_given
by_carried card moves command expected (Ok answered) comes done = record { takes = refl; is_one = comes }
by_carried card moves command expected (Err status) (inr refused) done = absurd (not_done card status refused done)
by_carried card moves command expected (Err status) (inl none) done = record { takes = sym none.0; is_one = λ now. absurd (false≢true (sym none.1 ∙ now)) }

-- so of what was read
record TakesSo (knows : Instruction → Bool) (card : CardState) (bytes : List ℕ) (found : Option ToolkitInput) : Type 0 where
  apdu : Apdu
  instruction : Instruction
  read : IsRead knows card bytes apdu instruction
  is : IsTaken (moves_toolkit instruction) (command_by instruction card apdu) found

pub carried_taken : (knows : Instruction → Bool) (card : CardState) (bytes : List ℕ) → has_toolkit knows ≡ true → IsGood card → is_carried_out (answer_of knows card bytes).status ≡ true → TakesWhatItReads knows card bytes
unfolding answer_of
carried_taken knows card bytes runs good done =
    let so : TakesSo knows card bytes (taken knows card bytes) =
    of_taken knows card bytes runs (λ found result. IsDone card result → TakesSo knows card bytes found) (record {
      length_is = λ is. absurd (not_done card WRONG_LENGTH refl is);
      class_is = λ is. absurd (not_done card NO_SUCH_CLASS refl is);
      secure_is = λ is. absurd (not_done card NO_SECURE_MESSAGING refl is);
      channel_is = λ is. absurd (not_done card NO_SUCH_CHANNEL refl is);
      instruction_is = λ is. absurd (not_done card NO_SUCH_INSTRUCTION refl is);
    })
    (λ apdu instruction read is. record {
      apdu = apdu;
      instruction = instruction;
      read = read;
      is = by_carried card (moves_toolkit instruction) (command_by instruction card apdu) apdu.expected (carried_with true instruction card apdu) (carried_comes card apdu good instruction) is;
    }) done in
    record { apdu = so.apdu; instruction = so.instruction; read = so.read.read; named = so.read.tried_is; takes = so.is.takes; is_one = so.is.is_one }

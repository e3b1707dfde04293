-- The laws of answers where applets run, from what each command comes to.
use Rattle.std.proofs.Common.{◌≡◌, inl, inr, ℕ, ◌≤◌, Bool, true, false, List, [], ◌∷◌, ◌++◌, map, length, Option, Some, Result, Ok, Err, refl, sym, ◌∙◌, ap, subst, arith, MatchResult, MatchBool, IfSome}
use Rattle.std.specs.Prelude.{⊤}
use Rattle.std.proofs.lemmas.Bool.{false≢true}
use Rattle.uicc_types.specs.Told.{AreBytes}
use Rattle.uicc_types.specs.declared.answers.StatusWord.{StatusWord}
use Rattle.uicc_types.specs.declared.answers.TheConstants.StatusWord.{DONE}
use Rattle.apdu_form.specs.Model.{Apdu, IsCommand}
use Rattle.card_state.specs.Persistent.{Persistent, Registration}
use Rattle.file_model.specs.Chains.{and_given}
use Rattle.file_model.specs.Commands.{file_outcome}
use Rattle.file_model.specs.Laws.{EachStep}
use Rattle.file_model.specs.Outcomes.{FileOutcome, last_of}
use Rattle.file_model.specs.Selecting.{status_told}
use Rattle.apdu_form.specs.Classes.{family, channel_of}
use Rattle.file_model.specs.declared.commands.FileCommand.TheVariants as file
use Rattle.toolkit_model.specs.Commands.{polled, pending}
use Rattle.toolkit_model.specs.Passing.{passed_rows}
use Rattle.card_model.specs.Answers.{Answered, refused, settled, told_pending, with_pending, on_toolkit, file_tried, toolkit_tried, then_polled, selection_on, carried_out, carried_with, cut_answer, seen_by, tried, answer_of, is_carried_out, refusal}
use Rattle.card_model.specs.Chained.{Any}
use Rattle.card_model.proofs.TriedLemmas.{cut_so, cut_low, command_is}
use Rattle.card_model.specs.Instructions.{has_toolkit, is_of_tree}
use Rattle.card_model.proofs.RowNamedLemmas.{tree_named}
use Rattle.card_model.specs.Laws.{ChangesOneThing, ChangesAtMostTries, is_of_tree_named, key_named, IsStatusOf, IsLawfulAnswer, CommandsAreLawful, PlainRefusalsChangeTriesAndMarkAlone}
use Rattle.card_model.proofs.ToldPendingLemmas.{pending_few, told_so, told_same}
use Rattle.card_model.specs.States.{CardState, IsGood}
use Rattle.card_model.specs.Toolkit.{ToolkitOutcome, toolkit_of, coming_to, with_rows, states_passed}
use Rattle.card_model.specs.declared.instructions.Instruction.{Instruction}
use Rattle.card_model.proofs.IsLawfulAnswerLemmas.{not_carried}
use Rattle.card_model.proofs.IsCountedLemmas.{last_joined}
use Rattle.card_model.proofs.AnswersLemmas.{each_too}
use Rattle.card_model.specs.declared.instructions.Instruction.TheVariants.{File, Toolkit}
use Rattle.card_laws.specs.Lawful.{IsStatus, ChangesOnePart, IsLawfulWithApplets, AnswersAreLawful}
use Rattle.card_laws.proofs.GoesOnLemmas.{IsDone, status_done}
use Rattle.card_laws.proofs.IsGoodLemmas.{IsWell}
use Rattle.card_laws.proofs.IsStatusLemmas.{known_at, any_status, IsShort, outcome_short}
use Rattle.card_laws.proofs.TakenLemmas.{of_running}

-- what is asked of an answer, but that a good card is left and that each commit is sound
pub record IsTold (card : CardState) (of_tree : Bool) (key : ℕ) (answered : Answered) : Type 0 where
  pub ends : last_of card.persistent answered.commits ≡ answered.state.persistent
  pub steps : EachStep (ChangesOnePart of_tree) card.persistent answered.commits
  pub short : length answered.body ≤ 256
  pub status : IsStatus of_tree answered.status
  pub refused : is_carried_out answered.status ≡ false → ChangesAtMostTries key answered.status card answered.state

-- ---- commits

-- the state is this one with other rows
abbrev IsWithRows : Persistent → Persistent → Type 0
IsWithRows base state = state ≡ record base { rows = state.rows; next_sequence = state.next_sequence }

rows_too : (of_tree : Bool) (base : Persistent) (next : ℕ) (state : Persistent) (rows : List (List Registration)) → IsWithRows base state → EachStep (ChangesOnePart of_tree) state (map (with_rows base next) rows)
rows_too of_tree base next state [] is = tt
rows_too of_tree base next state (first ∷ others) is =
    (inr (ap (λ (from : Persistent). record from { rows = first; next_sequence = next }) (sym is)), rows_too of_tree base next (with_rows base next first) others refl)

each_joined : (R : Persistent → Persistent → Type 0) (state : Persistent) (first second : List Persistent) → EachStep R state first → EachStep R (last_of state first) second → EachStep R state (first ++ second)
each_joined R state [] second one other = other
each_joined R state (next ∷ first) second one other = (one.0, each_joined R next first second one.1 other)

-- ---- one answer

refused_told : (card : CardState) (of_tree : Bool) (key : ℕ) (status : StatusWord) → IsStatus of_tree status → IsTold card of_tree key (refused card status)
refused_told card of_tree key status known = record { ends = refl; steps = tt; short = omega arith; status = known; refused = λ not_done. inl refl }

lawful_told : (card : CardState) (of_tree : Bool) (key : ℕ) (answered : Answered) → IsLawfulAnswer card of_tree key answered → IsTold card of_tree key answered
lawful_told card of_tree key answered lawful = record {
  ends = lawful.ends;
  steps = each_too (ChangesOneThing of_tree) (ChangesOnePart of_tree) (λ old new step. inl step) card.persistent answered.commits lawful.steps;
  short = lawful.short;
  status = inl lawful.status;
  refused = lawful.refused;
}

toolkit_told : (card : CardState) (of_tree : Bool) (key : ℕ) (outcome : ToolkitOutcome) → IsShort outcome → IsTold card of_tree key (on_toolkit card outcome)
toolkit_told card of_tree key outcome short = record {
  ends = refl;
  steps = rows_too of_tree card.persistent outcome.next_sequence card.persistent (passed_rows outcome.passed.log) refl;
  short = short;
  status = any_status of_tree DONE (known_at DONE (0, omega arith, refl));
  refused = λ not_done. absurd (false≢true (sym not_done));
}

polled_told : (card : CardState) (of_tree : Bool) (key : ℕ) (answered : Answered) → answered.status ≡ DONE → IsTold card of_tree key answered → IsTold card of_tree key (then_polled answered)
polled_told card of_tree key answered done told =
    let state : Persistent = answered.state.persistent in
    let later : ToolkitOutcome = coming_to answered.state [] (polled (toolkit_of answered.state)) in
    let commits : List Persistent = states_passed state later in
    let rows : EachStep (ChangesOnePart of_tree) state commits = rows_too of_tree state later.next_sequence state (passed_rows later.passed.log) refl in
    record {
      ends = last_joined card.persistent answered.commits commits ∙ ap (λ (from : Persistent). last_of from commits) told.ends;
      steps = each_joined (ChangesOnePart of_tree) card.persistent answered.commits commits told.steps (subst (λ (from : Persistent). EachStep (ChangesOnePart of_tree) from commits) (sym told.ends) rows);
      short = told.short;
      status = told.status;
      refused = λ not_done. absurd (false≢true (sym not_done ∙ ap is_carried_out done));
    }

cut_told : (card : CardState) (of_tree : Bool) (key : ℕ) (expected : Option ℕ) (answered : Answered) → IsTold card of_tree key answered → IsTold card of_tree key (cut_answer expected answered)
cut_told card of_tree key expected answered told =
    record { ends = told.ends; steps = told.steps; short = omega (arith, told.short, cut_low expected answered.body); status = told.status; refused = told.refused }

pending_told : (card : CardState) (of_tree : Bool) (key : ℕ) (answered : Answered) → IsGood answered.state → IsTold card of_tree key answered → IsTold card of_tree key (with_pending answered)
pending_told card of_tree key answered good told =
    let count : Option ℕ = pending answered.state.session in
    let few : IfSome count (λ n. n ≤ 255) = pending_few answered.state.session good.session.underway.out_sendable in
    record {
      ends = told.ends;
      steps = told.steps;
      short = told.short;
      status = told_so (IsStatus of_tree) count answered.status few (λ n low. inl (inl (inr (inr (inr (n, low, refl)))))) told.status;
      refused = λ not_done.
          let same : told_pending count answered.status ≡ answered.status = told_same count answered.status few not_done in
          subst (λ (status : StatusWord). ChangesAtMostTries key status card answered.state) (sym same) (told.refused (sym (ap is_carried_out same) ∙ not_done));
    }

-- ---- each instruction

module _ (lawful : CommandsAreLawful) (card : CardState) (good : IsGood card) where
  abbrev Tells : Bool → ℕ → Result Answered StatusWord → Type 0
  Tells of_tree key result = MatchResult result (IsTold card of_tree key) (IsStatus of_tree)

  of_lawful : (of_tree : Bool) (key : ℕ) (result : Result Answered StatusWord) → MatchResult result (IsLawfulAnswer card of_tree key) (IsStatusOf of_tree) → Tells of_tree key result
  of_lawful of_tree key (Err status) is = inl is
  of_lawful of_tree key (Ok answered) is = lawful_told card of_tree key answered is

  of_toolkit : (key : ℕ) (outcome : Result ToolkitOutcome StatusWord) → MatchResult outcome IsShort (IsStatus false) → Tells false key (and_given (toolkit_tried card outcome) (λ answered. Ok answered))
  unfolding and_given
  of_toolkit key (Err status) is = is
  of_toolkit key (Ok outcome) is = toolkit_told card false key outcome is

  no_event : (of_tree : Bool) (key : ℕ) (result : Result Answered StatusWord) → Tells of_tree key result → Tells of_tree key (and_given result (λ answered. Ok answered))
  unfolding and_given
  no_event of_tree key (Err status) tells = tells
  no_event of_tree key (Ok answered) tells = tells

  of_status : (key : ℕ) (apdu : Apdu) (outcome : Result FileOutcome StatusWord) → MatchResult outcome IsDone Any → Tells false key (file_tried card apdu outcome)
      → Tells false key (and_given (file_tried card apdu outcome) (λ answered. Ok (then_polled answered)))
  unfolding and_given
  of_status key apdu (Err status) is tells = tells
  of_status key apdu (Ok outcome) is tells = polled_told card false key _ is.1 tells

  carried_tells : (bytes : List ℕ) (apdu : Apdu) → IsCommand bytes apdu → (instruction : Instruction) → Tells (is_of_tree instruction) (key_named bytes) (carried_with true instruction card apdu)
  unfolding carried_out file_outcome
  carried_tells bytes apdu is (File file.Status) =
      of_status (key_named bytes) apdu (status_told card.persistent (selection_on card (channel_of apdu.class)) apdu) (status_done card.persistent (selection_on card (channel_of apdu.class)) apdu)
      (of_lawful false (key_named bytes) _ (lawful card bytes apdu (File file.Status) good is refl))
  carried_tells bytes apdu is (Toolkit command) = of_toolkit (key_named bytes) _ (outcome_short card good apdu command (seen_by card))
  carried_tells bytes apdu is instruction =
      no_event (is_of_tree instruction) (key_named bytes) _ (of_lawful (is_of_tree instruction) (key_named bytes) _ (lawful card bytes apdu instruction good is refl))

  tried_tells : (knows : Instruction → Bool) (bytes : List ℕ) → has_toolkit knows ≡ true → AreBytes bytes → Tells (is_of_tree_named bytes) (key_named bytes) (tried knows card bytes)
  tried_tells knows bytes runs are =
      let of_tree : Bool = is_of_tree_named bytes in
      of_running knows card bytes runs (Tells of_tree (key_named bytes)) (record {
        length_is = any_status of_tree _ (known_at _ (3, omega arith, refl));
        class_is = any_status of_tree _ (known_at _ (19, omega arith, refl));
        secure_is = any_status of_tree _ (known_at _ (5, omega arith, refl));
        channel_is = any_status of_tree _ (known_at _ (4, omega arith, refl));
        instruction_is = any_status of_tree _ (known_at _ (18, omega arith, refl));
      })
      (λ apdu instruction read.
      let is : IsCommand bytes apdu = command_is bytes apdu are read.read in
      cut_so (IsTold card of_tree (key_named bytes)) (IsStatus of_tree) apdu.expected _ (cut_told card of_tree (key_named bytes) apdu.expected)
      (subst (λ (each : Bool). Tells each (key_named bytes) (carried_with true instruction card apdu)) (tree_named knows (family apdu.class) apdu.ins instruction read.named ∙ sym (ap is_of_tree_named is.spelling)) (carried_tells bytes apdu is instruction)))

  settled_told : (of_tree : Bool) (named : ℕ) (result : Result Answered StatusWord) → Tells of_tree named result → IsTold card of_tree named (settled card result)
  settled_told of_tree named (Err status) known = refused_told card of_tree named status known
  settled_told of_tree named (Ok answered) told = told

  pub answer_told : (knows : Instruction → Bool) (bytes : List ℕ) → has_toolkit knows ≡ true → AreBytes bytes → IsGood (answer_of knows card bytes).state → IsTold card (is_of_tree_named bytes) (key_named bytes) (answer_of knows card bytes)
  unfolding answer_of
  answer_told knows bytes runs are left = pending_told card (is_of_tree_named bytes) (key_named bytes) (settled card (tried knows card bytes)) left (settled_told (is_of_tree_named bytes) (key_named bytes) (tried knows card bytes) (tried_tells knows bytes runs are))

  pub answer_lawful : (knows : Instruction → Bool) (bytes : List ℕ) → has_toolkit knows ≡ true → AreBytes bytes → IsWell (answer_of knows card bytes) → IsLawfulWithApplets card (is_of_tree_named bytes) (key_named bytes) (answer_of knows card bytes)
  answer_lawful knows bytes runs are well =
      let told : IsTold card (is_of_tree_named bytes) (key_named bytes) (answer_of knows card bytes) = answer_told knows bytes runs are well.0 in
      record { good = well.0; ends = told.ends; steps = told.steps; sound = well.1; short = told.short; status = told.status; refused = told.refused }

-- ---- refusals

refusal_keeps : (knows : Instruction → Bool) (card : CardState) (bytes : List ℕ) (status : StatusWord) → IsLawfulWithApplets card (is_of_tree_named bytes) (key_named bytes) (answer_of knows card bytes) → refusal knows card bytes ≡ Some status
    → ChangesAtMostTries (key_named bytes) status card (answer_of knows card bytes).state
unfolding refusal
refusal_keeps knows card bytes status lawful is =
    let word : StatusWord = (answer_of knows card bytes).status in
    let refused = not_carried (is_carried_out word) word status is in
    subst (λ (each : StatusWord). ChangesAtMostTries (key_named bytes) each card (answer_of knows card bytes).state) refused.1 (lawful.refused refused.0)

-- whether applets run or not
pub refusals_keep : PlainRefusalsChangeTriesAndMarkAlone → AnswersAreLawful → (knows : Instruction → Bool) (card : CardState) (bytes : List ℕ) (status : StatusWord) → IsGood card → AreBytes bytes → refusal knows card bytes ≡ Some status
    → ChangesAtMostTries (key_named bytes) status card (answer_of knows card bytes).state
refusals_keep plain answers knows card bytes status good are is = by_toolkit (has_toolkit knows) refl (plain knows card bytes status good are is) where
  by_toolkit : (runs : Bool) → has_toolkit knows ≡ runs → MatchBool runs ⊤ (ChangesAtMostTries (key_named bytes) status card (answer_of knows card bytes).state) → ChangesAtMostTries (key_named bytes) status card (answer_of knows card bytes).state
  by_toolkit true runs here = refusal_keeps knows card bytes status (answers knows card bytes runs good are) is
  by_toolkit false runs here = here

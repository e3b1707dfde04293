-- The signals of a trace alternate.
use Rattle.std.proofs.Common.{◌≡◌, ℕ, Bool, true, false, List, [], ◌∷◌, ◌++◌, Option, Some, None, refl, sym, ◌∙◌, ap, subst, inl, inr, ◌==◌, MatchBool, All, is_some, if◌then◌else◌, option_to_list}
use Rattle.std.specs.List.{list_any}
use Rattle.std.proofs.lemmas.Bool.{false≢true, eqb-true, eqb-false, ne_eqb}
use Rattle.std.proofs.lemmas.List.Elements.{All-head, All-tail}
use Rattle.uicc_types.specs.Told.{AreBytes}
use Rattle.uicc_types.specs.declared.answers.StatusWord.{StatusWord}
use Rattle.uicc_types.specs.declared.answers.TheConstants.StatusWord.{MEMORY_PROBLEM}
use Rattle.uicc_types.specs.declared.runs.Step.{Step}
use Rattle.uicc_types.specs.declared.runs.Step.TheVariants as step
use Rattle.uicc_types.specs.declared.runs.TraceItem.{TraceItem}
use Rattle.card_state.specs.Persistent.{Persistent}
use Rattle.toolkit_model.specs.Commands.{unanswered}
use Rattle.toolkit_model.specs.Passing.{ToolkitState}
use Rattle.toolkit_model.specs.Steps.{ToolkitInput}
use Rattle.card_model.specs.Answers.{answer, is_carried_out, refusal}
use Rattle.card_model.specs.Instructions.{is_known, has_toolkit}
use Rattle.card_model.specs.Laws.{AnswersNeverFail}
use Rattle.card_model.specs.Runs.{IsLeft, Commands, MeetsNoPower, StepGives, IsRun}
use Rattle.card_model.specs.States.{CardState, Machine, IsGood, woken, restarted}
use Rattle.card_model.specs.Toolkit.{toolkit_of}
use Rattle.card_laws.specs.ToolkitLaws.{GoodCardsHaveOrder, AnswersGoOn, RefusalsTakeNothing}
use Rattle.card_laws.specs.Moving.{GoesOn, taken}
use Rattle.card_laws.specs.ToolkitRuns.{HasBytes}
use Rattle.card_laws.specs.Staying.{LeavesUnanswered}
use Rattle.card_laws.specs.Traces.{Signal, Fetches, Accepts, Wakes, ins_of, done_signal, answer_signal, signals, Alternate, is_ending, EndsBetween}
use Rattle.card_laws.proofs.LeavesUnansweredLemmas.{none_held, fetched_holds, other_holds, respond_holds}
use Rattle.card_laws.proofs.InsOfLemmas.{Names, IsFetch, IsResponse, answer_names}

-- whether a command was fetched and not answered
abbrev held : CardState → Bool
held card = is_some (unanswered card.session)

-- what a signal says of before and after it
abbrev Tells : Option Signal → Bool → Bool → Type 0
Tells None before now = now ≡ before
Tells (Some Fetches) before now = (before ≡ false) × (now ≡ true)
Tells (Some Accepts) before now = (before ≡ true) × (now ≡ false)
Tells (Some Wakes) before now = now ≡ false

goes_on : (signal : Option Signal) (before now : Bool) (rest : List Signal) → Tells signal before now → Alternate now rest → Alternate before (option_to_list signal ++ rest)
goes_on None before now rest is others = subst (λ (b : Bool). Alternate b rest) is others
goes_on (Some Fetches) before now rest is others = (is.0, subst (λ (b : Bool). Alternate b rest) is.1 others)
goes_on (Some Accepts) before now rest is others = (is.0, subst (λ (b : Bool). Alternate b rest) is.1 others)
goes_on (Some Wakes) before now rest is others = subst (λ (b : Bool). Alternate b rest) is others

-- ---- between two commands

pub record AlternatesOn (seen : List Signal) : Type 0 where
  pub before : Bool
  pub alternates : Alternate before seen

later_on : (early rest : List Signal) (before : Bool) → Alternate before (early ++ rest) → AlternatesOn rest
later_on [] rest before is = record { before = before; alternates = is }
later_on (Fetches ∷ early) rest before is = later_on early rest true is.1
later_on (Accepts ∷ early) rest before is = later_on early rest false is.1
later_on (Wakes ∷ early) rest before is = later_on early rest false is

ends_first : (between late : List Signal) → Alternate true (between ++ (Fetches ∷ late)) → list_any is_ending between ≡ true
ends_first [] late is = absurd (false≢true (sym is.0))
ends_first (Fetches ∷ between) late is = absurd (false≢true (sym is.0))
ends_first (Accepts ∷ between) late is = refl
ends_first (Wakes ∷ between) late is = refl

pub ends_between : (before : Bool) (seen : List Signal) → Alternate before seen → EndsBetween seen
ends_between before seen alternates early between late is =
    ends_first between late (later_on early (Fetches ∷ (between ++ (Fetches ∷ late))) before (subst (Alternate before) is alternates)).alternates.1

-- ---- after a wake

woken_free : (card : CardState) (left : CardState) (states : List Persistent) → IsLeft card states left → held left ≡ false
unfolding woken
woken_free card left states is = ap held is.woke

restarted_free : (card : CardState) → held (restarted card) ≡ false
unfolding woken
restarted_free card = refl

-- ---- an answer

module _ (good_order : GoodCardsHaveOrder) (goes : AnswersGoOn) (refusals : RefusalsTakeNothing) (never : AnswersNeverFail) (runs : has_toolkit is_known ≡ true) where
  module _ (card : CardState) (bytes : List ℕ) (good : IsGood card) (are : AreBytes bytes) where
    abbrev status : StatusWord
    status = (answer card bytes).status

    abbrev next : CardState
    next = (answer card bytes).state

    went : GoesOn (taken is_known card bytes) card (answer card bytes)
    went = goes is_known card bytes runs (good_order card good)

    names : Names (ins_of bytes) (taken is_known card bytes) status
    names = answer_names is_known card bytes runs good are

    -- the session as the toolkit leaves it
    held_now : (state : ToolkitState) → toolkit_of next ≡ state → held next ≡ is_some (unanswered state.session)
    held_now state same = ap (λ (each : ToolkitState). is_some (unanswered each.session)) same

    no_failure : (status.0 == MEMORY_PROBLEM.0) ≡ false
    no_failure = ne_eqb status.0 MEMORY_PROBLEM.0 (λ same. never is_known card bytes good are (ap (λ (word : ℕ). let made : StatusWord = record { 0 = word } in made) same))

    fetches : IsFetch (taken is_known card bytes) → Tells (Some Fetches) (held card) (held next)
    fetches is =
        let on = subst (λ (command : Option ToolkitInput). GoesOn command card (answer card bytes)) is.1 went in
        (ap is_some (none_held card.session is.0 on.accepted), held_now _ on.toolkit ∙ fetched_holds is.0 (toolkit_of card))

    accepts : IsResponse (taken is_known card bytes) → Tells (Some Accepts) (held card) (held next)
    accepts is =
        let on = subst (λ (command : Option ToolkitInput). GoesOn command card (answer card bytes)) is.2 went in
        (ap is_some on.accepted, held_now _ on.toolkit ∙ ap is_some (respond_holds is.0 is.1 (toolkit_of card)))

    stays : (command : Option ToolkitInput) → GoesOn command card (answer card bytes) → LeavesUnanswered command → held next ≡ held card
    stays None on other = held_now (toolkit_of card) on.toolkit
    stays (Some command) on other = held_now _ on.toolkit ∙ ap is_some (other_holds command (toolkit_of card) other)

    -- a command that was carried out
    done_tells : is_carried_out status ≡ true → Tells (done_signal (ins_of bytes)) (held card) (held next)
    done_tells done = by_fetch (ins_of bytes == 0x12) refl where
      by_response : (b : Bool) → (ins_of bytes == 0x14) ≡ b → (ins_of bytes ≡ 0x12 → ⊥) → Tells (if b then Some Accepts else None) (held card) (held next)
      by_response true is no_fetch = accepts (names.response (eqb-true (ins_of bytes) 0x14 is) done)
      by_response false is no_fetch = stays (taken is_known card bytes) went (names.other no_fetch (eqb-false (ins_of bytes) 0x14 is))

      by_fetch : (b : Bool) → (ins_of bytes == 0x12) ≡ b → Tells (if b then Some Fetches else if ins_of bytes == 0x14 then Some Accepts else None) (held card) (held next)
      by_fetch true is = fetches (names.fetch (eqb-true (ins_of bytes) 0x12 is) done)
      by_fetch false is = by_response (ins_of bytes == 0x14) refl (eqb-false (ins_of bytes) 0x12 is)

    -- and one that was refused
    refused_by : is_carried_out status ≡ false → refusal is_known card bytes ≡ Some status
    unfolding refusal
    refused_by is = ap (λ (b : Bool). if b then None else Some status) is

    refused_tells : is_carried_out status ≡ false → held next ≡ held card
    refused_tells is =
        let none : taken is_known card bytes ≡ None = refusals is_known card bytes status runs (good_order card good) (refused_by is) in
        stays None (subst (λ (command : Option ToolkitInput). GoesOn command card (answer card bytes)) none went) tt

    answer_tells : Tells (answer_signal bytes status) (held card) (held next)
    answer_tells = by_failure (status.0 == MEMORY_PROBLEM.0) no_failure where
      by_carried : (b : Bool) → is_carried_out status ≡ b → Tells (if b then done_signal (ins_of bytes) else None) (held card) (held next)
      by_carried true is = done_tells is
      by_carried false is = refused_tells is

      by_failure : (b : Bool) → b ≡ false → Tells (if b then Some Wakes else if is_carried_out status then done_signal (ins_of bytes) else None) (held card) (held next)
      by_failure true is = absurd (false≢true (sym is))
      by_failure false is = by_carried (is_carried_out status) refl

  -- ---- a step of a run

  abbrev Shows : Machine → List TraceItem → Machine → Type 0
  Shows old items new = (back : List TraceItem) → Alternate (held new.card) (signals back) → Alternate (held old.card) (signals (items ++ back))

  seen_as : (old new : Machine) (items shown : List TraceItem) → items ≡ shown → Shows old shown new → Shows old items new
  seen_as old new items shown is shows = subst (λ (seen : List TraceItem). Shows old seen new) (sym is) shows

  card_is : (new : Machine) (card : CardState) → new.card ≡ card → held new.card ≡ held card
  card_is new card is = ap held is

  free_then : (new : Machine) (rest : List Signal) → held new.card ≡ false → Alternate (held new.card) rest → Alternate false rest
  free_then new rest free others = subst (λ (b : Bool). Alternate b rest) free others

  command_shows : (old : Machine) (apdu : List ℕ) (items : List TraceItem) (new : Machine) (on : Bool) → MatchBool on (Commands old apdu items new) (MeetsNoPower old apdu items new)
      → IsGood old.card → AreBytes apdu → Shows old items new
  command_shows old apdu items new true (inl done) good are =
      seen_as old new items _ done.seen (λ back others.
      goes_on (answer_signal apdu (answer old.card apdu).status) (held old.card) (held (answer old.card apdu).state) (signals back) (answer_tells old.card apdu good are)
      (subst (λ (b : Bool). Alternate b (signals back)) (ap (λ (machine : Machine). held machine.card) done.moved) others))
  command_shows old apdu items new true (inr (inl fails)) good are =
      seen_as old new items _ fails.seen (λ back others.
      free_then new (signals back) (ap (λ (machine : Machine). held machine.card) fails.moved ∙ woken_free old.card fails.card _ fails.left) others)
  command_shows old apdu items new true (inr (inr lost)) good are =
      seen_as old new items _ lost.seen (λ back others.
      free_then new (signals back) (ap (λ (machine : Machine). held machine.card) lost.moved ∙ woken_free old.card lost.card _ lost.left) others)
  command_shows old apdu items new false none good are =
      seen_as old new items _ none.seen (λ back others. subst (λ (b : Bool). Alternate b (signals back)) (ap (λ (machine : Machine). held machine.card) none.stays) others)

  step_shows : (old : Machine) (each : Step) (items : List TraceItem) (new : Machine) → StepGives old each items new → IsGood old.card → HasBytes each → Shows old items new
  step_shows old (step.Apdu apdu) items new gives good has = command_shows old apdu items new old.on gives good has
  step_shows old step.Reset items new (inl again) good has =
      seen_as old new items _ again.seen (λ back others. free_then new (signals back) (ap (λ (machine : Machine). held machine.card) again.moved ∙ restarted_free old.card) others)
  step_shows old step.Reset items new (inr cut) good has =
      seen_as old new items _ cut.seen (λ back others. free_then new (signals back) (ap (λ (machine : Machine). held machine.card) cut.moved ∙ restarted_free old.card) others)
  step_shows old (step.Plan plan) items new waits good has =
      seen_as old new items _ waits.seen (λ back others. subst (λ (b : Bool). Alternate b (signals back)) (ap (λ (machine : Machine). held machine.card) waits.stays) others)

  module _ (stays_good : (old : Machine) (each : Step) (items : List TraceItem) (new : Machine) → StepGives old each items new → IsGood old.card → HasBytes each → IsGood new.card) where
    pub run_alternates : (old new : Machine) (steps : List Step) (items : List TraceItem) → IsGood old.card → All HasBytes steps → IsRun old steps items new → Alternate (held old.card) (signals items)
    run_alternates old new [] items good have rests = subst (λ (seen : List TraceItem). Alternate (held old.card) (signals seen)) (sym rests.seen) tt
    run_alternates old new (each ∷ more) items good have (inl on) =
        let first : HasBytes each = All-head HasBytes each more have in
        subst (λ (seen : List TraceItem). Alternate (held old.card) (signals seen)) (sym on.seen)
        (step_shows old each on.front on.middle on.first good first on.back
        (run_alternates on.middle new more on.back (stays_good old each on.front on.middle on.first good first) (All-tail HasBytes each more have) on.rest))
    run_alternates old new (step.Apdu apdu ∷ more) items good have (inr ends) = absurd ends.1
    run_alternates old new (step.Reset ∷ more) items good have (inr ends) = subst (λ (seen : List TraceItem). Alternate (held old.card) (signals seen)) (sym ends.1.seen) tt
    run_alternates old new (step.Plan plan ∷ more) items good have (inr ends) = absurd ends.1

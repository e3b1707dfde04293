-- A run of a card is a list of events that can happen to it.
use Rattle.std.proofs.Common.{◌≡◌, ℕ, Bool, true, false, List, [], ◌∷◌, ◌++◌, refl, sym, ap, subst, inl, inr, All, MatchBool}
use Rattle.std.specs.Prelude.{⊤}
use Rattle.std.proofs.lemmas.List.Elements.{All-head, All-tail}
use Rattle.uicc_types.specs.Told.{AreBytes}
use Rattle.uicc_types.specs.declared.runs.Step.{Step}
use Rattle.uicc_types.specs.declared.runs.Step.TheVariants as step
use Rattle.uicc_types.specs.declared.runs.TraceItem.{TraceItem}
use Rattle.card_model.specs.Answers.{answer_of, passed_of}
use Rattle.card_model.specs.Instructions.{is_known, has_toolkit}
use Rattle.card_model.specs.Laws.{RestartsAreGood, PlainAnswersAreLawful, PlainFaultsLeaveGoodCards, IsLawfulAnswer, is_of_tree_named, key_named}
use Rattle.card_model.specs.Runs.{IsLeft, Commands, MeetsNoPower, StepGives, IsRun}
use Rattle.card_model.specs.States.{CardState, Machine, IsGood}
use Rattle.card_laws.specs.Happened.{command_events, step_events, events_in}
use Rattle.card_laws.specs.ToolkitLaws.{AnswersLeaveGoodCards, FaultsLeaveGoodCards}
use Rattle.card_laws.specs.Moving.{Event, Answers, Breaks, Restarts, CanHappen, AllCanHappen, card_after, card_after_all}
use Rattle.card_laws.specs.ToolkitRuns.{HasBytes}

-- ---- from card to card

-- these events can happen to the card, and lead to the other
abbrev pub Lead : CardState → List Event → CardState → Type 0
Lead card events next = AllCanHappen is_known card events × (card_after_all is_known card events ≡ next)

one_leads : (card next : CardState) (event : Event) → CanHappen is_known card event → card_after is_known card event ≡ next → Lead card (event ∷ []) next
one_leads card next event can is = ((can, tt), is)

joined_lead : (card middle next : CardState) (first second : List Event) → Lead card first middle → Lead middle second next → Lead card (first ++ second) next
joined_lead card middle next [] second one other = subst (λ (from : CardState). Lead from second next) (sym one.1) other
joined_lead card middle next (event ∷ events) second one other =
    let rest : Lead (card_after is_known card event) (events ++ second) next = joined_lead (card_after is_known card event) middle next events second (one.0.1, one.1) other in
    ((one.0.0, rest.0), rest.1)

card_of : (a b : Machine) → a ≡ b → a.card ≡ b.card
card_of a b same = ap (λ (machine : Machine). machine.card) same

command_leads : (old : Machine) (apdu : List ℕ) (items : List TraceItem) (new : Machine) (on : Bool) (gives : MatchBool on (Commands old apdu items new) (MeetsNoPower old apdu items new))
    → Lead old.card (command_events old apdu items new on gives) new.card
command_leads old apdu items new true (inl exchanged) = one_leads old.card new.card (Answers apdu) tt (sym (card_of new _ exchanged.moved))
command_leads old apdu items new true (inr (inl fails)) = one_leads old.card new.card (Breaks apdu fails.card) fails.left (sym (card_of new _ fails.moved))
command_leads old apdu items new true (inr (inr lost)) = one_leads old.card new.card (Breaks apdu lost.card) lost.left (sym (card_of new _ lost.moved))
command_leads old apdu items new false none = (tt, sym (card_of new old none.stays))

step_leads : (old : Machine) (each : Step) (items : List TraceItem) (new : Machine) (gives : StepGives old each items new) → Lead old.card (step_events old each items new gives) new.card
step_leads old (step.Apdu apdu) items new gives = command_leads old apdu items new old.on gives
step_leads old step.Reset items new (inl restarts) = one_leads old.card new.card Restarts tt (sym (card_of new _ restarts.moved))
step_leads old step.Reset items new (inr cut) = one_leads old.card new.card Restarts tt (sym (card_of new _ cut.moved))
step_leads old (step.Plan plan) items new waits = (tt, sym (card_of new old waits.stays))

pub run_leads : (old new : Machine) (steps : List Step) (items : List TraceItem) (run : IsRun old steps items new) → Lead old.card (events_in old steps items new run) new.card
run_leads old new [] items rests = (tt, sym (card_of new old rests.stays))
run_leads old new (each ∷ more) items (inl goes) =
    joined_lead old.card goes.middle.card new.card (step_events old each goes.front goes.middle goes.first) (events_in goes.middle more goes.back new goes.rest)
    (step_leads old each goes.front goes.middle goes.first) (run_leads goes.middle new more goes.back goes.rest)
run_leads old new (step.Apdu apdu ∷ more) items (inr ends) = absurd ends.1
run_leads old new (step.Reset ∷ more) items (inr ends) = one_leads old.card new.card Restarts tt (sym (card_of new _ ends.1.moved))
run_leads old new (step.Plan plan ∷ more) items (inr ends) = absurd ends.1

-- what could happen up to an event
pub early_can : (card : CardState) (early late : List Event) → AllCanHappen is_known card (early ++ late) → AllCanHappen is_known card early
early_can card [] late can = tt
early_can card (event ∷ early) late can = (can.0, early_can (card_after is_known card event) early late can.1)

-- ---- good cards

module _ (restarts : RestartsAreGood) (plain : PlainAnswersAreLawful) (plain_faults : PlainFaultsLeaveGoodCards) (answers : AnswersLeaveGoodCards) (faults : FaultsLeaveGoodCards) where
  -- whether it runs applets or not
  answer_good : (card : CardState) (bytes : List ℕ) → IsGood card → AreBytes bytes → IsGood (answer_of is_known card bytes).state
  answer_good card bytes good are = by_toolkit (has_toolkit is_known) refl (plain is_known card bytes good are) where
    by_toolkit : (runs : Bool) → has_toolkit is_known ≡ runs → MatchBool runs ⊤ (IsLawfulAnswer card (is_of_tree_named bytes) (key_named bytes) (answer_of is_known card bytes)) → IsGood (answer_of is_known card bytes).state
    by_toolkit true is lawful = (answers is_known card bytes is good are).0
    by_toolkit false is lawful = lawful.good

  left_good : (card left : CardState) (bytes : List ℕ) → IsGood card → AreBytes bytes → IsLeft card (passed_of is_known card bytes) left → IsGood left
  left_good card left bytes good are is = by_toolkit (has_toolkit is_known) refl (plain_faults is_known card left bytes good are is) where
    by_toolkit : (runs : Bool) → has_toolkit is_known ≡ runs → MatchBool runs ⊤ (IsGood left) → IsGood left
    by_toolkit true runs here = faults is_known card left bytes runs good are is
    by_toolkit false runs here = here

  command_good : (old : Machine) (apdu : List ℕ) (items : List TraceItem) (new : Machine) (on : Bool) → MatchBool on (Commands old apdu items new) (MeetsNoPower old apdu items new)
      → IsGood old.card → AreBytes apdu → IsGood new.card
  command_good old apdu items new true (inl exchanged) good are = subst IsGood (sym (card_of new _ exchanged.moved)) (answer_good old.card apdu good are)
  command_good old apdu items new true (inr (inl fails)) good are = subst IsGood (sym (card_of new _ fails.moved)) (left_good old.card fails.card apdu good are fails.left)
  command_good old apdu items new true (inr (inr lost)) good are = subst IsGood (sym (card_of new _ lost.moved)) (left_good old.card lost.card apdu good are lost.left)
  command_good old apdu items new false none good are = subst IsGood (sym (card_of new old none.stays)) good

  pub step_good : (old : Machine) (each : Step) (items : List TraceItem) (new : Machine) → StepGives old each items new → IsGood old.card → HasBytes each → IsGood new.card
  step_good old (step.Apdu apdu) items new gives good has = command_good old apdu items new old.on gives good has
  step_good old step.Reset items new (inl again) good has = subst IsGood (sym (card_of new _ again.moved)) (restarts old.card good)
  step_good old step.Reset items new (inr cut) good has = subst IsGood (sym (card_of new _ cut.moved)) (restarts old.card good)
  step_good old (step.Plan plan) items new waits good has = subst IsGood (sym (card_of new old waits.stays)) good

  pub run_good : (old new : Machine) (steps : List Step) (items : List TraceItem) → IsGood old.card → All HasBytes steps → IsRun old steps items new → IsGood new.card
  run_good old new [] items good have rests = subst IsGood (sym (card_of new old rests.stays)) good
  run_good old new (each ∷ more) items good have (inl goes) =
      run_good goes.middle new more goes.back (step_good old each goes.front goes.middle goes.first good (All-head HasBytes each more have)) (All-tail HasBytes each more have) goes.rest
  run_good old new (step.Apdu apdu ∷ more) items good have (inr ends) = absurd ends.1
  run_good old new (step.Reset ∷ more) items good have (inr ends) = subst IsGood (sym (card_of new _ ends.1.moved)) (restarts old.card good)
  run_good old new (step.Plan plan ∷ more) items good have (inr ends) = absurd ends.1

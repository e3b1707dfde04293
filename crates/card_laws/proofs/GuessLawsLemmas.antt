-- Guesses over the steps of a run, and over the whole run.
use Rattle.std.proofs.Common.{◌≡◌, ℕ, ◌+◌, ◌≤◌, Bool, true, false, List, [], ◌∷◌, ◌++◌, Option, Some, None, refl, sym, ◌∙◌, ap, subst, inl, inr, arith, ◌⊎◌, ◌&&◌, ◌||◌, All, Contains, IsSomeAnd, MatchBool}
use Rattle.std.specs.List.{list_any}
use Rattle.std.proofs.lemmas.Bool.{false≢true}
use Rattle.std.proofs.lemmas.List.Elements.{All-cons, All-contains}
use Rattle.uicc_types.specs.declared.answers.TheConstants.StatusWord.{MEMORY_PROBLEM}
use Rattle.uicc_types.specs.declared.runs.Step.{Step}
use Rattle.uicc_types.specs.declared.runs.Step.TheVariants as step
use Rattle.uicc_types.specs.declared.runs.TraceItem.{TraceItem}
use Rattle.uicc_types.specs.declared.runs.TraceItem.TheVariants as item
use Rattle.card_state.specs.Persistent.{Pin, Persistent}
use Rattle.access_rules.specs.Conditions.{is_satisfied}
use Rattle.file_model.specs.Guards.{Guard, OfPin, OfUnblock}
use Rattle.file_model.specs.Laws.{EachStep}
use Rattle.file_model.specs.Outcomes.{last_of}
use Rattle.file_model.specs.Pins.{pin_found}
use Rattle.card_model.specs.Answers.{answer, passed}
use Rattle.card_model.specs.Runs.{IsLeft, Commands, MeetsNoPower, StepGives, IsRun}
use Rattle.card_model.specs.States.{CardState, Machine, woken}
use Rattle.card_model.proofs.IsCountedLemmas.{last_joined}
use Rattle.card_laws.specs.Commits.{commits_until, command_commits, step_commits, commits_in}
use Rattle.card_laws.specs.Guesses.{presents, presents_right, tells_tries, one_more_if, guesses, tries_of}
use Rattle.card_laws.specs.GuessLaws.{SetsNoTries, IsGuessedAt}
use Rattle.card_laws.proofs.TellsTriesLemmas.{IsGuarded, IsWorn, StaysWorn, EachKeepsOrFills, same_worn}
use Rattle.card_laws.proofs.MarkedLemmas.{nothing_marked}
use Rattle.card_laws.proofs.WithPinLemmas.{tries_found}
use Rattle.card_laws.proofs.PresentsByLemmas.{last_among, taken_last, each_taken, each_front, each_back, fewer}

abbrev tries_at : Guard → ℕ → Machine → ℕ
tries_at guard key machine = tries_of guard key machine.card.persistent.pins

module _ (guarded : (card : CardState) (bytes : List ℕ) → IsGuarded card bytes (answer card bytes)) where
  -- ---- what a step commits

  left_held : (card : CardState) (apdu : List ℕ) (left : CardState) (is : IsLeft card (passed card apdu) left) → is.persistent ≡ left.persistent
  unfolding woken
  left_held card apdu left is = sym (ap (λ (c : CardState). c.persistent) is.woke)

  left_ends : (card : CardState) (apdu : List ℕ) (left : CardState) (is : IsLeft card (passed card apdu) left) → last_of card.persistent (commits_until card apdu left is) ≡ left.persistent
  left_ends card apdu left is = taken_last card.persistent is.persistent (answer card apdu).commits is.passed.0 is.passed.1 is.passed.2 ∙ left_held card apdu left is

  command_ends : (old : Machine) (apdu : List ℕ) (items : List TraceItem) (new : Machine) (on : Bool) (gives : MatchBool on (Commands old apdu items new) (MeetsNoPower old apdu items new))
      → last_of old.card.persistent (command_commits old apdu items new on gives) ≡ new.card.persistent
  command_ends old apdu items new true (inl done) = (guarded old.card apdu).ends ∙ sym (ap (λ (m : Machine). m.card.persistent) done.moved)
  command_ends old apdu items new true (inr (inl fails)) = left_ends old.card apdu fails.card fails.left ∙ sym (ap (λ (m : Machine). m.card.persistent) fails.moved)
  command_ends old apdu items new true (inr (inr lost)) = left_ends old.card apdu lost.card lost.left ∙ sym (ap (λ (m : Machine). m.card.persistent) lost.moved)
  command_ends old apdu items new false none = sym (ap (λ (m : Machine). m.card.persistent) none.stays)

  step_ends : (old : Machine) (each : Step) (items : List TraceItem) (new : Machine) (gives : StepGives old each items new) → last_of old.card.persistent (step_commits old each items new gives) ≡ new.card.persistent
  unfolding woken
  step_ends old (step.Apdu apdu) items new gives = command_ends old apdu items new old.on gives
  step_ends old step.Reset items new (inl restarts) = sym (ap (λ (m : Machine). m.card.persistent) restarts.moved)
  step_ends old step.Reset items new (inr cut) = sym (ap (λ (m : Machine). m.card.persistent) cut.moved)
  step_ends old (step.Plan plan) items new waits = sym (ap (λ (m : Machine). m.card.persistent) waits.stays)

  command_steps : (old : Machine) (apdu : List ℕ) (items : List TraceItem) (new : Machine) (on : Bool) (gives : MatchBool on (Commands old apdu items new) (MeetsNoPower old apdu items new))
      → EachStep EachKeepsOrFills old.card.persistent (command_commits old apdu items new on gives)
  command_steps old apdu items new true (inl done) = (guarded old.card apdu).steps
  command_steps old apdu items new true (inr (inl fails)) = each_taken EachKeepsOrFills old.card.persistent (answer old.card apdu).commits fails.left.passed.0 (guarded old.card apdu).steps
  command_steps old apdu items new true (inr (inr lost)) = each_taken EachKeepsOrFills old.card.persistent (answer old.card apdu).commits lost.left.passed.0 (guarded old.card apdu).steps
  command_steps old apdu items new false none = tt

  steps_so : (old : Machine) (each : Step) (items : List TraceItem) (new : Machine) (gives : StepGives old each items new) → EachStep EachKeepsOrFills old.card.persistent (step_commits old each items new gives)
  steps_so old (step.Apdu apdu) items new gives = command_steps old apdu items new old.on gives
  steps_so old step.Reset items new gives = tt
  steps_so old (step.Plan plan) items new gives = tt

  -- ---- what a step shows

  -- no guess, or one that has taken a try
  abbrev Shows : Guard → ℕ → Machine → List TraceItem → Machine → List TraceItem → Type 0
  Shows guard key old items new back =
      (guesses guard key (items ++ back) ≡ guesses guard key back) ⊎ ((guesses guard key (items ++ back) ≡ guesses guard key back + 1) × (1 + tries_at guard key new ≤ tries_at guard key old))

  answer_shows : (guard : Guard) (key : ℕ) (old new : Machine) (apdu : List ℕ) (back : List TraceItem) → new.card ≡ (answer old.card apdu).state
      → Shows guard key old (item.Command apdu ∷ item.Answer (answer old.card apdu).body (answer old.card apdu).status ∷ []) new back
  answer_shows guard key old new apdu back moved = by_guess (presents guard key apdu) (tells_tries (answer old.card apdu).status) refl refl where
    by_guess : (shown told : Bool) → presents guard key apdu ≡ shown → tells_tries (answer old.card apdu).status ≡ told
        → Shows guard key old (item.Command apdu ∷ item.Answer (answer old.card apdu).body (answer old.card apdu).status ∷ []) new back
    by_guess true true shown told =
        inr (
          ap (λ (b : Bool). one_more_if (b && tells_tries (answer old.card apdu).status) (guesses guard key back)) shown ∙ ap (λ (b : Bool). one_more_if b (guesses guard key back)) told,
          subst (λ (c : CardState). 1 + tries_of guard key c.persistent.pins ≤ tries_at guard key old) (sym moved) (omega (arith, ((guarded old.card apdu).guess guard key shown told).one)),
        )
    by_guess true false shown told =
        inl (ap (λ (b : Bool). one_more_if (b && tells_tries (answer old.card apdu).status) (guesses guard key back)) shown ∙ ap (λ (b : Bool). one_more_if b (guesses guard key back)) told)
    by_guess false told shown is = inl (ap (λ (b : Bool). one_more_if (b && tells_tries (answer old.card apdu).status) (guesses guard key back)) shown)

  -- a failing memory tells no tries
  failure_shows : (guard : Guard) (key : ℕ) (apdu : List ℕ) (back : List TraceItem) → guesses guard key (item.Command apdu ∷ item.Answer [] MEMORY_PROBLEM ∷ back) ≡ guesses guard key back
  failure_shows guard key apdu back = by_shown (presents guard key apdu) where
    by_shown : (shown : Bool) → one_more_if (shown && tells_tries MEMORY_PROBLEM) (guesses guard key back) ≡ guesses guard key back
    by_shown true = refl
    by_shown false = refl

  command_shows : (guard : Guard) (key : ℕ) (old : Machine) (apdu : List ℕ) (items : List TraceItem) (new : Machine) (on : Bool) → MatchBool on (Commands old apdu items new) (MeetsNoPower old apdu items new) → (back : List TraceItem)
      → Shows guard key old items new back
  command_shows guard key old apdu items new true (inl done) back =
      subst (λ (shown : List TraceItem). Shows guard key old shown new back) (sym done.seen) (answer_shows guard key old new apdu back (ap (λ (m : Machine). m.card) done.moved))
  command_shows guard key old apdu items new true (inr (inl fails)) back = inl (ap (λ (shown : List TraceItem). guesses guard key (shown ++ back)) fails.seen ∙ failure_shows guard key apdu back)
  command_shows guard key old apdu items new true (inr (inr lost)) back = inl (ap (λ (shown : List TraceItem). guesses guard key (shown ++ back)) lost.seen)
  command_shows guard key old apdu items new false none back = inl (ap (λ (shown : List TraceItem). guesses guard key (shown ++ back)) none.seen)

  step_shows : (guard : Guard) (key : ℕ) (old : Machine) (each : Step) (items : List TraceItem) (new : Machine) → StepGives old each items new → (back : List TraceItem) → Shows guard key old items new back
  step_shows guard key old (step.Apdu apdu) items new gives back = command_shows guard key old apdu items new old.on gives back
  step_shows guard key old step.Reset items new (inl restarts) back = inl (ap (λ (shown : List TraceItem). guesses guard key (shown ++ back)) restarts.seen)
  step_shows guard key old step.Reset items new (inr cut) back = inl (ap (λ (shown : List TraceItem). guesses guard key (shown ++ back)) cut.seen)
  step_shows guard key old (step.Plan plan) items new waits back = inl (ap (λ (shown : List TraceItem). guesses guard key (shown ++ back)) waits.seen)

  -- ---- commits that give no tries

  -- a step of the run and the rest of it
  joined_bound : (guard : Guard) (key : ℕ) (old middle new : Machine) (front back : List TraceItem) → Shows guard key old front middle back
      → tries_at guard key middle ≤ tries_at guard key old → guesses guard key back + tries_at guard key new ≤ tries_at guard key middle
      → guesses guard key (front ++ back) + tries_at guard key new ≤ tries_at guard key old
  joined_bound guard key old middle new front back (inl none) less rest = omega (arith, none, less, rest)
  joined_bound guard key old middle new front back (inr one) less rest = omega (arith, one.0, one.1, rest)

  pub run_ends : (old new : Machine) (steps : List Step) (items : List TraceItem) (run : IsRun old steps items new) → last_of old.card.persistent (commits_in old steps items new run) ≡ new.card.persistent
  unfolding woken
  run_ends old new [] items rests = sym (ap (λ (m : Machine). m.card.persistent) rests.stays)
  run_ends old new (each ∷ more) items (inl goes) =
      last_joined old.card.persistent (step_commits old each goes.front goes.middle goes.first) (commits_in goes.middle more goes.back new goes.rest)
      ∙ ap (λ (state : Persistent). last_of state (commits_in goes.middle more goes.back new goes.rest)) (step_ends old each goes.front goes.middle goes.first)
      ∙ run_ends goes.middle new more goes.back goes.rest
  run_ends old new (step.Apdu apdu ∷ more) items (inr ends) = absurd ends.1
  run_ends old new (step.Reset ∷ more) items (inr ends) = sym (ap (λ (m : Machine). m.card.persistent) ends.1.moved)
  run_ends old new (step.Plan plan ∷ more) items (inr ends) = absurd ends.1

  pub guesses_take : (guard : Guard) (key : ℕ) (old new : Machine) (steps : List Step) (items : List TraceItem) (run : IsRun old steps items new)
      → EachStep (SetsNoTries guard key) old.card.persistent (commits_in old steps items new run) → guesses guard key items + tries_at guard key new ≤ tries_at guard key old
  unfolding woken
  guesses_take guard key old new [] items rests sets = omega (arith, ap (guesses guard key) rests.seen, ap (tries_at guard key) rests.stays)
  guesses_take guard key old new (each ∷ more) items (inl goes) sets =
      let commits : List Persistent = step_commits old each goes.front goes.middle goes.first in
      let later : List Persistent = commits_in goes.middle more goes.back new goes.rest in
      let ends : last_of old.card.persistent commits ≡ goes.middle.card.persistent = step_ends old each goes.front goes.middle goes.first in
      let less : tries_at guard key goes.middle ≤ tries_at guard key old =
      subst (λ (state : Persistent). tries_of guard key state.pins ≤ tries_at guard key old) ends
      (fewer guard key old.card.persistent commits (steps_so old each goes.front goes.middle goes.first) (each_front (SetsNoTries guard key) old.card.persistent commits later sets)) in
      let rest = guesses_take guard key goes.middle new more goes.back goes.rest (subst (λ (state : Persistent). EachStep (SetsNoTries guard key) state later) ends (each_back (SetsNoTries guard key) old.card.persistent commits later sets)) in
      subst (λ (shown : List TraceItem). guesses guard key shown + tries_at guard key new ≤ tries_at guard key old) (sym goes.seen)
      (joined_bound guard key old goes.middle new goes.front goes.back (step_shows guard key old each goes.front goes.middle goes.first goes.back) less rest)
  guesses_take guard key old new (step.Apdu apdu ∷ more) items (inr ends) sets = absurd ends.1
  guesses_take guard key old new (step.Reset ∷ more) items (inr ends) sets = omega (arith, ap (guesses guard key) ends.1.seen, ap (tries_at guard key) ends.1.moved)
  guesses_take guard key old new (step.Plan plan ∷ more) items (inr ends) sets = absurd ends.1

  -- ---- values that are not right

  worn_same : (key : ℕ) (pin : Pin) (old new : Persistent) → old ≡ new → pin_found old.pins key ≡ Some pin → StaysWorn key pin new.pins
  worn_same key pin old new same found = subst (λ (o : Option Pin). IsSomeAnd o (IsWorn pin)) (sym (ap (λ (state : Persistent). pin_found state.pins key) (sym same) ∙ found)) (same_worn pin)

  worn_all : (key : ℕ) (pin : Pin) (card : CardState) (apdu : List ℕ) → pin_found card.persistent.pins key ≡ Some pin → presents_right key pin (step.Apdu apdu) ≡ false
      → All (λ (state : Persistent). StaysWorn key pin state.pins) (passed card apdu)
  worn_all key pin card apdu found wrong =
      All-cons (λ (state : Persistent). StaysWorn key pin state.pins) card.persistent (answer card apdu).commits (worn_same key pin card.persistent card.persistent refl found) ((guarded card apdu).wrong key pin found wrong)

  worn_one : (key : ℕ) (pin : Pin) (card : CardState) (apdu : List ℕ) (state : Persistent) → pin_found card.persistent.pins key ≡ Some pin → presents_right key pin (step.Apdu apdu) ≡ false
      → Contains (passed card apdu) state → StaysWorn key pin state.pins
  worn_one key pin card apdu state found wrong there = All-contains (λ (each : Persistent). StaysWorn key pin each.pins) (passed card apdu) state (worn_all key pin card apdu found wrong) there

  command_worn : (key : ℕ) (pin : Pin) (old : Machine) (apdu : List ℕ) (items : List TraceItem) (new : Machine) (on : Bool) → MatchBool on (Commands old apdu items new) (MeetsNoPower old apdu items new)
      → pin_found old.card.persistent.pins key ≡ Some pin → presents_right key pin (step.Apdu apdu) ≡ false → StaysWorn key pin new.card.persistent.pins
  command_worn key pin old apdu items new true (inl done) found wrong =
      subst (λ (state : Persistent). StaysWorn key pin state.pins) ((guarded old.card apdu).ends ∙ sym (ap (λ (m : Machine). m.card.persistent) done.moved))
      (worn_one key pin old.card apdu (last_of old.card.persistent (answer old.card apdu).commits) found wrong (last_among old.card.persistent (answer old.card apdu).commits))
  command_worn key pin old apdu items new true (inr (inl fails)) found wrong =
      subst (λ (state : Persistent). StaysWorn key pin state.pins) (left_held old.card apdu fails.card fails.left ∙ sym (ap (λ (m : Machine). m.card.persistent) fails.moved))
      (worn_one key pin old.card apdu fails.left.persistent found wrong fails.left.passed)
  command_worn key pin old apdu items new true (inr (inr lost)) found wrong =
      subst (λ (state : Persistent). StaysWorn key pin state.pins) (left_held old.card apdu lost.card lost.left ∙ sym (ap (λ (m : Machine). m.card.persistent) lost.moved))
      (worn_one key pin old.card apdu lost.left.persistent found wrong lost.left.passed)
  command_worn key pin old apdu items new false none found wrong = worn_same key pin old.card.persistent new.card.persistent (sym (ap (λ (m : Machine). m.card.persistent) none.stays)) found

  step_worn : (key : ℕ) (pin : Pin) (old : Machine) (each : Step) (items : List TraceItem) (new : Machine) → StepGives old each items new → pin_found old.card.persistent.pins key ≡ Some pin → presents_right key pin each ≡ false
      → StaysWorn key pin new.card.persistent.pins
  unfolding woken
  step_worn key pin old (step.Apdu apdu) items new gives found wrong = command_worn key pin old apdu items new old.on gives found wrong
  step_worn key pin old step.Reset items new (inl restarts) found wrong = worn_same key pin old.card.persistent new.card.persistent (sym (ap (λ (m : Machine). m.card.persistent) restarts.moved)) found
  step_worn key pin old step.Reset items new (inr cut) found wrong = worn_same key pin old.card.persistent new.card.persistent (sym (ap (λ (m : Machine). m.card.persistent) cut.moved)) found
  step_worn key pin old (step.Plan plan) items new waits found wrong = worn_same key pin old.card.persistent new.card.persistent (sym (ap (λ (m : Machine). m.card.persistent) waits.stays)) found

  -- what is right stays right
  right_same : (key tries unblock_tries : ℕ) (pin : Pin) (each : Step) → presents_right key (record pin { tries = tries; unblock_tries = unblock_tries }) each ≡ presents_right key pin each
  right_same key tries unblock_tries pin (step.Apdu apdu) = refl
  right_same key tries unblock_tries pin step.Reset = refl
  right_same key tries unblock_tries pin (step.Plan plan) = refl

  rights_same : (key tries unblock_tries : ℕ) (pin : Pin) (steps : List Step)
      → list_any (presents_right key (record pin { tries = tries; unblock_tries = unblock_tries })) steps ≡ list_any (presents_right key pin) steps
  rights_same key tries unblock_tries pin [] = refl
  rights_same key tries unblock_tries pin (each ∷ more) =
      ap (λ (b : Bool). b || list_any (presents_right key (record pin { tries = tries; unblock_tries = unblock_tries })) more) (right_same key tries unblock_tries pin each)
      ∙ ap (λ (b : Bool). presents_right key pin each || b) (rights_same key tries unblock_tries pin more)

  or_false : (a b : Bool) → (a || b) ≡ false → (a ≡ false) × (b ≡ false)
  or_false true b is = absurd (false≢true (sym is))
  or_false false b is = (refl, is)

  some_of : {X : Type 0} (P : X → Type 0) (o : Option X) → IsSomeAnd o P → (x : X) × (o ≡ Some x) × P x
  some_of P None holds = absurd holds
  some_of P (Some x) holds = (x, refl, holds)

  weaker : {X : Type 0} (P Q : X → Type 0) (o : Option X) → ((x : X) → P x → Q x) → IsSomeAnd o P → IsSomeAnd o Q
  weaker P Q None more holds = absurd holds
  weaker P Q (Some x) more holds = more x holds

  one_more : (shown later tries middle : ℕ) → ((shown ≡ later) ⊎ ((shown ≡ later + 1) × (1 + middle ≤ tries))) → middle ≤ tries → (last : ℕ) → later + last ≤ middle → shown + last ≤ tries
  one_more shown later tries middle (inl none) less last rest = omega (arith, none, less, rest)
  one_more shown later tries middle (inr one) less last rest = omega (arith, one.0, one.1, rest)

  -- a step that presented no right value, and the rest of the run
  joined_guesses : (key : ℕ) (old middle : Machine) (front back : List TraceItem) (pin after last : Pin) → pin_found old.card.persistent.pins key ≡ Some pin → pin_found middle.card.persistent.pins key ≡ Some after → IsWorn pin after
      → Shows OfPin key old front middle back → Shows OfUnblock key old front middle back → IsGuessedAt key back after last → IsGuessedAt key (front ++ back) pin last
  joined_guesses key old middle front back pin after last found there worn of_pin of_unblock rest = record {
    tries = one_more (guesses OfPin key (front ++ back)) (guesses OfPin key back) pin.tries after.tries
        (subst (λ (n : ℕ). (guesses OfPin key (front ++ back) ≡ guesses OfPin key back) ⊎ ((guesses OfPin key (front ++ back) ≡ guesses OfPin key back + 1) × (1 + n ≤ pin.tries))) (tries_found OfPin key middle.card.persistent.pins after there)
        (subst (λ (n : ℕ). (guesses OfPin key (front ++ back) ≡ guesses OfPin key back) ⊎ ((guesses OfPin key (front ++ back) ≡ guesses OfPin key back + 1) × (1 + tries_at OfPin key middle ≤ n))) (tries_found OfPin key old.card.persistent.pins pin found) of_pin))
        worn.tries last.tries rest.tries;
    unblock_tries = one_more (guesses OfUnblock key (front ++ back)) (guesses OfUnblock key back) pin.unblock_tries after.unblock_tries
        (subst (λ (n : ℕ). (guesses OfUnblock key (front ++ back) ≡ guesses OfUnblock key back) ⊎ ((guesses OfUnblock key (front ++ back) ≡ guesses OfUnblock key back + 1) × (1 + n ≤ pin.unblock_tries))) (tries_found OfUnblock key middle.card.persistent.pins after there)
        (subst (λ (n : ℕ). (guesses OfUnblock key (front ++ back) ≡ guesses OfUnblock key back) ⊎ ((guesses OfUnblock key (front ++ back) ≡ guesses OfUnblock key back + 1) × (1 + tries_at OfUnblock key middle ≤ n))) (tries_found OfUnblock key old.card.persistent.pins pin found) of_unblock))
        worn.unblock_tries last.unblock_tries rest.unblock_tries;
    others = rest.others ∙ ap (λ (p : Pin). record p { tries = last.tries; unblock_tries = last.unblock_tries }) worn.others;
  }

  nothing_shown : (key : ℕ) (pin : Pin) (items : List TraceItem) → guesses OfPin key items ≡ 0 → guesses OfUnblock key items ≡ 0 → IsGuessedAt key items pin pin
  nothing_shown key pin items of_pin of_unblock = record { tries = omega (arith, of_pin); unblock_tries = omega (arith, of_unblock); others = refl }

  guessed_same : (key : ℕ) (pin : Pin) (items : List TraceItem) (old new : Persistent) → old ≡ new → pin_found old.pins key ≡ Some pin → guesses OfPin key items ≡ 0 → guesses OfUnblock key items ≡ 0
      → IsSomeAnd (pin_found new.pins key) (IsGuessedAt key items pin)
  guessed_same key pin items old new same found of_pin of_unblock =
      subst (λ (o : Option Pin). IsSomeAnd o (IsGuessedAt key items pin)) (sym (ap (λ (state : Persistent). pin_found state.pins key) (sym same) ∙ found)) (nothing_shown key pin items of_pin of_unblock)

  pub wrong_bounded : (key : ℕ) (pin : Pin) (old new : Machine) (steps : List Step) (items : List TraceItem) → pin_found old.card.persistent.pins key ≡ Some pin → list_any (presents_right key pin) steps ≡ false → IsRun old steps items new
      → IsSomeAnd (pin_found new.card.persistent.pins key) (IsGuessedAt key items pin)
  unfolding woken
  wrong_bounded key pin old new [] items found wrong rests =
      guessed_same key pin items old.card.persistent new.card.persistent (sym (ap (λ (m : Machine). m.card.persistent) rests.stays)) found (ap (guesses OfPin key) rests.seen) (ap (guesses OfUnblock key) rests.seen)
  wrong_bounded key pin old new (each ∷ more) items found wrong (inl goes) =
      let both = or_false (presents_right key pin each) (list_any (presents_right key pin) more) wrong in
      let middle = some_of (IsWorn pin) (pin_found goes.middle.card.persistent.pins key) (step_worn key pin old each goes.front goes.middle goes.first found both.0) in
      let after : Pin = middle.0 in
      let later : list_any (presents_right key after) more ≡ false =
      ap (λ (p : Pin). list_any (presents_right key p) more) middle.2.others ∙ rights_same key after.tries after.unblock_tries pin more ∙ both.1 in
      subst (λ (shown : List TraceItem). IsSomeAnd (pin_found new.card.persistent.pins key) (IsGuessedAt key shown pin)) (sym goes.seen)
      (weaker (IsGuessedAt key goes.back after) (IsGuessedAt key (goes.front ++ goes.back) pin) (pin_found new.card.persistent.pins key)
      (λ last rest.
      joined_guesses key old goes.middle goes.front goes.back pin after last found middle.1 middle.2 (step_shows OfPin key old each goes.front goes.middle goes.first goes.back)
      (step_shows OfUnblock key old each goes.front goes.middle goes.first goes.back) rest)
      (wrong_bounded key after goes.middle new more goes.back middle.1 later goes.rest))
  wrong_bounded key pin old new (step.Apdu apdu ∷ more) items found wrong (inr ends) = absurd ends.1
  wrong_bounded key pin old new (step.Reset ∷ more) items found wrong (inr ends) =
      guessed_same key pin items old.card.persistent new.card.persistent (sym (ap (λ (m : Machine). m.card.persistent) ends.1.moved)) found (ap (guesses OfPin key) ends.1.seen) (ap (guesses OfUnblock key) ends.1.seen)
  wrong_bounded key pin old new (step.Plan plan ∷ more) items found wrong (inr ends) = absurd ends.1

  -- ---- marks

  command_unmarked : (key : ℕ) (pin : Pin) (old : Machine) (apdu : List ℕ) (items : List TraceItem) (new : Machine) (on : Bool) → MatchBool on (Commands old apdu items new) (MeetsNoPower old apdu items new)
      → pin_found old.card.persistent.pins key ≡ Some pin → presents_right key pin (step.Apdu apdu) ≡ false → is_satisfied key old.card.verified ≡ false → is_satisfied key new.card.verified ≡ false
  unfolding woken
  command_unmarked key pin old apdu items new true (inl done) found wrong unmarked = ap (λ (m : Machine). is_satisfied key m.card.verified) done.moved ∙ (guarded old.card apdu).mark key pin found wrong unmarked
  command_unmarked key pin old apdu items new true (inr (inl fails)) found wrong unmarked =
      ap (λ (m : Machine). is_satisfied key m.card.verified) fails.moved ∙ ap (λ (c : CardState). is_satisfied key c.verified) fails.left.woke ∙ nothing_marked key
  command_unmarked key pin old apdu items new true (inr (inr lost)) found wrong unmarked =
      ap (λ (m : Machine). is_satisfied key m.card.verified) lost.moved ∙ ap (λ (c : CardState). is_satisfied key c.verified) lost.left.woke ∙ nothing_marked key
  command_unmarked key pin old apdu items new false none found wrong unmarked = ap (λ (m : Machine). is_satisfied key m.card.verified) none.stays ∙ unmarked

  step_unmarked : (key : ℕ) (pin : Pin) (old : Machine) (each : Step) (items : List TraceItem) (new : Machine) → StepGives old each items new → pin_found old.card.persistent.pins key ≡ Some pin → presents_right key pin each ≡ false
      → is_satisfied key old.card.verified ≡ false → is_satisfied key new.card.verified ≡ false
  unfolding woken
  step_unmarked key pin old (step.Apdu apdu) items new gives found wrong unmarked = command_unmarked key pin old apdu items new old.on gives found wrong unmarked
  step_unmarked key pin old step.Reset items new (inl restarts) found wrong unmarked = ap (λ (m : Machine). is_satisfied key m.card.verified) restarts.moved ∙ nothing_marked key
  step_unmarked key pin old step.Reset items new (inr cut) found wrong unmarked = ap (λ (m : Machine). is_satisfied key m.card.verified) cut.moved ∙ nothing_marked key
  step_unmarked key pin old (step.Plan plan) items new waits found wrong unmarked = ap (λ (m : Machine). is_satisfied key m.card.verified) waits.stays ∙ unmarked

  pub wrong_unmarked : (key : ℕ) (pin : Pin) (old new : Machine) (steps : List Step) (items : List TraceItem) → pin_found old.card.persistent.pins key ≡ Some pin → list_any (presents_right key pin) steps ≡ false
      → is_satisfied key old.card.verified ≡ false → IsRun old steps items new → is_satisfied key new.card.verified ≡ false
  unfolding woken
  wrong_unmarked key pin old new [] items found wrong unmarked rests = ap (λ (m : Machine). is_satisfied key m.card.verified) rests.stays ∙ unmarked
  wrong_unmarked key pin old new (each ∷ more) items found wrong unmarked (inl goes) =
      let both = or_false (presents_right key pin each) (list_any (presents_right key pin) more) wrong in
      let middle = some_of (IsWorn pin) (pin_found goes.middle.card.persistent.pins key) (step_worn key pin old each goes.front goes.middle goes.first found both.0) in
      let after : Pin = middle.0 in
      let later : list_any (presents_right key after) more ≡ false =
      ap (λ (p : Pin). list_any (presents_right key p) more) middle.2.others ∙ rights_same key after.tries after.unblock_tries pin more ∙ both.1 in
      wrong_unmarked key after goes.middle new more goes.back middle.1 later (step_unmarked key pin old each goes.front goes.middle goes.first found both.0 unmarked) goes.rest
  wrong_unmarked key pin old new (step.Apdu apdu ∷ more) items found wrong unmarked (inr ends) = absurd ends.1
  wrong_unmarked key pin old new (step.Reset ∷ more) items found wrong unmarked (inr ends) = ap (λ (m : Machine). is_satisfied key m.card.verified) ends.1.moved ∙ nothing_marked key
  wrong_unmarked key pin old new (step.Plan plan ∷ more) items found wrong unmarked (inr ends) = absurd ends.1

-- Guesses are bounded, whatever power is lost and whatever memory fails in a run.
use Rattle.std.specs.Prelude.{◌≡◌, ℕ, ◌+◌, ◌≤◌, true, false, List, Some, IsSomeAnd}
use Rattle.std.specs.List.{list_any}
use Rattle.uicc_types.specs.declared.runs.Step.{Step}
use Rattle.uicc_types.specs.declared.runs.TraceItem.{TraceItem}
use Rattle.card_state.specs.Persistent.{Pin, Persistent}
use Rattle.access_rules.specs.Conditions.{is_satisfied}
use Rattle.file_model.specs.Guards.{Guard, OfPin, OfUnblock}
use Rattle.file_model.specs.Laws.{EachStep}
use Rattle.file_model.specs.Outcomes.{last_of}
use Rattle.file_model.specs.Pins.{pin_found}
use Rattle.card_model.specs.Answers.{answer}
use Rattle.card_model.specs.Runs.{IsRun}
use Rattle.card_model.specs.States.{CardState, Machine, IsGood}
use Rattle.card_laws.specs.Commits.{commits_in}
use Rattle.card_laws.specs.Guesses.{presents, tells_tries, guesses, tries_of, IsOneLess, all_tries, presents_right}

-- Where a value that a command presents is answered `63CX`, the guard of its key has one try less than before, and X is the number
-- that is left.
abbrev pub GuessesTakeOne : Type 0
GuessesTakeOne =
    (guard : Guard) (key : ℕ) (card : CardState) (bytes : List ℕ) → presents guard key bytes ≡ true → tells_tries (answer card bytes).status ≡ true
    → IsOneLess guard key (answer card bytes).status card.persistent.pins (answer card bytes).state.persistent.pins

-- a commit that does not give the guard of a key all its tries: it has all of them after it only if it had them before
abbrev pub SetsNoTries : Guard → ℕ → Persistent → Persistent → Type 0
SetsNoTries guard key before after = tries_of guard key after.pins ≡ all_tries guard → tries_of guard key before.pins ≡ all_tries guard

-- In a run without a commit that gives a key all its tries, there are at most as many guesses as there were tries, and each has
-- taken one.
abbrev pub GuessesTakeTries : Type 0
GuessesTakeTries =
    (guard : Guard) (key : ℕ) (old new : Machine) (steps : List Step) (items : List TraceItem) (run : IsRun old steps items new)
    → EachStep (SetsNoTries guard key) old.card.persistent (commits_in old steps items new run)
    → guesses guard key items + tries_of guard key new.card.persistent.pins ≤ tries_of guard key old.card.persistent.pins

-- the commits of a run lead from what the card held before it to what it holds after it
abbrev pub CommitsLead : Type 0
CommitsLead =
    (old new : Machine) (steps : List Step) (items : List TraceItem) (run : IsRun old steps items new)
    → last_of old.card.persistent (commits_in old steps items new run) ≡ new.card.persistent

-- The PIN that this one is after a trace in which no right value was presented: each guess has taken a try, none came back, and it
-- is the same otherwise.
pub record IsGuessedAt (key : ℕ) (items : List TraceItem) (before after : Pin) : Type 0 where
  pub tries : guesses OfPin key items + after.tries ≤ before.tries
  pub unblock_tries : guesses OfUnblock key items + after.unblock_tries ≤ before.unblock_tries
  pub others : after ≡ record before { tries = after.tries; unblock_tries = after.unblock_tries }

-- In a run that presents neither the value of a PIN nor that of its UNBLOCK PIN there are at most as many guesses of each as it had
-- tries, and neither has more tries afterwards.
abbrev pub WrongValuesAreBounded : Type 0
WrongValuesAreBounded =
    (key : ℕ) (pin : Pin) (old new : Machine) (steps : List Step) (items : List TraceItem)
    → pin_found old.card.persistent.pins key ≡ Some pin → list_any (presents_right key pin) steps ≡ false → IsRun old steps items new
    → IsSomeAnd (pin_found new.card.persistent.pins key) (IsGuessedAt key items pin)

-- Where the key was not verified before such a run, it is not verified after it.
abbrev pub WrongValuesVerifyNothing : Type 0
WrongValuesVerifyNothing =
    (key : ℕ) (pin : Pin) (old new : Machine) (steps : List Step) (items : List TraceItem)
    → pin_found old.card.persistent.pins key ≡ Some pin → list_any (presents_right key pin) steps ≡ false → is_satisfied key old.card.verified ≡ false → IsRun old steps items new
    → is_satisfied key new.card.verified ≡ false

-- a good card has at most three tries for a PIN, and ten for an UNBLOCK PIN
abbrev pub TriesAreFew : Type 0
TriesAreFew = (guard : Guard) (key : ℕ) (old : Machine) → IsGood old.card → tries_of guard key old.card.persistent.pins ≤ all_tries guard

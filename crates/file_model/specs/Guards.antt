-- What keeps a PIN from being guessed: each value that is presented takes a try before it is compared. What a wrong value takes is the
-- standard's (ETSI TS 102 221, 11.1.9 to 11.1.13), and the order this card's own.
use Rattle.std.specs.Prelude.{◌≡◌, ℕ, ◌-◌, ◌≤◌, ◌⊎◌, List, [], ◌∷◌, Some, IsSomeAnd, Result, IfOk}
use Rattle.uicc_types.specs.declared.answers.StatusWord.{StatusWord}
use Rattle.apdu_form.specs.Model.{Apdu}
use Rattle.card_state.specs.Persistent.{Pin}
use Rattle.access_rules.specs.declared.rules.Verified.{Verified}
use Rattle.file_model.specs.declared.commands.PinCommand.{PinCommand}
use Rattle.file_model.specs.declared.commands.PinCommand.TheVariants.{Unblock}
use Rattle.file_model.specs.Outcomes.{PinOutcome, last_of}
use Rattle.file_model.specs.Pins.{pin_found, with_pin, tries_left}
use Rattle.file_model.specs.Laws.{EachStep}

-- the two values of a PIN have their own tries
pub data Guard : Type 0 where
  OfPin : Guard
  OfUnblock : Guard

-- whose tries a command takes
abbrev pub guard_of : PinCommand → Guard
guard_of Unblock = OfUnblock
guard_of _ = OfPin

-- how many tries are left of a PIN, or of its UNBLOCK PIN
abbrev pub tries_by : Guard → Pin → ℕ
tries_by OfPin pin = pin.tries
tries_by OfUnblock pin = pin.unblock_tries

-- the PIN with one try less of its own, or of its UNBLOCK PIN
abbrev pub with_one_less : Guard → Pin → Pin
with_one_less OfPin pin = record pin { tries = pin.tries - 1 }
with_one_less OfUnblock pin = record pin { unblock_tries = pin.unblock_tries - 1 }

-- the PIN with this key had a try, and has one less
pub record TakesATry (guard : Guard) (key : ℕ) (old new : List Pin) : Type 0 where
  pub pin : Pin
  pub found : pin_found old key ≡ Some pin
  pub some : 1 ≤ tries_by guard pin
  pub changed : new ≡ with_pin old (with_one_less guard pin)

-- No PIN has more tries than before, but one that was given three, and no UNBLOCK PIN, but one that was given ten.
abbrev pub GivesNoTries : List Pin → List Pin → Type 0
GivesNoTries old new =
    (key : ℕ) (pin : Pin) → pin_found new key ≡ Some pin
    → IsSomeAnd (pin_found old key) (λ before. ((pin.tries ≤ before.tries) ⊎ (pin.tries ≡ 3)) × ((pin.unblock_tries ≤ before.unblock_tries) ⊎ (pin.unblock_tries ≡ 10)))

-- what holds of the first of some states, if there is one
abbrev pub BeginsWith : {X : Type 0} → (X → Type 0) → List X → Type 0
BeginsWith P [] = Unit {0}
BeginsWith P (first ∷ rest) = P first

-- The first commit takes a try of the key; no commit gives tries, but one that gives all of them; and where the answer tells
-- how many are left, so many the key has.
pub record IsGuarded (guard : Guard) (pins : List Pin) (key : ℕ) (outcome : PinOutcome) : Type 0 where
  pub first : BeginsWith (TakesATry guard key pins) outcome.passed
  pub steps : EachStep GivesNoTries pins outcome.passed
  pub left : (tries : ℕ) → tries ≤ 10 → outcome.status ≡ tries_left tries → IsSomeAnd (pin_found (last_of pins outcome.passed) key) (λ pin. tries_by guard pin ≡ tries)

-- a PIN command is guarded so, whatever it is given
abbrev pub GuardsPins : Guard → (List Pin → Verified → Apdu → Result PinOutcome StatusWord) → Type 0
GuardsPins guard command =
    (pins : List Pin) (verified : Verified) (apdu : Apdu) → IfOk (command pins verified apdu) (IsGuarded guard pins apdu.p2)

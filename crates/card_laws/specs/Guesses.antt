-- What a guess of a PIN or an UNBLOCK PIN is (ETSI TS 102 221, 9.5): a value that was presented, and that the card told to be wrong.
use Rattle.std.specs.Prelude.{◌≡◌, ℕ, ◌+◌, ◌/◌, ◌==◌, ◌||◌, ◌&&◌, Bool, false, if◌then◌else◌, List, [], ◌∷◌, Option, Some, None}
use Rattle.std.specs.Str.{bytes_eq}
use Rattle.uicc_types.specs.declared.answers.StatusWord.{StatusWord}
use Rattle.uicc_types.specs.declared.runs.Step.{Step}
use Rattle.uicc_types.specs.declared.runs.Step.TheVariants as step
use Rattle.uicc_types.specs.declared.runs.TraceItem.{TraceItem}
use Rattle.uicc_types.specs.declared.runs.TraceItem.TheVariants as item
use Rattle.apdu_form.specs.Model.{Apdu, command_in}
use Rattle.card_state.specs.declared.sizes.TheConstants.{TRIES, UNBLOCK_TRIES}
use Rattle.card_state.specs.Persistent.{Pin}
use Rattle.file_model.specs.Guards.{Guard, OfPin, OfUnblock, tries_by, TakesATry}
use Rattle.apdu_form.specs.Fields.{has_data}
use Rattle.file_model.specs.Pins.{pin_found, value_presented, tries_left}

-- ---- commands that present a value

-- VERIFY PIN, CHANGE PIN, DISABLE PIN and ENABLE PIN present a value of the PIN, UNBLOCK PIN one of its own (11.1.9 to 11.1.13)
abbrev pub presents_by : Guard → ℕ → Bool
presents_by OfPin ins = ins == 0x20 || ins == 0x24 || ins == 0x26 || ins == 0x28
presents_by OfUnblock ins = ins == 0x2C

-- P2 names the key; without data no value is presented
abbrev pub is_trial : Guard → ℕ → Apdu → Bool
is_trial guard key apdu = presents_by guard apdu.ins && apdu.p2 == key && has_data apdu

-- some bytes are a command, and this holds of it
abbrev pub if_command : (Apdu → Bool) → Option Apdu → Bool
if_command test None = false
if_command test (Some apdu) = test apdu

-- these bytes are a command that presents a value against this guard of a key
abbrev pub presents : Guard → ℕ → List ℕ → Bool
presents guard key bytes = if_command (is_trial guard key) (command_in bytes)

-- ---- guesses

-- `63CX`
abbrev pub tells_tries : StatusWord → Bool
tells_tries status = status.0 / 16 == 0x63C

-- the card told that the value of this command is wrong: its answer comes next
abbrev pub is_guess : Guard → ℕ → List ℕ → List TraceItem → Bool
is_guess guard key bytes (item.Answer body status ∷ more) = presents guard key bytes && tells_tries status
is_guess guard key bytes _ = false

-- a count, raised where this is so
abbrev pub one_more_if : Bool → ℕ → ℕ
one_more_if is count = if is then count + 1 else count

-- how many guesses a trace shows
abbrev pub guesses : Guard → ℕ → List TraceItem → ℕ
guesses guard key [] = 0
guesses guard key (item.Command bytes ∷ more) = one_more_if (is_guess guard key bytes more) (guesses guard key more)
guesses guard key (_ ∷ more) = guesses guard key more

-- ---- tries

-- how many tries the guard of a key has; where there is no PIN with this key, none
abbrev pub tries_if : Guard → Option Pin → ℕ
tries_if guard None = 0
tries_if guard (Some pin) = tries_by guard pin

-- how many tries are left of the PIN with this key, or of its UNBLOCK PIN; none where it is absent
abbrev pub tries_of : Guard → ℕ → List Pin → ℕ
tries_of guard key pins = tries_if guard (pin_found pins key)

-- The guard of a key had a try and has one less, nothing else of the PINs has changed, and the status tells how many are left.
pub record IsOneLess (guard : Guard) (key : ℕ) (status : StatusWord) (before after : List Pin) : Type 0 where
  pub takes : TakesATry guard key before after
  pub one : tries_of guard key before ≡ 1 + tries_of guard key after
  pub told : status ≡ tries_left (tries_of guard key after)

-- how many it has after a right value
abbrev pub all_tries : Guard → ℕ
all_tries OfPin = TRIES
all_tries OfUnblock = UNBLOCK_TRIES

-- ---- right values

-- the value of a PIN, or that of its UNBLOCK PIN
abbrev pub value_by : Guard → Pin → List ℕ
value_by OfPin pin = pin.value
value_by OfUnblock pin = pin.unblock

-- a command presents the right value
abbrev pub is_right_by : Guard → ℕ → Pin → Apdu → Bool
is_right_by guard key pin apdu = is_trial guard key apdu && bytes_eq (value_presented apdu) (value_by guard pin)

-- a step of a run presents the value of this PIN, which has this key, or that of its UNBLOCK PIN
abbrev pub presents_right : ℕ → Pin → Step → Bool
presents_right key pin (step.Apdu bytes) = if_command (λ apdu. is_right_by OfPin key pin apdu || is_right_by OfUnblock key pin apdu) (command_in bytes)
presents_right key pin _ = false

-- What a PIN command comes to once no test refuses it.
use Rattle.std.specs.Prelude.{◌≡◌, ℕ, ◌≤◌, Bool, true, if◌then◌else◌, List, [], length, Result, Ok, Err}
use Rattle.uicc_types.specs.declared.answers.StatusWord.{StatusWord}
use Rattle.apdu_form.specs.Model.{Apdu}
use Rattle.card_state.specs.declared.entries.Loaded.{Loaded}
use Rattle.card_state.specs.declared.sizes.TheConstants.{TRIES}
use Rattle.card_state.specs.Changes.{Change, OfTries, OfUnblockTries, OfUnblocking}
use Rattle.card_state.specs.Persistent.{Pin}
use Rattle.card_state.specs.States.{pins_of, pin_state}
use Rattle.card_state.specs.Used.{HasPin}
use Rattle.access_rules.specs.declared.rules.Verified.{Verified}
use Rattle.apdu_form.specs.Fields.{has_no_data}
use Rattle.file_model.specs.declared.commands.PinCommand.{PinCommand}
use Rattle.file_model.specs.Commands.{first_fields, second_fields}
use Rattle.file_model.specs.Outcomes.{PinOutcome, settled_pin}
use Rattle.file_model.specs.Pins.{marked, told, value_presented, pin_presented, unblock_presented, pins_put}
use Rattle.card_commits.specs.declared.pins.PinChange.{PinChange}
use Rattle.card_commits.specs.declared.pins.PinChange.TheVariants.{Tries, UnblockTries, Value, Enabled, Unblocked}
use Rattle.card_commits.specs.Pins.{changed_pin, fields_of}
use Rattle.pin_rules.specs.declared.slots.Held.{Held}
use Rattle.pin_rules.specs.declared.trials.Trial.{Trial}
use Rattle.pin_rules.specs.declared.trials.Trial.TheVariants.{Tell, Present, Unblock}

-- a PIN of the table, with its slot
abbrev pub IsHeld : Loaded → Held → Type 0
IsHeld table held = HasPin table held.slot held.pin

-- refused with this status, or tested further with the PIN that was found
abbrev pub tested_with : Result Held StatusWord → (Pin → Result PinOutcome StatusWord) → Result PinOutcome StatusWord
tested_with (Err status) next = Err status
tested_with (Ok held) next = next (pin_state held.pin)

-- a change that gives all tries of the PIN, and none of the UNBLOCK PIN
abbrev pub GivesTries : PinChange → Type 0
GivesTries (Tries tries) = tries ≡ TRIES
GivesTries (UnblockTries tries) = ⊥
GivesTries (Value value) = Unit {0}
GivesTries (Enabled enabled) = Unit {0}
GivesTries (Unblocked value) = ⊥

-- the marks, with that of the key where the command verifies it
abbrev pub marked_if : Bool → Verified → ℕ → Verified
marked_if verifies verified key = if verifies then marked verified key true else verified

-- a value against a PIN; a right one brings this change, and these marks
abbrev pub pin_trial : List Pin → Verified → Held → List ℕ → PinChange → Verified → PinOutcome
pin_trial pins verified held value change right = pin_presented pins verified (pin_state held.pin) value (pin_state (changed_pin change held.pin)) right

-- a value against an UNBLOCK PIN; a right one brings this new value of the PIN, and the mark
abbrev pub unblock_trial : List Pin → Verified → Held → List ℕ → List ℕ → PinOutcome
unblock_trial pins verified held value new =
    unblock_presented pins verified (pin_state held.pin) value (pin_state (changed_pin (Unblocked (record { 0 = new })) held.pin)) (marked verified held.pin.key true)

-- what a command comes to once nothing refuses it
abbrev pub outcome_of : List Pin → Verified → Apdu → Trial → PinOutcome
outcome_of pins verified apdu (Tell tries) = told verified tries
outcome_of pins verified apdu (Present held change verifies) = pin_trial pins verified held (value_presented apdu) change (marked_if verifies verified held.pin.key)
outcome_of pins verified apdu (Unblock held value) = unblock_trial pins verified held (value_presented apdu) value.0

-- refused, or come to this
abbrev pub meaning_of : List Pin → Verified → Apdu → Result Trial StatusWord → Result PinOutcome StatusWord
meaning_of pins verified apdu (Err status) = Err status
meaning_of pins verified apdu (Ok trial) = Ok (outcome_of pins verified apdu trial)

-- the same, refused or not
abbrev pub comes_to : List Pin → Verified → Apdu → Result Trial StatusWord → PinOutcome
comes_to pins verified apdu tried = settled_pin verified (meaning_of pins verified apdu tried)

-- whichever keys are verified, the definition of a command comes to this
abbrev pub Means : (List Pin → Verified → Apdu → Result PinOutcome StatusWord) → Loaded → Apdu → Result Trial StatusWord → Type 0
Means defined table apdu tried = (verified : Verified) → defined (pins_of table) verified apdu ≡ meaning_of (pins_of table) verified apdu tried

-- Tries are told where there are no data; a value is presented where a try is left, and eight bytes of data are there.
abbrev pub IsTrial : Loaded → Apdu → Trial → Type 0
IsTrial table apdu (Tell tries) = has_no_data apdu ≡ true
IsTrial table apdu (Present held change verifies) = IsHeld table held × (1 ≤ held.pin.tries) × (8 ≤ length apdu.body) × GivesTries change
IsTrial table apdu (Unblock held value) = IsHeld table held × (1 ≤ held.pin.unblock_tries) × (8 ≤ length apdu.body)

-- how many tries are left is told, and no value is presented
abbrev pub OnlyTells : Trial → Type 0
OnlyTells (Tell tries) = Unit {0}
OnlyTells (Present held change verifies) = ⊥
OnlyTells (Unblock held value) = ⊥

-- ---- what is set

-- Where a value is presented, it is against the PIN with this key, and both commits set the fields that the command sets.
abbrev pub SetsFields : PinCommand → ℕ → Trial → Type 0
SetsFields command key (Tell tries) = Unit {0}
SetsFields command key (Present held change verifies) = (held.pin.key ≡ key) × (first_fields command ≡ OfTries) × (second_fields command ≡ fields_of change)
SetsFields command key (Unblock held value) = (held.pin.key ≡ key) × (first_fields command ≡ OfUnblockTries) × (second_fields command ≡ OfUnblocking)

-- the changes that leave these PINs; where no value is presented there is none
abbrev pub trial_puts : Result Trial StatusWord → List (List Pin) → List Change
trial_puts (Err status) passed = []
trial_puts (Ok (Tell tries)) passed = []
trial_puts (Ok (Present held change verifies)) passed = pins_put OfTries (fields_of change) held.pin.key passed
trial_puts (Ok (Unblock held value)) passed = pins_put OfUnblockTries OfUnblocking held.pin.key passed

-- What a commit sets of a PIN.
use Rattle.std.specs.Prelude.{ℕ, ◌≤◌, true, List}
use Rattle.card_state.specs.declared.entries.PinSlot.{PinSlot}
use Rattle.card_state.specs.declared.sizes.TheConstants.{TRIES, UNBLOCK_TRIES}
use Rattle.card_state.specs.Changes.{PinFields, OfTries, OfUnblockTries, OfValue, OfEnabling, OfUnblocking, Change, PutPin}
use Rattle.card_state.specs.Persistent.{Pin, Persistent}
use Rattle.card_state.specs.States.{pin_state}
use Rattle.card_state.specs.Changing.{with_pin_for}
use Rattle.file_model.specs.Pins.{with_pin}
use Rattle.card_commits.specs.declared.pins.PinChange.{PinChange}
use Rattle.card_commits.specs.declared.pins.PinChange.TheVariants.{Tries, UnblockTries, Value, Enabled, Unblocked}

-- A value that was found right gives all tries again.
unfoldable pub changed_pin : PinChange → PinSlot → PinSlot
changed_pin (Tries tries) pin = record pin { tries = tries }
changed_pin (UnblockTries tries) pin = record pin { unblock_tries = tries }
changed_pin (Value value) pin = record pin { tries = TRIES; value = value }
changed_pin (Enabled enabled) pin = record pin { enabled = enabled; tries = TRIES }
changed_pin (Unblocked value) pin = record pin { enabled = true; tries = TRIES; unblock_tries = UNBLOCK_TRIES; value = value }

-- no more tries than a PIN can have
abbrev pub HasFewTries : PinChange → Type 0
HasFewTries (Tries tries) = tries ≤ TRIES
HasFewTries (UnblockTries tries) = tries ≤ UNBLOCK_TRIES
HasFewTries (Value value) = Unit {0}
HasFewTries (Enabled enabled) = Unit {0}
HasFewTries (Unblocked value) = Unit {0}

-- which fields it sets
abbrev pub fields_of : PinChange → PinFields
fields_of (Tries tries) = OfTries
fields_of (UnblockTries tries) = OfUnblockTries
fields_of (Value value) = OfValue
fields_of (Enabled enabled) = OfEnabling
fields_of (Unblocked value) = OfUnblocking

-- the first of the bytes of a PIN's entry that are set, and the one after the last: enabled is byte 1, the tries are 2 and 3, the value 4 to 11;
-- what lies between and isn't set is written as it stands
abbrev pub span_set : PinFields → ℕ × ℕ
span_set OfTries = (2, 3)
span_set OfUnblockTries = (3, 4)
span_set OfValue = (2, 12)
span_set OfEnabling = (1, 3)
span_set OfUnblocking = (1, 12)

-- the same of a change
abbrev pub span_of : PinChange → ℕ × ℕ
span_of change = span_set (fields_of change)

-- the change of a PIN among these, as the card's
abbrev pub put_pin : PinChange → List Pin → PinSlot → Change
put_pin change pins pin = PutPin (fields_of change) pin.key (with_pin pins (pin_state (changed_pin change pin)))

-- with this PIN changed so
abbrev pub with_pin_changed : PinChange → PinSlot → Persistent → Persistent
with_pin_changed change pin state = with_pin_for state (pin_state (changed_pin change pin))

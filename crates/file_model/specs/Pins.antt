-- VERIFY PIN, CHANGE PIN, DISABLE PIN, ENABLE PIN and UNBLOCK PIN (ETSI TS 102 221, 9.5 and 11.1.9 to 11.1.13).
use Rattle.std.specs.Prelude.{ℕ, ◌+◌, ◌-◌, ◌==◌, ◌||◌, Bool, true, false, if◌then◌else◌, List, [], ◌∷◌, length, take, drop, map, find, Option, Result, Ok}
use Rattle.std.specs.Str.{bytes_eq}
use Rattle.uicc_types.specs.declared.answers.StatusWord.{StatusWord}
use Rattle.uicc_types.specs.declared.answers.TheConstants.StatusWord.{DONE, WRONG_PARAMETERS, WRONG_LENGTH, PIN_BLOCKED, PIN_DISABLED, CONDITIONS_NOT_SATISFIED, REFERENCE_NOT_FOUND}
use Rattle.uicc_types.specs.declared.keys.TheConstants.{PIN_1, PIN_2, ADM_1}
use Rattle.apdu_form.specs.Model.{Apdu}
use Rattle.card_state.specs.Changes.{PinFields, Change, PutPin}
use Rattle.card_state.specs.Persistent.{Pin}
use Rattle.access_rules.specs.declared.rules.Verified.{Verified}
use Rattle.file_model.specs.Chains.{refused_if, given, needs}
use Rattle.apdu_form.specs.Fields.{has_no_data}
use Rattle.file_model.specs.Outcomes.{PinOutcome}

-- ---- keys

-- the PIN with this key, if it is there
unfoldable pub pin_found : List Pin → ℕ → Option Pin
pin_found pins key = find (λ pin. pin.key == key) pins

-- with this truth for a key's mark
abbrev pub marked : Verified → ℕ → Bool → Verified
marked verified key truth = record {
  pin1 = if key == PIN_1 then truth else verified.pin1;
  pin2 = if key == PIN_2 then truth else verified.pin2;
  adm1 = if key == ADM_1 then truth else verified.adm1;
}

-- `63CX`: so many tries are left
abbrev pub tries_left : ℕ → StatusWord
tries_left tries = record { 0 = 0x63C0 + tries }

-- this PIN in place of that with its key
abbrev pub with_pin : List Pin → Pin → List Pin
with_pin pins pin = map (λ other. if other.key == pin.key then pin else other) pins

-- ---- to present a value

-- The first commit takes a try. Only then is the value compared. A right one brings the second commit and what comes with it;
-- a wrong one takes the key's mark away, and the answer tells how many tries are left.
unfoldable pub presented : List Pin → Verified → Bool → Pin → ℕ → Pin → Verified → PinOutcome
presented pins verified is_right taken tries restored new_verified =
    let after = with_pin pins taken in
    if is_right
    then record { status = DONE; verified = new_verified; passed = after ∷ with_pin after restored ∷ [] }
    else record { status = tries_left tries; verified = marked verified taken.key false; passed = after ∷ [] }

-- A value against the PIN: it takes one of its tries. A right one leaves the PIN so, with three tries again.
unfoldable pub pin_presented : List Pin → Verified → Pin → List ℕ → Pin → Verified → PinOutcome
pin_presented pins verified pin value new new_verified =
    presented pins verified (bytes_eq value pin.value) (record pin { tries = pin.tries - 1 }) (pin.tries - 1) (record new { tries = 3 }) new_verified

-- A value against the UNBLOCK PIN: it takes one of its tries. A right one leaves the PIN so, with three tries, and it with ten.
unfoldable pub unblock_presented : List Pin → Verified → Pin → List ℕ → Pin → Verified → PinOutcome
unblock_presented pins verified pin value new new_verified =
    presented pins verified (bytes_eq value pin.unblock) (record pin { unblock_tries = pin.unblock_tries - 1 }) (pin.unblock_tries - 1)
    (record new { tries = 3; unblock_tries = 10 }) new_verified

-- how many tries are left is told, and nothing changes
abbrev pub told : Verified → ℕ → PinOutcome
told verified tries = record { status = tries_left tries; verified = verified; passed = [] }

-- the changes that leave these PINs, one after the other: the first sets some fields of the PIN with this key, the second others; a PIN command
-- has two at most
abbrev pub pins_put : PinFields → PinFields → ℕ → List (List Pin) → List Change
pins_put first second key [] = []
pins_put first second key (pins ∷ []) = PutPin first key pins ∷ []
pins_put first second key (pins ∷ others ∷ rest) = PutPin first key pins ∷ PutPin second key others ∷ []

-- ---- the tests that all five have

-- P1 is 00; P2 is the key
abbrev pub has_pin_parameters : Apdu → Bool
has_pin_parameters apdu = apdu.p1 == 0x00

-- the value that is presented: the first eight bytes of data
abbrev pub value_presented : Apdu → List ℕ
value_presented apdu = take 8 apdu.body

-- the new value of the PIN: the data after the first eight bytes
abbrev pub new_value : Apdu → List ℕ
new_value apdu = drop 8 apdu.body

-- the user's keys 01 and 81, whose PINs alone can be disabled, enabled and unblocked
abbrev pub is_users_key : ℕ → Bool
is_users_key key = key == PIN_1 || key == PIN_2

-- the keys that have a PIN: 01, 81 and the administrator's, 0A
abbrev pub is_pin_key : ℕ → Bool
is_pin_key key = is_users_key key || key == ADM_1

-- what all five commands are refused for first: P1 and P2, the length of the data, a key that they don't take, and a PIN that isn't there
abbrev pub pin_addressed : List Pin → Apdu → Bool → Bool → (Pin → Result PinOutcome StatusWord) → Result PinOutcome StatusWord
pin_addressed pins apdu is_length is_key next =
    needs (has_pin_parameters apdu) WRONG_PARAMETERS (
    needs is_length WRONG_LENGTH (
    needs is_key REFERENCE_NOT_FOUND (
    given (pin_found pins apdu.p2) REFERENCE_NOT_FOUND next)))

-- no tries are left
abbrev pub is_blocked : Pin → Bool
is_blocked pin = pin.tries == 0

-- ---- the commands

-- Each of the five is refused first for what `pin_addressed` looks at: P1 and P2 (6A86), the length (6700), the key, and a PIN that isn't there (6A88);
-- a wrong value is answered 63CX.

-- VERIFY PIN: what it comes to. Eight bytes are presented, and a right value sets the key's mark; without data it asks how many tries are left. It is
-- refused for a blocked PIN (6983), and with data for a disabled one (6984).
unfoldable pub pin_verified : List Pin → Verified → Apdu → Result PinOutcome StatusWord
pin_verified pins verified apdu =
    pin_addressed pins apdu (has_no_data apdu || length apdu.body == 8) (is_pin_key apdu.p2) (λ pin.
    refused_if (is_blocked pin) PIN_BLOCKED (
    if has_no_data apdu then Ok (told verified pin.tries)
    else needs pin.is_enabled PIN_DISABLED (
    Ok (pin_presented pins verified pin (value_presented apdu) pin (marked verified pin.key true)))))

-- CHANGE PIN: what it comes to. The old value is presented; where it is right the PIN has the new one, and the key's mark is set. It is refused for a
-- blocked PIN (6983) and a disabled one (6984).
unfoldable pub pin_changed : List Pin → Verified → Apdu → Result PinOutcome StatusWord
pin_changed pins verified apdu =
    pin_addressed pins apdu (length apdu.body == 16) (is_pin_key apdu.p2) (λ pin.
    refused_if (is_blocked pin) PIN_BLOCKED (
    needs pin.is_enabled PIN_DISABLED (
    Ok (pin_presented pins verified pin (value_presented apdu) (record pin { value = new_value apdu }) (marked verified pin.key true)))))

-- DISABLE PIN: what it comes to. A right value disables the PIN, and the key's mark stays. It is refused for a blocked PIN (6983) and a disabled one
-- (6984).
unfoldable pub pin_disabled : List Pin → Verified → Apdu → Result PinOutcome StatusWord
pin_disabled pins verified apdu =
    pin_addressed pins apdu (length apdu.body == 8) (is_users_key apdu.p2) (λ pin.
    refused_if (is_blocked pin) PIN_BLOCKED (
    needs pin.is_enabled PIN_DISABLED (
    Ok (pin_presented pins verified pin (value_presented apdu) (record pin { is_enabled = false }) verified))))

-- ENABLE PIN: what it comes to. A right value enables the PIN and sets the key's mark. It is refused for a blocked PIN (6983) and an enabled one
-- (6985).
unfoldable pub pin_enabled : List Pin → Verified → Apdu → Result PinOutcome StatusWord
pin_enabled pins verified apdu =
    pin_addressed pins apdu (length apdu.body == 8) (is_users_key apdu.p2) (λ pin.
    refused_if (is_blocked pin) PIN_BLOCKED (
    refused_if pin.is_enabled CONDITIONS_NOT_SATISFIED (
    Ok (pin_presented pins verified pin (value_presented apdu) (record pin { is_enabled = true }) (marked verified pin.key true)))))

-- UNBLOCK PIN: what it comes to. The UNBLOCK PIN is presented; where it is right the PIN has the new value and is enabled, and the key's mark is set.
-- Without data it asks how many tries the UNBLOCK PIN has left. It is refused where that has none (6983).
unfoldable pub pin_unblocked : List Pin → Verified → Apdu → Result PinOutcome StatusWord
pin_unblocked pins verified apdu =
    pin_addressed pins apdu (has_no_data apdu || length apdu.body == 16) (is_users_key apdu.p2) (λ pin.
    refused_if (pin.unblock_tries == 0) PIN_BLOCKED (
    if has_no_data apdu then Ok (told verified pin.unblock_tries)
    else Ok (unblock_presented pins verified pin (value_presented apdu) (record pin { value = new_value apdu; is_enabled = true }) (marked verified pin.key true))))

-- Which commands present a value, which are right, and how many guesses a trace shows, worked out.
use Rattle.std.proofs.Common.{◌≡◌, ℕ, true, false, List, [], ◌∷◌, replicate, refl}
use Rattle.std.specs.List.{list_any}
use Rattle.uicc_types.specs.declared.runs.Step.TheVariants as step
use Rattle.uicc_types.specs.declared.runs.TraceItem.TheVariants as item
use Rattle.apdu_form.specs.Model.{command_in, fields_in}
use Rattle.card_state.specs.Persistent.{Pin}
use Rattle.file_model.specs.Guards.{OfPin, OfUnblock}
use Rattle.card_laws.specs.Guesses.{guesses, presents, presents_right}

-- ---- a PIN, and the commands

abbrev pub pin_1 : Pin
pin_1 = record { key = 0x01; is_enabled = true; tries = 3; unblock_tries = 10; value = replicate 8 0x31; unblock = replicate 8 0x32 }

-- VERIFY PIN with a wrong value, with the right one, and without data
abbrev pub wrong : List ℕ
wrong = 0x00 ∷ 0x20 ∷ 0x00 ∷ 0x01 ∷ 0x08 ∷ replicate 8 0x33

abbrev pub right : List ℕ
right = 0x00 ∷ 0x20 ∷ 0x00 ∷ 0x01 ∷ 0x08 ∷ replicate 8 0x31

abbrev pub asking : List ℕ
asking = 0x00 ∷ 0x20 ∷ 0x00 ∷ 0x01 ∷ []

-- UNBLOCK PIN with the value of the PIN, which is a wrong one for it
abbrev pub unblocking : List ℕ
unblocking = 0x00 ∷ 0x2C ∷ 0x00 ∷ 0x01 ∷ 0x10 ∷ replicate 16 0x31

-- ---- which commands present a value

presents_one : presents OfPin 0x01 wrong ≡ true
unfolding command_in fields_in
presents_one = refl

presents_none : presents OfPin 0x01 asking ≡ false
unfolding command_in fields_in
presents_none = refl

of_another_key : presents OfPin 0x81 wrong ≡ false
unfolding command_in fields_in
of_another_key = refl

of_the_unblock_pin : presents OfUnblock 0x01 unblocking ≡ true
unfolding command_in fields_in
of_the_unblock_pin = refl

-- these steps present no right value, and the right one is told
none_is_right : list_any (presents_right 0x01 pin_1) (step.Apdu wrong ∷ step.Reset ∷ step.Apdu asking ∷ step.Apdu unblocking ∷ []) ≡ false
unfolding command_in fields_in
none_is_right = refl

one_is_right : list_any (presents_right 0x01 pin_1) (step.Apdu wrong ∷ step.Apdu right ∷ []) ≡ true
unfolding command_in fields_in
one_is_right = refl

-- ---- guesses of a trace

-- an answer to a question is none, nor is a loss of power, nor what is answered to another command
counted : guesses OfPin 0x01 (item.Command wrong ∷ item.Answer [] (record { 0 = 0x63C2 }) ∷ item.Command asking ∷ item.Answer [] (record { 0 = 0x63C2 }) ∷ item.Command wrong ∷ item.Cut ∷ item.Reset
    ∷ item.Command wrong ∷ item.Answer [] (record { 0 = 0x63C0 }) ∷ item.Command wrong ∷ item.Answer [] (record { 0 = 0x6983 }) ∷ []) ≡ 2
unfolding command_in fields_in
counted = refl

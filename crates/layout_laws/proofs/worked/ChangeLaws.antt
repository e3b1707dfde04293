-- The definitions, worked out on examples.
use Rattle.std.proofs.Common.{◌≡◌, ℕ, ◌/◌, true, List, [], ◌∷◌, replicate, Some, None, refl}
use Rattle.card_state.specs.Persistent.{Pin, Persistent}
use Rattle.card_state.specs.Blank.{unused_row}
use Rattle.card_state.specs.Changing.{placed, with_pin_in, with_pin_for}
use Rattle.layout_laws.specs.ChangeLaws.{kept_pieces, oldest, place_in_ring}

an_element_is_put_between : placed (λ (n : ℕ). n / 10) 5 (Some 51) (30 ∷ 40 ∷ 70 ∷ []) ≡ 30 ∷ 40 ∷ 51 ∷ 70 ∷ []
an_element_is_put_between = refl

another_takes_its_place : placed (λ (n : ℕ). n / 10) 4 (Some 41) (30 ∷ 40 ∷ 70 ∷ []) ≡ 30 ∷ 41 ∷ 70 ∷ []
another_takes_its_place = refl

one_is_taken_out : placed (λ (n : ℕ). n / 10) 7 None (30 ∷ 40 ∷ 70 ∷ []) ≡ 30 ∷ 40 ∷ []
one_is_taken_out = refl

-- before record 0 comes the last one
the_last_is_before_the_first : oldest 0 3 ≡ 2
the_last_is_before_the_first = refl

the_one_before : oldest 2 3 ≡ 1
the_one_before = refl

-- from a head at the last of three records on, record 2 is the first
behind_the_last_comes_the_first : place_in_ring 2 3 1 ≡ 0
behind_the_last_comes_the_first = refl

abbrev pin : ℕ → ℕ → Pin
pin key tries = record { key = key; is_enabled = true; tries = tries; unblock_tries = 10; value = replicate 8 0x31; unblock = replicate 8 0x32 }

abbrev with_pins : List Pin → Persistent
with_pins pins = record { is_wide = true; files = []; pins = pins; rows = []; next_sequence = 0 }

a_wrong_value_costs_a_try : with_pin_for (with_pins (pin 0x01 3 ∷ pin 0x0A 3 ∷ [])) (pin 0x0A 2) ≡ with_pins (pin 0x01 3 ∷ pin 0x0A 2 ∷ [])
a_wrong_value_costs_a_try = refl

a_pin_comes_into_its_slot : with_pin_in (with_pins (pin 0x01 3 ∷ pin 0x0A 3 ∷ [])) 1 (Some (pin 0x81 3)) ≡ with_pins (pin 0x01 3 ∷ pin 0x81 3 ∷ pin 0x0A 3 ∷ [])
a_pin_comes_into_its_slot = refl

a_pin_goes : with_pin_in (with_pins (pin 0x01 3 ∷ pin 0x0A 3 ∷ [])) 2 None ≡ with_pins (pin 0x01 3 ∷ [])
a_pin_goes = refl

-- 32 kept bytes stand with the row, a 33rd apart
few_bytes_need_no_piece : kept_pieces 3 (record unused_row { kept = replicate 32 0xA5 }) ≡ []
few_bytes_need_no_piece = refl

a_33rd_stands_apart : kept_pieces 3 (record unused_row { kept = replicate 33 0xA5 }) ≡ record { place = 64608; bytes = 0xA5 ∷ [] } ∷ []
a_33rd_stands_apart = refl

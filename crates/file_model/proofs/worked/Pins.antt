-- VERIFY PIN, CHANGE PIN, DISABLE PIN, ENABLE PIN and UNBLOCK PIN, worked out: the bytes of commands and what they answer.
use Rattle.std.proofs.Common.{◌≡◌, false, [], ◌∷◌, Some, None, refl}
use Rattle.file_model.specs.Chains.{refused_if, given}
use Rattle.file_model.specs.Pins.{pin_found, presented, pin_presented, unblock_presented, pin_verified, pin_changed, pin_disabled, pin_enabled, pin_unblocked}
use Rattle.file_model.proofs.worked.Cards.{user_pin, with_user, nothing_verified, pin1_verified, command, answered_pin, refused_pin}

-- ---- VERIFY PIN

-- two commits: 002000010831323334FFFFFFFF answers 9000
right : pin_verified (with_user (user_pin)) nothing_verified (command 0x00 0x20 0x00 0x01 (0x31 ∷ 0x32 ∷ 0x33 ∷ 0x34 ∷ 0xFF ∷ 0xFF ∷ 0xFF ∷ 0xFF ∷ []) None) ≡ answered_pin 0x9000 pin1_verified ((with_user (record user_pin { tries = 2 })) ∷ (with_user (user_pin)) ∷ [])
unfolding refused_if given pin_found presented pin_presented unblock_presented pin_verified
right = refl

-- one commit, and the mark goes: 002000010831313131FFFFFFFF answers 63C2
wrong : pin_verified (with_user (user_pin)) pin1_verified (command 0x00 0x20 0x00 0x01 (0x31 ∷ 0x31 ∷ 0x31 ∷ 0x31 ∷ 0xFF ∷ 0xFF ∷ 0xFF ∷ 0xFF ∷ []) None) ≡ answered_pin 0x63C2 nothing_verified ((with_user (record user_pin { tries = 2 })) ∷ [])
unfolding refused_if given pin_found presented pin_presented unblock_presented pin_verified
wrong = refl

-- 002000010831313131FFFFFFFF answers 63C0
wrong_for_the_last_time : pin_verified (with_user (record user_pin { tries = 1 })) nothing_verified (command 0x00 0x20 0x00 0x01 (0x31 ∷ 0x31 ∷ 0x31 ∷ 0x31 ∷ 0xFF ∷ 0xFF ∷ 0xFF ∷ 0xFF ∷ []) None) ≡ answered_pin 0x63C0 nothing_verified ((with_user (record user_pin { tries = 0 })) ∷ [])
unfolding refused_if given pin_found presented pin_presented unblock_presented pin_verified
wrong_for_the_last_time = refl

-- 002000010831323334FFFFFFFF answers 6983
right_but_blocked : pin_verified (with_user (record user_pin { tries = 0 })) nothing_verified (command 0x00 0x20 0x00 0x01 (0x31 ∷ 0x32 ∷ 0x33 ∷ 0x34 ∷ 0xFF ∷ 0xFF ∷ 0xFF ∷ 0xFF ∷ []) None) ≡ refused_pin 0x6983
unfolding refused_if given pin_found presented pin_presented unblock_presented pin_verified
right_but_blocked = refl

-- 00200001 answers 6983
blocked : pin_verified (with_user (record user_pin { tries = 0 })) nothing_verified (command 0x00 0x20 0x00 0x01 [] None) ≡ refused_pin 0x6983
unfolding refused_if given pin_found presented pin_presented unblock_presented pin_verified
blocked = refl

-- 0020000100 answers 63C3
how_many_are_left : pin_verified (with_user (user_pin)) nothing_verified (command 0x00 0x20 0x00 0x01 [] (Some 256)) ≡ answered_pin 0x63C3 nothing_verified ([])
unfolding refused_if given pin_found presented pin_presented unblock_presented pin_verified
how_many_are_left = refl

-- 00200001 answers 63C2
how_many_are_left_of_a_disabled_one : pin_verified (with_user (record user_pin { is_enabled = false; tries = 2 })) nothing_verified (command 0x00 0x20 0x00 0x01 [] None) ≡ answered_pin 0x63C2 nothing_verified ([])
unfolding refused_if given pin_found presented pin_presented unblock_presented pin_verified
how_many_are_left_of_a_disabled_one = refl

-- 002000010831323334FFFFFFFF answers 6984
right_but_disabled : pin_verified (with_user (record user_pin { is_enabled = false })) nothing_verified (command 0x00 0x20 0x00 0x01 (0x31 ∷ 0x32 ∷ 0x33 ∷ 0x34 ∷ 0xFF ∷ 0xFF ∷ 0xFF ∷ 0xFF ∷ []) None) ≡ refused_pin 0x6984
unfolding refused_if given pin_found presented pin_presented unblock_presented pin_verified
right_but_disabled = refl

-- two causes: 002000010831323334FFFFFFFF answers 6983
blocked_and_disabled : pin_verified (with_user (record user_pin { is_enabled = false; tries = 0 })) nothing_verified (command 0x00 0x20 0x00 0x01 (0x31 ∷ 0x32 ∷ 0x33 ∷ 0x34 ∷ 0xFF ∷ 0xFF ∷ 0xFF ∷ 0xFF ∷ []) None) ≡ refused_pin 0x6983
unfolding refused_if given pin_found presented pin_presented unblock_presented pin_verified
blocked_and_disabled = refl

-- 0020008100 answers 6A88
no_such_key : pin_verified (with_user (user_pin)) nothing_verified (command 0x00 0x20 0x00 0x81 [] (Some 256)) ≡ refused_pin 0x6A88
unfolding refused_if given pin_found presented pin_presented unblock_presented pin_verified
no_such_key = refl

-- two causes: 002000810131 answers 6700
no_such_key_and_wrong_length : pin_verified (with_user (user_pin)) nothing_verified (command 0x00 0x20 0x00 0x81 (0x31 ∷ []) None) ≡ refused_pin 0x6700
unfolding refused_if given pin_found presented pin_presented unblock_presented pin_verified
no_such_key_and_wrong_length = refl

-- two causes: 00200181 answers 6A86
wrong_p1_and_no_such_key : pin_verified (with_user (user_pin)) nothing_verified (command 0x00 0x20 0x01 0x81 [] None) ≡ refused_pin 0x6A86
unfolding refused_if given pin_found presented pin_presented unblock_presented pin_verified
wrong_p1_and_no_such_key = refl

-- ---- CHANGE PIN

-- 002400011031323334FFFFFFFF35363738FFFFFFFF answers 9000
changed : pin_changed (with_user (user_pin)) nothing_verified (command 0x00 0x24 0x00 0x01 (0x31 ∷ 0x32 ∷ 0x33 ∷ 0x34 ∷ 0xFF ∷ 0xFF ∷ 0xFF ∷ 0xFF ∷ 0x35 ∷ 0x36 ∷ 0x37 ∷ 0x38 ∷ 0xFF ∷ 0xFF ∷ 0xFF ∷ 0xFF ∷ []) None) ≡ answered_pin 0x9000 pin1_verified ((with_user (record user_pin { tries = 2 })) ∷ (with_user (record user_pin { value = (0x35 ∷ 0x36 ∷ 0x37 ∷ 0x38 ∷ 0xFF ∷ 0xFF ∷ 0xFF ∷ 0xFF ∷ []) })) ∷ [])
unfolding refused_if given pin_found presented pin_presented unblock_presented pin_changed
changed = refl

-- the old value is another: 002400011031323334FFFFFFFF35363738FFFFFFFF answers 63C2
not_changed : pin_changed (with_user (record user_pin { value = (0x35 ∷ 0x36 ∷ 0x37 ∷ 0x38 ∷ 0xFF ∷ 0xFF ∷ 0xFF ∷ 0xFF ∷ []) })) pin1_verified (command 0x00 0x24 0x00 0x01 (0x31 ∷ 0x32 ∷ 0x33 ∷ 0x34 ∷ 0xFF ∷ 0xFF ∷ 0xFF ∷ 0xFF ∷ 0x35 ∷ 0x36 ∷ 0x37 ∷ 0x38 ∷ 0xFF ∷ 0xFF ∷ 0xFF ∷ 0xFF ∷ []) None) ≡ answered_pin 0x63C2 nothing_verified ((with_user (record user_pin { value = (0x35 ∷ 0x36 ∷ 0x37 ∷ 0x38 ∷ 0xFF ∷ 0xFF ∷ 0xFF ∷ 0xFF ∷ []); tries = 2 })) ∷ [])
unfolding refused_if given pin_found presented pin_presented unblock_presented pin_changed
not_changed = refl

-- 002400010831323334FFFFFFFF answers 6700
one_value_alone : pin_changed (with_user (user_pin)) nothing_verified (command 0x00 0x24 0x00 0x01 (0x31 ∷ 0x32 ∷ 0x33 ∷ 0x34 ∷ 0xFF ∷ 0xFF ∷ 0xFF ∷ 0xFF ∷ []) None) ≡ refused_pin 0x6700
unfolding refused_if given pin_found presented pin_presented unblock_presented pin_changed
one_value_alone = refl

-- ---- DISABLE PIN and ENABLE PIN

-- the mark stays: 002600010831323334FFFFFFFF answers 9000
disabled : pin_disabled (with_user (record user_pin { tries = 2 })) nothing_verified (command 0x00 0x26 0x00 0x01 (0x31 ∷ 0x32 ∷ 0x33 ∷ 0x34 ∷ 0xFF ∷ 0xFF ∷ 0xFF ∷ 0xFF ∷ []) None) ≡ answered_pin 0x9000 nothing_verified ((with_user (record user_pin { tries = 1 })) ∷ (with_user (record user_pin { is_enabled = false })) ∷ [])
unfolding refused_if given pin_found presented pin_presented unblock_presented pin_disabled
disabled = refl

-- 002600010831313131FFFFFFFF answers 63C2
not_disabled : pin_disabled (with_user (user_pin)) nothing_verified (command 0x00 0x26 0x00 0x01 (0x31 ∷ 0x31 ∷ 0x31 ∷ 0x31 ∷ 0xFF ∷ 0xFF ∷ 0xFF ∷ 0xFF ∷ []) None) ≡ answered_pin 0x63C2 nothing_verified ((with_user (record user_pin { tries = 2 })) ∷ [])
unfolding refused_if given pin_found presented pin_presented unblock_presented pin_disabled
not_disabled = refl

-- 002600010831323334FFFFFFFF answers 6984
disabled_already : pin_disabled (with_user (record user_pin { is_enabled = false })) nothing_verified (command 0x00 0x26 0x00 0x01 (0x31 ∷ 0x32 ∷ 0x33 ∷ 0x34 ∷ 0xFF ∷ 0xFF ∷ 0xFF ∷ 0xFF ∷ []) None) ≡ refused_pin 0x6984
unfolding refused_if given pin_found presented pin_presented unblock_presented pin_disabled
disabled_already = refl

-- 0026000A083838383838383838 answers 6A88
never_the_administrators : pin_disabled (with_user (user_pin)) nothing_verified (command 0x00 0x26 0x00 0x0A (0x38 ∷ 0x38 ∷ 0x38 ∷ 0x38 ∷ 0x38 ∷ 0x38 ∷ 0x38 ∷ 0x38 ∷ []) None) ≡ refused_pin 0x6A88
unfolding refused_if given pin_found presented pin_presented unblock_presented pin_disabled
never_the_administrators = refl

-- 002800010831323334FFFFFFFF answers 9000
enabled_again : pin_enabled (with_user (record user_pin { is_enabled = false })) nothing_verified (command 0x00 0x28 0x00 0x01 (0x31 ∷ 0x32 ∷ 0x33 ∷ 0x34 ∷ 0xFF ∷ 0xFF ∷ 0xFF ∷ 0xFF ∷ []) None) ≡ answered_pin 0x9000 pin1_verified ((with_user (record user_pin { is_enabled = false; tries = 2 })) ∷ (with_user (user_pin)) ∷ [])
unfolding refused_if given pin_found presented pin_presented unblock_presented pin_enabled
enabled_again = refl

-- 002800010831313131FFFFFFFF answers 63C2
not_enabled : pin_enabled (with_user (record user_pin { is_enabled = false })) nothing_verified (command 0x00 0x28 0x00 0x01 (0x31 ∷ 0x31 ∷ 0x31 ∷ 0x31 ∷ 0xFF ∷ 0xFF ∷ 0xFF ∷ 0xFF ∷ []) None) ≡ answered_pin 0x63C2 nothing_verified ((with_user (record user_pin { is_enabled = false; tries = 2 })) ∷ [])
unfolding refused_if given pin_found presented pin_presented unblock_presented pin_enabled
not_enabled = refl

-- 002800010831323334FFFFFFFF answers 6985
enabled_already : pin_enabled (with_user (user_pin)) nothing_verified (command 0x00 0x28 0x00 0x01 (0x31 ∷ 0x32 ∷ 0x33 ∷ 0x34 ∷ 0xFF ∷ 0xFF ∷ 0xFF ∷ 0xFF ∷ []) None) ≡ refused_pin 0x6985
unfolding refused_if given pin_found presented pin_presented unblock_presented pin_enabled
enabled_already = refl

-- ---- UNBLOCK PIN

-- 002C000110313233343536373831323334FFFFFFFF answers 9000
unblocked : pin_unblocked (with_user (record user_pin { tries = 0 })) nothing_verified (command 0x00 0x2C 0x00 0x01 (0x31 ∷ 0x32 ∷ 0x33 ∷ 0x34 ∷ 0x35 ∷ 0x36 ∷ 0x37 ∷ 0x38 ∷ 0x31 ∷ 0x32 ∷ 0x33 ∷ 0x34 ∷ 0xFF ∷ 0xFF ∷ 0xFF ∷ 0xFF ∷ []) None) ≡ answered_pin 0x9000 pin1_verified ((with_user (record user_pin { tries = 0; unblock_tries = 9 })) ∷ (with_user (user_pin)) ∷ [])
unfolding refused_if given pin_found presented pin_presented unblock_presented pin_unblocked
unblocked = refl

-- 002C00011031313131FFFFFFFF31323334FFFFFFFF answers 63C9
not_unblocked : pin_unblocked (with_user (record user_pin { tries = 0 })) nothing_verified (command 0x00 0x2C 0x00 0x01 (0x31 ∷ 0x31 ∷ 0x31 ∷ 0x31 ∷ 0xFF ∷ 0xFF ∷ 0xFF ∷ 0xFF ∷ 0x31 ∷ 0x32 ∷ 0x33 ∷ 0x34 ∷ 0xFF ∷ 0xFF ∷ 0xFF ∷ 0xFF ∷ []) None) ≡ answered_pin 0x63C9 nothing_verified ((with_user (record user_pin { tries = 0; unblock_tries = 9 })) ∷ [])
unfolding refused_if given pin_found presented pin_presented unblock_presented pin_unblocked
not_unblocked = refl

-- 002C0001 answers 63CA
how_often_still : pin_unblocked (with_user (user_pin)) nothing_verified (command 0x00 0x2C 0x00 0x01 [] None) ≡ answered_pin 0x63CA nothing_verified ([])
unfolding refused_if given pin_found presented pin_presented unblock_presented pin_unblocked
how_often_still = refl

-- 002C000110313233343536373831323334FFFFFFFF answers 6983
never_more : pin_unblocked (with_user (record user_pin { tries = 0; unblock_tries = 0 })) nothing_verified (command 0x00 0x2C 0x00 0x01 (0x31 ∷ 0x32 ∷ 0x33 ∷ 0x34 ∷ 0x35 ∷ 0x36 ∷ 0x37 ∷ 0x38 ∷ 0x31 ∷ 0x32 ∷ 0x33 ∷ 0x34 ∷ 0xFF ∷ 0xFF ∷ 0xFF ∷ 0xFF ∷ []) None) ≡ refused_pin 0x6983
unfolding refused_if given pin_found presented pin_presented unblock_presented pin_unblocked
never_more = refl

-- The definitions, worked out on examples.
use Rattle.std.proofs.Common.{◌≡◌, ℕ, ◌≤◌, ◌<◌, true, false, List, [], ◌∷◌, length, replicate, refl, ap, inl, ⊎_elim, arith, ◌⊎◌, All, AllPairs, IsTrue}
use Rattle.std.proofs.lemmas.List.Elements.{All-nil, All-cons}
use Rattle.list_laws.proofs.AllPairsLemmas.{pairs_nil, pairs_cons}
use Rattle.card_state.specs.declared.entries.Node.{Node}
use Rattle.card_state.specs.Blank.{unused_node}
use Rattle.card_state.specs.Holding.{HoldsBytes, HoldsByKind}
use Rattle.card_state.specs.Kinds.{transparent_kind, linear_kind}
use Rattle.card_state.specs.Checks.{Check}
use Rattle.card_state.specs.Persistent.{Contents, Files, Bytes, Records, Pin, Persistent}
use Rattle.card_state.specs.Decoding.{node_of}
use Rattle.card_state.specs.Soundness.{mf, slot_of_key, IsSoundFile, IsSoundPin, AreDistinct, AreDifferent, IsSound}
use Rattle.card_state.specs.Forms.{IsPinForm, IsNodeForm}
use Rattle.card_state.specs.SoundnessLaws.{FailsFirst}

-- ---- a card with the MF alone, and these PINs

abbrev with_pins : List Pin → Persistent
with_pins pins = record { is_wide = true; files = mf ∷ []; pins = pins; rows = []; next_sequence = 0 }

abbrev pin : ℕ → ℕ → Pin
pin key tries = record { key = key; is_enabled = true; tries = tries; unblock_tries = 10; value = replicate 8 0x31; unblock = replicate 8 0x32 }

abbrev AreInOrder : Pin → Pin → Type 0
AreInOrder a b = slot_of_key a.key < slot_of_key b.key

mf_alone : IsSoundFile true (mf ∷ []) mf
mf_alone = record { kind = inl refl; tree = inl refl; number = omega arith; contents = refl; df = λ df. record { short = refl; life = refl; rule = refl; place = refl; size = refl }; ef = λ ef. absurd cc }

sound_with : (pins : List Pin) → All IsSoundPin pins → AllPairs AreInOrder pins → IsSound (with_pins pins)
sound_with pins each ordered = record {
  files = All-cons (IsSoundFile true (mf ∷ [])) mf [] mf_alone (All-nil (IsSoundFile true (mf ∷ [])));
  mf_there = (0, omega arith, refl);
  distinct_files = pairs_cons AreDistinct mf [] (All-nil (AreDistinct mf)) (pairs_nil AreDistinct);
  pins = each;
  ordered_pins = ordered;
  rows = λ k d low. absurd (omega arith);
  distinct_rows = pairs_nil AreDifferent;
  texts = omega arith;
}

a_bare_card_is_sound : IsSound (with_pins [])
a_bare_card_is_sound = sound_with [] (All-nil IsSoundPin) (pairs_nil AreInOrder)

sound_pin : IsSoundPin (pin 0x81 3)
sound_pin = record { key = (1, omega arith, refl); tries = omega arith; unblock_tries = omega arith }

sound_adm : IsSoundPin (pin 0x0A 0)
sound_adm = record { key = (2, omega arith, refl); tries = omega arith; unblock_tries = omega arith }

two_pins_are_sound : IsSound (with_pins (pin 0x81 3 ∷ pin 0x0A 0 ∷ []))
two_pins_are_sound =
    sound_with (pin 0x81 3 ∷ pin 0x0A 0 ∷ []) (All-cons IsSoundPin (pin 0x81 3) (pin 0x0A 0 ∷ []) sound_pin (All-cons IsSoundPin (pin 0x0A 0) [] sound_adm (All-nil IsSoundPin)))
    (pairs_cons AreInOrder (pin 0x81 3) (pin 0x0A 0 ∷ []) (All-cons (AreInOrder (pin 0x81 3)) (pin 0x0A 0) [] (omega arith) (All-nil (AreInOrder (pin 0x81 3))))
    (pairs_cons AreInOrder (pin 0x0A 0) [] (All-nil (AreInOrder (pin 0x0A 0))) (pairs_nil AreInOrder)))

-- the slots have one order
not_in_this_order : IsSound (with_pins (pin 0x0A 0 ∷ pin 0x81 3 ∷ [])) → ⊥
not_in_this_order sound = let less : 2 < 1 = sound.ordered_pins 0 1 (pin 0x81 3) (omega arith) (omega arith) in omega arith

not_with_four_tries : IsSoundPin (pin 0x01 4) → ⊥
not_with_four_tries sound = let low : 4 ≤ 3 = sound.tries in omega arith

-- a DF has no short identifier
not_with_a_short_identifier : IsSoundFile true (mf ∷ []) (record mf { short = 1 }) → ⊥
not_with_a_short_identifier sound = omega (arith, (sound.df refl).short)

-- ---- forms

-- a ring of three records of two bytes, with this head
abbrev ring : ℕ → List ℕ
ring head = 0x01 ∷ 0x46 ∷ 0x6F ∷ 0x39 ∷ 0x00 ∷ 0x03 ∷ 0x05 ∷ 0x00 ∷ 0x00 ∷ 0x00 ∷ 0x0F ∷ 0x80 ∷ 0x00 ∷ 0x06 ∷ 0x02 ∷ head ∷ []

no_other : (0x46 ≡ transparent_kind) ⊎ (0x46 ≡ linear_kind) → ⊥
no_other kind = ⊎_elim {C = ⊥} (λ plain. omega arith) (λ line. omega arith) kind

the_last_record_is_a_head : IsNodeForm (ring 2)
unfolding node_of
the_last_record_is_a_head = record { used = omega arith; head = λ used. record { cyclic = λ kind. omega arith; other = λ kind. absurd (no_other kind) } }

no_head_behind_the_ring : IsNodeForm (ring 3) → ⊥
unfolding node_of
no_head_behind_the_ring form = let low : 3 < 3 = (form.head refl).cyclic refl in omega arith

no_flag_of_two : IsPinForm 0 (0x01 ∷ 0x02 ∷ 0x03 ∷ 0x0A ∷ []) → ⊥
no_flag_of_two form = let low : 2 ≤ 1 = form.enabled (λ none. omega arith) in omega arith

-- a slot has no other slot's key
no_key_of_another : IsPinForm 1 (0x01 ∷ 0x01 ∷ 0x03 ∷ 0x0A ∷ []) → ⊥
no_key_of_another form = ⊎_elim {C = ⊥} (λ none. omega arith) (λ own. omega arith) form.key

-- ---- the first failure

abbrev IsMet : Check → Type 0
IsMet check = IsTrue check.is_met

abbrev card_mark : Check
card_mark = record { place = 0; is_met = true }

the_first_counts : FailsFirst (card_mark ∷ record { place = 4; is_met = false } ∷ record { place = 5; is_met = false } ∷ []) 4
the_first_counts = record {
  before = card_mark ∷ [];
  failed = record { place = 4; is_met = false };
  behind = record { place = 5; is_met = false } ∷ [];
  parts = refl;
  met = All-cons IsMet card_mark [] refl (All-nil IsMet);
  not_met = refl;
  about = refl;
}

-- ---- what files hold

abbrev numbers : Node
numbers = record unused_node { used = true; kind = transparent_kind; place = 4000; size = 2 }

two_bytes : HoldsByKind numbers (Bytes (0x98 ∷ 0x10 ∷ []))
two_bytes = record { df = λ is. absurd (omega arith); transparent = λ is. record { bytes = 0x98 ∷ 0x10 ∷ []; held = refl; long = refl }; in_records = λ is. absurd (cc is) }

abbrev bytes_of : Contents → List ℕ
bytes_of Files = []
bytes_of (Bytes bytes) = bytes
bytes_of (Records records) = []

not_three : HoldsByKind numbers (Bytes (0x98 ∷ 0x10 ∷ 0xFF ∷ [])) → ⊥
not_three holds =
    let its : HoldsBytes 2 (Bytes (0x98 ∷ 0x10 ∷ 0xFF ∷ [])) = holds.transparent refl in
    let three : 3 ≡ length its.bytes = ap (λ (c : Contents). length (bytes_of c)) its.held in
    let long : length its.bytes ≡ 2 = its.long in
    omega (arith, three, long)

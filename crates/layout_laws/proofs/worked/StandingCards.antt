-- The definitions, worked out on examples.
use Rattle.std.proofs.Common.{◌≡◌, ◌⊎◌, ℕ, ◌+◌, ◌≤◌, ◌<◌, ◌≢◌, zero, suc, true, false, List, [], ◌∷◌, replicate, Option, Some, None, All, Contains, refl, sym, ◌∙◌, ap, subst, inl, inr, ⊎_elim, lit≤, lit<, arith}
use Rattle.std.proofs.lemmas.Bool.{false≢true}
use Rattle.std.proofs.lemmas.Option.{same_Some}
use Rattle.std.proofs.lemmas.List.Elements.{All-nil, All-cons}
use Rattle.list_laws.proofs.AllPairsLemmas.{pairs_nil, pairs_cons}
use Rattle.card_state.specs.declared.entries.Node.{Node}
use Rattle.card_state.specs.declared.entries.PinSlot.{PinSlot}
use Rattle.card_state.specs.declared.entries.Loaded.{Loaded}
use Rattle.card_state.specs.Blank.{unused_node, absent_pin}
use Rattle.card_state.specs.Kinds.{df_kind, transparent_kind, linear_kind, cyclic_kind, known_codes, call_control_code}
use Rattle.card_state.specs.Persistent.{Bytes, File, Registration, Persistent}
use Rattle.card_state.specs.Soundness.{mf, AreEventCodes}
use Rattle.card_state.specs.Standing.{standing}
use Rattle.card_state.specs.Migration.{entries_end_low}
use Rattle.card_state.specs.Used.{HasNode}
use Rattle.card_state.specs.Forms.{HasRightHead}
use Rattle.card_state.specs.Fitting.{MayStandBeside, ShareNoCallControl, FitsOnShelf}
use Rattle.layout_entries.specs.Fields.{merged_node, merged_pin}
use Rattle.layout_laws.specs.Known.{IsBesideNodes}
use Rattle.layout_laws.specs.Stores.{StandsWith}
use Rattle.layout_laws.specs.Writing.{IsFileChange, IsPinChange}

-- ---- heads

-- a file of 12 bytes in records of 4
abbrev ring : ℕ → Node
ring head = record unused_node { used = true; kind = cyclic_kind; id = record { 0 = 0x6F01 }; life = 5; place = 4000; size = 12; length = 4; head = head }

the_last_of_three_records : HasRightHead (ring 2)
the_last_of_three_records = record { cyclic = λ is. lit< tt; other = λ is. absurd (⊎_elim {C = ⊥} (λ transparent. omega arith) (λ linear. omega arith) is) }

not_a_fourth : HasRightHead (ring 3) → ⊥
not_a_fourth right = let low : 3 < 3 = right.cyclic refl in omega arith

no_head_in_a_linear_file : HasRightHead (record (ring 1) { kind = linear_kind }) → ⊥
no_head_in_a_linear_file right = omega (arith, right.other (inr refl))

-- ---- changes

abbrev table : Loaded
table = record {
  nodes = unused_node ∷ ring 2 ∷ [];
  pins = absent_pin ∷ record absent_pin { key = 0x81; enabled = true; tries = 3; unblock_tries = 10 } ∷ [];
  rows = [];
  next = 0;
  wide = true;
}

-- the life cycle status is byte 6
a_file_is_deactivated : IsFileChange table 1 6 7 (ring 2) (record (ring 2) { life = 4 })
unfolding merged_node
a_file_is_deactivated = record {
  there = record { there = refl; used = refl };
  fields = record { order = lit≤ tt; inside = lit≤ tt; uncut = refl };
  rest = refl;
  ranges = record { id = lit< tt; arr = lit< tt; place = lit< tt; size = lit< tt };
  lies = inl (record { kind = refl; place = refl; size = refl });
  head = record { cyclic = λ is. lit< tt; other = λ is. absurd (⊎_elim {C = ⊥} (λ transparent. omega arith) (λ linear. omega arith) is) };
}

-- it is not byte 5
not_by_another_field : IsFileChange table 1 5 6 (ring 2) (record (ring 2) { life = 4 }) → ⊥
unfolding merged_node
not_by_another_field change = omega (arith, ap (λ (n : Node). n.life) change.rest)

-- the tries are byte 2
abbrev with_tries : ℕ → PinSlot
with_tries tries = record absent_pin { key = 0x81; enabled = true; tries = tries; unblock_tries = 10 }

a_wrong_value_costs_a_try : IsPinChange table 1 2 3 (with_tries 3) (with_tries 2)
unfolding merged_pin
a_wrong_value_costs_a_try = record {
  there = record { there = refl; key = λ is. absurd (omega arith) };
  fields = record { order = lit≤ tt; inside = lit≤ tt; uncut = refl };
  rest = refl;
  ranges = record { value = refl; unblock = refl };
  key = refl;
  tries = lit≤ tt;
  unblock_tries = lit≤ tt;
}

not_four_tries : IsPinChange table 1 2 3 (with_tries 3) (with_tries 4) → ⊥
not_four_tries change = let low : 4 ≤ 3 = change.tries in omega arith

-- ---- room

abbrev file : ℕ → ℕ → ℕ → ℕ → File
file number id short place = record mf { number = number; id = id; kind = transparent_kind; short = short; place = place; size = 10; contents = Bytes (replicate 10 0xFF) }

side_by_side : MayStandBeside (file 1 0x6F01 1 4000) (file 2 0x6F02 2 4010)
side_by_side = record { id = λ same is. absurd (omega arith); short = λ a b same. inr (λ is. absurd (omega arith)); bytes = λ a b. inl (lit≤ tt) }

not_on_the_same_bytes : MayStandBeside (file 1 0x6F01 1 4000) (file 2 0x6F02 2 4009) → ⊥
not_on_the_same_bytes beside = ⊎_elim {C = ⊥} (λ before. omega arith) (λ behind. omega arith) (beside.bytes refl refl)

not_with_one_short_identifier : MayStandBeside (file 1 0x6F01 2 4000) (file 2 0x6F02 2 4010) → ⊥
not_with_one_short_identifier beside = ⊎_elim {C = ⊥} (λ none. omega arith) (λ other. other refl) (beside.short refl refl refl)

abbrev row : ℕ → ℕ → List ℕ → Registration
row shelf sequence codes = record { shelf = shelf; kind = 1; priority = 1; sequence = sequence; codes = codes; text = []; kept = [] }

abbrev one_row : Persistent
one_row = record { is_wide = false; files = mf ∷ []; pins = []; rows = row 3 0 (call_control_code ∷ []) ∷ []; next_sequence = 2 }

abbrev first_row : Registration
first_row = row 3 0 (call_control_code ∷ [])

no_call_control : Contains (0x40 ∷ []) call_control_code → ⊥
no_call_control (zero, low, is) = absurd (omega arith)
no_call_control (suc k, low, is) = absurd (omega arith)

has_call_control : Contains (call_control_code ∷ []) call_control_code
has_call_control = (0, lit< tt, refl)

of_first : (P : Registration → Type 0) → P first_row → All P (first_row ∷ [])
of_first P is = All-cons P first_row [] is (All-nil P)

one_code : (code : ℕ) → Contains known_codes code → AreEventCodes (code ∷ [])
one_code code known = record {
  known = All-cons (Contains known_codes) code [] known (All-nil (Contains known_codes));
  ascending = pairs_cons (λ a b. a < b) code [] (All-nil (λ b. code < b)) (pairs_nil (λ a b. a < b));
}

another_row : FitsOnShelf one_row (row 4 1 (0x40 ∷ []))
another_row = record {
  sound = record { shelf = lit< tt; kind = (lit≤ tt, lit≤ tt); priority = lit≤ tt; sequence = lit< tt; codes = one_code 0x40 (9, lit< tt, refl); text = lit≤ tt; kept = lit≤ tt };
  sequence = of_first (λ other. other.shelf ≢ 4 → other.sequence ≢ 1) (λ apart is. absurd (omega arith));
  call_control = of_first (λ other. other.shelf ≢ 4 → ShareNoCallControl (row 4 1 (0x40 ∷ [])) other) (λ apart takes has. no_call_control takes);
  text = inl refl;
}

not_two_with_call_control : FitsOnShelf one_row (row 4 1 (call_control_code ∷ [])) → ⊥
not_two_with_call_control fits = fits.call_control 0 first_row (lit< tt) (λ is. absurd (omega arith)) has_call_control has_call_control

-- but in place of that row
in_its_place : FitsOnShelf one_row (row 3 1 (call_control_code ∷ []))
in_its_place = record {
  sound = record { shelf = lit< tt; kind = (lit≤ tt, lit≤ tt); priority = lit≤ tt; sequence = lit< tt; codes = one_code call_control_code (11, lit< tt, refl); text = lit≤ tt; kept = lit≤ tt };
  sequence = of_first (λ other. other.shelf ≢ 3 → other.sequence ≢ 1) (λ apart. absurd (apart refl));
  call_control = of_first (λ other. other.shelf ≢ 3 → ShareNoCallControl (row 3 1 (call_control_code ∷ [])) other) (λ apart. absurd (apart refl));
  text = inl refl;
}

-- the next row takes the next sequence number, which rises with it
not_before_its_time : FitsOnShelf one_row (row 4 2 []) → ⊥
not_before_its_time fits = let low : 2 < 2 = fits.sound.sequence in omega arith

-- ---- ranges

-- after the ring
behind_the_ring : IsBesideNodes table 4012 8
behind_the_ring = record { from = lit≤ tt; to = lit≤ tt; beside = beside } where
  beside : (number : ℕ) (node : Node) → HasNode table number node → node.kind ≢ df_kind → (node.place + node.size ≤ 4012) ⊎ (4020 ≤ node.place)
  beside zero node has other = absurd (let unused : false ≡ true = ap (λ (n : Node). n.used) (same_Some unused_node node has.there) ∙ has.used in false≢true unused)
  beside (suc zero) node has other = subst (λ (n : Node). (n.place + n.size ≤ 4012) ⊎ (4020 ≤ n.place)) (same_Some (ring 2) node has.there) (inl (lit≤ tt))
  beside (suc (suc number)) node has other = absurd (let none : None ≡ Some node = has.there in cc)

-- its last byte is not free
not_over_its_end : IsBesideNodes table 4011 1 → ⊥
not_over_its_end free =
    ⊎_elim {C = ⊥} (λ before. omega (arith, before)) (λ behind. omega (arith, behind)) (free.beside 1 (ring 2) (record { there = refl; used = refl }) (λ df. omega (arith, df)))

-- ---- the migration

it_ends_low : entries_end_low table ≡ true
unfolding entries_end_low
it_ends_low = refl

not_so_high : entries_end_low (record table { nodes = record (ring 2) { place = 63480 } ∷ [] }) ≡ false
unfolding entries_end_low
not_so_high = refl

-- ---- stores

-- a store that tells nothing stands for no state that is known, and its table for one all the same
nothing_told : (table : Loaded) (state : Option Persistent) → StandsWith 0x4A None table state → state ≡ None
unfolding standing
nothing_told table state stands = sym stands.standing_is

-- The place that is found for some bytes is the smallest one of all.
use Rattle.std.proofs.Common.{get_or, ◌≡◌, ℕ, zero, suc, ◌+◌, ◌≤◌, ◌<◌, Bool, true, false, cond, List, [], ◌∷◌, Option, Some, None, length, map, filter, refl, sym, ap, subst, inl, inr, ⊎_elim, arith, ◌≢◌, ◌⊎◌, ◌&&◌, min, max, not, nat_le, All, Contains, IsTrue}
use Rattle.std.specs.Option.{option_map_or}
use Rattle.std.specs.List.{list_any}
use Rattle.std.proofs.lemmas.Bool.{ltb-true, leb-true, le-leb, lt-ltb, and_parts, and_from, not-true, not_from_false, both_ways, false_from_ne_true, cases_eq, cases_lt}
use Rattle.std.proofs.lemmas.List.Folds.{list_any_none, list_any_at}
use Rattle.std.proofs.lemmas.List.Elements.{Contains-get_or}
use Rattle.list_laws.proofs.MapLemmas.{mapped_too}
use Rattle.list_laws.proofs.ContainsLemmas.{first_there, later_there, kept_there}
use Rattle.card_state.specs.Kinds.{is_ef_kind}
use Rattle.card_state.specs.Places.{data_place, data_end}
use Rattle.card_state.specs.Persistent.{File, Persistent}
use Rattle.file_model.specs.Rooms.{IsRoom, IsSmallestRoom, share_a_byte, is_in_the_way, is_room, smallest, beginnings, room_at}
use Rattle.file_model.specs.RoomLaws.{RoomsAreSmallest, RoomsAreOne}

pub le_or_lt : (a b : ℕ) → (a ≤ b) ⊎ (b < a)
le_or_lt a b = ⊎_elim {C = (a ≤ b) ⊎ (b < a)} inr inl (cases_lt b a)

-- ---- two ranges

-- a byte that is in both
pub record Shared (a n b m : ℕ) : Type 0 where
  pub byte : ℕ
  pub after : a ≤ byte
  pub before : byte < a + n
  pub other_after : b ≤ byte
  pub other_before : byte < b + m

pub shared : (a n b m : ℕ) → share_a_byte a n b m ≡ true → Shared a n b m
shared a n b m is =
    let less : max a b < min (a + n) (b + m) = ltb-true (max a b) (min (a + n) (b + m)) is in
    record { byte = max a b; after = omega arith; before = omega arith; other_after = omega arith; other_before = omega arith }

pub shares : (a n b m byte : ℕ) → a ≤ byte → byte < a + n → b ≤ byte → byte < b + m → share_a_byte a n b m ≡ true
shares a n b m byte after before other_after other_before = lt-ltb (max a b) (min (a + n) (b + m)) (omega arith)

-- ---- the test of a place

none_pass : {X : Type 0} (p : X → Bool) (xs : List X) → list_any p xs ≡ false → All (λ x. p x ≡ false) xs
none_pass p xs none k d low = false_from_ne_true (p (get_or xs k d)) (λ is. both_ways (list_any p xs) none (list_any_at p xs k d low is))

-- an EF is in the way exactly where it has one of the bytes
abbrev LeavesFree : ℕ → ℕ → File → Type 0
LeavesFree place size file = IsTrue (is_ef_kind file.kind) → (byte : ℕ) → place ≤ byte → byte < place + size → file.place ≤ byte → byte < file.place + file.size → ⊥

beside : (place size : ℕ) (file : File) → is_in_the_way place size file ≡ false → LeavesFree place size file
beside place size file fails ef byte after before other_after other_before =
    both_ways (is_in_the_way place size file) fails (and_from (is_ef_kind file.kind) (share_a_byte place size file.place file.size) ef (shares place size file.place file.size byte after before other_after other_before))

not_beside : (place size : ℕ) (file : File) → LeavesFree place size file → is_in_the_way place size file ≡ false
not_beside place size file free = false_from_ne_true (is_in_the_way place size file) (λ is.
    let parts = and_parts (is_ef_kind file.kind) (share_a_byte place size file.place file.size) is in
    let both = shared place size file.place file.size parts.1 in
    free parts.0 both.byte both.after both.before both.other_after both.other_before)

pub room_tested : (state : Persistent) (size place : ℕ) → is_room state size place ≡ true → IsRoom state size place
room_tested state size place is =
    let clear : Bool = not (list_any (is_in_the_way place size) state.files) in
    let parts = and_parts (nat_le data_place place && nat_le (place + size) (data_end state.is_wide)) clear is in
    let ends = and_parts (nat_le data_place place) (nat_le (place + size) (data_end state.is_wide)) parts.0 in
    record {
      from = leb-true data_place place ends.0;
      to = leb-true (place + size) (data_end state.is_wide) ends.1;
      free = λ k d low. beside place size (get_or state.files k d) (none_pass (is_in_the_way place size) state.files (not-true (list_any (is_in_the_way place size) state.files) parts.1) k d low);
    }

pub room_passes : (state : Persistent) (size place : ℕ) → IsRoom state size place → is_room state size place ≡ true
room_passes state size place room =
    and_from (nat_le data_place place && nat_le (place + size) (data_end state.is_wide)) (not (list_any (is_in_the_way place size) state.files))
    (and_from (nat_le data_place place) (nat_le (place + size) (data_end state.is_wide)) (le-leb data_place place room.from) (le-leb (place + size) (data_end state.is_wide) room.to))
    (not_from_false (list_any (is_in_the_way place size) state.files)
    (list_any_none (is_in_the_way place size) state.files (λ k d low. not_beside place size (get_or state.files k d) (room.free k d low))))

-- ---- the smallest of some numbers

pub record IsLeast (numbers : List ℕ) (least : ℕ) : Type 0 where
  pub there : Contains numbers least
  pub below : (n : ℕ) → Contains numbers n → least ≤ n

abbrev Answers : List ℕ → Option ℕ → Type 0
Answers numbers None = numbers ≡ []
Answers numbers (Some least) = IsLeast numbers least

-- an element of a list is the first one or one after it
pub either_place : {X : Type 0} (x : X) (xs : List X) (y : X) → Contains (x ∷ xs) y → (x ≡ y) ⊎ Contains xs y
either_place x xs y (zero, low, is) = inl is
either_place x xs y (suc k, low, is) = inr (k, omega (arith, low), is)

contains_or_not : (ns : List ℕ) (n : ℕ) → (Contains ns n) ⊎ (Contains ns n → ⊥)
contains_or_not [] n = inr (λ there. omega (arith, there.1))
contains_or_not (m ∷ ms) n = ⊎_elim {C = (Contains (m ∷ ms) n) ⊎ (Contains (m ∷ ms) n → ⊥)}
    (λ same. inl (subst (Contains (m ∷ ms)) same (first_there m ms)))
    (λ other. ⊎_elim {C = (Contains (m ∷ ms) n) ⊎ (Contains (m ∷ ms) n → ⊥)}
    (λ later. inl (later_there m ms n later))
    (λ none. inr (λ there. ⊎_elim {C = ⊥} other none (either_place m ms n there)))
    (contains_or_not ms n))
    (cases_eq m n)

more : (n : ℕ) (ns : List ℕ) (found : Option ℕ) → Answers ns found → IsLeast (n ∷ ns) (option_map_or (min n) found n)
more n ns None is = record {
  there = first_there n ns;
  below = λ m there. ⊎_elim {C = n ≤ m} (λ same. omega arith) (λ later.
      let inside : Contains [] m = subst (λ (l : List ℕ). Contains l m) is later in absurd (omega (arith, inside.1))) (either_place n ns m there);
}
more n ns (Some least) is = record {
  there = chosen;
  below = λ m there. ⊎_elim {C = min n least ≤ m} (λ same. omega arith) (λ later. omega (arith, is.below m later)) (either_place n ns m there);
} where
  low : n ≤ least → min n least ≡ n
  low h = omega arith

  high : least ≤ n → min n least ≡ least
  high h = omega arith

  chosen : Contains (n ∷ ns) (min n least)
  chosen = ⊎_elim {C = Contains (n ∷ ns) (min n least)}
      (λ h. subst (Contains (n ∷ ns)) (sym (low h)) (first_there n ns))
      (λ h. subst (Contains (n ∷ ns)) (sym (high (omega arith))) (later_there n ns least is.there))
      (le_or_lt n least)

pub smallest_answers : (ns : List ℕ) → Answers ns (smallest ns)
smallest_answers [] = refl
smallest_answers (n ∷ ns) = more n ns (smallest ns) (smallest_answers ns)

-- ---- among those that pass a test

kept : {X : Type 0} (p : X → Bool) (x y : X) (xs : List X) (b : Bool) → p x ≡ b → Contains (cond b (x ∷ filter p xs) (filter p xs)) y → (Contains (filter p xs) y → Contains xs y × (p y ≡ true)) → Contains (x ∷ xs) y × (p y ≡ true)
kept p x y xs true passes there rest = ⊎_elim {C = Contains (x ∷ xs) y × (p y ≡ true)}
    (λ same. (subst (Contains (x ∷ xs)) same (first_there x xs), subst (λ z. p z ≡ true) same passes))
    (λ later. let found = rest later in (later_there x xs y found.0, found.1))
    (either_place x (filter p xs) y there)
kept p x y xs false passes there rest = let found = rest there in (later_there x xs y found.0, found.1)

-- what is left stands in the list and passes
filtered : {X : Type 0} (p : X → Bool) (xs : List X) (y : X) → Contains (filter p xs) y → Contains xs y × (p y ≡ true)
filtered p [] y there = absurd (omega (arith, there.1))
filtered p (x ∷ xs) y there = kept p x y xs (p x) refl there (λ later. filtered p xs y later)

-- ---- where free bytes begin

-- a place before which the byte is an EF's, or at which the bytes of the files begin, is among the beginnings; from any other
-- the place before serves as well
module _ (state : Persistent) (size : ℕ) where
  abbrev Begins : ℕ → Type 0
  Begins place = Contains (beginnings state.files) place

  pub record Begun (place : ℕ) : Type 0 where
    pub at : ℕ
    pub low : at ≤ place
    pub begins : Begins at
    pub room : IsRoom state size at

  ends_there : (k : ℕ) (d : File) → k < length state.files → Begins ((get_or state.files k d).place + (get_or state.files k d).size)
  ends_there k d low =
      later_there data_place (map (λ file. file.place + file.size) state.files) ((get_or state.files k d).place + (get_or state.files k d).size)
      (mapped_too (λ (f : File). f.place + f.size) state.files (get_or state.files k d) (Contains-get_or state.files k d low))

  one_back : (place : ℕ) → IsRoom state size (suc place) → (Begins (suc place) → ⊥) → IsRoom state size place
  one_back place room never = record {
    from = omega (arith, room.from, not_first);
    to = omega (arith, room.to);
    free = λ k d low ef byte after before other_after other_before.
        let file : File = get_or state.files k d in
        let not_end : file.place + file.size ≢ suc place = λ same. never (subst Begins same (ends_there k d low)) in
        ⊎_elim {C = ⊥}
        (λ later. room.free k d low ef byte later (omega (arith, before)) other_after other_before)
        (λ earlier. room.free k d low ef (suc place) (omega arith) (omega (arith, after, before, earlier)) (omega (arith, earlier, other_after)) (omega (arith, earlier, other_before, not_end, after)))
        (le_or_lt (suc place) byte);
  } where
    not_first : data_place ≢ suc place
    not_first same = never (subst Begins same (first_there data_place (map (λ file. file.place + file.size) state.files)))

  -- below each place at which the bytes may stand there is one among the beginnings
  pub begun : (place : ℕ) → IsRoom state size place → Begun place
  begun zero room = absurd (omega (arith, room.from))
  begun (suc place) room = ⊎_elim {C = Begun (suc place)}
      (λ begins. record { at = suc place; low = omega arith; begins = begins; room = room })
      (λ never.
      let lower = begun place (one_back place room never) in
      record { at = lower.at; low = omega (arith, lower.low); begins = lower.begins; room = lower.room })
      (contains_or_not (beginnings state.files) (suc place))

  answers : (found : Option ℕ) → Answers (filter (is_room state size) (beginnings state.files)) found → IsSmallestRoom state size found
  answers None is = λ place room.
      let lower = begun place room in
      let inside : Contains [] lower.at = subst (λ (l : List ℕ). Contains l lower.at) is (kept_there (is_room state size) (beginnings state.files) lower.at lower.begins (room_passes state size lower.at lower.room)) in
      omega (arith, inside.1)
  answers (Some least) is = (
    room_tested state size least (filtered (is_room state size) (beginnings state.files) least is.there).1,
    λ other room.
        let lower = begun other room in
        let below : least ≤ lower.at = is.below lower.at (kept_there (is_room state size) (beginnings state.files) lower.at lower.begins (room_passes state size lower.at lower.room)) in
        omega (arith, lower.low),
  )

pub rooms_are_smallest : RoomsAreSmallest
unfolding room_at
rooms_are_smallest state size = answers state size (smallest (filter (is_room state size) (beginnings state.files))) (smallest_answers (filter (is_room state size) (beginnings state.files)))

-- ---- there is one answer

pub rooms_are_one : RoomsAreOne
rooms_are_one state size None None one other = refl
rooms_are_one state size None (Some place) one other = absurd (one place other.0)
rooms_are_one state size (Some place) None one other = absurd (other place one.0)
rooms_are_one state size (Some a) (Some b) one other = ap Some (let same : a ≡ b = omega (arith, one.1 b other.0, other.1 a one.0) in same)

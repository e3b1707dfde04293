-- The first place that nobody holds is that of the smallest free timer.
use Rattle.std.proofs.Common.{◌≡◌, ℕ, zero, suc, ◌+◌, ◌<◌, ◌≤◌, [], ◌∷◌, length, get_or, Some, None, is_none, ◌∙◌, arith}
use Rattle.std.specs.List.{position, position_or_len}
use Rattle.std.proofs.lemmas.List.Quantifiers.{position-Some}
use Rattle.std.proofs.lemmas.Grind.{common_steps}
use Rattle.list_laws.proofs.IfSomeLemmas.{none_of}
use Rattle.timer_table.specs.Timers.{Owners, owner_of, IsFree, IsSmallestFree, IsAllHeld}

-- no free place stands before the first
first_place_le : (owners : Owners) (k : ℕ) → k < length owners → get_or owners k None ≡ None → position_or_len is_none owners ≤ k
first_place_le [] k within free = absurd (omega arith)
first_place_le (None ∷ rest) k within free = omega arith
first_place_le (Some held ∷ rest) zero within free = cc
first_place_le (Some held ∷ rest) (suc k) within free =
    let within' : k < length rest = omega arith in
    omega (arith, first_place_le rest k within' free)

-- the owner of a timer stands one place before its number
owner_at : (owners : Owners) (place : ℕ) → owner_of owners (place + 1) ≡ get_or owners place None
owner_at owners place = grind (arith, common_steps)

first_place_before : (owners : Owners) (timer : ℕ) → length owners ≡ 8 → IsFree owners timer → position_or_len is_none owners + 1 ≤ timer
first_place_before owners zero eight free = absurd (omega (arith, free.from_1))
first_place_before owners (suc place) eight free =
    let within : place < length owners = omega (arith, free.up_to_8) in
    let unheld : get_or owners place None ≡ None = grind (arith, common_steps, free.unheld) in
    omega (arith, first_place_le owners place within unheld)

first_place : (owners : Owners) (place : ℕ) → position is_none owners ≡ Some place → position_or_len is_none owners ≡ place
first_place owners place found = grind arith

pub is_smallest : (owners : Owners) (place : ℕ) → length owners ≡ 8 → position is_none owners ≡ Some place → IsSmallestFree owners (place + 1)
is_smallest owners place eight found =
    let at = position-Some is_none owners place None found in
    record {
      is_free = record {
        from_1 = omega arith;
        up_to_8 = omega (arith, at.0);
        unheld = owner_at owners place ∙ none_of _ at.1;
      };
      smallest = λ other free. omega (arith, first_place owners place found, first_place_before owners other eight free);
    }

pub all_held : (owners : Owners) → length owners ≡ 8 → position is_none owners ≡ None → IsAllHeld owners
all_held owners eight none timer free =
    let before : position_or_len is_none owners < length owners =
    omega (arith, first_place_before owners timer eight free, free.up_to_8) in
    grind (arith, common_steps)

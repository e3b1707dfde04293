-- The definitions, computed on a list of owners.
use Rattle.std.proofs.Common.{◌≡◌, [], ◌∷◌, Some, None, map, replicate, refl}
use Rattle.uicc_types.specs.declared.identifiers.Shelf.{Shelf}
use Rattle.timer_table.specs.Timers.{Owners, owner_of, smallest_free, given_to, freed, without}

abbrev one : Shelf
one = record { 0 = 1 }

abbrev two : Shelf
two = record { 0 = 2 }

abbrev held : Owners
held = Some one ∷ Some two ∷ None ∷ Some one ∷ None ∷ Some two ∷ Some two ∷ Some two ∷ []

timer_1_first : smallest_free (replicate 8 None) ≡ Some 1
timer_1_first = refl

timer_3_next : smallest_free held ≡ Some 3
timer_3_next = refl

timer_5_then : smallest_free (given_to two held (Some 3)) ≡ Some 5
timer_5_then = refl

none_left : smallest_free (replicate 8 (Some one)) ≡ None
none_left = refl

owner_of_8 : owner_of held 8 ≡ Some two
owner_of_8 = refl

owner_of_9 : owner_of held 9 ≡ None
owner_of_9 = refl

freed_0 : freed held 0 ≡ held
freed_0 = refl

freed_9 : freed held 9 ≡ held
freed_9 = refl

freed_2 : owner_of (freed held 2) 2 ≡ None
freed_2 = refl

without_one : map (without one) held ≡ None ∷ Some two ∷ None ∷ None ∷ None ∷ Some two ∷ Some two ∷ Some two ∷ []
without_one = refl

-- The definition of lines, computed on small texts.
use Rattle.std.proofs.Common.{◌≡◌, [], ◌∷◌, ◌++◌, replicate, Some, None, refl, codes}
use Rattle.byte_streams.specs.Lines.{known, known_within, lines, lines_within}

nothing : lines [] ≡ []
nothing = refl

empty_line : lines (10 ∷ []) ≡ Some [] ∷ []
empty_line = refl

one_line : lines (codes "reset" ++ (10 ∷ [])) ≡ Some (codes "reset") ∷ []
one_line = refl

no_end : lines (codes "a" ++ (10 ∷ codes "b")) ≡ Some (codes "a") ∷ Some (codes "b") ∷ []
no_end = refl

-- one 0D before the 0A is dropped, and no other
returns_dropped : lines (97 ∷ 13 ∷ 13 ∷ 10 ∷ 13 ∷ 10 ∷ 98 ∷ 13 ∷ []) ≡ Some (97 ∷ 13 ∷ []) ∷ Some [] ∷ Some (98 ∷ 13 ∷ []) ∷ []
returns_dropped = refl

longest : lines (replicate 600 97 ++ (13 ∷ 10 ∷ [])) ≡ Some (replicate 600 97) ∷ []
longest = refl

too_long : lines (replicate 601 97 ++ (10 ∷ 98 ∷ [])) ≡ None ∷ Some (98 ∷ []) ∷ []
too_long = refl

-- at the end of the input the 0D counts
too_long_with_return : lines (replicate 600 97 ++ (13 ∷ [])) ≡ None ∷ []
too_long_with_return = refl

-- where three bytes may be taken up, the line that holds the fourth is bad, be it the line's own 0A
past_the_room : lines_within 3 (97 ∷ 10 ∷ 98 ∷ 10 ∷ 99 ∷ []) ≡ Some (97 ∷ []) ∷ None ∷ None ∷ []
past_the_room = refl

within_the_room : lines_within 3 (97 ∷ 10 ∷ 98 ∷ []) ≡ Some (97 ∷ []) ∷ Some (98 ∷ []) ∷ []
within_the_room = refl

-- a line that goes on is known once it is bad
known_so_far : known (97 ∷ 10 ∷ 98 ∷ []) ≡ Some (97 ∷ []) ∷ []
known_so_far = refl

not_yet_known : known (replicate 601 97) ≡ []
not_yet_known = refl

known_too_long : known (replicate 602 97) ≡ None ∷ []
known_too_long = refl

known_past_the_room : known_within 3 (97 ∷ 10 ∷ 98 ∷ 99 ∷ []) ≡ Some (97 ∷ []) ∷ None ∷ []
known_past_the_room = refl

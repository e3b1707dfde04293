-- The definitions, worked out on examples.
use Rattle.std.proofs.Common.{◌≡◌, [], ◌∷◌, refl}
use Rattle.list_laws.specs.Patches.{patched}
use Rattle.card_state.specs.Blank.{unused_node}
use Rattle.card_commits.specs.Prepared.{filled, copied, moved}

-- ---- bytes

ff_from_a_place_on : filled 1 2 (10 ∷ 11 ∷ 12 ∷ 13 ∷ []) ≡ 10 ∷ 255 ∷ 255 ∷ 13 ∷ []
unfolding patched
ff_from_a_place_on = refl

at_another_place_too : copied 0 2 2 (10 ∷ 11 ∷ 12 ∷ 13 ∷ 14 ∷ []) ≡ 10 ∷ 11 ∷ 10 ∷ 11 ∷ 14 ∷ []
unfolding patched
at_another_place_too = refl

and_ff_behind_them : moved (record unused_node { place = 0; size = 1 }) 2 3 (10 ∷ 11 ∷ 12 ∷ 13 ∷ 14 ∷ 15 ∷ []) ≡ 10 ∷ 11 ∷ 10 ∷ 255 ∷ 255 ∷ 15 ∷ []
unfolding patched
and_ff_behind_them = refl

-- The applets that the program makes.
use Rattle.std.proofs.Common.{◌≡◌, ℕ, ◌+◌, List, [], ◌∷◌, ◌++◌, map, Option, ap, ◌∙◌, arith}
use Rattle.std.specs.List.{range_with_len}
use Rattle.std.proofs.lemmas.List.FromFn.{map-range_with_len_more}
use Rattle.card_state.specs.declared.sizes.TheConstants.{ROW_COUNT}
use Rattle.applet_trait.specs.Minds.{AppletState}
use Rattle.boxed_applets.specs.Casts.{applet_on, program_boxes}

-- one more shelf
pub one_more : (shelf : ℕ) → map applet_on (range_with_len 0 (shelf + 1)) ≡ map applet_on (range_with_len 0 shelf) ++ applet_on shelf ∷ []
one_more shelf = map-range_with_len_more applet_on 0 shelf shelf (omega arith)

-- all shelves
pub all_made : (minds : List (Option AppletState)) (shelf : ℕ) → minds ≡ map applet_on (range_with_len 0 shelf) → shelf ≡ ROW_COUNT → minds ≡ program_boxes
unfolding program_boxes
all_made minds shelf is last = is ∙ ap (λ count. map applet_on (range_with_len 0 count)) last

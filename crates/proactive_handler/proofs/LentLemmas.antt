-- A vector that lends its boxes as a slice.
use Rattle.std.proofs.Common.{◌≡◌, List, sym, subst}

-- what is said of the slice, as it was lent and as it is left, is said of the vector before and after
pub lent : {X : Type 0} (P : List X → List X → Type 0) (slice before left after : List X) → slice ≡ before → after ≡ left → P slice left → P before after
lent P slice before left after same is holds =
    subst (λ now. P before now) (sym is) (subst (λ was. P was left) same holds)

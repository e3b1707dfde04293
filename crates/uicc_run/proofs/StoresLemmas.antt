-- What is said of one of the two stores is said of its device.
use Rattle.std.proofs.Common.{◌≡◌, Bool, sym, subst}

-- by which store was asked for, and by the device that it was made over and the one that it gave back
pub of_device : {E : Type 0} (P : Bool → E → E → Type 0) (asked pages : Bool) (device made left given_back : E) → asked ≡ pages → made ≡ device → given_back ≡ left → P pages made left → P asked device given_back
of_device P asked pages device made left given_back over begun ended is = subst (λ p. P p device given_back) (sym over) (subst (P pages device) (sym ended) (subst (λ e. P pages e left) begun is))

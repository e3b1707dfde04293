-- What a choice between two values, and a conjunction, say of their test.
use Rattle.std.proofs.Common.{◌≡◌, ◌⊎◌, ℕ, ◌≤◌, List, length, Bool, true, false, cond, refl, inl, inr, ◌&&◌, Option, Some, None, option_map}
use Rattle.std.proofs.lemmas.Option.{same_Some}

-- the one or the other was chosen
pub chosen : {A : Type 0} (b : Bool) (x y z : A) → cond b x y ≡ z → ((b ≡ true) × (x ≡ z)) ⊎ ((b ≡ false) × (y ≡ z))
chosen true x y z is = inl (refl, is)
chosen false x y z is = inr (refl, is)

-- of two lists that are no longer than this, either one
pub low_chosen : {A : Type 0} (b : Bool) (x y : List A) (most : ℕ) → length x ≤ most → length y ≤ most → length (cond b x y) ≤ most
low_chosen true x y most first second = first
low_chosen false x y most first second = second

-- one that doesn't hold: where the first does, the second doesn't
pub second_false : (a b : Bool) → (a && b) ≡ false → a ≡ true → b ≡ false
second_false true b is first = is
second_false false b is first = cc

-- what a mapped option has comes from what the option has
pub mapped_Some : {A B : Type 0} (f : A → B) (o : Option A) (y : B) → option_map f o ≡ Some y → (x : A) × (o ≡ Some x) × (f x ≡ y)
mapped_Some f None y is = cc
mapped_Some f (Some x) y is = (x, refl, same_Some _ _ is)

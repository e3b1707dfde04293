-- What is there, and what holds of it.
use Rattle.std.proofs.Common.{◌≡◌, Option, Some, None, refl, sym, subst, IsSomeAnd, option_and_then}

pub some_of : {X : Type 0} (P : X → Type 0) (o : Option X) → IsSomeAnd o P → (x : X) × (o ≡ Some x) × P x
some_of P None holds = absurd holds
some_of P (Some x) holds = (x, refl, holds)

pub some_so : {X : Type 0} (P : X → Type 0) (o : Option X) (x : X) → o ≡ Some x → P x → IsSomeAnd o P
some_so P o x is holds = subst (λ q. IsSomeAnd q P) (sym is) holds

-- what comes of something comes of what is there
pub then_of : {X Y : Type 0} (f : X → Option Y) (o : Option X) (y : Y) → option_and_then f o ≡ Some y → (x : X) × (o ≡ Some x) × (f x ≡ Some y)
then_of f None y is = cc
then_of f (Some x) y is = (x, refl, is)

pub sure_of : {X : Type 0} (P : X → Type 0) (o : Option X) (x : X) → o ≡ Some x → IsSomeAnd o P → P x
sure_of P o x is holds = subst (λ q. IsSomeAnd q P) is holds

-- What holds of an option and of a result, from what holds of each value that it may have.
use Rattle.std.proofs.Common.{◌≡◌, Option, Some, None, refl, sym, ap, ◌∙◌, IfOk, Result, Ok, ok_or}
use Rattle.std.specs.Result.{result_ok}
use Rattle.std.proofs.lemmas.Option.{same_Some}

pub if_found : {X E : Type 0} (o : Option X) (e : E) (P : X → Type 0) → ((x : X) → o ≡ Some x → P x) → IfOk (ok_or o e) P
if_found None e P each = cc
if_found (Some x) e P each = each x refl

pub same_ok : {X E : Type 0} (r : Result X E) (x y : X) → r ≡ Ok x → r ≡ Ok y → x ≡ y
same_ok r x y is is_too = same_Some x y (ap result_ok (sym is ∙ is_too))

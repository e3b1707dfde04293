-- What is known of an optional value, and of a result.
use Rattle.std.proofs.Common.{◌≡◌, Bool, true, false, cond, Option, Some, None, Result, Ok, Err, refl, subst, IfSome, IfOk, OnOk, OnErr, option_map, is_some, is_none}
use Rattle.std.proofs.lemmas.Result.{IfOk-weaker}

-- ---- an optional value

pub if_some : {X : Type 0} (o : Option X) (P : X → Type 0) → ((x : X) → o ≡ Some x → P x) → IfSome o P
if_some None P each = cc
if_some (Some x) P each = each x refl

pub if_some_at : {X : Type 0} (o : Option X) (P : X → Type 0) (x : X) → IfSome o P → o ≡ Some x → P x
if_some_at o P x holds is = subst (λ o. IfSome o P) is holds

-- there is none
pub none_of : {X : Type 0} (o : Option X) → is_none o ≡ true → o ≡ None
none_of None is = refl
none_of (Some x) is = cc

pub none_chosen : {X : Type 0} (b : Bool) (x : X) → cond b (Some x) None ≡ None → b ≡ false
none_chosen true x is = cc
none_chosen false x is = refl

pub none_mapped : {X Y : Type 0} (f : X → Y) (o : Option X) → option_map f o ≡ None → o ≡ None
none_mapped f None is = refl
none_mapped f (Some x) is = cc

pub is_some-map : {X Y : Type 0} (f : X → Y) (o : Option X) → is_some (option_map f o) ≡ is_some o
is_some-map f None = refl
is_some-map f (Some x) = refl

-- ---- a result

pub if_ok_from : {X E : Type 0} (r : Result X E) (P Q : X → Type 0) → IfOk r P → ((x : X) → P x → Q x) → IfOk r Q
if_ok_from r P Q holds each = IfOk-weaker r P Q each holds

-- what holds in any case holds after Ok, and after a fault
pub on_ok : {X E P : Type 0} (r : Result X E) → P → OnOk r P
on_ok (Ok x) holds = holds
on_ok (Err e) holds = tt

pub on_err : {X E P : Type 0} (r : Result X E) → P → OnErr r P
on_err (Ok x) holds = tt
on_err (Err e) holds = holds

-- what each of the two outcomes gives
pub whichever : {X E A B P : Type 0} (r : Result X E) → OnOk r A → OnErr r B → (A → P) → (B → P) → P
whichever (Ok x) ok err from_ok from_err = from_ok ok
whichever (Err e) ok err from_ok from_err = from_err err

-- What comes of a chain of tests: each refusal is one of the known ones, and what stands after all tests is as it should be.
use Rattle.std.proofs.Common.{◌≡◌, Bool, true, false, Result, Ok, Err, refl, Option, Some, None, MatchResult}
use Rattle.uicc_types.specs.declared.answers.StatusWord.{StatusWord}
use Rattle.file_model.specs.Chains.{refused_if, and_given, given}

pub unless_so : {X : Type 0} (P : X → Type 0) (R : StatusWord → Type 0) (bad : Bool) (status : StatusWord) (next : Result X StatusWord)
    → R status → (bad ≡ false → MatchResult next P R) → MatchResult (refused_if bad status next) P R
unfolding refused_if
unless_so P R true status next refused rest = refused
unless_so P R false status next refused rest = rest refl

pub given_so : {X Y : Type 0} (P : Y → Type 0) (R : StatusWord → Type 0) (o : Option X) (status : StatusWord) (next : X → Result Y StatusWord)
    → R status → ((x : X) → o ≡ Some x → MatchResult (next x) P R) → MatchResult (given o status next) P R
unfolding given
given_so P R None status next refused rest = refused
given_so P R (Some x) status next refused rest = rest x refl

pub and_given_so : {X Y : Type 0} (Q : X → Type 0) (P : Y → Type 0) (R : StatusWord → Type 0) (r : Result X StatusWord) (next : X → Result Y StatusWord)
    → MatchResult r Q R → ((x : X) → Q x → MatchResult (next x) P R) → MatchResult (and_given r next) P R
unfolding and_given
and_given_so Q P R (Err status) next refused rest = refused
and_given_so Q P R (Ok x) next known rest = rest x known

pub past_unless : {X Y : Type 0} (bad : Bool) (status : StatusWord) (r : Result X StatusWord) (next : X → Result Y StatusWord) → and_given (refused_if bad status r) next ≡ refused_if bad status (and_given r next)
unfolding refused_if and_given
past_unless true status r next = refl
past_unless false status r next = refl

pub past_given : {X Y Z : Type 0} (r : Result X StatusWord) (f : X → Result Y StatusWord) (next : Y → Result Z StatusWord) → and_given (and_given r f) next ≡ and_given r (λ x. and_given (f x) next)
unfolding and_given
past_given (Ok x) f next = refl
past_given (Err status) f next = refl

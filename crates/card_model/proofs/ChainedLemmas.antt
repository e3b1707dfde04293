-- What comes of a chain of tests: where each refusal is of one kind and what comes of the rest of another, so is what comes of it all.
use Rattle.std.proofs.Common.{◌≡◌, Bool, true, false, cond, Option, Result, Ok, Err, refl, MatchResult}
use Rattle.uicc_types.specs.declared.answers.StatusWord.{StatusWord}
use Rattle.file_model.specs.Chains.{refused_if, given, and_given}
use Rattle.file_model.proofs.ChainsLemmas.{unless_so, given_so}
use Rattle.card_model.specs.Chained.{Any}

pub either_so : {X : Type 0} (P : X → Type 0) (R : StatusWord → Type 0) (b : Bool) (x y : Result X StatusWord)
    → (b ≡ true → MatchResult x P R) → (b ≡ false → MatchResult y P R) → MatchResult (cond b x y) P R
either_so P R true x y first second = first refl
either_so P R false x y first second = second refl

pub past : {X : Type 0} (P : X → Type 0) (bad : Bool) (status : StatusWord) (next : Result X StatusWord) → MatchResult next P Any → MatchResult (refused_if bad status next) P Any
past P bad status next rest = unless_so P Any bad status next tt (λ _. rest)

pub past_given : {X Y : Type 0} (P : Y → Type 0) (o : Option X) (status : StatusWord) (next : X → Result Y StatusWord) → ((x : X) → MatchResult (next x) P Any) → MatchResult (given o status next) P Any
past_given P o status next rest = given_so P Any o status next tt (λ x _. rest x)

pub past_result : {X Y : Type 0} (P : Y → Type 0) (r : Result X StatusWord) (next : X → Result Y StatusWord) → ((x : X) → MatchResult (next x) P Any) → MatchResult (and_given r next) P Any
unfolding and_given
past_result P (Err status) next rest = tt
past_result P (Ok x) next rest = rest x

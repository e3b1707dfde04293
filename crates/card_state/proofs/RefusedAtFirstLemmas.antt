-- The first check that fails.
use Rattle.std.proofs.Common.{◌≡◌, ℕ, true, false, List, [], ◌∷◌, ◌++◌, Option, Some, None, Err, refl, ◌∙◌, ap, ⊎_elim, All, IsTrue}
use Rattle.std.proofs.lemmas.Bool.{cases_Bool}
use Rattle.std.proofs.lemmas.List.Elements.{All-nil, All-cons, All-head, All-tail}
use Rattle.card_state.specs.Persistent.{Persistent}
use Rattle.card_state.specs.Decoding.{table_of}
use Rattle.card_state.specs.States.{state_of}
use Rattle.card_state.specs.Checks.{Check, checks, first_failed}
use Rattle.card_state.specs.Standing.{unless_failed, stands_for}
use Rattle.card_state.specs.SoundnessLaws.{FailsFirst, RefusedAtFirst}

abbrev IsMet : Check → Type 0
IsMet check = IsTrue check.is_met

one_more : (check : Check) (list : List Check) (place : ℕ) → check.is_met ≡ true → FailsFirst list place → FailsFirst (check ∷ list) place
one_more check list place is first = record {
  before = check ∷ first.before;
  failed = first.failed;
  behind = first.behind;
  parts = ap (λ (l : List Check). check ∷ l) first.parts;
  met = All-cons IsMet check first.before is first.met;
  not_met = first.not_met;
  about = first.about;
}

fails_first : (list : List Check) (place : ℕ) → first_failed list ≡ Some place → FailsFirst list place
fails_first [] place found = absurd cc
fails_first (check ∷ list) place found =
    ⊎_elim {C = FailsFirst (check ∷ list) place} (λ is. one_more check list place is (fails_first list place (rw is at found)))
    (λ is.
    let here : Some check.place ≡ Some place = rw is at found in
    record { before = []; failed = check; behind = list; parts = refl; met = All-nil IsMet; not_met = is; about = cc })
    (cases_Bool check.is_met)

first_of_parts : (before : List Check) (failed : Check) (behind : List Check) → All IsMet before → failed.is_met ≡ false → first_failed (before ++ failed ∷ behind) ≡ Some failed.place
first_of_parts [] failed behind met fails = rw fails refl
first_of_parts (check ∷ before) failed behind met fails = rw (All-head IsMet check before met) (first_of_parts before failed behind (All-tail IsMet check before met) fails)

found_first : (list : List Check) (place : ℕ) → FailsFirst list place → first_failed list ≡ Some place
found_first list place first = ap first_failed first.parts ∙ first_of_parts first.before first.failed first.behind first.met first.not_met ∙ ap (λ (n : ℕ). Some n) first.about

refused_told : (failed : Option ℕ) (state : Persistent) (place : ℕ) → unless_failed failed state ≡ Err place → failed ≡ Some place
refused_told None state place is = absurd cc
refused_told (Some at) state place is = cc

pub refused_at_first : RefusedAtFirst
unfolding stands_for
refused_at_first store_mark content place = (
  λ is. fails_first (checks store_mark content) place (refused_told (first_failed (checks store_mark content)) (state_of (table_of content) content) place is),
  λ first. ap (λ (failed : Option ℕ). unless_failed failed (state_of (table_of content) content)) (found_first (checks store_mark content) place first),
)

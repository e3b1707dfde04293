-- Commits that are at most so many, and what stands after those that were done.
use Rattle.std.proofs.Common.{◌≡◌, ◌⊎◌, inl, inr, ℕ, zero, suc, ◌+◌, ◌<◌, ◌≤◌, List, [], ◌∷◌, length, Option, Some, None, option_map, Result, Ok, Err, refl, sym, ◌∙◌, ap, subst, ⊎_elim, arith, Contains, IsSomeAnd, slice_index_or}
use Rattle.std.proofs.lemmas.List.{get_or_read_under}
use Rattle.uicc_types.specs.Counts.{raised_by}
use Rattle.store_form.specs.declared.store.StoreFault.{StoreFault}
use Rattle.card_state.specs.Persistent.{Persistent}
use Rattle.card_commits.specs.Performing.{CommitsAtMost}
use Rattle.card_core.specs.Known.{CommitsSo}
use Rattle.card_core.specs.Moves.{StopsAt}

-- each of them was done
pub all_commits : (times before now : ℕ) → now ≡ raised_by times before → CommitsAtMost times before now
all_commits times before now is = (times, (omega arith, is))

-- none of them was
pub no_commits : (times before now : ℕ) → now ≡ before → CommitsAtMost times before now
no_commits times before now is = (0, (omega arith, is))

-- nothing is there to be committed
pub none_so : {X : Type 0} (result : Result X StoreFault) (before now : ℕ) (states : List Persistent) → states ≡ [] → now ≡ before → CommitsSo result before now states
none_so (Ok done) before now states none same = same ∙ ap (λ (each : List Persistent). raised_by (length each) before) (sym none)
none_so (Err fault) before now states none same = no_commits (length states) before now same

-- the count of commits stands still before it
pub so_from : {X : Type 0} (result : Result X StoreFault) (before middle now : ℕ) (states : List Persistent) → middle ≡ before → CommitsSo result middle now states → CommitsSo result before now states
so_from (Ok done) before middle now states same so = so ∙ ap (raised_by (length states)) same
so_from (Err fault) before middle now states same so = subst (λ (count : ℕ). CommitsAtMost (length states) count now) same so

-- ---- what stands where a fault stops them

-- nothing was done
pub stops_none : (state : Persistent) (states : List Persistent) (before now : ℕ) (after : Option Persistent) → now ≡ before → after ≡ Some state → StopsAt state states before now after
stops_none state states before now after same is = record { place = 0; counted = same; reached = 0; near = inl refl; within = omega arith; stands = is }

none_or_one : (count : ℕ) → count ≤ 1 → (count ≡ 0) ⊎ (count ≡ 0 + 1)
none_or_one zero few = inl refl
none_or_one (suc count) few = inr (omega (arith, few))

-- there was one to be done at most, and none is counted
pub stops_one : (state : Persistent) (states : List Persistent) (before now : ℕ) (after : Option Persistent) → length states ≤ 1 → now ≡ before → IsSomeAnd after (Contains (state ∷ states)) → StopsAt state states before now after
stops_one state states before now None few same one = absurd one
stops_one state states before now (Some left) few same one = record {
  place = 0;
  counted = same;
  reached = one.0;
  near = none_or_one one.0 (omega (arith, few, one.1));
  within = omega (arith, one.1);
  stands = ap Some (get_or_read_under (state ∷ states) one.0 (length (state ∷ states)) left state (sym one.2) one.1 refl);
}

-- those before this place were done
pub stops_between : (state : Persistent) (states : List Persistent) (before now : ℕ) (after : Option Persistent) (place : ℕ) → place < length states → now ≡ raised_by place before
    → (after ≡ Some (slice_index_or (state ∷ states) place state)) ⊎ (after ≡ Some (slice_index_or (state ∷ states) (place + 1) state)) → StopsAt state states before now after
stops_between state states before now after place low counted (inl is) = record { place = place; counted = counted; reached = place; near = inl refl; within = omega (arith, low); stands = is }
stops_between state states before now after place low counted (inr is) = record { place = place; counted = counted; reached = place + 1; near = inr refl; within = omega (arith, low); stands = is }

-- what stands, of a state that is there
pub stands_there : (f g : Persistent → Persistent) (before after : Option Persistent) (state : Persistent) → before ≡ Some state → (after ≡ option_map f before) ⊎ (after ≡ option_map g before)
    → (after ≡ Some (f state)) ⊎ (after ≡ Some (g state))
stands_there f g before after state there (inl is) = inl (is ∙ ap (option_map f) there)
stands_there f g before after state there (inr is) = inr (is ∙ ap (option_map g) there)

-- where there was nothing to be done, more that could follow
pub stops_more : (state : Persistent) (states : List Persistent) (before now : ℕ) (after : Option Persistent) → StopsAt state [] before now after → StopsAt state states before now after
stops_more state states before now after stops =
    let none : stops.reached ≡ 0 = omega (arith, stops.within) in
    let place : stops.place ≡ 0 = ⊎_elim {C = stops.place ≡ 0} (λ is. sym is ∙ none) (λ is. omega (arith, is, none)) stops.near in
    stops_none state states before now after (stops.counted ∙ ap (λ (count : ℕ). raised_by count before) place) (stops.stands ∙ ap (λ (count : ℕ). Some (slice_index_or (state ∷ []) count state)) none)

-- An index has a shelf under a code exactly where a row is registered for it.
use Rattle.std.proofs.Common.{◌≡◌, refl, ap, ◌∙◌, ℕ, suc, Bool, true, false, List, [], ◌∷◌, length, arith, not, ◌&&◌, ◌||◌, ◌==◌, if◌then◌else◌, filter}
use Rattle.std.specs.List.{list_any}
use Rattle.std.proofs.lemmas.Bool.Decides.{nat_tests}
use Rattle.std.proofs.lemmas.List.{length-map}
use Rattle.card_state.specs.Persistent.{Registration}
use Rattle.terminal_profile.specs.Profiles.{allowed_event}
use Rattle.toolkit_model.specs.Order.{is_for, in_order, trigger_order, targets}
use Rattle.toolkit_model.specs.Driving.{download_codes, events_for}
use Rattle.event_dispatch.specs.Indexes.{StandsFor}
use Rattle.event_dispatch.proofs.TriggerOrderLemmas.{length_in_order}
use Rattle.proactive_handler.specs.Events.{is_heard, is_asked_for, events_in}

length_targets : (rows : List Registration) (code : ℕ) → length (targets rows code) ≡ length (filter (is_for code) rows)
unfolding trigger_order
length_targets rows code = length-map (in_order (filter (is_for code) rows)) (λ row. row.shelf) ∙ length_in_order (filter (is_for code) rows)

some_there : (n : ℕ) → not (suc n == 0) ≡ true
some_there n = grind (arith, nat_tests)

passes : {X : Type 0} (p : X → Bool) (x : X) (xs : List X) (b : Bool) → p x ≡ b → not (length (filter p xs) == 0) ≡ list_any p xs → not (length (if b then x ∷ filter p xs else filter p xs) == 0) ≡ (b || list_any p xs)
passes p x xs true is others = some_there (length (filter p xs))
passes p x xs false is others = others

pub any_kept : {X : Type 0} (p : X → Bool) (xs : List X) → not (length (filter p xs) == 0) ≡ list_any p xs
any_kept p [] = refl
any_kept p (x ∷ xs) = passes p x xs (p x) refl (any_kept p xs)

pub heard : (lists : List (List ℕ)) (rows : List Registration) (code : ℕ) → StandsFor lists rows → is_heard lists code ≡ list_any (is_for code) rows
heard lists rows code stands =
    ap (λ (shelves : List ℕ). not (length shelves == 0)) (stands code) ∙ ap (λ (n : ℕ). not (n == 0)) (length_targets rows code) ∙ any_kept (is_for code) rows

same_kept : (p q : ℕ → Bool) → ((x : ℕ) → p x ≡ q x) → (xs : List ℕ) → filter p xs ≡ filter q xs
same_kept p q same [] = refl
same_kept p q same (x ∷ xs) =
    ap (λ (b : Bool). if b then x ∷ filter p xs else filter p xs) (same x) ∙ ap (λ (kept : List ℕ). if q x then x ∷ kept else kept) (same_kept p q same xs)

-- so the events are those of the rows
pub events_are : (profile : List ℕ) (lists : List (List ℕ)) (rows : List Registration) → StandsFor lists rows → events_in profile lists ≡ events_for profile rows
events_are profile lists rows stands =
    same_kept (is_asked_for profile lists) (λ code. list_any (is_for code) rows && allowed_event profile code)
    (λ code. ap (λ (b : Bool). b && allowed_event profile code) (heard lists rows code stands)) download_codes

-- Which statuses are among others.
use Rattle.std.proofs.Common.{◌≡◌, Bool, true, false, List, refl, ap, inl, inr, ◌==◌, ◌||◌, Contains, eqb-true}
use Rattle.std.specs.List.{list_any, list_all}
use Rattle.std.proofs.lemmas.Map.Views.{Contains-from_any}
use Rattle.uicc_types.specs.declared.answers.StatusWord.{StatusWord}
use Rattle.file_model.specs.Laws.{IsFileRefusal, file_refusals, pin_refusals}
use Rattle.file_model.specs.LawfulTrees.{tree_refusals}
use Rattle.card_model.specs.Laws.{IsKnownStatus, IsStatusOf, statuses, tree_statuses}
use Rattle.card_model.proofs.RowNamedLemmas.{all_hold}

abbrev same : StatusWord → StatusWord → Bool
same a b = a.0 == b.0

listed : (xs : List StatusWord) (status : StatusWord) → list_any (same status) xs ≡ true → Contains xs status
listed xs status is = Contains-from_any {eq = same} (λ a b equal. ap (λ n. record { 0 = n }) (eqb-true a.0 b.0 equal)) status xs is

pub among : (xs ys : List StatusWord) → list_all (λ x. list_any (same x) ys) xs ≡ true → (status : StatusWord) → Contains xs status → Contains ys status
among xs ys all status there = listed ys status (all_hold (λ x. list_any (same x) ys) xs all status there)

pub file_known : (status : StatusWord) → IsFileRefusal status → IsKnownStatus status
file_known status (inl there) = inl (among file_refusals statuses refl status there)
file_known status (inr told) = inr (inl told)

pub pin_known : (status : StatusWord) → Contains pin_refusals status → IsKnownStatus status
pin_known status there = inl (among pin_refusals statuses refl status there)

-- a refusal of a command that makes, deletes or resizes files
pub tree_known : (status : StatusWord) → Contains tree_refusals status → IsStatusOf true status
tree_known status there =
    by_list (list_any (same status) statuses) refl (all_hold (λ x. list_any (same x) statuses || list_any (same x) tree_statuses) tree_refusals refl status there)
  where
    by_list : (b : Bool) → list_any (same status) statuses ≡ b → (b || list_any (same status) tree_statuses) ≡ true → IsStatusOf true status
    by_list true is rest = inl (inl (listed statuses status is))
    by_list false is rest = inr (refl, listed tree_statuses status rest)

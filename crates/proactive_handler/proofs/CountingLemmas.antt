-- How often a memory is committed.
use Rattle.std.proofs.Common.{◌≡◌, refl, ap, ◌∙◌, List, [], ◌∷◌, ◌++◌, length, ℕ}
use Rattle.uicc_types.specs.Counts.{raised, raised_by}
use Rattle.card_state.specs.Memory.{Memory}
use Rattle.proactive_handler.specs.Counting.{Counts}

pub raised_then : {X : Type 0} (first second : List X) (before : ℕ) → raised_by (length second) (raised_by (length first) before) ≡ raised_by (length (first ++ second)) before
raised_then [] second before = refl
raised_then (x ∷ first) second before = raised_then first second (raised before)

pub counts_none : {X : Type 0} (old new : Memory) → new ≡ old → Counts {X = X} [] old new
counts_none old new same = record { commits = ap (λ (m : Memory). m.commits) same; stays = λ none. ap (λ (m : Memory). m.told) same }

pub counts_one : {X : Type 0} (x : X) (old new : Memory) → new.commits ≡ raised old.commits → Counts (x ∷ []) old new
counts_one x old new once = record { commits = once; stays = λ none. cc none }

first_none : {X : Type 0} (first second : List X) → first ++ second ≡ [] → first ≡ []
first_none [] second none = refl
first_none (x ∷ first) second none = cc none

second_none : {X : Type 0} (first second : List X) → first ++ second ≡ [] → second ≡ []
second_none [] second none = none
second_none (x ∷ first) second none = cc none

-- one after the other
pub counts_then : {X : Type 0} (first second : List X) (old mid new : Memory) → Counts first old mid → Counts second mid new → Counts (first ++ second) old new
counts_then first second old mid new one two = record {
  commits = two.commits ∙ ap (raised_by (length second)) one.commits ∙ raised_then first second old.commits;
  stays = λ none. two.stays (second_none first second none) ∙ one.stays (first_none first second none);
}

-- Steps after steps, by what is known of the card before them.
use Rattle.std.proofs.Common.{◌≡◌, Bool, List, [], ◌∷◌, ◌++◌, refl, sym, subst}
use Rattle.uicc_types.specs.declared.runs.Step.{Step}
use Rattle.uicc_types.specs.declared.runs.TraceItem.{TraceItem}
use Rattle.run_steps.proofs.GoesOnLemmas.{calm_before, calm_behind, run_ends, run_of, run_one, run_then, shows_one, shows_then}
use Rattle.run_steps.specs.Taking.{Rests, RestsOn}
use Rattle.run_steps.specs.Views.{CardView, IsRunOf, ItsPower, LastShows, RunShows, StepShows, StepsShow, TheCard}

steps_still : (old : CardView) → StepsShow old [] [] old
steps_still (TheCard card) = record { seen = refl; stays = refl }
steps_still (ItsPower on) = (refl, refl)

pub steps_nowhere : (old new : CardView) → new ≡ old → StepsShow old [] [] new
steps_nowhere old new same = subst (λ (n : CardView). StepsShow old [] [] n) (sym same) (steps_still old)

pub steps_one : (old new : CardView) (step : Step) (items : List TraceItem) → StepShows old step items new → StepsShow old (step ∷ []) items new
steps_one (TheCard old) (TheCard new) step items gives = run_one old new step items gives
steps_one (ItsPower on) (ItsPower after) step items may = shows_one on after step items may
steps_one old new step items none = absurd none

pub steps_then : (first more : List Step) (old middle new : CardView) (items others : List TraceItem) → StepsShow old first items middle → StepsShow middle more others new → StepsShow old (first ++ more) (items ++ others) new
steps_then first more (TheCard old) (TheCard middle) (TheCard new) items others run rest = run_then first more old middle new items others run rest
steps_then first more (ItsPower on) (ItsPower between) (ItsPower after) items others may rest = shows_then first more on between after items others may rest
steps_then first more old (TheCard middle) (ItsPower after) items others run none = absurd none
steps_then first more old (ItsPower between) (TheCard new) items others run none = absurd none
steps_then first more old middle new items others none rest = absurd none

-- they are a run
pub run_shown : (steps : List Step) (old new : CardView) (items : List TraceItem) → StepsShow old steps items new → RunShows old steps items new
run_shown steps (TheCard old) (TheCard new) items run = run_of steps old new items run
run_shown steps (ItsPower on) (ItsPower after) items may = may
run_shown steps old new items none = absurd none

pub run_shown_of : (steps : List Step) (old new : CardView) (items : List TraceItem) → StepsShow old steps items new → IsRunOf old steps items new
run_shown_of steps (TheCard old) (TheCard new) items run = run_of steps old new items run
run_shown_of steps (ItsPower on) (ItsPower after) items may = tt
run_shown_of steps old new items none = absurd none

-- and so it is of the card itself with a step that is the last
pub run_failed : (first : List Step) (step : Step) (old middle new : CardView) (items last : List TraceItem) → StepsShow old first items middle → LastShows middle step last new → IsRunOf old (first ++ step ∷ []) (items ++ last) new
run_failed first step (TheCard old) (TheCard middle) (TheCard new) items last run ends = run_ends first step old middle new items last run ends
run_failed first step (ItsPower on) (ItsPower between) (ItsPower after) items last run ends = tt
run_failed first step old (TheCard middle) (ItsPower after) items last run none = absurd none
run_failed first step old (ItsPower between) (TheCard new) items last run none = absurd none
run_failed first step old middle new items last none ends = absurd none

-- no box is to be woken after them, where none was before
pub rests_then : (old new : CardView) (steps : List Step) (own more : List TraceItem) (was_due is_due : Bool) → StepsShow old steps more new → Rests old own was_due → RestsOn new more was_due is_due → Rests new (own ++ more) is_due
rests_then (TheCard old) (TheCard new) steps own more was_due is_due run before now = λ calm. now (λ none. before (calm_before own more none calm)) (calm_behind own more calm)
rests_then (ItsPower on) (ItsPower after) steps own more was_due is_due run before now = tt
rests_then old new steps own more was_due is_due none before now = absurd none

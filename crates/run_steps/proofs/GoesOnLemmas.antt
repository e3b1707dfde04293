-- Runs after runs, and what is seen of them.
use Rattle.std.proofs.Common.{◌≡◌, Bool, true, List, [], ◌∷◌, ◌++◌, refl, sym, ap, ◌∙◌, append_assoc, subst, inl, inr, append-nil, rules}
use Rattle.std.proofs.lemmas.List.Concat.{flat_map-append}
use Rattle.uicc_types.specs.declared.runs.Step.{Step}
use Rattle.uicc_types.specs.declared.runs.TraceItem.{TraceItem}
use Rattle.card_model.specs.Runs.{IsRun, StepEnds, StepGives}
use Rattle.card_model.specs.States.{Machine}
use Rattle.run_steps.specs.Runs.{GoesOn, ends_calm, item_text, text_of}
use Rattle.run_steps.specs.Views.{MayShow, MayShowAll}

-- a run that shows nothing and moves nothing comes first
run_same : (old new : Machine) (more : List Step) (none items : List TraceItem) (middle : Machine) → none ≡ [] → middle ≡ old → GoesOn middle more items new → GoesOn old more (none ++ items) new
run_same old new more none items middle nothing same run =
    subst (λ m. GoesOn m more (none ++ items) new) same (subst (λ shown. GoesOn middle more (shown ++ items) new) (sym nothing) run)

-- one run after another
pub run_then : (first more : List Step) (old middle new : Machine) (items others : List TraceItem) → GoesOn old first items middle → GoesOn middle more others new → GoesOn old (first ++ more) (items ++ others) new
run_then [] more old middle new items others run rest = run_same old new more items others middle run.seen run.stays rest
run_then (step ∷ first) more old middle new items others run rest =
    search (rules, run, run_then first more run.middle middle new run.back others run.rest rest, ap (λ shown. shown ++ others) run.seen ∙ append_assoc run.front run.back others)

-- a run of one step
pub run_one : (old new : Machine) (step : Step) (items : List TraceItem) → StepGives old step items new → GoesOn old (step ∷ []) items new
run_one old new step items gives = record {
  front = items;
  middle = new;
  back = [];
  first = gives;
  rest = record { seen = refl; stays = refl };
  seen = sym (append-nil items);
}

-- a run of which no step was the last is a run of the card
pub run_of : (steps : List Step) (first now : Machine) (items : List TraceItem) → GoesOn first steps items now → IsRun first steps items now
run_of [] first now items run = run
run_of (step ∷ more) first now items run = inl (record {
  front = run.front;
  middle = run.middle;
  back = run.back;
  first = run.first;
  rest = run_of more run.middle now run.back run.rest;
  seen = run.seen;
})

-- and so it is with a step after it that is the last
run_ends_same : (old middle new : Machine) (step : Step) (none items : List TraceItem) → none ≡ [] → middle ≡ old → StepEnds middle step items new → IsRun old (step ∷ []) (none ++ items) new
run_ends_same old middle new step none items nothing same ends =
    inr (refl, subst (λ m. StepEnds m step (none ++ items) new) same (subst (λ i. StepEnds middle step (i ++ items) new) (sym nothing) ends))

pub run_ends : (first : List Step) (step : Step) (old middle new : Machine) (items last : List TraceItem) → GoesOn old first items middle → StepEnds middle step last new → IsRun old (first ++ step ∷ []) (items ++ last) new
run_ends [] step old middle new items last run ends = run_ends_same old middle new step items last run.seen run.stays ends
run_ends (one ∷ first) step old middle new items last run ends = inl (record {
  front = run.front;
  middle = run.middle;
  back = run.back ++ last;
  first = run.first;
  rest = run_ends first step run.middle middle new run.back last run.rest ends;
  seen = ap (λ shown. shown ++ last) run.seen ∙ append_assoc run.front run.back last;
})

shows_same : (on between after : Bool) (more : List Step) (none items : List TraceItem) → none ≡ [] → between ≡ on → MayShowAll between more items after → MayShowAll on more (none ++ items) after
shows_same on between after more none items nothing same may =
    subst (λ b. MayShowAll b more (none ++ items) after) same (subst (λ shown. MayShowAll between more (shown ++ items) after) (sym nothing) may)

pub shows_then : (first more : List Step) (on between after : Bool) (items others : List TraceItem) → MayShowAll on first items between → MayShowAll between more others after → MayShowAll on (first ++ more) (items ++ others) after
shows_then [] more on between after items others may rest = shows_same on between after more items others may.0 may.1 rest
shows_then (step ∷ first) more on between after items others may rest =
    search (rules, may, shows_then first more may.between between after may.back others may.rest rest, ap (λ shown. shown ++ others) may.seen ∙ append_assoc may.front may.back others)

pub shows_one : (on after : Bool) (step : Step) (items : List TraceItem) → MayShow on step items after → MayShowAll on (step ∷ []) items after
shows_one on after step items may = record { front = items; between = after; back = []; first = may; rest = (refl, refl); seen = sym (append-nil items) }

-- the text of one trace after another
pub text_of-append : (shown more : List TraceItem) → text_of (shown ++ more) ≡ text_of shown ++ text_of more
text_of-append shown more = flat_map-append item_text shown more

-- what is seen last
pub calm_behind : (shown more : List TraceItem) → ends_calm (shown ++ more) ≡ true → ends_calm more ≡ true
calm_behind [] more calm = calm
calm_behind (item ∷ []) [] calm = refl
calm_behind (item ∷ []) (next ∷ more) calm = calm
calm_behind (item ∷ other ∷ shown) more calm = calm_behind (other ∷ shown) more calm

pub calm_before : (shown more : List TraceItem) → more ≡ [] → ends_calm (shown ++ more) ≡ true → ends_calm shown ≡ true
calm_before shown more none calm = subst (λ s. ends_calm s ≡ true) (ap (λ m. shown ++ m) none ∙ append-nil shown) calm

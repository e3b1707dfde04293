-- A command that was refused, carried out, or stopped by a fault, as it is to each card that it may be.
use Rattle.std.proofs.Common.{◌≡◌, sym, subst, ℕ, List, [], ◌∷◌, Result, Ok, Err, IsErr}
use Rattle.uicc_types.specs.declared.answers.Answer.{Answer}
use Rattle.uicc_types.specs.declared.answers.StatusWord.{StatusWord}
use Rattle.uicc_types.specs.declared.answers.TheConstants.StatusWord.{DONE}
use Rattle.store_form.specs.declared.store.StoreFault.{StoreFault}
use Rattle.card_state.specs.Memory.{IsMounted}
use Rattle.card_commits.specs.Laws.{TablesTellStates}
use Rattle.toolkit_model.specs.Passing.{ToolkitState, Passed}
use Rattle.toolkit_model.specs.Steps.{ToolkitInput, IsAccepted, AreAccepted, moved, moved_by}
use Rattle.toolkit_model.specs.OrderlySessions.{IsInOrder}
use Rattle.proactive_handler.specs.Runs.{StopsIn}
use Rattle.proactive_handler.specs.Steps.{Scene, toolkit, IsDone, MovesTo}
use Rattle.card_model.specs.States.{CardState}
use Rattle.card_model.specs.Toolkit.{ToolkitOutcome, toolkit_of, coming_to}
use Rattle.cat_commands.specs.Carrying.{HasToolkit, HasCome, Comes, Carries}
use Rattle.cat_commands.proofs.ComesLemmas.{Tells, stop_comes, moves_come}

pub tells_here : TablesTellStates → (now : Scene) → IsMounted now.memory → Tells now
tells_here law now mounted = λ state is. law now.memory.mark now.memory.told now.memory.table state mounted.agrees is

-- ---- what is tried

module _ (taken : Result ToolkitOutcome StatusWord) (out : Answer) (old new : Scene) where
  pub refused_carries : {X : Type 0} (result : X) (status : StatusWord) → taken ≡ Err status → out.body ≡ [] → out.status ≡ status → new ≡ old → Carries {X = X} taken out old new (Ok result)
  refused_carries {X} result status is body status_is stays =
      subst (λ (t : Result ToolkitOutcome StatusWord). Carries {X = X} t out old new (Ok result)) (sym is) (record { body = body; status_is = status_is; stays = stays })

  pub stopped_carries : {X : Type 0} (r : Result X StoreFault) (outcome : ToolkitOutcome) → IsErr r → taken ≡ Ok outcome → Comes outcome old new r → Carries taken out old new r
  stopped_carries (Ok result) outcome err is comes = cc err
  stopped_carries {X} (Err fault) outcome err is comes = subst (λ (t : Result ToolkitOutcome StatusWord). Carries {X = X} t out old new (Err fault)) (sym is) comes

  pub done_carries : {X : Type 0} (result : X) (outcome : ToolkitOutcome) → taken ≡ Ok outcome → out.body ≡ outcome.body → out.status ≡ DONE → HasCome outcome old new → Carries {X = X} taken out old new (Ok result)
  done_carries {X} result outcome is body status comes =
      subst (λ (t : Result ToolkitOutcome StatusWord). Carries {X = X} t out old new (Ok result)) (sym is) (record { body = body; status_is = status; comes = comes })

-- ---- a card that it may be

module _ (card : CardState) (old : Scene) (has : HasToolkit old card) where
  pub toolkit_is : toolkit_of card ≡ toolkit old
  toolkit_is = λ i. let each : ToolkitState = record { rows = has.told.rows i; session = has.session_is i; minds = has.boxes_are i } in each

  module _ (body : List ℕ) (step : ToolkitState → Passed) (new : Scene) (tells : Tells old) (table : new.memory.table ≡ record old.memory.table { rows = new.memory.table.rows }) where
    pub card_comes : {X : Type 0} (r : Result X StoreFault) → MovesTo (step (toolkit old)) old new r → Comes (coming_to card body (step (toolkit_of card))) old new r
    card_comes {X} r moves =
        moves_come (coming_to card body (step (toolkit_of card))) old new has.told.next tells {X = X} r table
        (subst (λ (s : ToolkitState). MovesTo (step s) old new r) (sym toolkit_is) moves)

    module _ (taken : Result ToolkitOutcome StatusWord) (out : Answer) (is : taken ≡ Ok (coming_to card body (step (toolkit_of card)))) (made : ToolkitState → Passed) (made_is : made ≡ step) where
      -- a fault stopped it
      pub card_stops : {X : Type 0} (r : Result X StoreFault) → IsErr r → StopsIn (made (toolkit old)).log old.memory new.memory → Carries taken out old new r
      card_stops (Ok result) err stop = cc err
      card_stops {X} (Err fault) err stop =
          let so = subst (λ (s : ToolkitState → Passed). StopsIn (s (toolkit old)).log old.memory new.memory) made_is stop in
          let there = subst (λ (s : ToolkitState). StopsIn (step s).log old.memory new.memory) (sym toolkit_is) so in
          stopped_carries taken out old new {X = X} (Err fault) (coming_to card body (step (toolkit_of card))) err is (stop_comes (coming_to card body (step (toolkit_of card))) old new has.told.next tells there)

      -- it is done
      pub card_done : {X : Type 0} (result : X) → out.body ≡ body → out.status ≡ DONE → IsDone (made (toolkit old)) old new → Carries {X = X} taken out old new (Ok result)
      card_done {X} result body_is status done =
          let so = subst (λ (s : ToolkitState → Passed). IsDone (s (toolkit old)) old new) made_is done in
          done_carries taken out old new result (coming_to card body (step (toolkit_of card))) is body_is status (card_comes {X = X} (Ok result) so)

-- ---- order

abbrev pub StaysInOrder : Type 0
StaysInOrder = (commands : List ToolkitInput) (state : ToolkitState) → IsInOrder state → AreAccepted commands state → IsInOrder (moved_by commands state).state

pub order_after : StaysInOrder → (command : ToolkitInput) (state new : ToolkitState) → IsInOrder state → IsAccepted command state → new ≡ (moved command state).state → IsInOrder new
order_after law command state new order accepted is = subst IsInOrder (sym is) (law (command ∷ []) state order (accepted, tt))

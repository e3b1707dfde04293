-- A step, and then the end of the command.
use Rattle.std.proofs.Common.{Result, Ok, Err, IsErr}
use Rattle.store_form.specs.declared.store.StoreFault.{StoreFault}
use Rattle.toolkit_model.specs.Passing.{ToolkitState, Passed, before}
use Rattle.proactive_handler.specs.Runs.{StopsIn}
use Rattle.proactive_handler.specs.Steps.{Scene, toolkit, IsDone, MovesTo}
use Rattle.proactive_handler.proofs.StopsAtLemmas.{first_stops, second_stops}

module _ (first : Passed) (next : ToolkitState → Passed) (old mid : Scene) where
  -- a fault stopped the step
  pub step_stops : {X : Type 0} (r : Result X StoreFault) → IsErr r → StopsIn first.log old.memory mid.memory → MovesTo (before first next) old mid r
  step_stops (Ok result) err stop = cc err
  step_stops (Err fault) err stop = first_stops first next old mid mid stop

  -- or the end
  pub end_stops : {X : Type 0} (new : Scene) (r : Result X StoreFault) → IsErr r → IsDone first old mid → StopsIn (next (toolkit mid)).log mid.memory new.memory → MovesTo (before first next) old new r
  end_stops new (Ok result) err done stop = cc err
  end_stops new (Err fault) err done stop = second_stops first next old mid new done stop

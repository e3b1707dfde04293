-- What a step of the toolkit needs of a scene, and what it keeps of it.
use Rattle.std.proofs.Common.{◌∙◌, ap, subst, ◌≡◌, ℕ, List, length, Option, Result, Ok, Err, OnOk, IsErrAnd, IsErr}
use Rattle.store_form.specs.declared.store.StoreFault.{StoreFault}
use Rattle.card_state.specs.declared.entries.Loaded.{Loaded}
use Rattle.card_state.specs.Memory.{Memory, Keeps}
use Rattle.card_commits.specs.Entries.{HasRowOn}
use Rattle.card_commits.proofs.KeepsLemmas.{keeps_then, keeps_done, fault_keeps}
use Rattle.applet_trait.specs.Minds.{AppletState}
use Rattle.proactive_handler.specs.Boxes.{kinds_of, LeavesOthers}
use Rattle.proactive_handler.proofs.BoxesLemmas.{others_then}
use Rattle.proactive_handler.specs.Steps.{Scene}
use Rattle.proactive_handler.specs.Scenes.{IsInService, KeepsScene}

-- a step that met no fault, and then another
pub scene_then : {T U : Type 0} (first second third : Scene) (value : T) (result : Result U StoreFault) → KeepsScene first second (Ok value) → KeepsScene second third result → KeepsScene first third result
scene_then first second third value result before after = record {
  kinds = after.kinds ∙ before.kinds;
  others = others_then second.memory.table third.memory.table first.minds second.minds third.minds after.rows_stay before.others after.others;
  served = after.served;
  rows_stay = λ shelf has. after.rows_stay shelf (before.rows_stay shelf has);
  indexed = after.indexed;
  table = after.table ∙ ap (λ (t : Loaded). record t { rows = third.memory.table.rows }) before.table;
  kept = after.kept;
  keeps = keeps_then first.memory second.memory third.memory value result before.keeps after.keeps;
}

-- a step from a scene with another session or index
pub scene_since : {T : Type 0} (old early new : Scene) (result : Result T StoreFault) → early.memory ≡ old.memory → early.minds ≡ old.minds → KeepsScene early new result → KeepsScene old new result
scene_since old early new result same minds_are keeps = record {
  kinds = keeps.kinds ∙ ap kinds_of minds_are;
  others = subst (λ (minds : List (Option AppletState)). LeavesOthers new.memory.table minds new.minds) minds_are keeps.others;
  served = keeps.served;
  rows_stay = subst (λ (m : Memory). (shelf : ℕ) → HasRowOn m.table shelf → HasRowOn new.memory.table shelf) same keeps.rows_stay;
  indexed = keeps.indexed;
  table = keeps.table ∙ ap (λ (m : Memory). record m.table { rows = new.memory.table.rows }) same;
  kept = keeps.kept;
  keeps = subst (λ (m : Memory). Keeps m new.memory result) same keeps.keeps;
}

-- what it answers makes no difference
pub scene_done : {T U : Type 0} (old new : Scene) (value : T) (other : U) → KeepsScene old new (Ok value) → KeepsScene old new (Ok other)
scene_done old new value other keeps = record {
  kinds = keeps.kinds;
  others = keeps.others;
  served = keeps.served;
  rows_stay = keeps.rows_stay;
  indexed = keeps.indexed;
  table = keeps.table;
  kept = tt;
  keeps = keeps_done old.memory new.memory value other keeps.keeps;
}

-- the fault of one step that another passes on
pub scene_fault : {T U : Type 0} (first second : Scene) (fault : StoreFault) (result : Result U StoreFault) → IsErr result → IsErrAnd result (λ other. other ≡ fault) → KeepsScene {X = T} first second (Err fault) → KeepsScene first second result
scene_fault first second fault (Ok value) err same before = cc err
scene_fault {T} {U} first second fault (Err other) err same before = record {
  kinds = before.kinds;
  others = before.others;
  served = tt;
  rows_stay = before.rows_stay;
  indexed = tt;
  table = before.table;
  kept = before.kept;
  keeps = fault_keeps first.memory second.memory fault (Err other) err same before.keeps;
}

-- after Ok the applets can run again, with as many shelves
pub service_again : {X B : Type 0} (old new : Scene) (cast left : List (Option B)) (result : Result X StoreFault) → IsInService old cast → length left ≡ length cast → KeepsScene old new result → OnOk result (IsInService new left)
service_again old new cast left (Ok value) was long keeps = record {
  mounted = keeps.keeps.mounted;
  indexed = keeps.indexed;
  shelves = long ∙ was.shelves;
  served = keeps.served;
}
service_again old new cast left (Err fault) was long keeps = tt

-- A card between two commands: its applets can run, and what a refusal keeps of it.
use Rattle.std.proofs.Common.{◌≡◌, refl, sym, ap, ◌∙◌, List, Option, arith, ◌≢◌, Ok}
use Rattle.uicc_types.proofs.IsCalmLemmas.{calm_same}
use Rattle.uicc_types.specs.declared.answers.Answer.{Answer}
use Rattle.uicc_types.specs.declared.answers.StatusWord.{StatusWord}
use Rattle.uicc_types.specs.declared.answers.TheConstants.StatusWord.{DONE, MEMORY_PROBLEM}
use Rattle.card_state.specs.Memory.{Memory, IsMounted, Keeps}
use Rattle.toolkit_model.specs.OrderlySessions.{IsInOrder}
use Rattle.proactive_handler.specs.Scenes.{IsInService, KeepsScene}
use Rattle.proactive_handler.specs.Serving.{SessionsAreServed}
use Rattle.proactive_handler.specs.Steps.{Scene, toolkit}
use Rattle.cat_commands.specs.Bounds.{IsBetweenCommands, EndsToolkitWell}

pub in_service : {B : Type 0} → SessionsAreServed → (now : Scene) (cast : List (Option B)) → IsBetweenCommands now cast → IsInService now cast
in_service law now cast rests = record {
  mounted = rests.mounted;
  indexed = rests.indexed;
  shelves = rests.shelves;
  served = law now.memory.table now.session rests.order.session.underway;
}

memory_stays : {X : Type 0} (value : X) (memory : Memory) → IsMounted memory → Keeps memory memory (Ok value)
memory_stays value memory mounted =
    let calm = calm_same memory.meter in record {
      mounted = mounted;
      told = refl;
      size = refl;
      mark = refl;
      recoveries = refl;
      cause = record {
        faults_kept = calm.faults_kept;
        cuts_kept = calm.cuts_kept;
        failed = λ err. cc err;
        no_fault = λ _. refl;
        lost = λ err. cc err;
        cut = λ err. cc err;
        no_power = λ err. cc err;
        no_cut = λ _. refl;
        power_kept = λ _. refl;
        plans_kept = calm.plans_kept;
        latest_kept = calm.latest_kept;
        plan_kept = calm.plan_kept;
        settings_kept = calm.settings_kept;
      };
    }

-- nothing moves
pub refusal_keeps : {B X : Type 0} → SessionsAreServed → (value : X) (now : Scene) (cast : List (Option B)) → IsBetweenCommands now cast → KeepsScene now now (Ok value)
refusal_keeps law value now cast rests = record {
  kinds = refl;
  others = λ shelf none. refl;
  served = law now.memory.table now.session rests.order.session.underway;
  rows_stay = λ shelf has. has;
  indexed = rests.indexed;
  table = refl;
  kept = tt;
  keeps = memory_stays value now.memory rests.mounted;
}

usual_done : (status : StatusWord) → status ≡ DONE → status.0 ≢ MEMORY_PROBLEM.0
usual_done status is = λ same.
    let numbers : DONE.0 ≡ MEMORY_PROBLEM.0 = sym (ap (λ (s : StatusWord). s.0) is) ∙ same in
    omega (arith, numbers)

-- it was carried out
pub ends_done : {X : Type 0} (out : Answer) (new : Scene) (value : X) → out.status ≡ DONE → IsInOrder (toolkit new) → EndsToolkitWell out new (Ok value)
ends_done out new value status order = record { order = order; usual = usual_done out.status status; empty = tt }

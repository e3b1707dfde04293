-- Calls of a device or of a store one after the other, the first of them without a fault.
use Rattle.std.proofs.Common.{◌≡◌, refl, ◌∙◌, ap, arith}
use Rattle.uicc_types.specs.Counts.{Meter, Caused, raised}
use Rattle.uicc_types.specs.Calls.{IsCalm}

pub calm_same : (meter : Meter) → IsCalm meter meter
calm_same meter = record {
  faults_kept = omega arith;
  cuts_kept = omega arith;
  failed = λ none. absurd none;
  no_fault = λ _. refl;
  lost = λ none. absurd none;
  cut = λ none. absurd none;
  no_power = λ none. absurd none;
  no_cut = λ _. refl;
  power_kept = λ _. refl;
  plans_kept = refl;
  latest_kept = refl;
  plan_kept = refl;
  settings_kept = refl;
}

pub caused_then : {IsFailed IsLost : Type 0} (old mid new : Meter) → IsCalm old mid → Caused mid new IsFailed IsLost → Caused old new IsFailed IsLost
caused_then old mid new calm caused =
    let same : mid.cuts ≡ old.cuts = calm.no_cut (λ none. none) in
    let sound : mid.faults ≡ old.faults = calm.no_fault (λ none. none) in
    let power : mid.powered ≡ old.powered = calm.power_kept (λ none. none) in
    record {
      faults_kept = omega (arith, calm.faults_kept, caused.faults_kept);
      cuts_kept = omega (arith, calm.cuts_kept, caused.cuts_kept);
      failed = λ failed. caused.failed failed ∙ ap raised sound;
      no_fault = λ worked. caused.no_fault worked ∙ sound;
      lost = caused.lost;
      cut = λ lost on. caused.cut lost (power ∙ on) ∙ ap raised same;
      no_power = λ lost off. caused.no_power lost (power ∙ off) ∙ same;
      no_cut = λ kept. caused.no_cut kept ∙ same;
      power_kept = λ kept. caused.power_kept kept ∙ power;
      plans_kept = caused.plans_kept ∙ calm.plans_kept;
      latest_kept = caused.latest_kept ∙ calm.latest_kept;
      plan_kept = caused.plan_kept ∙ calm.plan_kept;
      settings_kept = caused.settings_kept ∙ calm.settings_kept;
    }

-- a call that answered Ok was calm
pub calm_ok : {IsFailed IsLost : Type 0} (old new : Meter) → (IsFailed → ⊥) → (IsLost → ⊥) → Caused old new IsFailed IsLost → IsCalm old new
calm_ok old new not_failed not_lost caused = record {
  faults_kept = caused.faults_kept;
  cuts_kept = caused.cuts_kept;
  failed = λ none. absurd none;
  no_fault = λ _. caused.no_fault not_failed;
  lost = λ none. absurd none;
  cut = λ none. absurd none;
  no_power = λ none. absurd none;
  no_cut = λ _. caused.no_cut not_lost;
  power_kept = λ _. caused.power_kept not_lost;
  plans_kept = caused.plans_kept;
  latest_kept = caused.latest_kept;
  plan_kept = caused.plan_kept;
  settings_kept = caused.settings_kept;
}

-- Counts that never fall, and what a fault has to show in them. Each is kept in 64 bits and stands still at its end.
use Rattle.std.specs.Prelude.{◌≡◌, ℕ, zero, suc, Bool, true, false, ◌||◌, if◌then◌else◌, ◌+◌, ◌-◌, ◌^◌, ◌≤◌, min, is_some}
use Rattle.uicc_types.specs.declared.plans.Plan.{Plan}

-- one more, or the count as it stands at its end
abbrev pub raised : ℕ → ℕ
raised count = min (count + 1) (2 ^ 64 - 1)

-- a count that was raised so often
abbrev pub raised_by : ℕ → ℕ → ℕ
raised_by zero before = before
raised_by (suc times) before = raised_by times (raised before)

-- the count rose, or stands at its end
abbrev pub Rose : ℕ → ℕ → Type 0
Rose before now = raised before ≤ now

-- the count never falls, and a failure raised it
pub record CountsFailure (before now : ℕ) (IsFailed : Type 0) : Type 0 where
  pub kept : before ≤ now
  pub rose : IsFailed → Rose before now

-- What can be read off a memory's device: how often it failed and lost power, whether it has power now, how many plans that name a fault it
-- was given, the latest of them, the plan that is in force, which may name none, and how often a plan was put in force. And since a plan was put
-- in force last, or since it was made: whether no call came to it with power, and how many program calls did.
pub record Meter : Type 0 where
  pub faults : ℕ
  pub cuts : ℕ
  pub powered : Bool
  pub plans : ℕ
  pub latest : Plan
  pub plan : Plan
  pub settings : ℕ
  pub is_idle : Bool
  pub programs : ℕ

-- A call has its causes. It answered Failed where it met one fault, which was counted, and met none otherwise. It answered
-- PowerLost where power was lost in it, once, which was counted, or was not there when it began; otherwise none was lost. No
-- call but the one that sets a plan counts one, has another in force, or tells the device of one. Of calls it says nothing: `used` and `calls`
-- of a device's trait do.
pub record Caused (old new : Meter) (IsFailed IsLost : Type 0) : Type 0 where
  pub faults_kept : old.faults ≤ new.faults
  pub cuts_kept : old.cuts ≤ new.cuts
  pub failed : IsFailed → new.faults ≡ raised old.faults
  pub no_fault : (IsFailed → ⊥) → new.faults ≡ old.faults
  pub lost : IsLost → new.powered ≡ false
  pub cut : IsLost → old.powered ≡ true → new.cuts ≡ raised old.cuts
  pub no_power : IsLost → old.powered ≡ false → new.cuts ≡ old.cuts
  pub no_cut : (IsLost → ⊥) → new.cuts ≡ old.cuts
  pub power_kept : (IsLost → ⊥) → new.powered ≡ old.powered
  pub plans_kept : new.plans ≡ old.plans
  pub latest_kept : new.latest ≡ old.latest
  pub plan_kept : new.plan ≡ old.plan
  pub settings_kept : new.settings ≡ old.settings

-- the plan names a cut or a failure
abbrev pub names_fault : Plan → Bool
names_fault plan = is_some plan.cut || is_some plan.fail || is_some plan.read_fail

-- A device was told of a plan: it is in force then, the count of plans that were put in force is one more, and no call has come to it with power
-- since, so that no program call is counted. One that names a fault is counted as such too, and is the latest. Faults, losses of power and the
-- power stay.
abbrev pub armed : Meter → Plan → Meter
armed old plan =
    if names_fault plan then record old { plans = raised old.plans; latest = plan; plan = plan; settings = raised old.settings; is_idle = true; programs = 0 }
    else record old { plan = plan; settings = raised old.settings; is_idle = true; programs = 0 }

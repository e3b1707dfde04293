-- What the counts of a memory's device say of a trace: how often it failed and lost power, and which plans it was given.
use Rattle.std.specs.Prelude.{◌≡◌, ◌==◌, ◌+◌, Bool, true, false, List, [], ◌∷◌, length, count_by}
use Rattle.uicc_types.specs.Counts.{Meter, raised_by}
use Rattle.uicc_types.specs.declared.answers.TheConstants.StatusWord.{MEMORY_PROBLEM}
use Rattle.uicc_types.specs.declared.plans.Plan.{Plan}
use Rattle.uicc_types.specs.declared.plans.TheConstants.Plan.{NONE}
use Rattle.uicc_types.specs.declared.runs.TraceItem.{TraceItem}
use Rattle.uicc_types.specs.declared.runs.TraceItem.TheVariants as item
use Rattle.file_model.specs.Outcomes.{last_of}

-- the memory failed: in a command, which the card answers, or in a reset, which ends the run
abbrev pub is_failure : TraceItem → Bool
is_failure (item.Answer body status) = status.0 == MEMORY_PROBLEM.0
is_failure item.EepromFailed = true
is_failure _ = false

-- power was lost
abbrev pub is_cut : TraceItem → Bool
is_cut item.Cut = true
is_cut _ = false

-- the plan in force after these were given and each was taken back: none, where one was given; else the one before
abbrev pub plan_left : Plan → List Plan → Plan
plan_left before [] = before
plan_left before (plan ∷ given) = NONE

-- As many faults were counted as failures of the memory are seen, and as many cuts as losses of power are. As many plans that name a fault were
-- given to the device as these, and its latest is the last of them. It was told of a plan twice as often. The plan in force is none where it was
-- given one, else the one before.
pub record IsCounted (old new : Meter) (given : List Plan) (items : List TraceItem) : Type 0 where
  pub failures : new.faults ≡ raised_by (count_by is_failure items) old.faults
  pub cuts : new.cuts ≡ raised_by (count_by is_cut items) old.cuts
  pub plans : new.plans ≡ raised_by (length given) old.plans
  pub latest : new.latest ≡ last_of old.latest given
  pub in_force : new.plan ≡ plan_left old.plan given
  pub settings : new.settings ≡ raised_by (length given + length given) old.settings

-- The bench device: a memory in which faults are planned, each at a call of its kind, counted from 1 since the plan
-- was set. Calls without power do nothing and are not counted.
use Rattle.std.specs.Prelude.{ℕ, Bool, true, false, ◌==◌, ◌-◌, if◌then◌else◌, List, ◌++◌, length, take, replicate, Option, Some, None, Result, Ok, Err, ⊤}
use Rattle.list_laws.specs.Patches.{patched}
use Rattle.uicc_types.specs.Counts.{Meter, raised, armed}
use Rattle.uicc_types.specs.declared.plans.Plan.{Plan}
use Rattle.uicc_types.specs.declared.plans.CutAt.{CutAt}
use Rattle.uicc_types.specs.declared.plans.FailAt.{FailAt}
use Rattle.eeprom_model.specs.declared.device.EepromFault.{EepromFault}
use Rattle.eeprom_model.specs.declared.device.EepromFault.TheVariants.{Failed, PowerLost}

-- what it holds, what it counts, how many read calls came with power since its plan was set, and whether nothing was asked of it yet
pub record Bench : Type 0 where
  pub bytes : List ℕ
  pub meter : Meter
  pub reads : ℕ
  pub is_fresh : Bool

-- what a call answers, and the device that it leaves
pub record Outcome : Type 0 where
  pub answer : Result ⊤ EepromFault
  pub left : Bench

-- the entry of a plan, if it is for the call of this number
abbrev pub planned_for : {A : Type 0} → (A → ℕ) → ℕ → Option A → Option A
planned_for call_of number None = None
planned_for call_of number (Some entry) = if call_of entry == number then Some entry else None

-- what a range holds whose write was cut: so many of the new bytes, and the plan's byte in all other places
abbrev pub cut_bytes : CutAt → List ℕ → List ℕ
cut_bytes cut bytes = take cut.kept bytes ++ replicate (length bytes - cut.kept) cut.rest

-- there is no power, and nothing is done
abbrev pub lost : Bench → Outcome
lost bench = record { answer = Err PowerLost; left = bench }

-- the call fails, and is counted
abbrev pub failed : Bench → Outcome
failed bench = record { answer = Err Failed; left = record bench { meter = record bench.meter { faults = raised bench.meter.faults } } }

-- power is lost in the call, and is counted
abbrev pub cut_off : Bench → Outcome
cut_off bench = record { answer = Err PowerLost; left = record bench { meter = record bench.meter { cuts = raised bench.meter.cuts; powered = false } } }

-- the call succeeds
abbrev pub done : Bench → Outcome
done bench = record { answer = Ok tt; left = bench }

-- the device with these bytes put in
abbrev pub holding : ℕ → List ℕ → Bench → Bench
holding at bytes bench = record bench { bytes = patched at bytes bench.bytes }

-- a program call for which this cut or this failure is planned. Where both are, it is the cut that comes.
abbrev pub programmed_under : Option CutAt → Option FailAt → ℕ → List ℕ → Bench → Outcome
programmed_under (Some cut) fail at bytes bench = cut_off (holding at (cut_bytes cut bytes) bench)
programmed_under None (Some fail) at bytes bench = failed (holding at (replicate (length bytes) fail.rest) bench)
programmed_under None None at bytes bench = done (holding at bytes bench)

-- a program call of a device that has power, counted already
abbrev pub programmed_now : ℕ → List ℕ → Bench → Outcome
programmed_now at bytes bench = programmed_under (planned_for (λ cut. cut.call) bench.meter.programs bench.meter.plan.cut) (planned_for (λ fail. fail.call) bench.meter.programs bench.meter.plan.fail) at bytes bench

-- what a program call comes to: without power nothing is done
unfoldable pub program_outcome : ℕ → List ℕ → Bench → Outcome
program_outcome at bytes bench = if bench.meter.powered then programmed_now at bytes (record bench { meter = record bench.meter { is_idle = false; programs = raised bench.meter.programs }; is_fresh = false }) else lost bench

-- a read call fails where the plan names it
abbrev pub read_under : Option ℕ → Bench → Outcome
read_under (Some call) bench = failed bench
read_under None bench = done bench

-- what a read call comes to: without power nothing is done
unfoldable pub read_outcome : Bench → Outcome
read_outcome bench = if bench.meter.powered then read_under (planned_for (λ call. call) (raised bench.reads) bench.meter.plan.read_fail) (record bench { meter = record bench.meter { is_idle = false }; reads = raised bench.reads; is_fresh = false }) else lost bench

-- a new plan, and no calls counted for it yet
abbrev pub given_plan : Plan → Bench → Bench
given_plan plan bench = record bench { meter = armed bench.meter plan; reads = 0; is_fresh = false }

-- the plan of no fault
abbrev pub no_plan : Plan
no_plan = record { cut = None; fail = None; read_fail = None }

-- a device of so many bytes `FF`, with power, to which nothing has happened
abbrev pub new_bench : ℕ → Bench
new_bench size = record {
  bytes = replicate size 255;
  meter = record { faults = 0; cuts = 0; powered = true; plans = 0; latest = no_plan; plan = no_plan; settings = 0; is_idle = true; programs = 0 };
  reads = 0;
  is_fresh = true;
}

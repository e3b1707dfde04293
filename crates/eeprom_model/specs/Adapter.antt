-- A device over a file, as clauses see it: what it keeps beside the file. The bytes are the file's, and are not told.
use Rattle.std.specs.Prelude.{◌==◌, ℕ, Bool, true, false, Option, None, Some, option_map, Result, Ok, Err, ⊤}
use Rattle.uicc_types.specs.Counts.{Meter, raised, armed}
use Rattle.uicc_types.specs.declared.plans.Plan.{Plan}
use Rattle.uicc_types.specs.declared.plans.TheConstants.Plan.{NONE}
use Rattle.eeprom_model.specs.declared.device.EepromFault.{EepromFault}
use Rattle.eeprom_model.specs.declared.device.EepromFault.TheVariants.{Failed, PowerLost}

-- whether there is a file, its size, its counts and its power, how many read calls came with power since its plan was set, and whether nothing
-- was asked of it yet
pub record Adapter : Type 0 where
  pub has_file : Bool
  pub size : ℕ
  pub meter : Meter
  pub reads : ℕ
  pub is_fresh : Bool

-- a device with power, to which nothing has happened
abbrev pub new_adapter : Bool → ℕ → Adapter
new_adapter has_file size = record {
  has_file = has_file;
  size = size;
  meter = record { faults = 0; cuts = 0; powered = true; plans = 0; latest = NONE; plan = NONE; settings = 0; is_idle = true; programs = 0 };
  reads = 0;
  is_fresh = true;
}

-- a fault is planned for the call of this number
abbrev pub is_planned : Option ℕ → ℕ → Bool
is_planned None number = false
is_planned (Some call) number = call == number

-- the call is counted
abbrev pub after_read : Adapter → Adapter
after_read device = record device { meter = record device.meter { is_idle = false }; reads = raised device.reads; is_fresh = false }

-- a program call is counted
abbrev pub after_program : Adapter → Adapter
after_program device = record device { meter = record device.meter { is_idle = false; programs = raised device.meter.programs }; is_fresh = false }

-- What a call with power leaves: a failure is counted, and a loss of power is counted and takes the power.
abbrev pub left_by : Result ⊤ EepromFault → Adapter → Adapter
left_by (Ok done) device = device
left_by (Err Failed) device = record device { meter = record device.meter { faults = raised device.meter.faults } }
left_by (Err PowerLost) device = record device { meter = record device.meter { cuts = raised device.meter.cuts; powered = false } }

-- a fault is planned for this call
abbrev pub fails_to_read : Adapter → Bool
fails_to_read device = is_planned device.meter.plan.read_fail device.reads

-- the plan names this program call for a cut
abbrev pub is_cut_off : Adapter → Bool
is_cut_off device = is_planned (option_map (λ cut. cut.call) device.meter.plan.cut) device.meter.programs

-- the plan names this program call for a failure
abbrev pub fails_to_program : Adapter → Bool
fails_to_program device = is_planned (option_map (λ fail. fail.call) device.meter.plan.fail) device.meter.programs

-- a new plan, and no calls counted for it yet
abbrev pub given_plan : Plan → Adapter → Adapter
given_plan plan device = record device { meter = armed device.meter plan; reads = 0; is_fresh = false }

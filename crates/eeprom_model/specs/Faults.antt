-- The causes of a device's faults.
use Rattle.std.specs.Prelude.{Result, IsErrOf}
use Rattle.uicc_types.specs.Counts.{Meter, Caused}
use Rattle.eeprom_model.specs.declared.device.EepromFault.{EepromFault}
use Rattle.eeprom_model.specs.declared.device.EepromFault.TheVariants.{Failed, PowerLost}

-- each fault that a call of the device answers has its cause
abbrev pub HasCause : {T : Type 0} → Meter → Meter → Result T EepromFault → Type 0
HasCause old new result = Caused old new (IsErrOf result Failed) (IsErrOf result PowerLost)

-- Between two counts no fault and no cut came.
use Rattle.uicc_types.specs.Counts.{Meter, Caused}

-- no fault and no cut came
abbrev pub IsCalm : Meter → Meter → Type 0
IsCalm old new = Caused old new ⊥ ⊥

-- What the trace of a run shows of faults, and what the device of the memory counts of them.
use Rattle.std.specs.Prelude.{◌≡◌, Bool, true, false, List, All}
use Rattle.uicc_types.specs.Counts.{Meter, Rose}
use Rattle.uicc_types.specs.declared.runs.TraceItem.{TraceItem}
use Rattle.uicc_types.specs.declared.runs.TraceItem.TheVariants as item
use Rattle.card_model.specs.Counts.{is_cut, is_failure}

-- a command found no power
abbrev pub is_off : TraceItem → Bool
is_off item.Off = true
is_off _ = false

-- no command or reset loses power
abbrev pub ShowsNoCut : List TraceItem → Type 0
ShowsNoCut = All (λ seen. is_cut seen ≡ false)

-- no command finds a card without power
abbrev pub ShowsNoOff : List TraceItem → Type 0
ShowsNoOff = All (λ seen. is_off seen ≡ false)

-- no command is answered by `6581`, and the memory fails in no reset
abbrev pub ShowsNoFailure : List TraceItem → Type 0
ShowsNoFailure = All (λ seen. is_failure seen ≡ false)

-- nothing of all this is seen
pub record ShowsNoFault (shown : List TraceItem) : Type 0 where
  pub failures : ShowsNoFailure shown
  pub cuts : ShowsNoCut shown
  pub power : ShowsNoOff shown

-- the count of failures did not rise, nor did that of losses of power, and neither stood at its end
pub record CountsNoFault (old new : Meter) : Type 0 where
  pub failures : Rose old.faults new.faults → ⊥
  pub cuts : Rose old.cuts new.cuts → ⊥

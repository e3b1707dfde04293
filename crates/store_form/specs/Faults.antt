-- The causes of a store's faults, which are those of its device, and the count of its commits.
use Rattle.std.specs.Prelude.{ℕ, Result, Ok, Err, IsErrOf}
use Rattle.uicc_types.specs.Counts.{Meter, Caused, raised}
use Rattle.store_form.specs.declared.store.StoreFault.{StoreFault}
use Rattle.store_form.specs.declared.store.StoreFault.TheVariants.{Failed, PowerLost}

-- each fault that a call of the store answers has its cause
abbrev pub HasCause : {T : Type 0} → Meter → Meter → Result T StoreFault → Type 0
HasCause old new result = Caused old new (IsErrOf result Failed) (IsErrOf result PowerLost)

-- the count of commits after one that answered so: only Ok is counted
abbrev pub with_commit : {T : Type 0} → Result T StoreFault → ℕ → ℕ
with_commit (Ok done) count = raised count
with_commit (Err fault) count = count

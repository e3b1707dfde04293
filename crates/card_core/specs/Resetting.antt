-- Restarts and resets, over any store.
use Rattle.std.specs.Prelude.{◌≡◌, true, false, is_some, Result, Err, OnOk, OnErr, IsErrOf}
use Rattle.uicc_types.specs.Counts.{Caused, Rose, raised}
use Rattle.store_form.specs.Faults.{HasCause}
use Rattle.store_form.specs.declared.store.StoreFault.{StoreFault}
use Rattle.card_core.specs.AnyStore.{BeginsAnew}
use Rattle.card_core.specs.Cards.{IsSet, IsRunning}
use Rattle.card_core.specs.Parts.{CardParts}
use Rattle.card_core.specs.declared.faults.ResetFault.{ResetFault}
use Rattle.card_core.specs.declared.faults.ResetFault.TheVariants.{Failed, PowerLost}

-- nothing is committed, and the bytes stay, where they are told
pub record KeepsBytes (old new : CardParts) : Type 0 where
  pub told : new.told ≡ old.told
  pub commits : new.commits ≡ old.commits

-- A card that answered Ok rests: nothing is due, and it can take a command. At a fault, and after Ok, it is set.
pub record Rests {X : Type 0} (result : Result X StoreFault) (old new : CardParts) : Type 0 where
  pub set : IsSet new
  pub running : OnOk result (IsRunning new)
  pub rests : OnOk result (new.is_due ≡ false)
  pub on : new.is_on ≡ old.is_on
  -- whether the store tells its bytes
  pub told : is_some new.told ≡ is_some old.told
  pub mark : new.store_mark ≡ old.store_mark
  -- each fault was counted, and there was no other
  pub cause : HasCause old.meter new.meter result

-- A card that is started again, by a reset or after a fault, asks for one recovery, however that ends. After Ok the store was read.
pub record StartsAgain {X E : Type 0} (result : Result X E) (old new : CardParts) : Type 0 where
  pub recovered : new.recoveries ≡ raised old.recoveries
  pub read : OnOk result (Rose old.reads new.reads)

-- A command asks for one recovery where that is due, and for none where nothing is.
pub record RecoversIfDue (old new : CardParts) : Type 0 where
  pub due : old.is_due ≡ true → new.recoveries ≡ raised old.recoveries
  pub rests : old.is_due ≡ false → new.recoveries ≡ old.recoveries

-- What a reset leaves of the card.
pub record Resets {X : Type 0} (result : Result X ResetFault) (old new : CardParts) : Type 0 where
  -- one that succeeds has power, and the card begins anew
  pub on : OnOk result (new.is_on ≡ true)
  pub begins : OnOk result (BeginsAnew old new)
  pub rests : OnOk result (new.is_due ≡ false)
  -- after one that doesn't that is still due, and the table is as it was
  pub due : OnErr result (new.is_due ≡ true)
  pub table : OnErr result (new.table ≡ old.table)
  -- where the memory failed there is power, if there was; where power was lost there is none
  pub failed : result ≡ Err Failed → new.is_on ≡ old.is_on
  pub off : result ≡ Err PowerLost → new.is_on ≡ false

-- What it leaves of the store: nothing is committed, and each fault was counted, with power at the beginning.
pub record ResetsStore {X : Type 0} (result : Result X ResetFault) (old new : CardParts) : Type 0 where
  pub stable : new.told ≡ old.told
  pub mark : new.store_mark ≡ old.store_mark
  pub commits : new.commits ≡ old.commits
  pub cause : Caused (record old.meter { powered = true }) new.meter (IsErrOf result Failed) (IsErrOf result PowerLost)

-- What the calls on ranges of a store ask for and leave, before the table of a card is looked at.
use Rattle.std.specs.Prelude.{◌≡◌, ◌⊎◌, ℕ, ◌+◌, ◌≤◌, true, List, is_some, option_map, Result, OnOk, OnErr}
use Rattle.list_laws.specs.Patches.{Torn}
use Rattle.uicc_types.specs.Told.{Becomes}
use Rattle.store_form.specs.declared.store.Store.{Ghosts as StoreWords}
use Rattle.store_form.specs.declared.store.StoreFault.{StoreFault}
use Rattle.store_form.specs.Faults.{HasCause, with_commit}
use Rattle.card_state.specs.Places.{memory_size, data_place}

-- a store as large as the memory of a card, with no recovery due
pub record IsStoreReady {S : Type 0} (words : StoreWords S) (store : S) : Type 0 where
  pub recovered : words.recovered store ≡ true
  pub size : words.byte_count store ≡ memory_size

-- so many bytes from a place on, where the bytes of files are
pub record IsAmongFiles (place count : ℕ) : Type 0 where
  pub above : data_place ≤ place
  pub inside : place + count ≤ memory_size

-- ---- what a call does to the store

-- After Ok no recovery is due. Whether it tells its bytes, its size and its mark stay, no recovery is asked for, and each fault has its cause.
pub record KeepsStore {S T : Type 0} (words : StoreWords S) (old new : S) (result : Result T StoreFault) : Type 0 where
  pub told : is_some (words.stable new) ≡ is_some (words.stable old)
  pub ready : OnOk result (words.recovered new ≡ true)
  pub size : words.byte_count new ≡ words.byte_count old
  pub mark : words.store_mark new ≡ words.store_mark old
  pub recoveries : words.recoveries new ≡ words.recoveries old
  pub cause : HasCause (words.meter old) (words.meter new) result

-- A range is prepared: the bytes are changed so after Ok, and after a fault the range holds any bytes. Nothing is committed.
pub record PreparesRange {S T : Type 0} (words : StoreWords S) (old new : S) (result : Result T StoreFault) (place count : ℕ) (change : List ℕ → List ℕ) : Type 0 where
  pub ok : OnOk result (words.stable new ≡ option_map change (words.stable old))
  pub torn : OnErr result (Becomes (Torn place count) (words.stable old) (words.stable new))
  pub commits : words.commits new ≡ words.commits old
  pub keeps : KeepsStore words old new result

-- One commit that changes the bytes so: it is carried out after Ok, and after a fault it is or nothing is.
pub record CommitsChange {S T : Type 0} (words : StoreWords S) (old new : S) (result : Result T StoreFault) (change : List ℕ → List ℕ) : Type 0 where
  pub ok : OnOk result (words.stable new ≡ option_map change (words.stable old))
  pub whole : OnErr result ((words.stable new ≡ words.stable old) ⊎ (words.stable new ≡ option_map change (words.stable old)))
  pub commits : words.commits new ≡ with_commit result (words.commits old)
  pub keeps : KeepsStore words old new result

-- The memory of a card: its store and the table of its entries as one word, and what a call keeps of it.
use Rattle.std.specs.Prelude.{◌≡◌, ◌⊎◌, ℕ, Bool, true, List, Option, is_some, option_map, Result, OnOk, OnErr}
use Rattle.uicc_types.specs.Counts.{Meter}
use Rattle.store_form.specs.declared.store.Store.{Ghosts as StoreWords}
use Rattle.store_form.specs.declared.store.StoreFault.{StoreFault}
use Rattle.store_form.specs.Faults.{HasCause, with_commit}
use Rattle.card_state.specs.declared.entries.Loaded.{Loaded}
use Rattle.card_state.specs.Places.{memory_size}
use Rattle.card_state.specs.Persistent.{Persistent}
use Rattle.card_state.specs.Standing.{standing, Agrees}

-- whether no recovery is due, the size, the mark, the bytes where they are told, what is counted (of its device, and its commits, reads and
-- recoveries), and the table
pub record Memory : Type 0 where
  pub recovered : Bool
  pub size : ℕ
  pub mark : ℕ
  pub told : Option (List ℕ)
  pub meter : Meter
  pub commits : ℕ
  pub reads : ℕ
  pub recoveries : ℕ
  pub table : Loaded

-- the memory of any store with a table
abbrev pub memory : {S : Type 0} → StoreWords S → S → Loaded → Memory
memory words store table = record {
  recovered = words.recovered store;
  size = words.byte_count store;
  mark = words.store_mark store;
  told = words.stable store;
  meter = words.meter store;
  commits = words.commits store;
  reads = words.reads store;
  recoveries = words.recoveries store;
  table = table;
}

-- the state that it stands for, where it tells its bytes and they stand for one
abbrev pub held : Memory → Option Persistent
held memory = standing memory.mark memory.told

-- the same of a store, whatever the table
abbrev pub held_by : {S : Type 0} → StoreWords S → S → Option Persistent
held_by words store = standing (words.store_mark store) (words.stable store)

-- the memory of a card, with no recovery due, and the table of its entries
pub record IsMounted (memory : Memory) : Type 0 where
  pub ready : memory.recovered ≡ true
  pub size_is : memory.size ≡ memory_size
  pub agrees : Agrees memory.mark memory.told memory.table

-- ---- what a call does to it

-- After Ok it is mounted. Whether it tells its bytes, its size and its mark stay, no recovery is asked for, and each fault has its cause.
pub record Keeps {T : Type 0} (old new : Memory) (result : Result T StoreFault) : Type 0 where
  pub mounted : OnOk result (IsMounted new)
  pub told : is_some new.told ≡ is_some old.told
  pub size : new.size ≡ old.size
  pub mark : new.mark ≡ old.mark
  pub recoveries : new.recoveries ≡ old.recoveries
  pub cause : HasCause old.meter new.meter result

-- a call that only reads: its bytes stay too, and nothing is committed
pub record Reads {T : Type 0} (old new : Memory) (result : Result T StoreFault) : Type 0 where
  pub stable : new.told ≡ old.told
  pub commits : new.commits ≡ old.commits
  pub keeps : Keeps old new result

-- One commit that changes the state so: it is carried out after Ok, and after a fault it is or nothing is.
pub record Committed {T : Type 0} (old new : Memory) (result : Result T StoreFault) (change : Persistent → Persistent) : Type 0 where
  pub ok : OnOk result (held new ≡ option_map change (held old))
  pub whole : OnErr result ((held new ≡ held old) ⊎ (held new ≡ option_map change (held old)))
  pub commits : new.commits ≡ with_commit result old.commits
  pub keeps : Keeps old new result

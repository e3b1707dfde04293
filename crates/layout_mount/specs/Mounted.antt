-- What a mount reads of a store, and what its table is then.
use Rattle.std.specs.Prelude.{◌≡◌, ℕ, true, List, length, Option, IfSome, Err}
use Rattle.uicc_types.specs.Counts.{Caused, Rose}
use Rattle.uicc_types.specs.Told.{AreBytes}
use Rattle.store_form.specs.declared.store.Store.{Ghosts as StoreWords}
use Rattle.card_state.specs.declared.entries.Loaded.{Loaded}
use Rattle.card_state.specs.Blank.{empty_table}
use Rattle.card_state.specs.Memory.{Memory, memory}
use Rattle.card_state.specs.Places.{memory_size}
use Rattle.card_state.specs.Standing.{stands_for, Stands}
use Rattle.card_state.specs.States.{state_of}

-- the memory of a store of which no table is loaded yet
abbrev pub unread : {S : Type 0} → StoreWords S → S → Memory
unread words store = memory words store empty_table

-- This holds of a whole memory; where the store tells its bytes, of those. Of one that tells nothing it holds of some bytes: no clause
-- says that they are the ones that were read.
pub record HasRead (told : Option (List ℕ)) (Holds : List ℕ → Type 0) : Type 0 where
  pub content : List ℕ
  pub long : length content ≡ memory_size
  pub bytes : AreBytes content
  pub told_is : IfSome told (λ held. held ≡ content)
  pub holds : Holds content

-- The table is that of what was read, which stands for the state that the table has over it.
abbrev pub IsTable : ℕ → Option (List ℕ) → Loaded → Type 0
IsTable store_mark told table = HasRead told (λ content. Stands store_mark content table (state_of table content))

-- What was read is no card's: the check at this place is the first that fails.
abbrev pub HoldsNoCard : ℕ → Option (List ℕ) → ℕ → Type 0
HoldsNoCard store_mark told at = HasRead told (λ content. stands_for store_mark content ≡ Err at)

-- ---- what a mount does

-- no recovery is due, and the table is that of what was read
pub record Mounts (old new : Memory) : Type 0 where
  pub ready : new.recovered ≡ true
  pub table : IsTable old.mark old.told new.table

-- no recovery is due, and what was read is no card's
pub record FindsNoCard (old new : Memory) (at : ℕ) : Type 0 where
  pub ready : new.recovered ≡ true
  pub no_card : HoldsNoCard old.mark old.told at

-- It is read at least once, and no recovery is asked for. Its bytes, its commits, its size and its mark stay, and each fault has its cause.
pub record OnlyReads (old new : Memory) (IsFailed IsLost : Type 0) : Type 0 where
  pub stable : new.told ≡ old.told
  pub commits : new.commits ≡ old.commits
  pub read : Rose old.reads new.reads
  pub recoveries : new.recoveries ≡ old.recoveries
  pub size : new.size ≡ old.size
  pub mark : new.mark ≡ old.mark
  pub cause : Caused old.meter new.meter IsFailed IsLost

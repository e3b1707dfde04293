-- How a card is opened, what is found and left where it is refused, and how it is started again.
use Rattle.std.specs.Prelude.{◌≡◌, ◌⊎◌, ℕ, false, if◌then◌else◌, List, All, Option, Some, None, is_some, option_map, IfSome, Result, Ok, Err, IsOkAnd}
use Rattle.uicc_types.specs.Counts.{Caused, raised}
use Rattle.card_state.specs.declared.entries.Loaded.{Loaded}
use Rattle.card_state.specs.Decoding.{table_of}
use Rattle.card_state.specs.Memory.{Memory, IsMounted, held}
use Rattle.card_state.specs.Migration.{migrated}
use Rattle.card_state.specs.Places.{memory_size}
use Rattle.card_state.specs.Standing.{stands_for, standing, state_in, Stands, Agrees}
use Rattle.card_state.specs.States.{rows_of}
use Rattle.file_model.specs.Laws.{IsSoundCard}
use Rattle.layout_mount.specs.Mounted.{HasRead, HoldsNoCard}
use Rattle.applet_trait.specs.Minds.{AppletState}
use Rattle.card_model.specs.States.{HasBox, AreOfKnownKinds}
use Rattle.card_core.specs.Boxes.{IsFirstWithoutBox}
use Rattle.card_core.specs.Migrations.{awaits_migration, migrated_table, CountsMigration}
use Rattle.card_core.specs.declared.opening_faults.OpenFault.{OpenFault}
use Rattle.card_core.specs.declared.opening_faults.OpenFault.TheVariants.{NotACard, NoBox, Failed, PowerLost, Memory as NoMemory}

-- A store that tells its bytes tells those of a card.
abbrev pub HoldsCard : ℕ → Option (List ℕ) → Type 0
HoldsCard store_mark told = is_some (standing store_mark told) ≡ is_some told

-- Whether it tells its bytes, its size and its mark stay, and each fault has its cause.
pub record IsKept (old new : Memory) (IsFailed IsLost : Type 0) : Type 0 where
  pub told : is_some new.told ≡ is_some old.told
  pub size : new.size ≡ old.size
  pub mark : new.mark ≡ old.mark
  pub cause : Caused old.meter new.meter IsFailed IsLost

-- ---- a card that is opened

-- What was read are the bytes of a card. The table is theirs, and a migration that they await is made, by one commit, and no
-- other commit is.
pub record IsOpenedFrom (old new : Memory) (content : List ℕ) : Type 0 where
  pub stands : Stands old.mark content (table_of content) (state_in content)
  pub table : new.table ≡ migrated_table (table_of content)
  pub commits : new.commits ≡ (if awaits_migration (table_of content) then raised old.commits else old.commits)

-- The card is mounted, and the state that the store stands for is the migrated one of that for which it stood, and sound. Each
-- registered applet has its box, and each box is of a known kind. No migration is due any more, and one that was made
-- is the one commit.
pub record Opens (old new : Memory) (boxes : List (Option AppletState)) : Type 0 where
  pub mounted : IsMounted new
  pub read : HasRead old.told (IsOpenedFrom old new)
  pub card : HoldsCard old.mark old.told
  pub migrated_is : held new ≡ option_map migrated (held old)
  pub sound : IfSome (held new) IsSoundCard
  pub boxes_are : All (HasBox boxes) (rows_of new.table)
  pub kinds : AreOfKnownKinds boxes
  pub rests : awaits_migration new.table ≡ false
  pub commits : CountsMigration (held old) old.commits new.commits

-- ---- a card that isn't

-- the bytes of a card with an applet that has no box; this is the first shelf with one
abbrev pub HasNoBoxFor : ℕ → List (Option AppletState) → ℕ → List ℕ → Type 0
HasNoBoxFor store_mark boxes shelf content = IsOkAnd (stands_for store_mark content) (λ state. IsFirstWithoutBox state.rows boxes shelf)

-- What was read: bytes of no card, with the place of the first check that fails; or a card with an applet that has no box.
-- The causes of the other faults are read off the device's counts, and the allocator's answer is its own.
abbrev pub Finds : OpenFault → ℕ → Option (List ℕ) → List (Option AppletState) → Type 0
Finds (NotACard at) store_mark told boxes = HoldsNoCard store_mark told at
Finds (NoBox shelf) store_mark told boxes = HasRead told (HasNoBoxFor store_mark boxes shelf)
Finds Failed store_mark told boxes = Unit {0}
Finds PowerLost store_mark told boxes = Unit {0}
Finds NoMemory store_mark told boxes = Unit {0}

-- A card stands for the state as it was, or for the migrated one; bytes of no card are as they were.
pub record IsLeftMigrated (store_mark : ℕ) (before after : Option (List ℕ)) : Type 0 where
  pub card : IfSome (standing store_mark before)
      (λ state. (standing store_mark after ≡ Some state) ⊎ (standing store_mark after ≡ Some (migrated state)))
  pub no_card : standing store_mark before ≡ None → after ≡ before

-- What was found is left as it was; only a fault of the memory can come when the migration has begun.
abbrev pub FaultLeaves : OpenFault → ℕ → Option (List ℕ) → Option (List ℕ) → Type 0
FaultLeaves Failed store_mark before after = IsLeftMigrated store_mark before after
FaultLeaves PowerLost store_mark before after = IsLeftMigrated store_mark before after
FaultLeaves (NotACard at) store_mark before after = after ≡ before
FaultLeaves (NoBox shelf) store_mark before after = after ≡ before
FaultLeaves NoMemory store_mark before after = after ≡ before

-- What an opening that is refused for this cause found, and what it left. It counted no commit.
pub record Refuses (old new : Memory) (boxes : List (Option AppletState)) (fault : OpenFault) : Type 0 where
  pub found : Finds fault old.mark old.told boxes
  pub left : FaultLeaves fault old.mark old.told new.told
  pub commits : new.commits ≡ old.commits

-- ---- the recoveries of an opening

-- the count of recoveries after a refusal for this cause, by the count before: one more, or, where there was no memory for the card,
-- the same
abbrev pub recoveries_at : OpenFault → ℕ → ℕ
recoveries_at NoMemory before = before
recoveries_at fault before = raised before

-- the same after an opening that ended so: one more after Ok
abbrev pub recoveries_after : {X : Type 0} → Result X OpenFault → ℕ → ℕ
recoveries_after (Ok done) before = raised before
recoveries_after (Err fault) before = recoveries_at fault before

-- ---- a card that is started again

-- the memory, once one more recovery was asked of it
abbrev pub recovered_once : Memory → Memory
recovered_once memory = record memory { recoveries = raised memory.recoveries }

-- The store has the size of a card's memory. One that tells its bytes holds a card, each of whose applets has its box; of one
-- that doesn't the table is that of such a card.
pub record MayRestart (memory : Memory) (boxes : List (Option AppletState)) : Type 0 where
  pub size : memory.size ≡ memory_size
  pub card : HoldsCard memory.mark memory.told
  pub kept : memory.told ≡ None → Agrees memory.mark None memory.table
  pub boxes_are : IfSome (held memory) (λ state. All (HasBox boxes) state.rows)
  pub kept_boxes : memory.told ≡ None → All (HasBox boxes) (rows_of memory.table)

-- the bytes of a card each of whose applets has its box
abbrev pub IsWithBoxes : ℕ → List (Option AppletState) → List ℕ → Type 0
IsWithBoxes store_mark boxes content = IsOkAnd (stands_for store_mark content) (λ state. All (HasBox boxes) state.rows)

-- Where what was read are the bytes of a card each of whose applets has its box, the table is theirs; else it is as it was.
pub record IsReadAgain (store_mark : ℕ) (boxes : List (Option AppletState)) (old new : Loaded) (content : List ℕ) : Type 0 where
  pub anew : IsWithBoxes store_mark boxes content → new ≡ table_of content
  pub stays : (IsWithBoxes store_mark boxes content → ⊥) → new ≡ old

-- Each registered applet has its box, and the table is that of what was read, or as it was.
pub record RestartsMemory (old new : Memory) (boxes : List (Option AppletState)) : Type 0 where
  pub boxes_are : All (HasBox boxes) (rows_of new.table)
  pub read : HasRead old.told (IsReadAgain old.mark boxes old.table new.table)

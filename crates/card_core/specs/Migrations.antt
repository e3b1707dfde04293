-- Which cards an opening migrates, and the commits that it makes.
use Rattle.std.specs.Prelude.{◌≡◌, ◌⊎◌, ℕ, Bool, true, not, ◌&&◌, if◌then◌else◌, Option, Some, None, is_some, Result, OnOk}
use Rattle.std.specs.List.{list_all}
use Rattle.uicc_types.specs.Counts.{raised}
use Rattle.store_form.specs.declared.store.StoreFault.{StoreFault}
use Rattle.store_form.specs.Faults.{HasCause, with_commit}
use Rattle.card_state.specs.declared.entries.Loaded.{Loaded}
use Rattle.card_state.specs.Memory.{Memory}
use Rattle.card_state.specs.Migration.{ends_low, entries_end_low}
use Rattle.card_state.specs.Persistent.{Persistent}

-- a card of version 1 whose files leave room for what a wide card has after them
abbrev pub is_migrated : Persistent → Bool
is_migrated state = not state.is_wide && list_all ends_low state.files

-- the same of the table of its entries
abbrev pub awaits_migration : Loaded → Bool
awaits_migration table = not table.wide && entries_end_low table

-- the table once a migration that is due is made
abbrev pub migrated_table : Loaded → Loaded
migrated_table table = if awaits_migration table then record table { wide = true } else table

-- The count of commits before an opening of this card, and after it: a migration is one, and there is no other. Of a store
-- that doesn't tell its bytes it isn't known whether its card was migrated.
abbrev pub CountsMigration : Option Persistent → ℕ → ℕ → Type 0
CountsMigration None before now = (now ≡ before) ⊎ (now ≡ raised before)
CountsMigration (Some state) before now = now ≡ (if is_migrated state then raised before else before)

-- the count of commits before a migration that answered so, which is made where this table awaits it, and after it
abbrev pub with_migration : {T : Type 0} → Loaded → Result T StoreFault → ℕ → ℕ
with_migration table result before = if awaits_migration table then with_commit result before else before

-- ---- the steps of a migration

-- After Ok no recovery is due. Whether it tells its bytes, its size and its mark stay, no recovery is asked for, and each fault has its cause.
pub record KeepsMigrating {T : Type 0} (old new : Memory) (result : Result T StoreFault) : Type 0 where
  pub ready : OnOk result (new.recovered ≡ true)
  pub told : is_some new.told ≡ is_some old.told
  pub size : new.size ≡ old.size
  pub mark : new.mark ≡ old.mark
  pub recoveries : new.recoveries ≡ old.recoveries
  pub cause : HasCause old.meter new.meter result

-- A device that holds no map, and what it gets.
use Rattle.std.specs.Prelude.{◌≡◌, ℕ, ◌*◌, ◌<◌, ◌≤◌, List, slice_index}
use Rattle.std.specs.List.{range_with_len}
use Rattle.eeprom_model.specs.declared.device.TheConstants.{PAGE_LENGTH}
use Rattle.page_store.specs.declared.places.TheConstants.{DEVICE_SIZE, MAPPED, POOL}

-- FF in the first page and in the pool
pub record IsBlank (image : List ℕ) : Type 0 where
  pub first : (k : ℕ) → k < PAGE_LENGTH → slice_index image k ≡ 255
  pub pool : (k : ℕ) → PAGE_LENGTH * POOL ≤ k → k < DEVICE_SIZE → slice_index image k ≡ 255

-- the first map: the mapped pages lie in the first pages of the pool, in order
unfoldable pub first_entries : List ℕ
first_entries = range_with_len POOL MAPPED

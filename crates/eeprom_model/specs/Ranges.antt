-- What one write of a device may take up.
use Rattle.std.specs.Prelude.{◌<◌, ◌≤◌, ◌+◌, ◌%◌, ℕ}
use Rattle.eeprom_model.specs.declared.device.TheConstants.{PAGE_LENGTH}

-- a write of `count` bytes at `at`, to a device of `size` bytes: of at least one byte, in one page, and inside the device
pub record IsPageWrite (size at count : ℕ) : Type 0 where
  pub some : 0 < count
  pub one_page : at % PAGE_LENGTH + count ≤ PAGE_LENGTH
  pub inside : at + count ≤ size

-- Bytes put into a list of bytes at a place, and what is left of a range whose write was cut short.
use Rattle.std.specs.Prelude.{◌≡◌, ℕ, ◌+◌, ◌<◌, ◌≤◌, List, ◌++◌, length, take, drop, slice_index, ◌⊎◌}

-- the image with these bytes in place of as many from `at` on
unfoldable pub patched : ℕ → List ℕ → List ℕ → List ℕ
patched at bytes image = take at image ++ bytes ++ drop (at + length bytes) image

-- any bytes in the range of so many bytes from `at` on, and the same outside it
pub record Torn (at count : ℕ) (old new : List ℕ) : Type 0 where
  pub same_length : length new ≡ length old
  pub before : (k : ℕ) → k < at → slice_index new k ≡ slice_index old k
  pub after : (k : ℕ) → at + count ≤ k → slice_index new k ≡ slice_index old k

-- a range that shares no byte with another of this width
abbrev pub IsApart : ℕ → ℕ → ℕ → ℕ → Type 0
IsApart at count place width = (at + count ≤ place) ⊎ (place + width ≤ at)

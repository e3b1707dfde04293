-- What a search of the bytes that are held for the end of a line comes to. No public clause cites this module.
use Rattle.std.specs.Prelude.{◌≡◌, ◌≢◌, ℕ, ◌<◌, List, ◌++◌, length, slice_index, Option}
use Rattle.std.specs.Io.KnownBytes.{prepend_known}
use Rattle.byte_streams.specs.declared.window.Found.{Found}
use Rattle.byte_streams.specs.declared.window.Found.TheVariants.{LineEnd, Full, InputEnd}

-- no line ends among the first bytes
abbrev pub NoEndBelow : List ℕ → ℕ → Type 0
NoEndBelow bytes count = (place : ℕ) → place < count → slice_index bytes place ≢ 10

-- the first place at which a line ends
pub record IsFirstEnd (bytes : List ℕ) (place : ℕ) : Type 0 where
  pub inside : place < length bytes
  pub ends : slice_index bytes place ≡ 10
  pub first : NoEndBelow bytes place

-- the bytes that are held grew by what the source handed on
pub record TakesMore (old : List ℕ) (left : Option (List ℕ)) (new : List ℕ) (left_then : Option (List ℕ)) : Type 0 where
  pub part : List ℕ
  pub held : new ≡ old ++ part
  pub handed : left ≡ prepend_known part left_then

-- what was found, where at most this many bytes may be held: the first end of a line; no end in so many bytes; or no end
-- before the end of the input
abbrev pub Finds : Found → List ℕ → ℕ → Type 0 → Type 0
Finds (LineEnd place) held most AtEnd = IsFirstEnd held place
Finds Full held most AtEnd = NoEndBelow held (length held) × (length held ≡ most)
Finds InputEnd held most AtEnd = NoEndBelow held (length held) × AtEnd

-- What a frame store holds, and how its frames lie in its block.
use Rattle.std.specs.Prelude.{ℕ, zero, suc, ◌+◌, ◌*◌, ◌≤◌, ◌≡◌, List, [], ◌∷◌, ◌++◌, map, length, take, drop, sum}
use Rattle.std.specs.Int.{w64, to_le_bytes, from_le_bytes}
use Rattle.std.specs.List.{flat_map}

-- the frames in the order in which they came, and what was asked for: the most frames, and the most bytes in all of them
pub record Frames : Type 0 where
  pub parts : List (List ℕ)
  pub most : ℕ
  pub room : ℕ

-- the bytes in all the frames together
abbrev pub bytes_in : List (List ℕ) → ℕ
bytes_in parts = sum (map length parts)

-- the same store with these frames
abbrev pub with_parts : List (List ℕ) → Frames → Frames
with_parts parts frames = record { parts = parts; most = frames.most; room = frames.room }

-- a length as it is written before a frame, in eight bytes with the lowest first
unfoldable pub length_bytes : ℕ → List ℕ
length_bytes size = to_le_bytes w64 size

-- the length that is written before what follows it
unfoldable pub length_in : List ℕ → ℕ
length_in bytes = from_le_bytes w64 (take 8 bytes)

-- a frame as it lies in the block: its length, and then its bytes
unfoldable pub laid : List ℕ → List ℕ
laid part = length_bytes (length part) ++ part

-- frames that lie one after the other
unfoldable pub in_line : List (List ℕ) → List ℕ
in_line parts = flat_map laid parts

-- the first frames of those that lie one after the other in these bytes, as many as are asked for
unfoldable pub frames_of : ℕ → List ℕ → List (List ℕ)
frames_of zero bytes = []
frames_of (suc count) bytes = let rest = drop 8 bytes in take (length_in bytes) rest ∷ frames_of count (drop (length_in bytes) rest)

-- these frames lie one after the other in the used bytes of the block, which has room for all that the store may be given
pub record AreKept (frames : Frames) (used : ℕ) (block : List ℕ) : Type 0 where
  pub in_place : in_line frames.parts ≡ take used block
  pub inside : used ≤ length block
  pub few : length frames.parts ≤ frames.most
  pub small : bytes_in frames.parts ≤ frames.room
  pub roomy : frames.most * 8 + frames.room ≤ length block

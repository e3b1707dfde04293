-- When a list of writes takes one more piece.
use Rattle.std.specs.Prelude.{ℕ, ◌+◌, ◌≤◌, ◌<◌, List, length}
use Rattle.store_form.specs.Pieces.{Piece, byte_total}

-- there are fewer than four pieces, and so many bytes more are at most 640
abbrev pub HasRoom : List Piece → ℕ → Type 0
HasRoom pieces count = (length pieces < 4) × (byte_total pieces + count ≤ 640)

-- How a list of writes keeps its pieces: the bytes of all one after the other, and where those of each stand.
use Rattle.std.specs.Prelude.{◌≡◌, ℕ, ◌≤◌, ◌<◌, ◌^◌, List, length, map, slice_range, All}
use Rattle.store_form.specs.declared.writes.Span.{Span}
use Rattle.store_form.specs.declared.writes.TheConstants.{MOST_PIECES, MOST_BYTES}
use Rattle.store_form.specs.Pieces.{Piece, byte_total}

-- the piece that a span of the bytes is
abbrev pub piece_of : List ℕ → Span → Piece
piece_of bytes span = record { place = span.place; bytes = slice_range bytes span.start span.end }

-- the pieces of a list of writes
unfoldable pub pieces_of : List ℕ → List Span → List Piece
pieces_of bytes spans = map (piece_of bytes) spans

-- the span names bytes that are there
pub record IsIn (bytes : List ℕ) (span : Span) : Type 0 where
  pub place : span.place < 2 ^ 16
  pub order : span.start ≤ span.end
  pub inside : span.end ≤ length bytes

-- each span is in the bytes, and all bytes are the pieces'
pub record AreWhole (bytes : List ℕ) (spans : List Span) : Type 0 where
  pub each : All (IsIn bytes) spans
  pub total : byte_total (pieces_of bytes spans) ≡ length bytes
  pub room : length bytes ≤ MOST_BYTES
  pub few : length spans ≤ MOST_PIECES

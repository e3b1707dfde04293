-- What a journal writes of a commit before it begins with it is what it reads of it after a loss of power.
use Rattle.std.specs.Prelude.{◌≡◌, ℕ, ◌<◌, List, ◌++◌, length, All, Some}
use Rattle.store_form.specs.Pieces.{IsWithinBounds, Piece}
use Rattle.store_form.specs.Spared.{AreUsable}
use Rattle.update_journal.specs.Entries.{entries, pieces_in}

-- the pieces that a commit may have in a memory of this size: one at least, and no more than the bounds allow, each in a range that a caller
-- may name
pub record MayBeCommitted (size : ℕ) (pieces : List Piece) : Type 0 where
  pub some : 0 < length pieces
  pub bounds : IsWithinBounds pieces
  pub usable : AreUsable pieces size

-- the bytes that spell them are read as just these pieces, whatever stands after them
abbrev pub EntriesAreRead : Type 0
EntriesAreRead = (size : ℕ) (pieces : List Piece) (behind : List ℕ) → MayBeCommitted size pieces → pieces_in size (entries pieces ++ behind) ≡ Some pieces

-- and nothing else is read: what is read of some bytes is what they begin by spelling, and may be committed
abbrev pub NothingElseIsRead : Type 0
NothingElseIsRead =
    (size : ℕ) (area : List ℕ) (pieces : List Piece) → All (λ byte. byte < 256) area → pieces_in size area ≡ Some pieces
    → MayBeCommitted size pieces × ((behind : List ℕ) × (area ≡ entries pieces ++ behind))

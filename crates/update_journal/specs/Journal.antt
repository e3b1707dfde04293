-- What a memory with a journal stands for. Byte 64 is its gate, which is open where it is 5A; the entries of the last
-- commit stand from byte 128 on, at most up to 831.
use Rattle.std.specs.Prelude.{◌≡◌, ℕ, ◌≤◌, Bool, true, not, ◌&&◌, ◌==◌, if◌then◌else◌, List, [], ◌∷◌, ◌++◌, length, take, drop, slice_index, slice_range, replicate, Option, Some, None, option_map, unwrap_or, ◌⊎◌}
use Rattle.list_laws.specs.Patches.{patched}
use Rattle.uicc_types.specs.Counts.{Meter}
use Rattle.store_form.specs.declared.store.TheConstants.{OWN_START, OWN_END}
use Rattle.store_form.specs.Pieces.{Piece, applied}
use Rattle.update_journal.specs.declared.steps.TheConstants.{GATE, ENTRIES, OPEN, CLOSED}
use Rattle.update_journal.specs.Entries.{entries, pieces_in}

-- a store over a journal: its device, how many commits it answered with Ok, how many reads and recoveries were asked of it, and whether it
-- takes no recovery to be due
pub record Journaled (E : Type 0) : Type 0 where
  pub device : E
  pub commits : ℕ
  pub reads : ℕ
  pub recoveries : ℕ
  pub is_ready : Bool

-- the gate is open: a commit was begun, and is to be ended
abbrev pub is_open : List ℕ → Bool
is_open image = slice_index image GATE == OPEN

-- the pieces of the commit that is to be ended: the entries, where the gate is open and they are well formed
unfoldable pub pending : List ℕ → List Piece
pending image = if is_open image then unwrap_or (pieces_in (length image) (slice_range image ENTRIES OWN_END)) [] else []

-- the image with FF in place of the journal's own bytes, 64 to 831
unfoldable pub hidden : List ℕ → List ℕ
hidden image = take OWN_START image ++ replicate (length (slice_range image OWN_START OWN_END)) 255 ++ drop OWN_END image

-- the bytes that the memory holds for good
unfoldable pub stable_of : List ℕ → List ℕ
stable_of image = hidden (applied (pending image) image)

-- what a memory holds for good, where it tells its bytes
abbrev pub stable : Option (List ℕ) → Option (List ℕ)
stable told = option_map stable_of told

-- the two contents that a commit of these pieces may leave
abbrev pub IsWhole : List Piece → Option (List ℕ) → Option (List ℕ) → Type 0
IsWhole pieces old new = (stable new ≡ stable old) ⊎ (stable new ≡ option_map (applied pieces) (stable old))

-- no commit is to be ended, in a memory that tells its bytes
abbrev pub is_settled : Option (List ℕ) → Bool
is_settled None = true
is_settled (Some image) = not (is_open image)

-- ---- the bytes of the memory, also those that are the journal's own

-- the image in which a commit of these pieces has been ended: they stand in their places, and the gate is closed
abbrev pub ended : List Piece → List ℕ → List ℕ
ended pieces image = patched GATE (CLOSED ∷ []) (applied pieces image)

-- the image that a whole commit leaves: its entries stand in theirs too
abbrev pub committed : List Piece → List ℕ → List ℕ
committed pieces image = ended pieces (patched GATE (OPEN ∷ []) (patched ENTRIES (entries pieces) image))

-- the image that a recovery leaves: a gate that isn't open stays as it is, and so does every other byte
abbrev pub recovered_image : List ℕ → List ℕ
recovered_image image = if is_open image then ended (pending image) image else image

-- ---- a store over it

-- What holds of every journal. Where it takes no recovery to be due its device has power.
pub record IsJournaled (size : ℕ) (meter : Meter) (is_ready : Bool) : Type 0 where
  pub roomy : OWN_END ≤ size
  pub powered : is_ready ≡ true → meter.powered ≡ true

-- no recovery is due: the last one was answered with Ok and no fault came since, and no commit is to be ended
abbrev pub is_recovered : Bool → Option (List ℕ) → Bool
is_recovered is_ready told = is_ready && is_settled told

-- a commit of these pieces is to be ended in the image
pub record IsUnderWay (pieces : List Piece) (image : List ℕ) : Type 0 where
  pub opened : is_open image ≡ true
  pub of_pieces : pending image ≡ pieces

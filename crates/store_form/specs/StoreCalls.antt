-- What a call of a store keeps, and what it writes. The words of the store are given: how many bytes it has, its mark, the bytes that
-- it holds for good, where it tells them, and how many commits, reads and recoveries it counted.
use Rattle.std.specs.Prelude.{◌≡◌, ◌⊎◌, ℕ, List, length, Option, option_map, is_some, Result, OnOk, OnErr}
use Rattle.list_laws.specs.Patches.{patched, Torn}
use Rattle.uicc_types.specs.Counts.{raised_by}
use Rattle.uicc_types.specs.Told.{Becomes}
use Rattle.store_form.specs.declared.store.StoreFault.{StoreFault}
use Rattle.store_form.specs.Faults.{with_commit}
use Rattle.store_form.specs.Pieces.{Piece, applied}

-- ---- what a call keeps

-- A call that may write. The store tells its bytes exactly if it told them before, and its size and its mark stay.
pub record StaysItself {S : Type 0} (size_of mark_of : S → ℕ) (told_by : S → Option (List ℕ)) (old new : S) : Type 0 where
  -- it goes on telling its bytes, or goes on telling nothing
  pub told : is_some (told_by new) ≡ is_some (told_by old)
  -- it has as many bytes as before
  pub size : size_of new ≡ size_of old
  -- its mark is the same
  pub mark : mark_of new ≡ mark_of old

-- A call that changes nothing of what the store holds for good, and counts no commit. What is due on the device, as the end of a commit
-- that was interrupted, it may do.
pub record HoldsTheSame {S : Type 0} (size_of mark_of : S → ℕ) (told_by : S → Option (List ℕ)) (commits_of : S → ℕ) (old new : S) : Type 0 where
  -- the bytes that it holds for good are the same
  pub stable : told_by new ≡ told_by old
  -- it goes on telling them, or goes on telling nothing
  pub told : is_some (told_by new) ≡ is_some (told_by old)
  -- it has as many bytes as before
  pub size : size_of new ≡ size_of old
  -- its mark is the same
  pub mark : mark_of new ≡ mark_of old
  -- as many commits are counted as before
  pub commits : commits_of new ≡ commits_of old

-- ---- what a call asks for

-- a call that asks the store for so many reads and so many recoveries, however it ends
pub record IsAsked {S : Type 0} (reads_of recoveries_of : S → ℕ) (old new : S) (times_read times_recovered : ℕ) : Type 0 where
  -- so many more reads are counted
  pub reads : reads_of new ≡ raised_by times_read (reads_of old)
  -- so many more recoveries are counted
  pub recoveries : recoveries_of new ≡ raised_by times_recovered (recoveries_of old)

-- ---- what a call writes

-- a commit of these pieces
pub record CommitsPieces {S T : Type 0} (told_by : S → Option (List ℕ)) (commits_of : S → ℕ) (pieces : List Piece) (old new : S) (result : Result T StoreFault) : Type 0 where
  -- after Ok all pieces are written
  pub ok : OnOk result (told_by new ≡ option_map (applied pieces) (told_by old))
  -- after a fault none is written, or all are
  pub whole : OnErr result ((told_by new ≡ told_by old) ⊎ (told_by new ≡ option_map (applied pieces) (told_by old)))
  -- one more commit is counted after Ok, and none after a fault
  pub commits : commits_of new ≡ with_commit result (commits_of old)

-- a write of these bytes from this place on, which a fault may leave torn
pub record PreparesBytes {S T : Type 0} (told_by : S → Option (List ℕ)) (commits_of : S → ℕ) (at : ℕ) (bytes : List ℕ) (old new : S) (result : Result T StoreFault) : Type 0 where
  -- after Ok the bytes are written
  pub ok : OnOk result (told_by new ≡ option_map (patched at bytes) (told_by old))
  -- after a fault any bytes stand in their range, and outside it those that stood there before
  pub torn : OnErr result (Becomes (Torn at (length bytes)) (told_by old) (told_by new))
  -- no commit is counted
  pub commits : commits_of new ≡ commits_of old

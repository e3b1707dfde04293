-- How often a memory is committed.
use Rattle.std.specs.Prelude.{◌≡◌, List, [], length}
use Rattle.uicc_types.specs.Counts.{raised_by}
use Rattle.card_state.specs.Memory.{Memory}

-- There was a commit for each of these. Where there are none of them, the bytes stay.
pub record Counts {X : Type 0} (passed : List X) (old new : Memory) : Type 0 where
  pub commits : new.commits ≡ raised_by (length passed) old.commits
  pub stays : passed ≡ [] → new.told ≡ old.told

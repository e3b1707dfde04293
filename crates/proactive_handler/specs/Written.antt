-- The bytes that steps of the toolkit leave, in a memory that tells its bytes.
use Rattle.std.specs.Prelude.{◌≡◌, List, option_map}
use Rattle.card_state.specs.Memory.{Memory}
use Rattle.card_commits.specs.Performing.{StopsAmong}
use Rattle.card_commits.specs.Writing.{all_written}
use Rattle.toolkit_model.specs.Passing.{Happening, changes_in}

-- where the memory tells its bytes: what was committed was written, in order, and nothing else
abbrev pub IsWritten : List Happening → Memory → Memory → Type 0
IsWritten log old new = new.told ≡ option_map (all_written (changes_in log)) old.told

-- a fault stopped it: the bytes are those after some of the commits, be they all
abbrev pub IsPartlyWritten : List Happening → Memory → Memory → Type 0
IsPartlyWritten log old new = StopsAmong (changes_in log) old new

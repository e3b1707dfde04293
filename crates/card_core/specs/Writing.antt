-- What a command writes of a memory that tells its bytes.
use Rattle.std.specs.Prelude.{◌≡◌, ◌⊎◌, ℕ, List, [], ◌∷◌, option_map, Result, Ok, Err}
use Rattle.list_laws.specs.Patches.{Torn}
use Rattle.uicc_types.specs.Told.{Becomes}
use Rattle.card_state.specs.Changes.{Change}
use Rattle.card_state.specs.Decoding.{table_of}
use Rattle.card_state.specs.Memory.{Memory}
use Rattle.card_commits.specs.Performing.{StopsAmong}
use Rattle.card_commits.specs.Writing.{all_written}
use Rattle.file_admin.specs.Writes.{range_for}
use Rattle.card_core.specs.Cards.{memory_of}
use Rattle.card_core.specs.Parts.{CardParts}

-- Any bytes stand in the range that is prepared for the first of some changes (that of a new file, or the new one of a file that grows),
-- and outside it those before. For another change, and where there is none, no byte is another.
abbrev pub TearsFirst : List Change → List ℕ → List ℕ → Type 0
TearsFirst [] before after = after ≡ before
TearsFirst (change ∷ changes) before after = Torn (range_for (table_of before) change).0 (range_for (table_of before) change).1 before after

-- A fault came while a range was prepared for the first of some changes: no commit is counted.
pub record StopsBefore (changes : List Change) (old new : Memory) : Type 0 where
  pub commits : new.commits ≡ old.commits
  pub told : Becomes (TearsFirst changes) old.told new.told

-- A fault stopped some changes: the bytes are those after the changes whose commits are counted, or after one more; or it came while a
-- range was prepared for the first.
abbrev pub StopsWriting : List Change → CardParts → CardParts → Type 0
StopsWriting changes old new = StopsAmong changes (memory_of old) (memory_of new) ⊎ StopsBefore changes (memory_of old) (memory_of new)

-- the bytes are those after the changes, in order
abbrev pub HasWritten : List Change → CardParts → CardParts → Type 0
HasWritten changes old new = new.told ≡ option_map (all_written changes) old.told

-- what is written where these changes were to be made: after Ok all of it, and where a fault stopped it what was written till then
abbrev pub WritesChanges : {X E : Type 0} → Result X E → CardParts → CardParts → List Change → Type 0
WritesChanges (Ok done) old new changes = HasWritten changes old new
WritesChanges (Err fault) old new changes = StopsWriting changes old new

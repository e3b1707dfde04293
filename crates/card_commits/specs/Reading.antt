-- Records that are read together.
use Rattle.std.specs.Prelude.{◌≡◌, ℕ, ◌+◌, ◌*◌, ◌≤◌, List, [], length, take, drop, Some, slice_index_or}
use Rattle.card_state.specs.Persistent.{Persistent}
use Rattle.file_model.specs.declared.descriptors.Descriptor.{Descriptor}
use Rattle.file_model.specs.declared.descriptors.Wanted.TheVariants.{Number}
use Rattle.file_model.specs.Files.{file_found}
use Rattle.file_model.specs.Holdings.{records_in}

-- the records of a file from `index + 1` on stand in the bytes, one after the other, as many as have room there
abbrev pub StandInARow : Persistent → List Descriptor → ℕ → ℕ → List ℕ → Type 0
StandInARow state files number index bytes =
    (file : Descriptor) → file_found files (Number number) ≡ Some file → (k : ℕ) → k * file.width + file.width ≤ length bytes
    → take file.width (drop (k * file.width) bytes) ≡ slice_index_or (records_in state number) (index + k) []

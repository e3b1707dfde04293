-- Objects that are put at the end of a list of at most 255 bytes.
use Rattle.std.specs.Prelude.{◌≡◌, ℕ, ◌<◌, List, ◌++◌, length, Result, Ok, Err}
use Rattle.comprehension_tlv.specs.Model.{Object}
use Rattle.comprehension_tlv.specs.Writing.{spellings}

-- either all of the objects stand at the end, or there is no room for them
abbrev pub Puts : {A E : Type 0} → List ℕ → List Object → Result A E → List ℕ → Type 0
Puts old objects (Ok done) new = new ≡ old ++ spellings objects
Puts old objects (Err full) new = 255 < length (old ++ spellings objects)

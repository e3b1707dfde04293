-- What leaves the PINs: commands on files, and those of the toolkit.
use Rattle.std.proofs.Common.{◌≡◌, ℕ, List, [], ◌∷◌, ◌++◌, map, refl, ap}
use Rattle.std.specs.Prelude.{⊤}
use Rattle.card_state.specs.Persistent.{Registration, Persistent}
use Rattle.file_model.specs.Outcomes.{last_of}
use Rattle.card_model.specs.OtherFiles.{HaveOtherFiles}
use Rattle.card_model.specs.Toolkit.{with_rows}

-- each state passed has these PINs
abbrev pub HaveSamePins : Persistent → List Persistent → Type 0
HaveSamePins state [] = ⊤
HaveSamePins state (next ∷ passed) = (next.pins ≡ state.pins) × HaveSamePins state passed

pub same_with_files : (base : Persistent) (passed : List Persistent) → HaveOtherFiles base passed → HaveSamePins base passed
same_with_files base [] other = tt
same_with_files base (next ∷ passed) other = (ap (λ (state : Persistent). state.pins) other.0, same_with_files base passed other.1)

-- what is committed of rows has the PINs that were there
pub same_with_rows : (base state : Persistent) (next_sequence : ℕ) (rows : List (List Registration)) → state.pins ≡ base.pins → HaveSamePins base (map (with_rows state next_sequence) rows)
same_with_rows base state next_sequence [] same = tt
same_with_rows base state next_sequence (first ∷ others) same = (same, same_with_rows base state next_sequence others same)

pub same_joined : (base : Persistent) (first second : List Persistent) → HaveSamePins base first → HaveSamePins base second → HaveSamePins base (first ++ second)
same_joined base [] second same then_same = then_same
same_joined base (next ∷ first) second same then_same = (same.0, same_joined base first second same.1 then_same)

same_from : (base state : Persistent) (passed : List Persistent) → state.pins ≡ base.pins → HaveSamePins base passed → (last_of state passed).pins ≡ base.pins
same_from base state [] is same = is
same_from base state (next ∷ passed) is same = same_from base next passed same.0 same.1

-- and so has the last state
pub same_last : (base : Persistent) (passed : List Persistent) → HaveSamePins base passed → (last_of base passed).pins ≡ base.pins
same_last base passed same = same_from base base passed refl same

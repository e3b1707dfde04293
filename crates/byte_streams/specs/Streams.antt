-- What a source and a sink count, and what a sink takes of a part that it does not take whole.
use Rattle.std.specs.Prelude.{◌≡◌, ◌⊎◌, List, ℕ, ◌++◌}
use Rattle.uicc_types.specs.Counts.{raised}
use Rattle.uicc_types.specs.Told.{IsFront}

-- The count of the failures of a source or a sink: one more after a failure, and otherwise the same. A function that goes on to use one that
-- failed in it can't have this, for that might fail again.
pub record CountsEach (before now : ℕ) (IsFailed : Type 0) : Type 0 where
  pub failed : IsFailed → now ≡ raised before
  pub no_failure : (IsFailed → ⊥) → now ≡ before

-- At most one failure of a source was counted: just one where the run ended for it, none where it ended neither so nor because its last line was
-- lost.
pub record CountsOnce (before now : ℕ) (IsFailed IsLineLost : Type 0) : Type 0 where
  pub failed : IsFailed → now ≡ raised before
  pub no_failure : (IsFailed → ⊥) → (IsLineLost → ⊥) → now ≡ before
  pub at_most_one : (now ≡ before) ⊎ (now ≡ raised before)

-- the beginning of the part was taken, be it none or all of it
abbrev pub TakesFront : List ℕ → List ℕ → List ℕ → Type 0
TakesFront part before now = (front : List ℕ) × IsFront front part × (now ≡ before ++ front)

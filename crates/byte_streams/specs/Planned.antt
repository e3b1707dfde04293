-- A source and a sink in memory, as clauses see them: their calls are counted from 1, and those that are listed fail.
use Rattle.std.specs.Prelude.{ℕ, Bool, List, if◌then◌else◌, Contains}
use Rattle.uicc_types.specs.Counts.{raised}

-- the numbers of the calls that are to fail, how many calls were made, and how many of them failed
pub record Calls : Type 0 where
  pub failing : List ℕ
  pub made : ℕ
  pub failed : ℕ

-- no call was made, and those with these numbers are to fail
abbrev pub no_calls : List ℕ → Calls
no_calls failing = record { failing = failing; made = 0; failed = 0 }

-- one call more was made, and failed or not
abbrev pub with_call : Bool → Calls → Calls
with_call has_failed calls = record calls { made = raised calls.made; failed = if has_failed then raised calls.failed else calls.failed }

-- the call after these is one of those that are to fail
abbrev pub FailsNext : Calls → Type 0
FailsNext calls = Contains calls.failing (raised calls.made)

-- the text that is left, and the calls
pub record Supply : Type 0 where
  pub left : List ℕ
  pub calls : Calls

-- what was taken, the most that may be taken, and the calls
pub record Collected : Type 0 where
  pub taken : List ℕ
  pub room : ℕ
  pub calls : Calls

use Rattle.std.proofs.Common.{◌≡◌, ◌≤◌, ◌-◌, ℕ, List, Option, Bool, true, length}
use Rattle.byte_streams.specs.Search.{NoEndBelow, TakesMore}
use Rattle.byte_streams.proofs.window.Window.fill_on.Given as goal

-- what has come of the search so far
pub record Searched (old : List ℕ) (left : Option (List ℕ)) (new : List ℕ) (left_then : Option (List ℕ)) (most : ℕ) (ended : Bool) (faults faults_then : ℕ) (Same : Type 0) : Type 0 where
  pub taken : TakesMore old left new left_then
  pub idle : ended ≡ true → (new ≡ old) × Same
  pub small : length new ≤ most
  pub none : NoEndBelow new (length new)
  pub no_failure : faults_then ≡ faults

abbrev pub invariant-pieces : goal.invariant-pieces
invariant-pieces g l = Searched l.initial.self (g.R.Source.left l.initial.source) l.self (g.R.Source.left l.source) l.most l.ended (g.R.Source.faults l.initial.source) (g.R.Source.faults l.source) (l.source ≡ l.initial.source)

abbrev pub decreases-pieces : goal.decreases-pieces
decreases-pieces g l = l.most - length l.self

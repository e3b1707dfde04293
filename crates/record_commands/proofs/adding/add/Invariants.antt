use Rattle.std.proofs.Common.{get_or, ◌≡◌, ℕ, ◌-◌, ◌/◌, ◌^◌, ◌<◌, ◌≤◌, length}
use Rattle.record_commands.proofs.SumOfLemmas.{total_from, HasSum}
use Rattle.record_commands.proofs.adding.add.Given as goal

abbrev pub decreases-loop-at : goal.decreases-loop-at
decreases-loop-at l = l.at

-- the sum of the bytes from this one on stands there
abbrev pub invariant-loop-at : goal.invariant-loop-at
invariant-loop-at l = record {
  bound : l.at ≤ length l.initial.sum;
  long : length l.sum ≡ length l.initial.sum;
  front : (k : ℕ) → k < l.at → get_or l.sum k 0 ≡ get_or l.initial.sum k 0;
  back : HasSum l.initial.sum l.fn.added l.sum l.at;
  carried : l.carry ≡ total_from l.initial.sum l.fn.added l.at / 256 ^ (length l.initial.sum - l.at);
  small : l.carry ≤ 1;
}

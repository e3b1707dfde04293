use Rattle.std.proofs.Common.{◌≡◌, drop, ◌&&◌, bytes_eq}
use Rattle.pin_rules.proofs.comparing.is_value.Given as goal

abbrev pub invariant-loop-index : goal.invariant-loop-index
invariant-loop-index l = bytes_eq l.presented l.value.0 ≡ (l.is_same && bytes_eq (drop l.index l.presented) (drop l.index l.value.0))

use Rattle.std.proofs.Common.{◌≡◌, length, take}
use Rattle.frame_store.specs.Model.{in_line}
use Rattle.frame_store.proofs.store.FrameStore.span_of.Given as goal

abbrev pub invariant-loop-passed : goal.invariant-loop-passed
invariant-loop-passed l = l.start ≡ length (in_line (take l._passed l.self.parts))

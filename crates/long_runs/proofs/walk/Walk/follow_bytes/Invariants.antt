use Rattle.std.proofs.Common.{◌≡◌, fold, take}
use Rattle.long_runs.specs.Walks.{step}
use Rattle.long_runs.proofs.walk.Walk.follow_bytes.Given as goal

-- the bytes so far were passed
abbrev pub invariant-loop-byte : goal.invariant-loop-byte
invariant-loop-byte l = l.self ≡ fold step l.fn.self (take l.byte-index l.part)

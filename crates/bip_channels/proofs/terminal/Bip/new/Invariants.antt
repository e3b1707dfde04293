use Rattle.std.proofs.Common.{◌≡◌, ◌≤◌, ◌-◌, replicate, vec_len, vec_capacity}
use Rattle.bip_channels.specs.Kept.{closed}
use Rattle.bip_channels.proofs.terminal.Bip.new.Given as goal

abbrev pub invariant-loop-alloc : goal.invariant-loop-alloc
invariant-loop-alloc l =
    (vec_len l.channels ≤ 7) × (7 ≤ vec_capacity l.channels) × (l.channels.items ≡ replicate (vec_len l.channels) closed)

abbrev pub decreases-loop-alloc : goal.decreases-loop-alloc
decreases-loop-alloc l = 7 - vec_len l.channels

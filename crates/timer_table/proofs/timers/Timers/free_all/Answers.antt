use Rattle.std.proofs.Common.{◌<◌, ◌≤◌, ap, length, arith}
use Rattle.std.proofs.lemmas.List.Edits.{map_over_more}
use Rattle.std.proofs.lemmas.List.{get_or_default}
use Rattle.std.proofs.lemmas.Grind.{common_steps}
use Rattle.timer_table.specs.Timers.{without}
use Rattle.timer_table.proofs.timers.Timers.free_all.Goals as goal

pub loop-held-preserved : goal.loop-held-preserved
loop-held-preserved c =
    let within : c.loop-held.held-index < length c.self.inside.owners = omega (arith, c.self.invariant) in
    let within_items : c.loop-held.held-index < length c.loop-held.held-items =
    grind (arith, common_steps, ap length c.loop-held.invariant) in
    rw c.left.ensures (map_over_more (without c.args.owner) c.self.inside.owners c.loop-held.held-items c.loop-held.held-index _ within c.loop-held.invariant (get_or_default _ _ _ _ within_items))

pub returns : goal.returns
returns c =
    let all : length c.self.inside.owners ≤ c.loop-held.held-index = omega (arith, c.self.invariant) in
    grind (arith, common_steps, c.loop-held.invariant, all)

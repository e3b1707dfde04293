use Rattle.std.proofs.Common.{◌<◌, ap, length, arith}
use Rattle.std.proofs.lemmas.List.Edits.{map_over_more}
use Rattle.std.proofs.lemmas.List.{get_or_default}
use Rattle.std.proofs.lemmas.Grind.{common_steps}
use Rattle.event_dispatch.specs.Indexes.{left_by}
use Rattle.event_dispatch.proofs.leaving.leave_all.Goals as goal

pub loop-shelves-preserved : goal.loop-shelves-preserved
loop-shelves-preserved c =
    let within : c.loop-shelves.shelves-index < length c.args.lists.now = omega (arith, c.loop-shelves-test.true) in
    let within_items : c.loop-shelves.shelves-index < length c.loop-shelves.lists =
    grind (arith, common_steps, ap length c.loop-shelves.invariant) in
    rw c.leave.ensures (map_over_more (left_by c.args.shelf.0) c.args.lists.now c.loop-shelves.lists c.loop-shelves.shelves-index _ within c.loop-shelves.invariant (get_or_default _ _ _ _ within_items))

use Rattle.std.proofs.Common.{rules, ◌+◌, ◌*◌, ◌≤◌, length}
use Rattle.frame_store.proofs.KeptLemmas.{none_kept}
use Rattle.frame_store.proofs.store.FrameStore.new.Goals as goal

pub invariant_of-result : goal.invariant_of-result
invariant_of-result c =
    let roomy : c.args.frames * 8 + c.args.bytes ≤ length c.zeros.result.items = search rules in
    (none_kept c.args.frames c.args.bytes c.zeros.result.items roomy, search rules, search rules, search rules)

use Rattle.frame_store.proofs.KeptLemmas.{closed_up}
use Rattle.frame_store.proofs.store.close_gap.Goals as goal

pub returns-clause-closed : goal.returns-clause-closed
returns-clause-closed c =
    let block = c.args.block.now in
    closed_up block.items c.slice_mut.result.now c.copy_within.new.self block.len c.args.start c.args.end c.args.used block.ok.0 c.requires.in_order.0 c.requires.in_order.1 c.requires.in_bounds
    c.slice_mut.ensures.value c.copy_within.ensures.after c.copy_within.ensures.len

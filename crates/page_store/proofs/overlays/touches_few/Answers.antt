use Rattle.page_store.proofs.DoneCountLemmas.{few_done}
use Rattle.page_store.proofs.overlays.touches_few.Goals as goal

pub returns : goal.returns
returns c = few_done c.args.writes.now 1024 c.len-count.ensures.bounds

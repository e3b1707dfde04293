use Rattle.std.proofs.Common.{rules}
use Rattle.frame_store.proofs.KeptLemmas.{none_kept}
use Rattle.frame_store.proofs.store.FrameStore.clear.Goals as goal

pub invariant_of-self : goal.invariant_of-self
invariant_of-self c = let s = c.self.inside in (none_kept s.most s.room s.block.items c.self.invariant.0.roomy, search rules, search rules, search rules)

use Rattle.std.proofs.Common.{arith, ◌∙◌}
use Rattle.page_store.proofs.IsNamingLemmas.{free_added, free_room, free_all}
use Rattle.page_store.proofs.tables.free.Goals as goal

pub add-requires : goal.add-requires
add-requires c = record { room = free_room c.args.entries.now c.args.named.now c.requires c.loop-page.page c.loop-page.free.items (omega arith) (omega arith) c.loop-page.invariant }

pub loop-page-preserved : goal.loop-page-preserved
loop-page-preserved c = c.add.ensures ∙ free_added c.args.entries.now c.args.named.now c.requires c.loop-page.page c.loop-page.free.items (omega arith) (omega arith) c.loop-page.invariant

pub returns : goal.returns
returns c = free_all c.args.entries.now c.args.named.now c.requires c.loop-page.page c.loop-page.free.items (omega (arith, c.loop-page-test.false)) c.loop-page.invariant

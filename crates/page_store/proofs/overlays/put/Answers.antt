use Rattle.std.proofs.Common.{arith}
use Rattle.page_store.proofs.BytesOfPageLemmas.{nothing_there, something_there}
use Rattle.page_store.proofs.overlays.put.Goals as goal

pub returns-then-to-from : goal.returns-then-to-from
returns-then-to-from c held long is = nothing_there held c.args.bytes.now c.args.place c.args.start (omega (arith, long, c.requires.place)) (omega (arith, long, c.requires.start)) c.args.page.now (omega (arith, c.if-to-from.true, c.max-from.ensures, c.min-to.ensures)) is

pub returns : goal.returns
returns c held long is =
    something_there held c.args.bytes.now c.args.place c.args.start (omega (arith, long, c.requires.place)) (omega (arith, long, c.requires.start)) c.args.page.now c.copy_from_slice.new.self c.max-from.result c.min-to.result
    c.max-from.ensures c.min-to.ensures c.if-to-from.false is c.copy_from_slice.ensures.after

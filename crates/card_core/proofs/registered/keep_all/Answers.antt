use Rattle.std.proofs.Common.{sym, ◌∙◌, arith}
use Rattle.card_core.proofs.KeepAllLemmas.{one_more, all_kept}
use Rattle.card_core.proofs.registered.keep_all.Goals as goal

pub loop-shelf-preserved : goal.loop-shelf-preserved
loop-shelf-preserved c =
    one_more c.args.rows.now c.args.places.now c.loop-shelf.places c.loop-shelf.shelf _ (c.requires.long ∙ sym c.requires.as_many) c.loop-shelf.invariant (omega (arith, c.loop-shelf-test.true, c.requires.as_many)) _ (c.keep.ensures ∙ c.index-rows-shelf.is)

pub returns : goal.returns
returns c = all_kept c.args.rows.now c.args.places.now c.loop-shelf.places c.loop-shelf.shelf (c.requires.long ∙ sym c.requires.as_many) c.loop-shelf.invariant (omega (arith, c.loop-shelf-test.false, c.requires.as_many))

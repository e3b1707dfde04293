use Rattle.std.proofs.lemmas.Result.{err_from_is_err_and}
use Rattle.toolkit_commands.proofs.SpellingsLemmas.{items_no_room}
use Rattle.toolkit_commands.proofs.spelling.put_items.Goals as goal

pub returns-in_err-put_item-clause-put : goal.returns-in_err-put_item-clause-put
returns-in_err-put_item-clause-put c =
    let p = err_from_is_err_and c.from_residual.result c.from_residual.ensures.1 in
    rw p.1 (items_no_room c.args.objects.now c.loop-item.objects c.args.items.now c.loop-item.item-index c.item-item.result c.loop-item-test.true c.item-item.is c.loop-item.invariant.0 c.in_err-put_item.ensures.put)

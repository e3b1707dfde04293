use Rattle.toolkit_commands.proofs.NeededLemmas.{item_found}
use Rattle.toolkit_commands.proofs.reading.needed.Goals as goal

pub returns-clause-item : goal.returns-clause-item
returns-clause-item c = item_found c.args.tag c.args.content.now _ c.ok_or.result c.in_ok-find.ensures.exact c.ok_or.ensures.value

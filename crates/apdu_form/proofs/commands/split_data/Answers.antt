use Rattle.std.proofs.Common.{arith}
use Rattle.apdu_form.proofs.DataFieldLemmas.{not_spelled}
use Rattle.apdu_form.proofs.commands.split_data.Goals as goal

pub returns-else-rest-lc-2-clause-only : goal.returns-else-rest-lc-2-clause-only
returns-else-rest-lc-2-clause-only c = λ body ne fields.
    not_spelled c.args.lc c.args.rest.now body ne fields.spelling c.requires.more (omega arith) (omega arith)

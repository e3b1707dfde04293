use Rattle.binary_commands.proofs.OptionLemmas.{same_ok}
use Rattle.binary_commands.proofs.binaries.update_binary.Goals as goal

pub returns-clause-refused : goal.returns-clause-refused
returns-clause-refused g c = λ status is.
    let refused = c.try_update.ensures.refused status is in
    (cc, c.settle.ensures.refused status (same_ok c.try_update.result _ _ c.in_ok-tried.was refused.0), refused.1)

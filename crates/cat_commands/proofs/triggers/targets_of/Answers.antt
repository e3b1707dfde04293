use Rattle.std.proofs.Common.{sym, subst, All}
use Rattle.card_state.specs.States.{rows_of}
use Rattle.card_commits.specs.Entries.{HasRowOn}
use Rattle.cat_commands.proofs.TriggersLemmas.{Apart, targets_have, targets_apart}
use Rattle.cat_commands.proofs.triggers.targets_of.Goals as goal

pub returns-clause-rows : goal.returns-clause-rows
returns-clause-rows c =
    subst (All (HasRowOn c.args.loaded.now)) (sym c.copy.ensures)
    (targets_have c.states_are_of_entries.ensures.from.rows c.states_are_of_entries.ensures.tables c.args.loaded.now c.args.code c.targets.result.now (c.targets.ensures.order (rows_of c.args.loaded.now) c.requires.listed c.requires.indexed))

pub returns-clause-apart : goal.returns-clause-apart
returns-clause-apart c =
    subst Apart (sym c.copy.ensures) (targets_apart (rows_of c.args.loaded.now) c.args.code c.targets.result.now (c.targets.ensures.order (rows_of c.args.loaded.now) c.requires.listed c.requires.indexed))

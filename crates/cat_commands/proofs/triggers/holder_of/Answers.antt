use Rattle.std.proofs.Common.{sym, ◌∙◌}
use Rattle.card_commits.specs.Entries.{HasRowOn}
use Rattle.cat_commands.proofs.TriggersLemmas.{one_has, holder_has}
use Rattle.cat_commands.proofs.triggers.holder_of.Goals as goal

pub returns-in-Some-clause-rows : goal.returns-in-Some-clause-rows
returns-in-Some-clause-rows c =
    one_has (HasRowOn c.args.loaded.now) c.one.result c.in-Some.shelf.0 c.one.ensures
    (holder_has c.states_are_of_entries.ensures.from.rows c.states_are_of_entries.ensures.tables c.args.loaded.now c.args.session.now.timers c.args.timer c.in-Some.shelf c.requires.underway.timers (sym c.owner.ensures ∙ c.in-Some.is))

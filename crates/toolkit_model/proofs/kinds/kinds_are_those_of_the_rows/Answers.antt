use Rattle.toolkit_model.proofs.DrivingLemmas.{HasLaws}
use Rattle.toolkit_model.proofs.KindsLemmas.{kinds_stay, wakes_keep_kinds}
use Rattle.toolkit_model.proofs.kinds.kinds_are_those_of_the_rows.Goals as goal

pub returns-clause-commands : goal.returns-clause-commands
returns-clause-commands c =
    let laws : HasLaws = record { any = c.lengths_of_commands.ensures.any_number; short = c.lengths_of_commands.ensures.short; proper = c.commands_are_proper.ensures } in
    kinds_stay laws (λ mind stimulus. (c.turns_are_lawful.ensures mind stimulus).same_kind)

pub returns-clause-wakes : goal.returns-clause-wakes
returns-clause-wakes c = wakes_keep_kinds

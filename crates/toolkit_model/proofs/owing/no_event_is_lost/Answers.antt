use Rattle.toolkit_model.proofs.DrivingLemmas.{HasLaws}
use Rattle.toolkit_model.proofs.LosesNothingLemmas.{nothing_lost}
use Rattle.toolkit_model.proofs.owing.no_event_is_lost.Goals as goal

pub returns : goal.returns
returns c =
    let laws : HasLaws = record { any = c.lengths_of_commands.ensures.any_number; short = c.lengths_of_commands.ensures.short; proper = c.commands_are_proper.ensures } in
    nothing_lost laws

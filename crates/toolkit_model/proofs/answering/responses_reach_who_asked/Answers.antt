use Rattle.toolkit_model.proofs.DrivingLemmas.{HasLaws}
use Rattle.toolkit_model.proofs.ReachesWhoAskedLemmas.{responses_reach}
use Rattle.toolkit_model.proofs.answering.responses_reach_who_asked.Goals as goal

pub returns : goal.returns
returns c =
    let laws : HasLaws = record { any = c.lengths_of_commands.ensures.any_number; short = c.lengths_of_commands.ensures.short; proper = c.commands_are_proper.ensures } in
    responses_reach laws

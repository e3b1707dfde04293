use Rattle.toolkit_model.proofs.DrivingLemmas.{HasLaws}
use Rattle.toolkit_model.proofs.IsInOrderLemmas.{stay_in_order}
use Rattle.toolkit_model.proofs.sessions.sessions_stay_in_order.Goals as goal

pub returns : goal.returns
returns c =
    let laws : HasLaws = record { any = c.lengths_of_commands.ensures.any_number; short = c.lengths_of_commands.ensures.short; proper = c.commands_are_proper.ensures } in
    stay_in_order laws

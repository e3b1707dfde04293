use Rattle.toolkit_model.proofs.DrivingLemmas.{HasLaws}
use Rattle.toolkit_model.proofs.SoundLemmas.{steps_stay_good}
use Rattle.toolkit_model.proofs.soundness.steps_leave_good.Goals as goal

pub returns : goal.returns
returns c =
    let laws : HasLaws = record { any = c.lengths_of_commands.ensures.any_number; short = c.lengths_of_commands.ensures.short; proper = c.commands_are_proper.ensures } in
    steps_stay_good laws (λ mind stimulus. (c.turns_are_lawful.ensures mind stimulus).same_kind)

use Rattle.toolkit_model.specs.Commands.{unanswered}
use Rattle.toolkit_model.specs.Steps.{moved_by}
use Rattle.toolkit_model.proofs.DrivingLemmas.{HasLaws}
use Rattle.toolkit_model.proofs.FetchingLemmas.{fetched_one_at_a_time, one_is_answered}
use Rattle.toolkit_model.proofs.fetching.one_command_is_outstanding.Goals as goal

pub returns : goal.returns
returns c =
    let laws : HasLaws = record { any = c.lengths_of_commands.ensures.any_number; short = c.lengths_of_commands.ensures.short; proper = c.commands_are_proper.ensures } in
    record {
      one = fetched_one_at_a_time laws;
      between = λ commands state is accepted. one_is_answered (unanswered state.session) (moved_by commands state).log (fetched_one_at_a_time laws commands state is accepted);
    }

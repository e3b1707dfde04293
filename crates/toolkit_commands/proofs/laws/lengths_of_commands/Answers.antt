use Rattle.toolkit_commands.proofs.LengthsOfCommandsLemmas.{same_length, short_enough, proper_is_writable}
use Rattle.toolkit_commands.proofs.laws.lengths_of_commands.Goals as goal

pub returns : goal.returns
returns c = record { any_number = same_length; short = short_enough; writable = proper_is_writable }

use Rattle.std.proofs.Common.{arith}
use Rattle.toolkit_commands.proofs.SpelledLemmas.{is_command, spelled_is_read}
use Rattle.toolkit_commands.proofs.laws.spelled_is_read.Goals as goal

pub returns : goal.returns
returns c =
    record {
      has_its_objects = λ command number short. is_command command number (omega (arith, short));
      read_back = λ command number proper bounded short. spelled_is_read command number proper bounded (omega (arith, short));
    }

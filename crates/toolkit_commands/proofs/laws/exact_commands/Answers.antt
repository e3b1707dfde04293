use Rattle.comprehension_tlv.proofs.ReadingLemmas.{IsBytes-from_All}
use Rattle.toolkit_commands.proofs.SpelledLemmas.{command_is_read}
use Rattle.toolkit_commands.proofs.IsCommandLemmas.{read_is_command}
use Rattle.toolkit_commands.proofs.FourFaultsLemmas.{read_is_fit}
use Rattle.toolkit_commands.proofs.laws.exact_commands.Goals as goal

pub returns : goal.returns
returns c =
    record {
      all = command_is_read;
      no_others = λ bytes details command fits e. read_is_command bytes details command (IsBytes-from_All bytes fits) e;
      fit = read_is_fit;
    }

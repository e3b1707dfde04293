use Rattle.comprehension_tlv.proofs.ReadingLemmas.{IsBytes-from_All}
use Rattle.toolkit_commands.proofs.FourFaultsLemmas.{tlv_exactly, missing_exactly, unknown_exactly, bad_exactly}
use Rattle.toolkit_commands.proofs.laws.four_faults.Goals as goal

pub returns : goal.returns
returns c =
    record {
      tlv = λ bytes fits. tlv_exactly bytes (IsBytes-from_All bytes fits);
      missing = λ bytes fits. missing_exactly bytes (IsBytes-from_All bytes fits);
      unknown_type = λ bytes kind fits. unknown_exactly bytes (IsBytes-from_All bytes fits) kind;
      bad_data = λ bytes fits. bad_exactly bytes (IsBytes-from_All bytes fits);
    }

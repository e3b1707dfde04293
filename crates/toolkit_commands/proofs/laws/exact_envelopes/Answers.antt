use Rattle.comprehension_tlv.proofs.ReadingLemmas.{IsBytes-from_All}
use Rattle.toolkit_commands.proofs.IsEnvelopeLemmas.{envelope_is_read, read_is_envelope}
use Rattle.toolkit_commands.proofs.laws.exact_envelopes.Goals as goal

pub returns : goal.returns
returns c =
    record {
      all = envelope_is_read;
      no_others = λ bytes envelope fits e. read_is_envelope bytes envelope (IsBytes-from_All bytes fits) e;
    }

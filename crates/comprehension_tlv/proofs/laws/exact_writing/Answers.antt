use Rattle.comprehension_tlv.proofs.ReadingLemmas.{spellings_are, spelled_is}
use Rattle.comprehension_tlv.proofs.laws.exact_writing.Goals as goal

pub returns : goal.returns
returns c = record { objects = spellings_are; template = spelled_is }

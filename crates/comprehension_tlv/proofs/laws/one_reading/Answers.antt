use Rattle.comprehension_tlv.proofs.ReadingLemmas.{one_list, one_template}
use Rattle.comprehension_tlv.proofs.laws.one_reading.Goals as goal

pub returns : goal.returns
returns c = record { objects = one_list; template = one_template }

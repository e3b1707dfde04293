use Rattle.comprehension_tlv.proofs.ReadingLemmas.{IsBytes-from_All, objects_again, objects_found, template_again, template_found, no_object}
use Rattle.comprehension_tlv.proofs.laws.exact_reading.Goals as goal

pub returns : goal.returns
returns c =
    record {
      objects = objects_again;
      no_others = λ bytes objects fits e. objects_found bytes objects (IsBytes-from_All bytes fits) e;
      template = λ bytes content tag h. template_again bytes tag content h;
      no_other = λ bytes content tag e. template_found bytes tag content e;
      fault = no_object;
    }

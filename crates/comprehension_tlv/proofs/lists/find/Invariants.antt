use Rattle.std.proofs.Common.{◌≡◌, length, option_copied}
use Rattle.comprehension_tlv.specs.Reading.{outline, first_value}
use Rattle.comprehension_tlv.proofs.ValueOfLemmas.{first_or}
use Rattle.comprehension_tlv.proofs.lists.find.Given as goal

-- what was found, or else what is found in the rest, is what is found in the whole list; and the walk ends as it must
abbrev pub invariant-loop-part : goal.invariant-loop-part
invariant-loop-part l =
    (first_or (option_copied l.found) (first_value l.tag l.parts.objects) ≡ first_value l.tag (outline l.bytes).objects) × (l.parts.fault ≡ (outline l.bytes).fault)

abbrev pub decreases-loop-part : goal.decreases-loop-part
decreases-loop-part l = length l.parts.objects

use Rattle.std.proofs.Common.{◌≡◌, length}
use Rattle.comprehension_tlv.specs.Reading.{outline}
use Rattle.toolkit_commands.specs.Replies.{values_of, values_from, nothing}
use Rattle.toolkit_commands.proofs.responses.found_in.Given as goal

-- what comes of the rest is what comes of the whole list; and the walk ends as it must
abbrev pub invariant-loop-part : goal.invariant-loop-part
invariant-loop-part l =
    (values_from (values_of l.found) l.parts.objects ≡ values_from nothing (outline l.bytes).objects) × (l.parts.fault ≡ (outline l.bytes).fault)

abbrev pub decreases-loop-part : goal.decreases-loop-part
decreases-loop-part l = length l.parts.objects

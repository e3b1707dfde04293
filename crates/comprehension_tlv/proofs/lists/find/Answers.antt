use Rattle.std.proofs.Common.{arith, option_copied}
use Rattle.comprehension_tlv.proofs.ValueOfLemmas.{value_at_end, value_fits, no_fault, value_of_list}
use Rattle.comprehension_tlv.proofs.lists.find.Goals as goal

pub returns-in_err-part-clause-only : goal.returns-in_err-part-clause-only
returns-in_err-part-clause-only c = λ objects h.
    absurd (no_fault c.args.bytes.now c.loop-part.parts _ objects h c.loop-part.invariant.1 c.in_err-part.ensures.0)

pub returns-clause-only : goal.returns-clause-only
returns-clause-only c = λ objects h.
    let end = rw c.in_default.is at c.in_ok-part.ensures in
    value_of_list c.args.tag c.args.bytes.now (option_copied c.loop-part.found) objects h
    (value_at_end c.args.tag c.args.bytes.now (option_copied c.loop-part.found) c.loop-part.parts c.loop-part.invariant.0 c.loop-part.invariant.1 end.0)

pub returns-clause-fits : goal.returns-clause-fits
returns-clause-fits c =
    let end = rw c.in_default.is at c.in_ok-part.ensures in
    value_fits c.args.tag c.args.bytes.now (option_copied c.loop-part.found) (λ i. omega (arith, c.type_inv.bytes i))
    (value_at_end c.args.tag c.args.bytes.now (option_copied c.loop-part.found) c.loop-part.parts c.loop-part.invariant.0 c.loop-part.invariant.1 end.0)

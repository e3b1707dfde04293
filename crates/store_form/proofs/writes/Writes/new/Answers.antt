use Rattle.store_form.proofs.SpanLemmas.{AreWhole_none, pieces_of-none}
use Rattle.store_form.proofs.writes.Writes.new.Goals as goal

pub invariant_of-result : goal.invariant_of-result
invariant_of-result c = rw (c.new.ensures, c.new-2.ensures) AreWhole_none

pub returns : goal.returns
returns c = rw (c.new.ensures, c.new-2.ensures) pieces_of-none

use Rattle.layout_section.specs.Entries.{HasNoChild}
use Rattle.layout_section.proofs.entries.first_child.Given as goal

abbrev pub invariant-loop-number : goal.invariant-loop-number
invariant-loop-number l = HasNoChild l.df l.id l.nodes l.number

use Rattle.layout_section.proofs.KeepsFirstLemmas.{kept_then}
use Rattle.layout_section.proofs.formatting.write_upper.Goals as goal

pub returns-clause-first : goal.returns-clause-first
returns-clause-first g c = kept_then _ (g.S.Store.stable c.write_part.new.store) _ c.write_part.ensures.first c.write_part-2.ensures.first

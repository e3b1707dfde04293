use Rattle.layout_section.proofs.KeepsFirstLemmas.{kept_then}
use Rattle.layout_section.proofs.formatting.write_tables.Goals as goal

pub returns-in_err-write_part-2-clause-first : goal.returns-in_err-write_part-2-clause-first
returns-in_err-write_part-2-clause-first g c = kept_then _ (g.S.Store.stable c.write_part.new.store) _ c.write_part.ensures.first c.write_part-2.ensures.first

pub returns-clause-first : goal.returns-clause-first
returns-clause-first g c =
    kept_then _ (g.S.Store.stable c.write_part.new.store) _ c.write_part.ensures.first
    (kept_then _ (g.S.Store.stable c.write_part-2.new.store) _ c.write_part-2.ensures.first c.write_part-3.ensures.first)

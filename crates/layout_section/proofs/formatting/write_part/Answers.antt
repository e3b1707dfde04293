use Rattle.layout_section.proofs.KeepsFirstLemmas.{kept_part}
use Rattle.layout_section.proofs.formatting.write_part.Goals as goal

pub returns-clause-first : goal.returns-clause-first
returns-clause-first g c =
    kept_part c.prepare.result (g.S.Store.stable c.args.store.now) (g.S.Store.stable c.prepare.new.self) (g.S.Store.byte_count c.args.store.now) c.args.at c.args.part.now (g.met.S.Store.told_length c.args.store.now)
    c.requires.size c.requires.behind c.requires.inside c.prepare.ensures.writes.ok c.prepare.ensures.writes.torn

use Rattle.std.proofs.Common.{List, [], ◌∷◌, ◌++◌, ◌∙◌, ap}
use Rattle.store_form.specs.Pieces.{Piece}
use Rattle.layout_entries.specs.Spelling.{node_part}
use Rattle.card_commits.proofs.CommitsOverLemmas.{part_usable}
use Rattle.card_commits.proofs.entry_commits.commit_part.Goals as goal

pub commit-requires-clause-usable : goal.commit-requires-clause-usable
commit-requires-clause-usable g c = part_usable _ c.args.number c.args.from c.args.to c.args.node.now _ c.requires.ready.size c.requires.entry c.requires.some c.requires.inside
    (c.in-Ok.ensures.ok ∙ ap (λ (pieces : List Piece). pieces ++ node_part c.args.number c.args.node.now c.args.from c.args.to ∷ []) c.new-writes.ensures)

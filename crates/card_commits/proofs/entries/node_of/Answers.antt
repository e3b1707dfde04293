use Rattle.std.proofs.lemmas.Option.{slice_get_within}
use Rattle.card_commits.proofs.EntriesLemmas.{entry_of}
use Rattle.card_commits.proofs.entries.node_of.Goals as goal

pub bounds-all_nodes-from : goal.bounds-all_nodes-from
bounds-all_nodes-from c =
    rw (c.from.ensures, c.all_nodes.ensures.value) (slice_get_within c.args.loaded.now.nodes c.args.number _ (entry_of c.files_are_found.ensures.number c.args.loaded.now c.args.number c.requires).there)

pub returns-clause-there : goal.returns-clause-there
returns-clause-there c = rw (c.from.ensures, c.all_nodes.ensures.value) (entry_of c.files_are_found.ensures.number c.args.loaded.now c.args.number c.requires)

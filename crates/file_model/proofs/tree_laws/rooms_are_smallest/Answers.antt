use Rattle.file_model.proofs.RoomsLemmas.{rooms_are_smallest, rooms_are_one}
use Rattle.file_model.proofs.tree_laws.rooms_are_smallest.Goals as goal

pub returns-clause-smallest : goal.returns-clause-smallest
returns-clause-smallest c = rooms_are_smallest

pub returns-clause-one : goal.returns-clause-one
returns-clause-one c = rooms_are_one

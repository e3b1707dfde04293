use Rattle.card_commits.proofs.TablesTellStatesLemmas.{bytes_fill, records_fill}
use Rattle.card_commits.proofs.laws.contents_are_whole.Goals as goal

pub returns-clause-bytes : goal.returns-clause-bytes
returns-clause-bytes c = bytes_fill c.stores_stand.ensures.known c.cards_are_known.ensures.table c.files_are_found.ensures.number c.cards_are_known.ensures.files

pub returns-clause-records : goal.returns-clause-records
returns-clause-records c = records_fill c.stores_stand.ensures.known c.cards_are_known.ensures.table c.files_are_found.ensures.number c.cards_are_known.ensures.files

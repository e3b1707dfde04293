use Rattle.card_commits.proofs.TablesTellStatesLemmas.{tables_tell}
use Rattle.card_commits.proofs.laws.tables_tell_states.Goals as goal

pub returns : goal.returns
returns c = tables_tell c.stores_stand.ensures.known c.cards_are_known.ensures.table c.cards_are_known.ensures.card c.files_are_found.ensures.told

use Rattle.proactive_handler.proofs.SessionsAreServedLemmas.{sessions_served}
use Rattle.proactive_handler.proofs.laws.sessions_are_served.Goals as goal

pub returns : goal.returns
returns c = sessions_served c.states_are_of_entries.ensures.from.rows c.states_are_of_entries.ensures.tables

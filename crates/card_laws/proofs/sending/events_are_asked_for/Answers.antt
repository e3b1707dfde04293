use Rattle.card_laws.proofs.AreEventsWantedLemmas.{event_lists_are_asked, nothing_is_asked_before}
use Rattle.card_laws.proofs.sending.events_are_asked_for.Goals as goal

pub returns-clause-lists : goal.returns-clause-lists
returns-clause-lists c = event_lists_are_asked

pub returns-clause-nothing_before : goal.returns-clause-nothing_before
returns-clause-nothing_before c = nothing_is_asked_before

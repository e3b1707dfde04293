-- Eight bytes 0 are the consulted bytes of no bytes.
use Rattle.std.proofs.Common.{refl}
use Rattle.terminal_profile.specs.Profiles.{consulted}
use Rattle.terminal_profile.proofs.ConsultedLemmas.{nothing_allowed, no_event_allowed}
use Rattle.terminal_profile.proofs.profile.Profile.none.Goals as goal

pub returns-clause-value : goal.returns-clause-value
unfolding consulted
returns-clause-value c = refl

pub returns-clause-commands : goal.returns-clause-commands
unfolding consulted
returns-clause-commands c = nothing_allowed

pub returns-clause-events : goal.returns-clause-events
unfolding consulted
returns-clause-events c = no_event_allowed

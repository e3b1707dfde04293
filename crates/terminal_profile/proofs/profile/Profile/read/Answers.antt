-- The first bytes are the consulted ones, and these tell all that is allowed.
use Rattle.std.proofs.Common.{rules}
use Rattle.terminal_profile.proofs.ConsultedLemmas.{is_consulted, allowed-consulted, allowed_event-consulted}
use Rattle.terminal_profile.proofs.profile.Profile.read.Goals as goal

pub returns-clause-value : goal.returns-clause-value
returns-clause-value c = is_consulted _ _ (search rules) c.first_bytes.ensures

pub returns-clause-commands : goal.returns-clause-commands
returns-clause-commands c command =
    rw (returns-clause-value c) (allowed-consulted c.args.bytes.now command)

pub returns-clause-events : goal.returns-clause-events
returns-clause-events c code =
    rw (returns-clause-value c) (allowed_event-consulted c.args.bytes.now code)

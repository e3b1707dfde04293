use Rattle.event_dispatch.proofs.ChangesAreFollowedLemmas.{registrations_followed}
use Rattle.event_dispatch.proofs.following.registrations_are_followed.Goals as goal

pub returns : goal.returns
returns c = registrations_followed

use Rattle.event_dispatch.proofs.ChangesAreFollowedLemmas.{changes_followed}
use Rattle.event_dispatch.proofs.following.changes_are_followed.Goals as goal

pub returns : goal.returns
returns c = changes_followed

use Rattle.event_dispatch.proofs.InstallationsAreFollowedLemmas.{installations_followed}
use Rattle.event_dispatch.proofs.following.installations_are_followed.Goals as goal

pub returns : goal.returns
returns c = installations_followed

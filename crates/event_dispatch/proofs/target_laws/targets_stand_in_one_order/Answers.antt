use Rattle.event_dispatch.proofs.StandInOneOrderLemmas.{one_order}
use Rattle.event_dispatch.proofs.target_laws.targets_stand_in_one_order.Goals as goal

pub returns : goal.returns
returns c = one_order

use Rattle.toolkit_model.proofs.TriggerOrderLemmas.{order_is_exact}
use Rattle.toolkit_model.proofs.order.triggers_are_in_order.Goals as goal

pub returns : goal.returns
returns c = order_is_exact

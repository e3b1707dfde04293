use Rattle.card_model.proofs.laws.plans_are_set_in_order.Goals as goal
use Rattle.card_model.proofs.IsCountedLemmas.{set_in_order, wait_in_order}

pub returns : goal.returns
returns c = λ waiting steps more. (set_in_order waiting steps more, wait_in_order waiting steps more)

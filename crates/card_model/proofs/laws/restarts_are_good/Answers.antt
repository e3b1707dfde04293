use Rattle.card_model.proofs.laws.restarts_are_good.Goals as goal
use Rattle.card_model.proofs.WokenLemmas.{woken_is_good}

pub returns : goal.returns
returns c = λ card good. woken_is_good card.persistent card.boxes good.sound good.shelves good.boxes good.kinds

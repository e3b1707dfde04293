use Rattle.card_state.proofs.HoldingLemmas.{keys_are_own}
use Rattle.card_state.proofs.soundness.standing_keys_are_own.Goals as goal

pub returns : goal.returns
returns c = keys_are_own

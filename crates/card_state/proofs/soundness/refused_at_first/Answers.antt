use Rattle.card_state.proofs.RefusedAtFirstLemmas.{refused_at_first}
use Rattle.card_state.proofs.soundness.refused_at_first.Goals as goal

pub returns : goal.returns
returns c = refused_at_first

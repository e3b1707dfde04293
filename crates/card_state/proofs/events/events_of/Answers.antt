use Rattle.std.proofs.Common.{◌∙◌, ap}
use Rattle.card_state.specs.Kinds.{codes_of}
use Rattle.card_state.proofs.BitsForLemmas.{codes_back}
use Rattle.card_state.proofs.events.events_of.Goals as goal

pub returns-clause-value : goal.returns-clause-value
returns-clause-value c = ap codes_of c.bits_in.ensures.value ∙ codes_back c.args.codes.now

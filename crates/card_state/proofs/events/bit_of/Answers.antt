use Rattle.std.proofs.Common.{◌∙◌}
use Rattle.card_state.proofs.BitsForLemmas.{event_table}
use Rattle.card_state.proofs.CodesOfLemmas.{same_place}
use Rattle.card_state.proofs.events.bit_of.Goals as goal

pub returns : goal.returns
returns c = c.place_among.ensures ∙ same_place c.args.code 0 event_table

use Rattle.std.proofs.Common.{sym, ◌∙◌}
use Rattle.card_state.proofs.CodesOfLemmas.{bit_there, no_bit, told, not_told, shifted}
use Rattle.card_state.proofs.events.has_event.Goals as goal

pub returns-in-Some : goal.returns-in-Some
returns-in-Some c =
    shifted c.args.events c.in-Some.bit ∙ sym (told c.args.events (c.args.code, c.in-Some.bit) (bit_there c.args.code c.in-Some.bit (sym c.in-Some.ensures)))

pub returns-in-None : goal.returns-in-None
returns-in-None c = sym (not_told c.args.code c.args.events (no_bit c.args.code (sym c.in-None.ensures)))

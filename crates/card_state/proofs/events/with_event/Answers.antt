use Rattle.std.proofs.Common.{sym}
use Rattle.card_state.proofs.CodesOfLemmas.{bit_there, no_bit, adds_code, nothing_added, set_here, still_low}
use Rattle.card_state.proofs.events.with_event.Goals as goal

pub returns-in-Some-clause-value : goal.returns-in-Some-clause-value
returns-in-Some-clause-value c =
    let there = bit_there c.args.code c.in-Some.bit (sym c.in-Some.ensures) in
    adds_code c.args.code c.in-Some.bit c.args.events _ there (set_here c.args.code c.in-Some.bit c.args.events there)

pub returns-in-Some-clause-low : goal.returns-in-Some-clause-low
returns-in-Some-clause-low c = still_low c.args.code c.in-Some.bit c.args.events (bit_there c.args.code c.in-Some.bit (sym c.in-Some.ensures))

pub returns-in-None-clause-value : goal.returns-in-None-clause-value
returns-in-None-clause-value c = nothing_added c.args.code c.args.events (no_bit c.args.code (sym c.in-None.ensures))

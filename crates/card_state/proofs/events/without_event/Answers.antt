use Rattle.std.proofs.Common.{sym}
use Rattle.card_state.proofs.CodesOfLemmas.{bit_there, no_bit, removes_code, nothing_removed, clear_here}
use Rattle.card_state.proofs.events.without_event.Goals as goal

pub returns-in-Some-clause-value : goal.returns-in-Some-clause-value
returns-in-Some-clause-value c =
    let there = bit_there c.args.code c.in-Some.bit (sym c.in-Some.ensures) in
    removes_code c.args.code c.in-Some.bit c.args.events _ there (clear_here c.args.code c.in-Some.bit c.args.events there)

pub returns-in-None-clause-value : goal.returns-in-None-clause-value
returns-in-None-clause-value c = nothing_removed c.args.code c.args.events (no_bit c.args.code (sym c.in-None.ensures))

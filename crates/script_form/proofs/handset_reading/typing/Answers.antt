-- The text is all that is left of the line.
use Rattle.script_form.proofs.IsCommandLineLemmas.{no_typing, typing_read, untyped}
use Rattle.script_form.proofs.handset_reading.typing.Goals as goal

pub returns-in_err-rest : goal.returns-in_err-rest
returns-in_err-rest c = rw c.from_residual.ensures (no_typing c.args.words.now c.in_err-rest.ensures)

pub returns-in_err-text : goal.returns-in_err-text
returns-in_err-text c =
    rw c.from_residual-in_err-text.ensures (untyped c.in_ok-rest.rest.now c.args.words.now c.in_ok-rest.ensures c.in_err-text.ensures)

pub returns : goal.returns
returns c = typing_read c.in_ok-rest.rest.now c.in_ok-text.text c.args.words.now c.in_ok-rest.ensures c.in_ok-text.ensures

use Rattle.std.proofs.Common.{sym, ap, ◌∙◌, arith}
use Rattle.toolkit_commands.specs.Replies.{values_of}
use Rattle.toolkit_commands.proofs.RepliesLemmas.{answered, reply_is, reply_fits, no_reply}
use Rattle.toolkit_commands.proofs.responses.read_response_in_place.Goals as goal

pub returns-in_err-found-clause-exact : goal.returns-in_err-found-clause-exact
returns-in_err-found-clause-exact c =
    no_reply c.from_residual.result c.from_residual.ensures.0 ∙ ap (answered c.args.details.now) c.in_err-found.ensures ∙ reply_is c.args.details.now c.args.bytes.now

pub returns-clause-exact : goal.returns-clause-exact
returns-clause-exact c =
    c.reply_from.ensures ∙ ap (answered c.args.details.now) c.in_ok-found.ensures ∙ reply_is c.args.details.now c.args.bytes.now

pub returns-clause-fits : goal.returns-clause-fits
returns-clause-fits c =
    reply_fits c.args.details.now c.args.bytes.now (values_of c.in_ok-found.found) c.reply_from.result (λ i. omega (arith, c.type_inv.bytes i)) (sym c.in_ok-found.ensures) c.reply_from.ensures

-- The sink may break off in the TPDU's line, before the link is given it, or in the reply's, after: what was taken is joined of both lines.
use Rattle.std.proofs.Common.{◌∙◌, rules}
use Rattle.t0_link.specs.Linking.{link_answer}
use Rattle.run_steps.proofs.BreaksTpduLemmas.{breaks_reply, breaks_tpdu, takes}
use Rattle.run_steps.proofs.TakesFrontLemmas.{tells_front, tells_whole}
use Rattle.run_steps.proofs.tpdus.take_tpdu.Goals as goal

pub returns-in-Ok-write_reply-clause-gives : goal.returns-in-Ok-write_reply-clause-gives
returns-in-Ok-write_reply-clause-gives g c = λ old is.
    takes c.args.tpdu.now old (link_answer c.args.link.now.kept c.args.tpdu.now) c.args.link.now.kept c.deliver-outcome.new.link.kept c.args.end.now c.deliver-outcome.new.end _ _ _ _
    (c.deliver-outcome.ensures.delivers old is) c.in-Ok.ensures.ok c.in-Ok-write_reply.ensures.ok

pub returns-in-Err-write_reply-clause-gives : goal.returns-in-Err-write_reply-clause-gives
returns-in-Err-write_reply-clause-gives g c = λ old is.
    breaks_reply c.args.tpdu.now old (link_answer c.args.link.now.kept c.args.tpdu.now) c.args.link.now.kept c.deliver-outcome.new.link.kept c.args.end.now c.deliver-outcome.new.end _ _ _ _
    (c.deliver-outcome.ensures.delivers old is) c.in-Ok.ensures.ok c.in-Err-write_reply.ensures.err

pub returns-in-Err-clause-gives : goal.returns-in-Err-clause-gives
returns-in-Err-clause-gives g c = λ old is.
    breaks_tpdu c.args.tpdu.now old (link_answer c.args.link.now.kept c.args.tpdu.now) c.args.link.now.kept c.args.end.now _ _ is c.in-Err.ensures.err

pub returns-in-Ok-write_reply-clause-tallies : goal.returns-in-Ok-write_reply-clause-tallies
returns-in-Ok-write_reply-clause-tallies g c = search (rules, c.write_reply.ensures.tells ∙ tells_whole _ _ _ c.in-Ok.ensures.ok)

pub returns-in-Err-write_reply-clause-tallies : goal.returns-in-Err-write_reply-clause-tallies
returns-in-Err-write_reply-clause-tallies g c = search (rules, c.write_reply.ensures.tells ∙ tells_whole _ _ _ c.in-Ok.ensures.ok)

pub returns-in-Err-clause-tallies : goal.returns-in-Err-clause-tallies
returns-in-Err-clause-tallies g c = search (rules, tells_front _ _ _ c.in-Err.ensures.err)

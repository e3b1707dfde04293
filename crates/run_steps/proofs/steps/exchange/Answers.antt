-- A plan is set before the command and taken back after: the machine is the same with it, and the sink may break off in either line.
use Rattle.std.proofs.Common.{rules}
use Rattle.run_steps.proofs.SteppingLemmas.{breaks_command, breaks_reply, faults_behind, replies_at, with_plan}
use Rattle.run_steps.proofs.TakesFrontLemmas.{tells_front, tells_whole}
use Rattle.run_steps.proofs.steps.exchange.Goals as goal

pub returns-in-Ok-write_reply-clause-gives : goal.returns-in-Ok-write_reply-clause-gives
returns-in-Ok-write_reply-clause-gives g c = λ old is. search (rules, replies_at, with_plan, c.runs_are_counted.ensures.plans)

pub returns-in-Err-write_reply-clause-gives : goal.returns-in-Err-write_reply-clause-gives
returns-in-Err-write_reply-clause-gives g c = λ old is. search (rules, breaks_reply, with_plan, c.runs_are_counted.ensures.plans)

pub returns-in-Err-clause-gives : goal.returns-in-Err-clause-gives
returns-in-Err-clause-gives g c = λ old is. breaks_command c.args.apdu.now old c.args.end.now _ _ is c.in-Err.ensures.err

pub returns-in-Ok-write_reply-clause-tallies : goal.returns-in-Ok-write_reply-clause-tallies
returns-in-Ok-write_reply-clause-tallies g c = search (rules, faults_behind, with_plan, tells_whole)

pub returns-in-Err-write_reply-clause-tallies : goal.returns-in-Err-write_reply-clause-tallies
returns-in-Err-write_reply-clause-tallies g c = search (rules, faults_behind, with_plan, tells_whole)

pub returns-in-Err-clause-tallies : goal.returns-in-Err-clause-tallies
returns-in-Err-clause-tallies g c = record { kept = search rules; sink = search rules; tells = tells_front _ _ _ c.in-Err.ensures.err }

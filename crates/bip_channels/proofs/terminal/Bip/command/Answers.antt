use Rattle.bip_channels.proofs.KeptCarriedLemmas.{answer_is, after_answer, refusal_is, after_refusal}
use Rattle.bip_channels.proofs.terminal.Bip.command.Goals as goal

pub returns-in-Ok-clause-answer : goal.returns-in-Ok-clause-answer
returns-in-Ok-clause-answer c = λ channels is_kept.
    answer_is channels c.args.self.now is_kept c.args.bytes.now c.answer.result c.in-Ok.details c.in-Ok.command c.in-Ok.ensures.exact c.answer.ensures.response

pub returns-in-Ok-clause-after : goal.returns-in-Ok-clause-after
returns-in-Ok-clause-after c = λ channels is_kept.
    after_answer channels c.args.self.now is_kept c.args.bytes.now c.in-Ok.details c.in-Ok.command c.answer.new.self c.in-Ok.ensures.exact c.answer.ensures.after

pub returns-in-Err-clause-answer : goal.returns-in-Err-clause-answer
returns-in-Err-clause-answer c = λ channels is_kept.
    refusal_is channels c.args.self.now is_kept c.args.bytes.now c.refusal.result c.in-Err.fault c.in-Err.ensures.exact c.refusal.ensures

pub returns-in-Err-clause-after : goal.returns-in-Err-clause-after
returns-in-Err-clause-after c = λ channels is_kept.
    after_refusal channels c.args.self.now is_kept c.args.bytes.now c.in-Err.fault c.in-Err.ensures.exact

use Rattle.std.proofs.Common.{◌∷◌, ◌∙◌}
use Rattle.std.proofs.lemmas.Result.{on_ok_weaker}
use Rattle.handset_model.specs.History.{Said}
use Rattle.phone_runs.proofs.CarriedLemmas.{all_carried, said_none}
use Rattle.phone_runs.proofs.IsServedMoreLemmas.{said_clock, said_served}
use Rattle.phone_runs.proofs.RunsLemmas.{hears_line}
use Rattle.phone_runs.proofs.ServeLemmas.{rest_of}
use Rattle.phone_runs.specs.Logs.{Happens}
use Rattle.phone_runs.proofs.playing.hear_line.Goals as goal

pub settle-requires : goal.settle-requires
settle-requires g c = record {
  served = said_served c.hear.new.self c.requires.rest.served.history c.args.line.now c.requires.rest.served.orderly (rest_of c.args.phone.now c.requires.rest.served.history c.requires.rest.served.keeps c.requires.rest.rests)
      (c.hear.ensures c.requires.rest.served.history c.requires.rest.served.keeps);
}

pub returns-clause-plays : goal.returns-clause-plays
returns-clause-plays g c = λ given log at.
    c.settle.ensures.settles given (Happens (Said c.args.line.now) ∷ log)
    (hears_line given log c.args.line.now c.args.phone.now c.hear.new.self _ (rest_of c.args.phone.now _ at.keeps c.requires.rest.rests) (c.hear.ensures _ at.keeps) at)

pub returns-clause-clock : goal.returns-clause-clock
returns-clause-clock g c =
    on_ok_weaker c.settle.result (λ same. same ∙ said_clock c.args.phone.now c.hear.new.self c.requires.rest.served.history c.args.line.now c.requires.rest.served.keeps (c.hear.ensures c.requires.rest.served.history c.requires.rest.served.keeps))
    c.settle.ensures.clock

pub returns-clause-carried : goal.returns-clause-carried
returns-clause-carried g c =
    on_ok_weaker c.settle.result
    (all_carried c.hear.new.self c.settle.new.phone c.args.carrier.now c.settle.new.carrier (said_none c.hear.new.self c.args.line.now c.requires.rest.served.history (c.hear.ensures c.requires.rest.served.history c.requires.rest.served.keeps)))
    c.settle.ensures.carried

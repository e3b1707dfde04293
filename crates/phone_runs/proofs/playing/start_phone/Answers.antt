use Rattle.std.proofs.Common.{[], ap, ◌∙◌}
use Rattle.std.proofs.lemmas.Result.{on_ok_weaker}
use Rattle.terminal_side.specs.Kept.{Kept}
use Rattle.terminal_side.proofs.KeptLemmas.{clock_kept}
use Rattle.phone_runs.proofs.CarriedLemmas.{all_carried, started_none}
use Rattle.phone_runs.proofs.RunsLemmas.{begins_empty}
use Rattle.phone_runs.proofs.playing.start_phone.Goals as goal

pub returns-clause-starts : goal.returns-clause-starts
returns-clause-starts g c = λ given begins.
    c.settle.ensures.settles given [] (begins_empty given c.start.new.self _ (c.start.ensures.first c.requires.new) begins)

pub returns-clause-clock : goal.returns-clause-clock
returns-clause-clock g c =
    on_ok_weaker c.settle.result (λ same. same ∙ ap (λ (k : Kept). k.known.clock) (c.start.ensures.first c.requires.new) ∙ clock_kept []) c.settle.ensures.clock

pub returns-clause-carried : goal.returns-clause-carried
returns-clause-carried g c =
    on_ok_weaker c.settle.result (all_carried c.start.new.self c.settle.new.phone c.args.carrier.now c.settle.new.carrier (started_none c.start.new.self (c.start.ensures.first c.requires.new))) c.settle.ensures.carried

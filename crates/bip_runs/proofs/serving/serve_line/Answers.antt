use Rattle.bip_runs.specs.Parts.{Begins, Does, Foreign}
use Rattle.bip_runs.specs.BetweenLines.{occurrence_for}
use Rattle.bip_runs.proofs.IsServingLemmas.{bad_serves, blank_serves, happening_serves, happening_stops, no_more_serve, nowhere, start_again, start_serves, too_early}
use Rattle.bip_runs.proofs.serving.serve_line.Goals as goal

pub returns-in-Err-clause-served : goal.returns-in-Err-clause-served
returns-in-Err-clause-served g c = λ text before serving.
    no_more_serve text before c.args.place.now c.args.script.now c.next_line.new.script _ _ _ c.args.bip.now c.in-Err.end (λ h later earlier place channel parted is. c.each_channel_tells.ensures.tells place earlier channel is) (λ found follows. c.in-Err.ensures.gives text found follows) serving

pub returns-in-Nothing-clause-served : goal.returns-in-Nothing-clause-served
returns-in-Nothing-clause-served g c = λ text before serving.
    blank_serves text before c.args.place.now c.args.script.now c.next_line.new.script _ _ _ c.args.bip.now c.next_line.new.line (λ found follows. c.in-Ok.ensures.gives text found follows) c.in-Nothing.ensures serving

pub returns-in-Before-clause-served : goal.returns-in-Before-clause-served
returns-in-Before-clause-served g c = λ text before serving.
    start_serves text before c.args.place.now c.args.script.now c.next_line.new.script _ _ _ c.args.bip.now c.next_line.new.line (λ found follows. c.in-Ok.ensures.gives text found follows) c.in-Starts.ensures c.in-Before.is serving

pub returns-in-Behind-clause-served : goal.returns-in-Behind-clause-served
returns-in-Behind-clause-served g c = λ text before serving.
    bad_serves text before c.args.place.now c.args.script.now c.next_line.new.script _ _ _ c.args.bip.now c.next_line.new.line Begins c.number.result (λ h later earlier place channel parted is. c.each_channel_tells.ensures.tells place earlier channel is)
    (λ found follows. c.in-Ok.ensures.gives text found follows) c.in-Starts.ensures (start_again c.args.place.now c.in-Behind.is) c.number.ensures serving

pub returns-in-Before-place-clause-served : goal.returns-in-Before-place-clause-served
returns-in-Before-place-clause-served g c = λ text before serving.
    bad_serves text before c.args.place.now c.args.script.now c.next_line.new.script _ _ _ c.args.bip.now c.next_line.new.line (Does (occurrence_for c.in-Happens.what)) c.number-in-Before-place.result (λ h later earlier place channel parted is. c.each_channel_tells.ensures.tells place earlier channel is)
    (λ found follows. c.in-Ok.ensures.gives text found follows) c.in-Happens.ensures (too_early c.args.place.now (occurrence_for c.in-Happens.what) c.in-Before-place.is) c.number-in-Before-place.ensures serving

pub returns-in-Ok-happen-clause-served : goal.returns-in-Ok-happen-clause-served
returns-in-Ok-happen-clause-served g c = λ text before serving.
    happening_serves text before c.args.place.now c.args.script.now c.next_line.new.script _ _ _ _ c.args.bip.now c.happen.new.bip c.next_line.new.line (occurrence_for c.in-Happens.what)
    (λ found follows. c.in-Ok.ensures.gives text found follows) c.in-Happens.ensures c.in-Behind-place.is (λ earlier kept. c.in-Ok-happen.ensures.kept earlier kept) (λ earlier kept. (c.in-Ok-happen.ensures.shown earlier kept).0) serving

pub returns-in-Err-happen-clause-served : goal.returns-in-Err-happen-clause-served
returns-in-Err-happen-clause-served g c = λ text before serving.
    happening_stops text before c.args.place.now c.args.script.now c.next_line.new.script _ (g.R.Source.left c.next_line.new.source) _ _ c.args.bip.now c.next_line.new.line (occurrence_for c.in-Happens.what) (λ h later earlier place channel parted is. c.each_channel_tells.ensures.tells place earlier channel is)
    (λ found follows. c.in-Ok.ensures.gives text found follows) c.in-Happens.ensures c.in-Behind-place.is (λ earlier kept. (c.in-Err-happen.ensures.shown earlier kept).1) serving

pub returns-in-OutOfPlace-clause-served : goal.returns-in-OutOfPlace-clause-served
returns-in-OutOfPlace-clause-served g c = λ text before serving.
    bad_serves text before c.args.place.now c.args.script.now c.next_line.new.script _ _ _ c.args.bip.now c.next_line.new.line Foreign c.number-in-OutOfPlace.result (λ h later earlier place channel parted is. c.each_channel_tells.ensures.tells place earlier channel is)
    (λ found follows. c.in-Ok.ensures.gives text found follows) c.in-OutOfPlace.ensures (nowhere c.args.place.now) c.number-in-OutOfPlace.ensures serving

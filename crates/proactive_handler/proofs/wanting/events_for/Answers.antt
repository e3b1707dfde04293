use Rattle.std.proofs.Common.{◌<◌, refl, length, arith}
use Rattle.toolkit_model.specs.Driving.{download_codes}
use Rattle.proactive_handler.specs.Events.{is_asked_for}
use Rattle.proactive_handler.proofs.WantedLemmas.{next_events}
use Rattle.proactive_handler.proofs.wanting.events_for.Goals as goal

pub loop-at-preserved : goal.loop-at-preserved
loop-at-preserved c =
    let low : c.loop-at.at < length download_codes = c.loop-at-test.true in
    record {
      value = next_events (is_asked_for c.args.profile.now c.args.index.now) download_codes c.loop-at.at _ c.loop-at.events c.consider.new.events low refl c.consider.ensures.value
          c.loop-at.invariant.value;
      long = omega (arith, c.consider.ensures.long, c.loop-at.invariant.long);
    }

use Rattle.toolkit_model.proofs.BegunLemmas.{told_begin, triggered_begin, before_driving}
use Rattle.toolkit_model.proofs.order.idle_targets_run_in_order.Goals as goal

pub returns : goal.returns
returns c = record { by_envelope = triggered_begin; by_card = told_begin; before_driving = before_driving }

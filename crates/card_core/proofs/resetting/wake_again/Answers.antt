use Rattle.std.proofs.Common.{List, Option, ◌∙◌, ap}
use Rattle.card_state.specs.States.{rows_of}
use Rattle.applet_trait.specs.Minds.{AppletState}
use Rattle.card_core.specs.Cards.{boxes_kept}
use Rattle.card_core.proofs.BoxesKeptLemmas.{kept_woken}
use Rattle.card_core.proofs.resetting.wake_again.Goals as goal

pub returns-in-Ok-clause-woke : goal.returns-in-Ok-clause-woke
returns-in-Ok-clause-woke g c =
    c.drop_leaving.ensures.minds
    ∙ ap (λ (minds : List (Option AppletState)). boxes_kept c.args.leaving (rows_of c.restart.new.loaded) minds) c.in-Ok.ensures.woke
    ∙ kept_woken c.args.leaving (rows_of c.restart.new.loaded) _

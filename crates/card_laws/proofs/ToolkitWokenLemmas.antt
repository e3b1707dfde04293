-- At a reset of a card its toolkit wakes.
use Rattle.std.proofs.Common.{◌≡◌, List, Option, refl}
use Rattle.card_state.specs.Persistent.{Registration}
use Rattle.applet_trait.specs.Minds.{AppletState}
use Rattle.toolkit_model.specs.Sessions.{fresh_session}
use Rattle.toolkit_model.specs.Commands.{woken_boxes, toolkit_woken}

-- what a card has of the toolkit after a reset
pub wakes : (rows : List Registration) (minds : List (Option AppletState)) → record { rows = rows; session = fresh_session; minds = woken_boxes rows minds } ≡ toolkit_woken rows minds
unfolding toolkit_woken
wakes rows minds = refl

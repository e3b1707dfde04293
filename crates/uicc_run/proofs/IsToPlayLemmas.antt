-- From what a run is given to what each part of it is given.
use Rattle.std.proofs.Common.{◌≡◌, ℕ, Bool, Option}
use Rattle.card_state.specs.Persistent.{Persistent}
use Rattle.command_line.specs.declared.requests.Mode.{Mode}
use Rattle.uicc_run.specs.Opening.{BeginsAs, is_handset}
use Rattle.uicc_run.specs.Making.{IsToPlay}
use Rattle.uicc_run.specs.Playing.{Given}
use Rattle.uicc_run.specs.Worlds.{World}
use Rattle.uicc_run.specs.declared.listeners.Listener.{Listener}

pub to_play : (given : Given) (told : Bool) (asked : Mode) (mark : ℕ) (before : World) (listener : Listener) (card : Option Persistent) → BeginsAs given told asked mark before → given.is_served ≡ is_handset listener → given.first ≡ card
    → IsToPlay given listener card before.left before.boxes
to_play given told asked mark before listener card from served first = record { text_is = from.text_is; boxes_are = from.others_are.boxes_are; served_is = served; first_is = first }

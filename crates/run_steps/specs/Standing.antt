-- The card of a machine, and its power.
use Rattle.std.specs.Prelude.{◌≡◌, Some}
use Rattle.card_model.specs.States.{Machine}
use Rattle.card_core.specs.Cards.{card_of}
use Rattle.card_core.specs.Parts.{CardParts}

-- the card of a machine, and its power
pub record IsMachine (parts : CardParts) (machine : Machine) : Type 0 where
  pub card : card_of parts ≡ Some machine.card
  pub on : parts.is_on ≡ machine.on

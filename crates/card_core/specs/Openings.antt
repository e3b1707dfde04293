-- The card that is opened.
use Rattle.std.specs.Prelude.{◌≡◌, ◌++◌, ◌-◌, true, false, List, length, replicate, Option, None, is_some, option_map}
use Rattle.uicc_types.specs.Counts.{Caused, raised}
use Rattle.card_state.specs.Memory.{Memory, held}
use Rattle.card_state.specs.Migration.{migrated}
use Rattle.card_state.specs.Persistent.{Persistent}
use Rattle.applet_trait.specs.Minds.{AppletState}
use Rattle.card_model.specs.States.{CardState, woken}
use Rattle.card_core.specs.Starts.{Opens}
use Rattle.card_core.specs.Cards.{card_of, memory_of, IsCardReady}
use Rattle.card_core.specs.Parts.{CardParts}

-- the shelves after the last box are empty
abbrev pub with_all_shelves : List (Option AppletState) → List (Option AppletState)
with_all_shelves boxes = boxes ++ replicate (32 - length boxes) None

-- the card that is opened over a store that stands for this, with these boxes
abbrev pub opened : Option Persistent → List (Option AppletState) → Option CardState
opened held boxes = option_map (λ persistent. woken (migrated persistent) (with_all_shelves boxes)) held

-- The card was opened over this memory, of which no table was loaded, with these boxes.
pub record IsOpened (old : Memory) (boxes : List (Option AppletState)) (card : CardParts) : Type 0 where
  -- it is the woken card over what the store held, migrated where it may be
  pub opened : card_of card ≡ opened (held old) boxes
  -- each registered applet has its box, and the card can take a command
  pub ready : IsCardReady card
  pub on : card.is_on ≡ true
  pub rests : card.is_due ≡ false
  -- what was read is a card, and how often was committed
  pub opens : Opens old (memory_of card) (with_all_shelves boxes)
  -- whether the store tells its bytes stays, and its mark; no fault was met
  pub told : is_some card.told ≡ is_some old.told
  pub mark : card.store_mark ≡ old.mark
  pub calm : Caused old.meter card.meter ⊥ ⊥
  -- just one recovery was asked for
  pub recoveries : card.recoveries ≡ raised old.recoveries

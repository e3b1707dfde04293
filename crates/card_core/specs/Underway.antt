-- A card inside a command: what it is when a method begins, and how a method leaves it.
use Rattle.std.specs.Prelude.{◌≡◌, true, false, is_some, Result, OnOk}
use Rattle.apdu_form.specs.Model.{Apdu}
use Rattle.store_form.specs.Faults.{HasCause}
use Rattle.store_form.specs.declared.store.StoreFault.{StoreFault}
use Rattle.apdu_form.specs.Classes.{channel_of}
use Rattle.file_model.specs.Channels.{is_open}
use Rattle.binary_commands.specs.Commands.{IsSomeCommand}
use Rattle.card_core.specs.Cards.{IsSet, IsRunning}
use Rattle.card_core.specs.Parts.{CardParts}

-- The card takes a command, and nothing has to be done first.
pub record IsUnderway (parts : CardParts) : Type 0 where
  -- its store is one for a card, and each applet has its box
  pub set : IsSet parts
  -- the table is that of what the store holds, what is selected is there, and the toolkit can go on
  pub running : IsRunning parts
  -- no recovery is due
  pub rests : parts.is_due ≡ false

-- the command is one that bytes can be, and its channel is open
pub record IsOnChannel (parts : CardParts) (apdu : Apdu) : Type 0 where
  pub channel : is_open parts.channels (channel_of apdu.class) ≡ true
  pub command : IsSomeCommand apdu

-- whatever a command moves, this stays
pub record KeepsOthers (old new : CardParts) : Type 0 where
  pub store_mark : new.store_mark ≡ old.store_mark
  -- whether the store tells its bytes
  pub told : is_some new.told ≡ is_some old.told
  -- no recovery is asked for
  pub recoveries : new.recoveries ≡ old.recoveries
  pub is_on : new.is_on ≡ old.is_on
  pub is_due : new.is_due ≡ old.is_due

-- A method inside a command leaves a card that can go on, or one of which a recovery is due after a fault.
pub record GoesOn {X : Type 0} (result : Result X StoreFault) (old new : CardParts) : Type 0 where
  -- its store is one for a card, and each applet has its box, also after a fault
  pub set : IsSet new
  -- after Ok the next method can begin
  pub running : OnOk result (IsRunning new)
  pub others : KeepsOthers old new
  -- each fault was counted, and there was no other
  pub cause : HasCause old.meter new.meter result

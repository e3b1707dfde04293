-- What `transmit` owes over any store, beside the abstract card's answer: what it does, what is counted of it, and what it tells.
use Rattle.std.specs.Prelude.{◌≡◌, ◌⊎◌, true, false, ℕ, List, length, IfSome, Result}
use Rattle.uicc_types.specs.Counts.{raised_by}
use Rattle.uicc_types.specs.declared.answers.Answer.{Answer}
use Rattle.card_model.specs.Answers.{answer}
use Rattle.card_core.specs.Acting.{ActsAtOnce, ActsAfterRestart, LeavesCard}
use Rattle.card_core.specs.BinaryReads.{ReadsBinaryOnce}
use Rattle.card_core.specs.Cards.{card_of, held_by}
use Rattle.card_core.specs.Moves.{IsServed, OnServed, StopsAt, TellsFaults, TellsPower}
use Rattle.card_core.specs.Parts.{CardParts}
use Rattle.card_core.specs.Resetting.{RecoversIfDue}
use Rattle.card_core.specs.Writing.{HasWritten, StopsWriting}
use Rattle.card_core.specs.declared.faults.CardFault.{CardFault}

-- What a command does, by how it finds the card. CardIsSame is what it is for the whole card to be as it was.
pub record Takes {X : Type 0} (result : Result X CardFault) (old new : CardParts) (bytes : List ℕ) (out : Answer) (CardIsSame : Type 0) : Type 0 where
  -- a card that has power and of which nothing is due takes it at once
  pub at_once : old.is_on ≡ true → old.is_due ≡ false → ActsAtOnce result old new bytes out
  -- one of which a restart is due begins anew, and then takes it
  pub after_restart : old.is_due ≡ true → ActsAfterRestart result old new bytes out
  -- one without power isn't touched, nor one of which nothing is due by what its form, class, channel or instruction byte refuses
  pub untouched : LeavesCard old bytes → CardIsSame

-- What is counted of a command: how often it commits and what is written so, and how often it asks for recoveries and reads.
pub record CountsCalls {X : Type 0} (result : Result X CardFault) (old new : CardParts) (bytes : List ℕ) (out : Answer) : Type 0 where
  -- over a store that tells its bytes, each of the states that the command has was committed once, and no other
  pub commits : OnServed result out
      (IfSome (card_of old) (λ card. new.commits ≡ raised_by (length (answer card bytes).commits) old.commits))
  -- where the memory failed or power was lost, what it stands for is the state after the commits that were acknowledged, or after
  -- one more
  pub stopped : IsServed result out
      ⊎ IfSome (card_of old)
      (λ card. StopsAt card.persistent (answer card bytes).commits old.commits new.commits (held_by new))
  -- where it is answered, the bytes that are told are those after its changes, in order
  pub written : OnServed result out (IfSome (card_of old) (λ card. HasWritten (answer card bytes).changes old new))
  -- where the memory failed or power was lost, they are those after the changes whose commits were acknowledged, or after one more; or the
  -- fault came while a range was prepared for the first
  pub cut : IsServed result out ⊎ IfSome (card_of old) (λ card. StopsWriting (answer card bytes).changes old new)
  -- over any store, a card with power asks for one recovery where a restart is due, and else for none
  pub recoveries : old.is_on ≡ true → RecoversIfDue old new
  -- and where nothing is due, a READ BINARY has the file that it finds read just once where it answers data, never where access isn't
  -- granted, and else once at most, beside what tells that
  pub reads : old.is_on ≡ true → old.is_due ≡ false → ReadsBinaryOnce result old new bytes out

-- What a card tells of its faults and of its power. Before is the answer as it was before the command.
pub record TellsState {X : Type 0} (result : Result X CardFault) (old new : CardParts) (before out : Answer) : Type 0 where
  -- what is due after a fault, and what is answered then
  pub faults : TellsFaults result new before out
  -- what it does without power, and when it has it
  pub power : TellsPower result old new

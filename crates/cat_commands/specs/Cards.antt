-- What a command of the toolkit makes of a card, be the bytes of its store told or not.
use Rattle.std.specs.Prelude.{◌≡◌}
use Rattle.uicc_types.specs.declared.answers.Answer.{Answer}
use Rattle.proactive_handler.specs.Steps.{Scene}
use Rattle.card_model.specs.States.{CardState}
use Rattle.card_model.specs.Answers.{Answered}
use Rattle.cat_commands.specs.Carrying.{HasToolkit}

-- The card answered so. Its session and the minds of its boxes are those of the answered card, of which the table tells; its channels
-- and the verified keys are as before.
pub record AnswersSo (card : CardState) (answered : Answered) (out : Answer) (new : Scene) : Type 0 where
  pub body : out.body ≡ answered.body
  pub status : out.status ≡ answered.status
  pub toolkit : HasToolkit new answered.state
  pub channels : answered.state.channels ≡ card.channels
  pub verified : answered.state.verified ≡ card.verified

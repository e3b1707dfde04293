-- An envelope, as it is to each card that it may come to.
use Rattle.std.proofs.Common.{◌≡◌, sym, ap, ◌∙◌, ℕ, Bool, List, Option, length}
use Rattle.toolkit_commands.specs.declared.envelopes.Envelope.{Envelope}
use Rattle.toolkit_model.specs.Orderly.{asks}
use Rattle.toolkit_model.specs.Passing.{ToolkitState}
use Rattle.toolkit_model.specs.Commands.{triggered_by, is_busy, triggered, last_answer, call_data}
use Rattle.proactive_handler.specs.Steps.{Scene, toolkit}
use Rattle.card_model.specs.States.{CardState}
use Rattle.card_model.specs.Toolkit.{toolkit_of}
use Rattle.cat_commands.specs.Carrying.{HasToolkit}
use Rattle.cat_commands.specs.Trying.{is_busy_with, data_for}
use Rattle.cat_commands.proofs.CarriesLemmas.{toolkit_is}

pub busy_here : (envelope : Envelope) (state : ToolkitState) (shelves : List ℕ) → shelves ≡ (triggered_by envelope state).shelves → is_busy envelope state ≡ is_busy_with (asks state.session) (length state.session.late) envelope shelves
busy_here envelope state shelves is = ap (is_busy_with (asks state.session) (length state.session.late) envelope) (sym is)

module _ (card : CardState) (old : Scene) (has : HasToolkit old card) (envelope : Envelope) where
  pub busy_at : (shelves : List ℕ) (busy : Bool) → shelves ≡ (triggered_by envelope (toolkit old)).shelves → is_busy_with (asks old.session) (length old.session.late) envelope shelves ≡ busy → is_busy envelope (toolkit_of card) ≡ busy
  busy_at shelves busy is so = ap (λ (s : ToolkitState). is_busy envelope s) (toolkit_is card old has) ∙ busy_here envelope (toolkit old) shelves is ∙ so

  pub body_at : (body : List ℕ) (answer : Option Bool) → body ≡ data_for envelope answer → answer ≡ last_answer (triggered envelope (toolkit old)).log → body ≡ call_data envelope (toolkit_of card)
  body_at body answer is answer_is = is ∙ ap (data_for envelope) answer_is ∙ ap (call_data envelope) (sym (toolkit_is card old has))

-- What came late, once an applet ran, and once some were told of an event.
use Rattle.std.proofs.Common.{◌≡◌, refl, sym, subst, ℕ, Bool, true, false, List, [], ◌∷◌, Option, Some, None, ◌≢◌, All}
use Rattle.std.proofs.lemmas.List.Elements.{All-append, All-cons, All-head, All-nil, All-tail}
use Rattle.toolkit_commands.specs.declared.commands.Proactive.{Proactive}
use Rattle.applet_trait.specs.declared.stimuli.Stimulus.TheVariants.{Event}
use Rattle.toolkit_model.specs.Sessions.{LateTrigger, SessionState}
use Rattle.toolkit_model.specs.Orderly.{asks}
use Rattle.toolkit_model.specs.Passing.{ToolkitState, in_turn}
use Rattle.toolkit_model.specs.Running.{sending, run_of_row}
use Rattle.toolkit_model.specs.Driving.{is_idle, told_if, given_if, trigger_for, told_one, given_one}
use Rattle.toolkit_model.proofs.AsksLemmas.{run_late}
use Rattle.proactive_handler.specs.Boxes.{AreForOthers}
use Rattle.proactive_handler.specs.Serving.{triggered_one}

pub sending_late : (session : SessionState) (shelf : ℕ) (is_resumed : Bool) (sent : Option Proactive) → (sending shelf is_resumed sent session).late ≡ session.late
sending_late session shelf true None = refl
sending_late session shelf true (Some command) = refl
sending_late session shelf false None = refl
sending_late session shelf false (Some command) = refl

-- ---- an event leaves nothing for applets that it is not for

module _ (code : ℕ) (body : List ℕ) (other : ℕ) where
  ran_apart : (shelf : ℕ) (state : ToolkitState) → AreForOthers other state.session.late → AreForOthers other (run_of_row shelf (Event code body) false state).state.session.late
  ran_apart shelf state apart = subst (λ (late : List LateTrigger). AreForOthers other late) (sym (run_late shelf (Event code body) false state)) apart

  told_apart : (idle : Bool) (shelf : ℕ) (state : ToolkitState) → AreForOthers other state.session.late → AreForOthers other (told_if idle (trigger_for code body shelf) state).state.session.late
  told_apart true shelf state apart = ran_apart shelf state apart
  told_apart false shelf state apart = apart

  given_apart : (idle : Bool) (shelf : ℕ) (state : ToolkitState) → shelf ≢ other → AreForOthers other state.session.late → AreForOthers other (given_if idle (trigger_for code body shelf) state).state.session.late
  given_apart true shelf state differs apart = ran_apart shelf state apart
  given_apart false shelf state differs apart =
      All-append (λ (trigger : LateTrigger). trigger.shelf ≢ other) state.session.late (trigger_for code body shelf ∷ []) apart
      (All-cons (λ (trigger : LateTrigger). trigger.shelf ≢ other) (trigger_for code body shelf) [] differs (All-nil (λ trigger. trigger.shelf ≢ other)))

  one_apart : (kept : Bool) (shelf : ℕ) (state : ToolkitState) → shelf ≢ other → AreForOthers other state.session.late → AreForOthers other (triggered_one kept code body shelf state).state.session.late
  unfolding told_one given_one
  one_apart true shelf state differs apart = given_apart (is_idle (asks state.session) shelf) shelf state differs apart
  one_apart false shelf state differs apart = told_apart (is_idle (asks state.session) shelf) shelf state apart

  pub turns_apart : (kept : Bool) (shelves : List ℕ) (state : ToolkitState) → All (λ shelf. shelf ≢ other) shelves → AreForOthers other state.session.late
      → AreForOthers other (in_turn (triggered_one kept code body) shelves state).state.session.late
  turns_apart kept [] state differ apart = apart
  turns_apart kept (shelf ∷ shelves) state differ apart =
      turns_apart kept shelves (triggered_one kept code body shelf state).state (All-tail (λ shelf. shelf ≢ other) shelf shelves differ)
      (one_apart kept shelf state (All-head (λ shelf. shelf ≢ other) shelf shelves differ) apart)

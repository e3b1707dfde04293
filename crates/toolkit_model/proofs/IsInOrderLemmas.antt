-- A session in order, in the words of the laws and in those of the proofs.
use Rattle.std.proofs.Common.{◌≡◌, ℕ, Bool, false, List, [], ◌∷◌, map, ap, refl, sym, ◌∙◌, ◌==◌, ◌||◌, not, All, Contains}
use Rattle.std.specs.List.{list_any}
use Rattle.std.proofs.lemmas.List.Elements.{All-weaker, All-map}
use Rattle.std.proofs.lemmas.Bool.{not-false}
use Rattle.list_laws.proofs.MapLemmas.{all_unmapped}
use Rattle.list_laws.proofs.ContainsLemmas.{number_there}
use Rattle.toolkit_model.specs.Sessions.{Sent}
use Rattle.toolkit_model.specs.Orderly.{asks, IsSuspended}
use Rattle.toolkit_model.specs.Passing.{ToolkitState}
use Rattle.toolkit_model.specs.Driving.{is_idle, driven}
use Rattle.toolkit_model.specs.Steps.{ToolkitInput, AreAccepted, moved_by, HasMind}
use Rattle.toolkit_model.specs.OrderlySessions.{IsInOrder, IsDriven}
use Rattle.toolkit_model.proofs.TriggerOrderLemmas.{there_code}
use Rattle.toolkit_model.proofs.DrivingLemmas.{HasLaws, AreSuspended}
use Rattle.toolkit_model.proofs.DrivenLemmas.{driven_suspends, driven_behind}
use Rattle.toolkit_model.proofs.MovedByLemmas.{IsGood, anything, commands_move}

any_shelf : (asked : List Sent) (shelf : ℕ) → list_any (λ sent. sent.shelf == shelf) asked ≡ list_any (λ other. other == shelf) (map (λ sent. sent.shelf) asked)
any_shelf [] shelf = refl
any_shelf (sent ∷ others) shelf = ap (λ (b : Bool). sent.shelf == shelf || b) (any_shelf others shelf)

busy_there : (asked : List Sent) (shelf : ℕ) → is_idle asked shelf ≡ false → Contains (map (λ sent. sent.shelf) asked) shelf
busy_there asked shelf busy = number_there (map (λ sent. sent.shelf) asked) shelf (sym (any_shelf asked shelf) ∙ not-false (list_any (λ sent. sent.shelf == shelf) asked) busy)

there_busy : (asked : List Sent) (shelf : ℕ) → Contains (map (λ sent. sent.shelf) asked) shelf → is_idle asked shelf ≡ false
there_busy asked shelf there = ap not (any_shelf asked shelf ∙ there_code shelf (map (λ sent. sent.shelf) asked) there)

pub good_from : (state : ToolkitState) → IsInOrder state → IsGood state
good_from state is = record {
  ready = record { underway = is.session.underway; rows_are = is.rows; minds = All-map (HasMind state.minds) (λ row. row.shelf) state.rows is.minds };
  suspends = All-weaker (λ trigger. IsSuspended state.session trigger.shelf) (λ trigger. is_idle (asks state.session) trigger.shelf ≡ false) (λ trigger. there_busy (asks state.session) trigger.shelf) state.session.late is.session.late;
  behind = is.session.behind;
}

late_waits : (state : ToolkitState) → AreSuspended state → All (λ trigger. IsSuspended state.session trigger.shelf) state.session.late
late_waits state suspends = All-weaker (λ trigger. is_idle (asks state.session) trigger.shelf ≡ false) (λ trigger. IsSuspended state.session trigger.shelf) (λ trigger. busy_there (asks state.session) trigger.shelf) state.session.late suspends

order_from : (state : ToolkitState) → IsGood state → IsInOrder state
order_from state good = record {
  rows = good.ready.rows_are;
  session = record { underway = good.ready.underway; late = late_waits state good.suspends; behind = good.behind };
  minds = all_unmapped (HasMind state.minds) (λ row. row.shelf) state.rows good.ready.minds;
}

pub stay_in_order : HasLaws → (commands : List ToolkitInput) (state : ToolkitState) → IsInOrder state → AreAccepted commands state → IsInOrder (moved_by commands state).state
stay_in_order laws commands state is accepted = order_from (moved_by commands state).state (commands_move laws anything commands state accepted (good_from state is)).good

pub driving_is_done : (state : ToolkitState) → IsDriven (driven state).state.session
driving_is_done state = record { late = late_waits (driven state).state (driven_suspends state); behind = driven_behind state }

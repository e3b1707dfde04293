-- What a run leaves of a session, and the places for events that come late.
use Rattle.std.proofs.Common.{◌≡◌, refl, sym, ap, ◌∙◌, subst, ℕ, Bool, true, false, List, [], ◌∷◌, ◌++◌, cond, length, Option, Some, None, arith, ◌≢◌, not, filter, All, length-append}
use Rattle.std.proofs.lemmas.List.Elements.{All-head, All-tail}
use Rattle.card_state.specs.declared.entries.Loaded.{Loaded}
use Rattle.card_commits.specs.Entries.{HasRowOn}
use Rattle.toolkit_commands.specs.declared.commands.Proactive.{Proactive}
use Rattle.timer_table.specs.Timers.{Owners}
use Rattle.applet_trait.specs.declared.stimuli.Stimulus.{Stimulus}
use Rattle.applet_trait.specs.Minds.{AppletState}
use Rattle.toolkit_model.specs.Sessions.{Sent, LateTrigger, SessionState}
use Rattle.toolkit_model.specs.Orderly.{asks}
use Rattle.toolkit_model.specs.Passing.{ToolkitState}
use Rattle.toolkit_model.specs.Running.{sending, mind_on, run_of_mind, run_of_row}
use Rattle.toolkit_model.specs.Driving.{is_idle}
use Rattle.toolkit_model.proofs.AsksLemmas.{sending_idle}
use Rattle.toolkit_model.proofs.LateTriggerLemmas.{late_asks}
use Rattle.proactive_handler.proofs.AreForOthersLemmas.{sending_late}
use Rattle.proactive_handler.specs.Serving.{IsSessionServed, HasPlaces}
use Rattle.proactive_handler.proofs.IsSessionServedLemmas.{ran_served, rows_keep}

-- ---- the session after a run, by what it sent and which timers there are then

pub record IsRunOf (shelf : ℕ) (is_resumed : Bool) (old new : SessionState) : Type 0 where
  pub sent : Option Proactive
  pub timers : Owners
  pub session_is : new ≡ sending shelf is_resumed sent (record old { timers = timers })

mind_session : (shelf : ℕ) (stimulus : Stimulus) (is_resumed : Bool) (state : ToolkitState) (mind : Option AppletState) → IsRunOf shelf is_resumed state.session (run_of_mind shelf stimulus is_resumed state mind).state.session
mind_session shelf stimulus is_resumed state None = record { sent = None; timers = state.session.timers; session_is = refl }
mind_session shelf stimulus is_resumed state (Some mind) = record { sent = _; timers = _; session_is = refl }

pub run_session : (shelf : ℕ) (stimulus : Stimulus) (is_resumed : Bool) (state : ToolkitState) → IsRunOf shelf is_resumed state.session (run_of_row shelf stimulus is_resumed state).state.session
unfolding run_of_row
run_session shelf stimulus is_resumed state = mind_session shelf stimulus is_resumed state (mind_on state.minds shelf)

pub run_served : (old new : Loaded) (session : SessionState) (shelf : ℕ) (stimulus : Stimulus) (is_resumed : Bool) (state : ToolkitState) → ((other : ℕ) → HasRowOn old other → HasRowOn new other)
    → session ≡ (run_of_row shelf stimulus is_resumed state).state.session → IsSessionServed old state.session → is_idle (asks state.session) shelf ≡ true → HasRowOn old shelf → (is_resumed ≡ true → state.session.out ≡ None) → IsSessionServed new session
run_served old new session shelf stimulus is_resumed state stay is served idle has out =
    let run = run_session shelf stimulus is_resumed state in
    subst (IsSessionServed new) (sym (is ∙ run.session_is))
    (rows_keep old new stay (sending shelf is_resumed run.sent (record state.session { timers = run.timers })) (ran_served old state.session run.timers shelf is_resumed run.sent served idle has out))

-- ---- which applets are idle then

-- ---- those of the shelves that are not idle

abbrev waiting : List Sent → List ℕ → List ℕ
waiting asked shelves = filter (λ shelf. not (is_idle asked shelf)) shelves

waiting_first : (asked : List Sent) (shelf : ℕ) (others : List ℕ) (b : Bool) → is_idle asked shelf ≡ b → waiting asked (shelf ∷ others) ≡ cond (not b) (shelf ∷ waiting asked others) (waiting asked others)
waiting_first asked shelf others b is = ap (λ (idle : Bool). cond (not idle) (shelf ∷ waiting asked others) (waiting asked others)) is

same_waiting : (asked new : List Sent) (shelves : List ℕ) → All (λ other. is_idle new other ≡ is_idle asked other) shelves → waiting new shelves ≡ waiting asked shelves
same_waiting asked new [] same = refl
same_waiting asked new (shelf ∷ others) same =
    waiting_first new shelf others (is_idle asked shelf) (All-head (λ other. is_idle new other ≡ is_idle asked other) shelf others same)
    ∙ ap (λ (left : List ℕ). cond (not (is_idle asked shelf)) (shelf ∷ left) left) (same_waiting asked new others (All-tail (λ other. is_idle new other ≡ is_idle asked other) shelf others same))

-- ---- the places

pub run_places : (session : SessionState) (shelf : ℕ) (stimulus : Stimulus) (state : ToolkitState) (others : List ℕ) → session ≡ (run_of_row shelf stimulus false state).state.session → is_idle (asks state.session) shelf ≡ true
    → All (λ other. shelf ≢ other) others → HasPlaces state.session (shelf ∷ others) → HasPlaces session others
run_places session shelf stimulus state others is idle apart places =
    let run = run_session shelf stimulus false state in
    let after : SessionState = sending shelf false run.sent (record state.session { timers = run.timers }) in
    let late : after.late ≡ state.session.late = sending_late (record state.session { timers = run.timers }) shelf false run.sent in
    let same : waiting (asks after) others ≡ waiting (asks state.session) others =
    same_waiting (asks state.session) (asks after) others (all_same others apart) in
    subst (λ (s : SessionState). HasPlaces s others) (sym (is ∙ run.session_is))
    (omega (arith, ap length late, ap length same, ap length (waiting_first (asks state.session) shelf others true idle), places))
  where
    all_same : (shelves : List ℕ) → All (λ other. shelf ≢ other) shelves
        → All (λ other. is_idle (asks (sending shelf false (run_session shelf stimulus false state).sent (record state.session { timers = (run_session shelf stimulus false state).timers }))) other ≡ is_idle (asks state.session) other) shelves
    all_same shelves all = λ k d low. sending_idle state.session (run_session shelf stimulus false state).timers shelf _ (run_session shelf stimulus false state).sent (all k d low)

-- one is kept
pub kept_places : (session : SessionState) (trigger : LateTrigger) (others : List ℕ) → is_idle (asks session) trigger.shelf ≡ false → HasPlaces session (trigger.shelf ∷ others)
    → HasPlaces (record session { late = session.late ++ trigger ∷ [] }) others
kept_places session trigger others busy places =
    omega (
      arith,
      length-append session.late (trigger ∷ []),
      ap (λ (asked : List Sent). length (waiting asked others)) (late_asks session (session.late ++ trigger ∷ [])),
      ap length (waiting_first (asks session) trigger.shelf others false busy),
      places,
    )

-- What a run of an applet makes of a session that is in order.
use Rattle.std.proofs.Common.{◌≡◌, ℕ, Bool, true, false, List, [], ◌∷◌, ◌++◌, map, Option, Some, None, append_assoc, refl, sym, subst, zero, suc, ◌≢◌, ◌==◌, ◌||◌, not, All, AllPairs, Contains, IfSome}
use Rattle.std.specs.List.{list_any}
use Rattle.std.proofs.lemmas.List.Elements.{All-nil, All-cons, All-push, All-weaker}
use Rattle.std.proofs.lemmas.List.Quantifiers.{all_pairs_push}
use Rattle.std.proofs.lemmas.Bool.{eqb-false}
use Rattle.card_state.specs.Persistent.{Registration}
use Rattle.toolkit_commands.specs.declared.commands.Proactive.{Proactive}
use Rattle.timer_table.specs.Timers.{Owners}
use Rattle.applet_trait.specs.declared.stimuli.Stimulus.{Stimulus}
use Rattle.applet_trait.specs.Laws.{GivesTimer}
use Rattle.applet_trait.specs.Minds.{AppletState}
use Rattle.toolkit_model.specs.Sessions.{Sent, SessionState}
use Rattle.toolkit_model.specs.Orderly.{IsRegistered, CanBeSent, owned, asks, IsUnderway}
use Rattle.toolkit_model.specs.Passing.{ToolkitState, Happening, Passed}
use Rattle.toolkit_model.specs.Running.{run_of_mind, run_of_row, run_on, most_acts, setting_of, works_of, mind_on, sending, with_mind, Setting, Works}
use Rattle.toolkit_model.specs.Driving.{is_idle}
use Rattle.toolkit_model.specs.Steps.{AreRows, HasMind}
use Rattle.toolkit_model.proofs.CarriedLemmas.{ArePlaced, run_placed}
use Rattle.toolkit_model.proofs.RunOnLemmas.{IsOfRuns, run_logs, AnyNumber, SendsProper, IsSendableTo, run_sends}

-- ---- a run, by what it sent and which timers there are then

pub record IsRunOf (shelf : ℕ) (stimulus : Stimulus) (is_resumed : Bool) (state : ToolkitState) (passed : Passed) : Type 1 where
  pub sent : Option Proactive
  pub timers : Owners
  pub session_is : passed.state.session ≡ sending shelf is_resumed sent (record state.session { timers = timers })
  pub placed : (shelves : List ℕ) → Contains shelves shelf → ArePlaced shelves state.rows state.session.timers → ArePlaced shelves passed.state.rows timers
  pub sendable : AnyNumber → SendsProper → GivesTimer stimulus → (shelves : List ℕ) → Contains shelves shelf → ArePlaced shelves state.rows state.session.timers
      → IfSome sent (IsSendableTo state.session.profile)
  pub minds : (shelves : List ℕ) → All (HasMind state.minds) shelves → All (HasMind passed.state.minds) shelves
  pub begins : HasMind state.minds shelf → passed.log ≡ [] → ⊥
  pub noted : (Q : Stimulus → Option Proactive → List Happening → Type 0) → IsOfRuns shelf Q → Q stimulus sent passed.log

-- an applet that is there stays there
pub set_has : (minds : List (Option AppletState)) (at : ℕ) (mind : AppletState) (shelf : ℕ) → HasMind minds shelf → HasMind (with_mind minds at (Some mind)) shelf
set_has [] at mind shelf has = has
set_has (first ∷ others) zero mind zero has = refl
set_has (first ∷ others) zero mind (suc shelf) has = has
set_has (first ∷ others) (suc at) mind zero has = has
set_has (first ∷ others) (suc at) mind (suc shelf) has = set_has others at mind shelf has

run_begins : (fuel : ℕ) (at : Setting) (stimulus : Stimulus) (works : Works) → (run_on (suc fuel) at stimulus works).log ≡ [] → ⊥
unfolding run_on
run_begins fuel at stimulus works none = cc

run_with_mind : (shelf : ℕ) (stimulus : Stimulus) (is_resumed : Bool) (state : ToolkitState) (mind : Option AppletState) → mind_on state.minds shelf ≡ mind
    → IsRunOf shelf stimulus is_resumed state (run_of_mind shelf stimulus is_resumed state mind)
run_with_mind shelf stimulus is_resumed state None is = record {
  sent = None;
  timers = state.session.timers;
  session_is = refl;
  placed = λ shelves there placed. placed;
  sendable = λ any proper gives shelves there placed. tt;
  minds = λ shelves has. has;
  begins = λ has none. cc (is, has);
  noted = λ Q is. is.broken stimulus;
}
run_with_mind shelf stimulus is_resumed state (Some mind) is =
    let at = setting_of shelf stimulus state in
    let works = works_of mind state in
    let ran = run_on most_acts at stimulus works in
    record {
      sent = ran.sent;
      timers = ran.works.timers;
      session_is = refl;
      placed = λ shelves there placed. run_placed shelves most_acts at stimulus works there placed;
      sendable = λ any proper gives shelves there placed. run_sends any proper shelves most_acts at stimulus works gives there placed;
      minds = λ shelves has. All-weaker (HasMind state.minds) (HasMind (with_mind state.minds shelf (Some ran.works.mind))) (set_has state.minds shelf ran.works.mind) shelves has;
      begins = λ has none. run_begins 31 at stimulus works none;
      noted = λ Q is. run_logs Q most_acts at stimulus works is;
    }

pub run_is : (shelf : ℕ) (stimulus : Stimulus) (is_resumed : Bool) (state : ToolkitState) → IsRunOf shelf stimulus is_resumed state (run_of_row shelf stimulus is_resumed state)
unfolding run_of_row
run_is shelf stimulus is_resumed state = run_with_mind shelf stimulus is_resumed state (mind_on state.minds shelf) refl

-- ---- who asks

neither : (a b : Bool) → not (a || b) ≡ true → (a ≡ false) × (not b ≡ true)
neither true b holds = cc
neither false b holds = (refl, holds)

pub idle_all : (asked : List Sent) (shelf : ℕ) → is_idle asked shelf ≡ true → All (λ sent. sent.shelf ≢ shelf) asked
idle_all [] shelf idle = All-nil (λ sent. sent.shelf ≢ shelf)
idle_all (sent ∷ others) shelf idle =
    let two = neither (sent.shelf == shelf) (list_any (λ other. other.shelf == shelf) others) idle in
    All-cons (λ sent. sent.shelf ≢ shelf) sent others (eqb-false sent.shelf shelf two.0) (idle_all others shelf two.1)

pub asks_more : (session : SessionState) (timers : Owners) (shelf : ℕ) (command : Proactive)
    → asks (sending shelf false (Some command) (record session { timers = timers })) ≡ asks session ++ record { shelf = shelf; command = command } ∷ []
unfolding asks
asks_more session timers shelf command = sym (append_assoc (owned session.out) session.waiting _)

pub asks_same : (session : SessionState) (timers : Owners) → asks (record session { timers = timers }) ≡ asks session
unfolding asks
asks_same session timers = refl

-- ---- sessions in order

-- the rows are such, and the session is in order over them
pub record IsReady (state : ToolkitState) : Type 0 where
  pub underway : IsUnderway state.rows state.session
  pub rows_are : AreRows state.rows
  pub minds : All (HasMind state.minds) (map (λ row. row.shelf) state.rows)

abbrev pub shelves_of : ToolkitState → List ℕ
shelves_of state = map (λ row. row.shelf) state.rows

pub placed_now : (state : ToolkitState) → IsReady state → ArePlaced (shelves_of state) state.rows state.session.timers
placed_now state ready = record { shelves_are = refl; rows_are = ready.rows_are; eight = ready.underway.eight_timers; owners = ready.underway.timers }

abbrev AreApart : Sent → Sent → Type 0
AreApart a b = a.shelf ≢ b.shelf

-- rows of the same shelves
moved_rows : {X : Type 0} (rows new : List Registration) → map (λ row. row.shelf) rows ≡ map (λ row. row.shelf) new → (f : X → ℕ) (xs : List X)
    → All (λ x. IsRegistered rows (f x)) xs → All (λ x. IsRegistered new (f x)) xs
moved_rows rows new same f xs = subst (λ (shelves : List ℕ). All (λ x. Contains shelves (f x)) xs) same

-- a session with other timers, over rows of the same shelves
pub with_timers : (rows new : List Registration) (session : SessionState) (timers : Owners) → ArePlaced (map (λ row. row.shelf) rows) new timers
    → IsUnderway rows session → IsUnderway new (record session { timers = timers })
with_timers rows new session timers placed underway =
    record {
      apart = subst (AllPairs AreApart) (sym (asks_same session timers)) underway.apart;
      askers = subst (All (λ sent. IsRegistered new sent.shelf)) (sym (asks_same session timers)) (moved_rows rows new (sym placed.shelves_are) (λ sent. sent.shelf) (asks session) underway.askers);
      sendable = underway.sendable;
      out_sendable = underway.out_sendable;
      late_rows = moved_rows rows new (sym placed.shelves_are) (λ trigger. trigger.shelf) session.late underway.late_rows;
      few_late = underway.few_late;
      timers = subst (λ (shelves : List ℕ). All (λ owner. IfSome owner (λ shelf. Contains shelves shelf.0)) timers) (sym placed.shelves_are) placed.owners;
      eight_timers = placed.eight;
      no_profile = underway.no_profile;
    }

-- an idle applet sends a command
with_sent : (rows : List Registration) (session : SessionState) (timers : Owners) (shelf : ℕ) (command : Proactive) → is_idle (asks session) shelf ≡ true → IsRegistered rows shelf
    → IsSendableTo session.profile command → IsUnderway rows (record session { timers = timers }) → IsUnderway rows (sending shelf false (Some command) (record session { timers = timers }))
with_sent rows session timers shelf command idle registered sendable underway =
    let sent : Sent = record { shelf = shelf; command = command } in
    let same = asks_same session timers in
    let more = asks_more session timers shelf command in
    let apart : AllPairs AreApart (asks session) = subst (AllPairs AreApart) same underway.apart in
    let askers : All (λ sent. IsRegistered rows sent.shelf) (asks session) = subst (All (λ sent. IsRegistered rows sent.shelf)) same underway.askers in
    record {
      apart = subst (AllPairs AreApart) (sym more) (all_pairs_push AreApart (asks session) sent apart (idle_all (asks session) shelf idle));
      askers = subst (All (λ sent. IsRegistered rows sent.shelf)) (sym more) (All-push (λ sent. IsRegistered rows sent.shelf) (asks session) sent askers registered);
      sendable = All-push (λ sent. CanBeSent sent.command) session.waiting sent underway.sendable sendable.0;
      out_sendable = underway.out_sendable;
      late_rows = underway.late_rows;
      few_late = underway.few_late;
      timers = underway.timers;
      eight_timers = underway.eight_timers;
      no_profile = λ none. absurd (cc (sendable.1, none));
    }

sending_ready : (rows : List Registration) (session : SessionState) (timers : Owners) (shelf : ℕ) (sent : Option Proactive) → is_idle (asks session) shelf ≡ true → IsRegistered rows shelf
    → IfSome sent (IsSendableTo session.profile) → IsUnderway rows (record session { timers = timers }) → IsUnderway rows (sending shelf false sent (record session { timers = timers }))
sending_ready rows session timers shelf None idle registered sendable underway = underway
sending_ready rows session timers shelf (Some command) idle registered sendable underway = with_sent rows session timers shelf command idle registered sendable underway

-- an idle applet runs
pub run_ready : AnyNumber → SendsProper → (shelf : ℕ) (stimulus : Stimulus) (state : ToolkitState) → GivesTimer stimulus → is_idle (asks state.session) shelf ≡ true → IsRegistered state.rows shelf
    → IsReady state → IsReady (run_of_row shelf stimulus false state).state
run_ready any proper shelf stimulus state gives idle registered ready =
    let run = run_is shelf stimulus false state in
    let after = (run_of_row shelf stimulus false state).state in
    let now = placed_now state ready in
    let placed : ArePlaced (shelves_of state) after.rows run.timers = run.placed (shelves_of state) registered now in
    let there : IsRegistered after.rows shelf = subst (λ (shelves : List ℕ). Contains shelves shelf) (sym placed.shelves_are) registered in
    record {
      underway = subst (IsUnderway after.rows) (sym run.session_is)
          (sending_ready after.rows state.session run.timers shelf run.sent idle there (run.sendable any proper gives (shelves_of state) registered now)
          (with_timers state.rows after.rows state.session run.timers placed ready.underway));
      rows_are = placed.rows_are;
      minds = subst (All (HasMind after.minds)) (sym placed.shelves_are) (run.minds (shelves_of state) ready.minds);
    }

-- What holds of each smallest step holds of whole commands.
use Rattle.std.proofs.Common.{◌≡◌, ℕ, zero, suc, ◌+◌, ◌≤◌, Bool, true, false, cond, List, [], ◌∷◌, length, Option, Some, None, length-append, ap, arith, refl, sym, ◌∙◌, subst, ◌⊎◌, ◌≢◌, not, All, AllPairs, Contains}
use Rattle.std.proofs.lemmas.List.Elements.{All-head, All-tail, All-push, All-weaker}
use Rattle.list_laws.proofs.AllPairsLemmas.{pairs_head, pairs_tail}
use Rattle.uicc_types.specs.declared.events.TheConstants.{PROFILE_DOWNLOAD, STATUS_COMMAND}
use Rattle.card_state.specs.Persistent.{Registration}
use Rattle.toolkit_commands.specs.declared.responses.Response.{Response as Reply}
use Rattle.applet_trait.specs.declared.stimuli.Stimulus.TheVariants.{Event}
use Rattle.applet_trait.specs.Minds.{AppletState}
use Rattle.toolkit_model.specs.Sessions.{Outstanding, Sent, LateTrigger}
use Rattle.toolkit_model.specs.Orderly.{IsRegistered, asks}
use Rattle.toolkit_model.specs.Passing.{ToolkitState, Given, Woke, Passed, unmoved, noting, before, in_turn}
use Rattle.toolkit_model.specs.Driving.{is_idle, with_session, running, kept_late, told_if, given_if, trigger_for, told_one, given_one, first_idle, catching, caught_up, with_next_command, driven}
use Rattle.toolkit_model.specs.Commands.{with_profile, forgetting, unfetched, fetched, unanswered, answered, registering, unregistering, toolkit_woken}
use Rattle.toolkit_model.specs.Steps.{ToolkitInput, Install, Wake, IsAccepted, moved}
use Rattle.toolkit_model.proofs.RunOnLemmas.{AnyNumber, SendsProper}
use Rattle.toolkit_model.proofs.RunOfRowLemmas.{IsReady, run_is, run_ready, shelves_of, placed_now}
use Rattle.toolkit_model.proofs.LateTriggerLemmas.{taken_out, late_asks, kept_ready, caught_ready}
use Rattle.toolkit_model.proofs.FilledLemmas.{ShortFits, settled_ready}
use Rattle.toolkit_model.proofs.AsksLemmas.{run_idle, run_busy, run_late, suspended, same_suspended}

-- laws that are used here
pub record HasLaws : Type 0 where
  pub any : AnyNumber
  pub short : ShortFits
  pub proper : SendsProper

-- late triggers are of applets that are not idle
abbrev pub AreSuspended : ToolkitState → Type 0
AreSuspended state = All (λ trigger. is_idle (asks state.session) trigger.shelf ≡ false) state.session.late

-- an event that the card tells of itself
abbrev pub IsOwn : ℕ → Type 0
IsOwn code = (code ≡ PROFILE_DOWNLOAD) ⊎ (code ≡ STATUS_COMMAND)

-- whatever a command brings
abbrev pub Freely : ToolkitInput → Type 0
Freely command = Unit {0}

-- Where a command brings such a row or such rows and applets, what holds of a step: of each smallest one, and of two that follow
-- one another.
pub record IsStepping (Brings : ToolkitInput → Type 0) (R : ToolkitState → Passed → Type 0) : Type 0 where
  pub still : (state : ToolkitState) → R state (unmoved state)
  pub joined : (state : ToolkitState) (first second : Passed) → R state first → R first.state second → R state (noting first.log second)
  pub ran : (state : ToolkitState) (trigger : LateTrigger) → IsReady state → is_idle (asks state.session) trigger.shelf ≡ true → IsRegistered state.rows trigger.shelf → IsOwn trigger.code → R state (running trigger state)
  pub given_run : (state : ToolkitState) (trigger : LateTrigger) → IsReady state → AreSuspended state → is_idle (asks state.session) trigger.shelf ≡ true → IsRegistered state.rows trigger.shelf
      → R state (noting (Given trigger ∷ []) (running trigger state))
  pub given_late : (state : ToolkitState) (trigger : LateTrigger) → IsReady state → is_idle (asks state.session) trigger.shelf ≡ false
      → R state (noting (Given trigger ∷ []) (kept_late trigger state))
  pub caught : (state : ToolkitState) (found : LateTrigger × List LateTrigger) → IsReady state → first_idle (asks state.session) state.session.late ≡ Some found
      → R state (running found.0 (with_session state (record state.session { late = found.1 })))
  pub settles : (state : ToolkitState) → IsReady state → R state (unmoved (with_next_command state))
  pub profiles : (state : ToolkitState) (bytes : List ℕ) → R state (unmoved (with_profile state bytes))
  pub reports : (state : ToolkitState) (code : ℕ) → R state (unmoved (with_session state (forgetting code state.session)))
  pub fetches : (state : ToolkitState) (out : Outstanding) → IsReady state → unfetched state.session ≡ Some out → R state (fetched out state)
  pub answers : (state : ToolkitState) (out : Outstanding) (reply : Reply) → IsReady state → unanswered state.session ≡ Some out → R state (answered out reply state)
  pub registers : (state : ToolkitState) (row : Registration) → IsAccepted (Install row) state → Brings (Install row) → R state (registering row state)
  pub unregisters : (state : ToolkitState) (shelf : ℕ) → IsReady state → is_idle (asks state.session) shelf ≡ true → R state (unregistering shelf state)
  pub wakes : (state : ToolkitState) (rows : List Registration) (minds : List (Option AppletState)) → Brings (Wake rows minds) → R state (record { state = toolkit_woken rows minds; log = Woke ∷ [] })

-- ---- one step, and what it leaves

-- the step holds, the session is in order, and the rows are those of the same shelves
pub record Moves (R : ToolkitState → Passed → Type 0) (state : ToolkitState) (passed : Passed) : Type 0 where
  pub moved : R state passed
  pub ready : IsReady passed.state
  pub shelves : shelves_of passed.state ≡ shelves_of state

run_shelves : (state : ToolkitState) (trigger : LateTrigger) → IsReady state → IsRegistered state.rows trigger.shelf → shelves_of (running trigger state).state ≡ shelves_of state
run_shelves state trigger ready registered =
    let run = run_is trigger.shelf (Event trigger.code trigger.body) false state in
    (run.placed (shelves_of state) registered (placed_now state ready)).shelves_are

told_moves : HasLaws → {Brings : ToolkitInput → Type 0} {R : ToolkitState → Passed → Type 0} → IsStepping Brings R → (trigger : LateTrigger) (state : ToolkitState) (b : Bool) → is_idle (asks state.session) trigger.shelf ≡ b
    → IsReady state → IsRegistered state.rows trigger.shelf → IsOwn trigger.code → Moves R state (told_if b trigger state)
told_moves laws is trigger state true idle ready registered own = record {
  moved = is.ran state trigger ready idle registered own;
  ready = run_ready laws.any laws.proper trigger.shelf (Event trigger.code trigger.body) state tt idle registered ready;
  shelves = run_shelves state trigger ready registered;
}
told_moves laws is trigger state false idle ready registered own = record { moved = is.still state; ready = ready; shelves = refl }

pub told_one_moves : HasLaws → {Brings : ToolkitInput → Type 0} {R : ToolkitState → Passed → Type 0} → IsStepping Brings R → (code : ℕ) (body : List ℕ) (shelf : ℕ) (state : ToolkitState)
    → IsReady state → IsRegistered state.rows shelf → IsOwn code → Moves R state (told_one code body shelf state)
unfolding told_one
told_one_moves laws is code body shelf state ready registered own = told_moves laws is (trigger_for code body shelf) state (is_idle (asks state.session) shelf) refl ready registered own

moved_registered : (state after : ToolkitState) (shelves : List ℕ) → shelves_of after ≡ shelves_of state → All (IsRegistered state.rows) shelves → All (IsRegistered after.rows) shelves
moved_registered state after shelves same = subst (λ (there : List ℕ). All (Contains there) shelves) (sym same)

-- several are told
pub told_all_move : HasLaws → {Brings : ToolkitInput → Type 0} {R : ToolkitState → Passed → Type 0} → IsStepping Brings R → (code : ℕ) (body : List ℕ) (shelves : List ℕ) (state : ToolkitState)
    → IsReady state → All (IsRegistered state.rows) shelves → IsOwn code → Moves R state (in_turn (told_one code body) shelves state)
told_all_move laws is code body [] state ready registered own = record { moved = is.still state; ready = ready; shelves = refl }
told_all_move laws is code body (shelf ∷ others) state ready registered own =
    let step = told_one code body shelf state in
    let first = told_one_moves laws is code body shelf state ready (All-head (IsRegistered state.rows) shelf others registered) own in
    let rest = told_all_move laws is code body others step.state first.ready (moved_registered state step.state others first.shelves (All-tail (IsRegistered state.rows) shelf others registered)) own in
    record {
      moved = is.joined state step (in_turn (told_one code body) others step.state) first.moved rest.moved;
      ready = rest.ready;
      shelves = rest.shelves ∙ first.shelves;
    }

-- ---- an envelope

-- so many of the shelves can be kept late
abbrev pub HasPlaces : ToolkitState → List ℕ → Type 0
HasPlaces state shelves = length state.session.late + length (suspended (asks state.session) shelves) ≤ 16

-- what is left once one of them was given its event
record Gives (R : ToolkitState → Passed → Type 0) (others : List ℕ) (state : ToolkitState) (passed : Passed) : Type 0 where
  moves : Moves R state passed
  suspends : AreSuspended passed.state
  places : HasPlaces passed.state others

idle_others : (asked : List Sent) (shelf : ℕ) (others : List ℕ) → is_idle asked shelf ≡ true → suspended asked (shelf ∷ others) ≡ suspended asked others
idle_others asked shelf others idle = ap (λ (idle : Bool). cond (not idle) (shelf ∷ suspended asked others) (suspended asked others)) idle

busy_others : (asked : List Sent) (shelf : ℕ) (others : List ℕ) → is_idle asked shelf ≡ false → suspended asked (shelf ∷ others) ≡ shelf ∷ suspended asked others
busy_others asked shelf others busy = ap (λ (idle : Bool). cond (not idle) (shelf ∷ suspended asked others) (suspended asked others)) busy

given_idle : HasLaws → {Brings : ToolkitInput → Type 0} {R : ToolkitState → Passed → Type 0} → IsStepping Brings R → (trigger : LateTrigger) (others : List ℕ) (state : ToolkitState) → is_idle (asks state.session) trigger.shelf ≡ true
    → IsReady state → AreSuspended state → IsRegistered state.rows trigger.shelf → All (λ other. trigger.shelf ≢ other) others → HasPlaces state (trigger.shelf ∷ others)
    → Gives R others state (noting (Given trigger ∷ []) (running trigger state))
given_idle laws is trigger others state idle ready suspends registered apart places =
    let after = (running trigger state).state in
    let stimulus = Event trigger.code trigger.body in
    let late : after.session.late ≡ state.session.late = run_late trigger.shelf stimulus false state in
    let still : suspended (asks after.session) others ≡ suspended (asks state.session) others =
    same_suspended (asks state.session) (asks after.session) others (All-weaker (λ other. trigger.shelf ≢ other) (λ other. is_idle (asks after.session) other ≡ is_idle (asks state.session) other) (λ other. run_idle trigger.shelf other stimulus state) others apart) in
    let fewer = idle_others (asks state.session) trigger.shelf others idle in
    record {
      moves = record {
        moved = is.given_run state trigger ready suspends idle registered;
        ready = run_ready laws.any laws.proper trigger.shelf stimulus state tt idle registered ready;
        shelves = run_shelves state trigger ready registered;
      };
      suspends = subst (All (λ trigger. is_idle (asks after.session) trigger.shelf ≡ false)) (sym late)
          (All-weaker (λ trigger. is_idle (asks state.session) trigger.shelf ≡ false) (λ trigger. is_idle (asks after.session) trigger.shelf ≡ false) (λ other. run_busy trigger.shelf other.shelf stimulus state) state.session.late suspends);
      places = omega (arith, ap length late, ap length still, ap length fewer, places);
    }

given_busy : HasLaws → {Brings : ToolkitInput → Type 0} {R : ToolkitState → Passed → Type 0} → IsStepping Brings R → (trigger : LateTrigger) (others : List ℕ) (state : ToolkitState) → is_idle (asks state.session) trigger.shelf ≡ false
    → IsReady state → AreSuspended state → IsRegistered state.rows trigger.shelf → HasPlaces state (trigger.shelf ∷ others)
    → Gives R others state (noting (Given trigger ∷ []) (kept_late trigger state))
given_busy laws is trigger others state busy ready suspends registered places =
    let after = (kept_late trigger state).state in
    let asked : asks after.session ≡ asks state.session = late_asks state.session after.session.late in
    let more = busy_others (asks state.session) trigger.shelf others busy in
    let longer : length after.session.late ≡ length state.session.late + 1 = length-append state.session.late (trigger ∷ []) in
    record {
      moves = record {
        moved = is.given_late state trigger ready busy;
        ready = kept_ready state trigger registered (omega (arith, ap length more, places)) ready;
        shelves = refl;
      };
      suspends = subst (λ (asked : List Sent). All (λ trigger. is_idle asked trigger.shelf ≡ false) after.session.late) (sym asked)
          (All-push (λ trigger. is_idle (asks state.session) trigger.shelf ≡ false) state.session.late trigger suspends busy);
      places = omega (arith, longer, ap length more, ap (λ (asked : List Sent). length (suspended asked others)) asked, places);
    }

given_either : HasLaws → {Brings : ToolkitInput → Type 0} {R : ToolkitState → Passed → Type 0} → IsStepping Brings R → (trigger : LateTrigger) (others : List ℕ) (state : ToolkitState) (b : Bool) → is_idle (asks state.session) trigger.shelf ≡ b
    → IsReady state → AreSuspended state → IsRegistered state.rows trigger.shelf → All (λ other. trigger.shelf ≢ other) others → HasPlaces state (trigger.shelf ∷ others)
    → Gives R others state (noting (Given trigger ∷ []) (given_if b trigger state))
given_either laws is trigger others state true idle ready suspends registered apart places = given_idle laws is trigger others state idle ready suspends registered apart places
given_either laws is trigger others state false busy ready suspends registered apart places = given_busy laws is trigger others state busy ready suspends registered places

given_one_moves : HasLaws → {Brings : ToolkitInput → Type 0} {R : ToolkitState → Passed → Type 0} → IsStepping Brings R → (code : ℕ) (body : List ℕ) (shelf : ℕ) (others : List ℕ) (state : ToolkitState)
    → IsReady state → AreSuspended state → IsRegistered state.rows shelf → All (λ other. shelf ≢ other) others → HasPlaces state (shelf ∷ others)
    → Gives R others state (given_one code body shelf state)
unfolding given_one
given_one_moves laws is code body shelf others state ready suspends registered apart places =
    given_either laws is (trigger_for code body shelf) others state (is_idle (asks state.session) shelf) refl ready suspends registered apart places

-- several are given it
pub record GaveAll (R : ToolkitState → Passed → Type 0) (state : ToolkitState) (passed : Passed) : Type 0 where
  pub moves : Moves R state passed
  pub suspends : AreSuspended passed.state

pub given_all_move : HasLaws → {Brings : ToolkitInput → Type 0} {R : ToolkitState → Passed → Type 0} → IsStepping Brings R → (code : ℕ) (body : List ℕ) (shelves : List ℕ) (state : ToolkitState)
    → IsReady state → AreSuspended state → All (IsRegistered state.rows) shelves → AllPairs (λ a b. a ≢ b) shelves → HasPlaces state shelves
    → GaveAll R state (in_turn (given_one code body) shelves state)
given_all_move laws is code body [] state ready suspends registered apart places =
    record { moves = record { moved = is.still state; ready = ready; shelves = refl }; suspends = suspends }
given_all_move laws is code body (shelf ∷ others) state ready suspends registered apart places =
    let step = given_one code body shelf state in
    let first = given_one_moves laws is code body shelf others state ready suspends (All-head (IsRegistered state.rows) shelf others registered) (pairs_head (λ a b. a ≢ b) shelf others apart) places in
    let rest = given_all_move laws is code body others step.state first.moves.ready first.suspends
    (moved_registered state step.state others first.moves.shelves (All-tail (IsRegistered state.rows) shelf others registered)) (pairs_tail (λ a b. a ≢ b) shelf others apart) first.places in
    record {
      moves = record {
        moved = is.joined state step (in_turn (given_one code body) others step.state) first.moves.moved rest.moves.moved;
        ready = rest.moves.ready;
        shelves = rest.moves.shelves ∙ first.moves.shelves;
      };
      suspends = rest.suspends;
    }

-- ---- driving

caught_moves : HasLaws → {Brings : ToolkitInput → Type 0} {R : ToolkitState → Passed → Type 0} → IsStepping Brings R → (state : ToolkitState) (found : LateTrigger × List LateTrigger) → first_idle (asks state.session) state.session.late ≡ Some found
    → IsReady state → IsReady (running found.0 (with_session state (record state.session { late = found.1 }))).state
caught_moves laws is state found first ready =
    let left = with_session state (record state.session { late = found.1 }) in
    let taken = taken_out (asks state.session) state.session.late found first in
    let asked : asks left.session ≡ asks state.session = late_asks state.session found.1 in
    let idle : is_idle (asks left.session) found.0.shelf ≡ true = ap (λ (asked : List Sent). is_idle asked found.0.shelf) asked ∙ taken.is_idle in
    run_ready laws.any laws.proper found.0.shelf (Event found.0.code found.0.body) left tt idle (taken.all (λ trigger. IsRegistered state.rows trigger.shelf) ready.underway.late_rows).0 (caught_ready state found first ready)

-- a step of the same kind, without what it says of shelves
pub record Drives (R : ToolkitState → Passed → Type 0) (state : ToolkitState) (passed : Passed) : Type 0 where
  pub moved : R state passed
  pub ready : IsReady passed.state

catching_moves : HasLaws → {Brings : ToolkitInput → Type 0} {R : ToolkitState → Passed → Type 0} → IsStepping Brings R → (next : ToolkitState → Passed) (state : ToolkitState) (found : Option (LateTrigger × List LateTrigger))
    → first_idle (asks state.session) state.session.late ≡ found → IsReady state → ((later : ToolkitState) → IsReady later → Drives R later (next later)) → Drives R state (catching next state found)
catching_moves laws is next state None first ready more = record { moved = is.still state; ready = ready }
catching_moves laws is next state (Some found) first ready more =
    let step = running found.0 (with_session state (record state.session { late = found.1 })) in
    let rest = more step.state (caught_moves laws is state found first ready) in
    record { moved = is.joined state step (next step.state) (is.caught state found ready first) rest.moved; ready = rest.ready }

pub caught_up_moves : HasLaws → {Brings : ToolkitInput → Type 0} {R : ToolkitState → Passed → Type 0} → IsStepping Brings R → (count : ℕ) (state : ToolkitState) → IsReady state → Drives R state (caught_up count state)
unfolding caught_up
caught_up_moves laws is zero state ready = record { moved = is.still state; ready = ready }
caught_up_moves laws is (suc count) state ready =
    catching_moves laws is (caught_up count) state (first_idle (asks state.session) state.session.late) refl ready (caught_up_moves laws is count)

pub driven_moves : HasLaws → {Brings : ToolkitInput → Type 0} {R : ToolkitState → Passed → Type 0} → IsStepping Brings R → (state : ToolkitState) → IsReady state → Drives R state (driven state)
unfolding driven
driven_moves laws is state ready =
    let first = caught_up (length state.session.late) state in
    let caught = caught_up_moves laws is (length state.session.late) state ready in
    record {
      moved = is.joined state first (unmoved (with_next_command first.state)) caught.moved (is.settles first.state caught.ready);
      ready = settled_ready laws.short first.state caught.ready;
    }

-- a step and then driving
pub and_driven : HasLaws → {Brings : ToolkitInput → Type 0} {R : ToolkitState → Passed → Type 0} → IsStepping Brings R → (state : ToolkitState) (first : Passed) → R state first → IsReady first.state → Drives R state (before first driven)
and_driven laws is state first moved ready =
    let rest = driven_moves laws is first.state ready in
    record { moved = is.joined state first (driven first.state) moved rest.moved; ready = rest.ready }

-- What holds of each smallest step holds of each command.
use Rattle.std.proofs.Common.{◌≡◌, ℕ, zero, suc, ◌+◌, ◌-◌, ◌≤◌, Bool, true, false, List, [], ◌∷◌, length, Option, Some, None, get_or, ap, arith, refl, sym, ◌∙◌, subst, inl, inr, ◌≢◌, ◌==◌, ◌&&◌, ◌||◌, nat_lt, All, AllPairs, Contains, IfSome, filter, option_map, slice_index_or, option_to_list}
use Rattle.std.proofs.lemmas.List.Elements.{All-nil, All-cons, All-head, All-tail, All-weaker, All-map, All-contains_itself, All-filter}
use Rattle.std.proofs.lemmas.List.Kept.{AllPairs-filter}
use Rattle.std.proofs.lemmas.Bool.{or_parts, cond_both, ltb-false}
use Rattle.list_laws.proofs.MapLemmas.{mapped_too}
use Rattle.list_laws.proofs.AllPairsLemmas.{pairs_nil, pairs_cons, pairs_map}
use Rattle.uicc_types.specs.declared.identifiers.Shelf.{Shelf}
use Rattle.uicc_types.specs.declared.events.TheConstants.{PROFILE_DOWNLOAD, STATUS_COMMAND, CALL_CONTROL}
use Rattle.card_state.specs.Persistent.{Registration}
use Rattle.card_state.specs.Sections.{has_text}
use Rattle.toolkit_commands.specs.declared.envelopes.Envelope.{Envelope}
use Rattle.toolkit_commands.specs.declared.envelopes.Envelope.TheVariants as Envelopes
use Rattle.toolkit_commands.specs.declared.responses.Response.{Response as Reply}
use Rattle.timer_table.specs.Timers.{Owners, owner_of}
use Rattle.applet_trait.specs.Minds.{AppletState}
use Rattle.toolkit_model.specs.Sessions.{Outstanding, Sent, LateTrigger}
use Rattle.toolkit_model.specs.Orderly.{IsRegistered, asks}
use Rattle.toolkit_model.specs.Order.{trigger_order, targets}
use Rattle.toolkit_model.specs.Registry.{item_of}
use Rattle.toolkit_model.specs.Passing.{ToolkitState, Passed, unmoved, before, in_turn}
use Rattle.toolkit_model.specs.Driving.{is_idle, with_session, given_one, driven}
use Rattle.toolkit_model.specs.Commands.{registered_told, with_profile, profiled, polled, selected, holders, triggered_by, late_places, is_busy, is_reported_once, forgetting, reported, triggered, enveloped, unfetched, fetched, unanswered, answered, responded, registering, installed, unregistering, delete_carried, toolkit_woken}
use Rattle.toolkit_model.specs.Steps.{AreRows, ToolkitInput, Profile, Status, Report, Fetch, Respond, Install, Delete, Wake, IsAccepted, moved, AreAccepted, moved_by}
use Rattle.toolkit_model.proofs.AreRowsLemmas.{apart_of}
use Rattle.toolkit_model.proofs.TriggerOrderLemmas.{order_is_exact}
use Rattle.toolkit_model.proofs.RunOfRowLemmas.{IsReady}
use Rattle.toolkit_model.proofs.FilledLemmas.{WaitsBehind}
use Rattle.toolkit_model.proofs.AsksLemmas.{suspended}
use Rattle.toolkit_model.proofs.CommandsLemmas.{profile_ready, forgetting_ready, fetched_ready, fetched_asks, answered_ready, registering_ready, unregistering_ready, woken_ready}
use Rattle.toolkit_model.proofs.DrivingLemmas.{HasLaws, Freely, IsStepping, AreSuspended, HasPlaces, told_all_move, given_all_move, Drives, and_driven}
use Rattle.toolkit_model.proofs.DrivenLemmas.{driven_suspends, driven_behind}

-- ---- whom a command triggers: rows, each once

pub record AreTargets (rows : List Registration) (shelves : List ℕ) : Type 0 where
  pub registered : All (IsRegistered rows) shelves
  pub apart : AllPairs (λ a b. a ≢ b) shelves

pub ordered_targets : (rows : List Registration) (code : ℕ) → AreRows rows → AreTargets rows (targets rows code)
ordered_targets rows code are =
    let order = order_is_exact rows code are in
    record {
      registered = All-map (IsRegistered rows) (λ row. row.shelf) (trigger_order rows code)
          (All-weaker (Contains (trigger_order rows code)) (λ row. IsRegistered rows row.shelf) (λ row there. mapped_too (λ row. row.shelf) rows row (order.registered row there).0) (trigger_order rows code) (All-contains_itself (trigger_order rows code)));
      apart = pairs_map (λ a b. a ≢ b) (λ row. row.shelf) (trigger_order rows code) order.once;
    }

selected_targets : (rows : List Registration) (item : ℕ) → AreRows rows → AreTargets rows (selected rows item)
selected_targets rows item are =
    let chosen_one : Registration → Bool = λ row. has_text row && (item_of row).id == item in
    record {
      registered = All-map (IsRegistered rows) (λ row. row.shelf) (filter chosen_one rows)
          (All-filter chosen_one (λ row. IsRegistered rows row.shelf) rows (All-weaker (Contains rows) (λ row. IsRegistered rows row.shelf) (mapped_too (λ row. row.shelf) rows) rows (All-contains_itself rows)));
      apart = pairs_map (λ a b. a ≢ b) (λ row. row.shelf) (filter chosen_one rows) (AllPairs-filter (λ a b. a.shelf ≢ b.shelf) chosen_one rows (apart_of rows are));
    }

held_at : {X : Type 0} (P : X → Type 0) (found : List (Option X)) (place : ℕ) → All (λ one. IfSome one P) found → IfSome (get_or found place None) P
held_at P [] place all = tt
held_at P (one ∷ others) zero all = All-head (λ one. IfSome one P) one others all
held_at P (one ∷ others) (suc place) all = held_at P others place (All-tail (λ one. IfSome one P) one others all)

one_target : (rows : List Registration) (held : Option Shelf) → IfSome held (λ shelf. IsRegistered rows shelf.0) → AreTargets rows (option_to_list (option_map (λ shelf. shelf.0) held))
one_target rows None there = record { registered = All-nil (IsRegistered rows); apart = pairs_nil (λ a b. a ≢ b) }
one_target rows (Some shelf) there = record {
  registered = All-cons (IsRegistered rows) shelf.0 [] there (All-nil (IsRegistered rows));
  apart = pairs_cons (λ a b. a ≢ b) shelf.0 [] (All-nil (λ other. shelf.0 ≢ other)) (pairs_nil (λ a b. a ≢ b));
}

holder_targets : (rows : List Registration) (timers : Owners) (timer : ℕ) → All (λ owner. IfSome owner (λ shelf. IsRegistered rows shelf.0)) timers → AreTargets rows (holders timers timer)
holder_targets rows timers timer owners =
    one_target rows (owner_of timers timer)
    (cond_both (timer == 0) None (slice_index_or timers (timer - 1) None) (λ (held : Option Shelf). IfSome held (λ shelf. IsRegistered rows shelf.0)) (λ h. tt) (λ h. held_at (λ shelf. IsRegistered rows shelf.0) timers (timer - 1) owners))

pub triggered_targets : (envelope : Envelope) (state : ToolkitState) → IsReady state → AreTargets state.rows (triggered_by envelope state).shelves
triggered_targets (Envelopes.Menu item) state ready = selected_targets state.rows item ready.rows_are
triggered_targets (Envelopes.CallControl address) state ready = ordered_targets state.rows CALL_CONTROL ready.rows_are
triggered_targets (Envelopes.Event code body) state ready = ordered_targets state.rows code ready.rows_are
triggered_targets (Envelopes.Timer timer) state ready = holder_targets state.rows state.session.timers timer ready.underway.timers

-- ---- a reported event

-- the same rows, the same that ask, the same that came late, the same applets
pub record AsBefore (state after : ToolkitState) : Type 0 where
  pub rows : after.rows ≡ state.rows
  pub asked : asks after.session ≡ asks state.session
  pub late : after.session.late ≡ state.session.late
  pub minds : after.minds ≡ state.minds

forgetting_asks : (state : ToolkitState) (code : ℕ) → asks (forgetting code state.session) ≡ asks state.session
unfolding asks
forgetting_asks state code = refl

pub reported_before : (envelope : Envelope) (state : ToolkitState) → AsBefore state (reported envelope state)
reported_before (Envelopes.Event code body) state =
    cond_both (is_reported_once code) (with_session state (forgetting code state.session)) state (AsBefore state)
    (λ h. record { rows = refl; asked = forgetting_asks state code; late = refl; minds = refl })
    (λ h. record { rows = refl; asked = refl; late = refl; minds = refl })
reported_before (Envelopes.Menu item) state = record { rows = refl; asked = refl; late = refl; minds = refl }
reported_before (Envelopes.CallControl address) state = record { rows = refl; asked = refl; late = refl; minds = refl }
reported_before (Envelopes.Timer timer) state = record { rows = refl; asked = refl; late = refl; minds = refl }

reported_moves : {Brings : ToolkitInput → Type 0} {R : ToolkitState → Passed → Type 0} → IsStepping Brings R → (envelope : Envelope) (state : ToolkitState) → IsReady state → Drives R state (unmoved (reported envelope state))
reported_moves {R} is (Envelopes.Event code body) state ready =
    cond_both (is_reported_once code) (with_session state (forgetting code state.session)) state (λ (after : ToolkitState). Drives R state (unmoved after))
    (λ h. record { moved = is.reports state code; ready = forgetting_ready state code ready })
    (λ h. record { moved = is.still state; ready = ready })
reported_moves is (Envelopes.Menu item) state ready = record { moved = is.still state; ready = ready }
reported_moves is (Envelopes.CallControl address) state ready = record { moved = is.still state; ready = ready }
reported_moves is (Envelopes.Timer timer) state ready = record { moved = is.still state; ready = ready }

not_more : (places late busy : ℕ) (other : Bool) → late ≤ places → (nat_lt (places - late) busy || other) ≡ false → late + busy ≤ places
not_more places late busy other few is =
    let free : busy ≤ places - late = ltb-false (places - late) busy (or_parts (nat_lt (places - late) busy) other is).0 in
    omega arith

-- ---- each command

-- the session is in order, also between two commands
pub record IsGood (state : ToolkitState) : Type 0 where
  pub ready : IsReady state
  pub suspends : AreSuspended state
  pub behind : WaitsBehind state.session

triggered_moves : HasLaws → {Brings : ToolkitInput → Type 0} {R : ToolkitState → Passed → Type 0} → IsStepping Brings R → (envelope : Envelope) (state : ToolkitState) → is_busy envelope state ≡ false → IsGood state
    → Drives R state (triggered envelope state)
unfolding triggered
triggered_moves laws is envelope state free good =
    let trigger = triggered_by envelope state in
    let start = reported envelope state in
    let same = reported_before envelope state in
    let first = reported_moves is envelope state good.ready in
    let targets = triggered_targets envelope state good.ready in
    let suspends : AreSuspended start =
    subst (λ (asked : List Sent). All (λ trigger. is_idle asked trigger.shelf ≡ false) start.session.late) (sym same.asked)
    (subst (All (λ (trigger : LateTrigger). is_idle (asks state.session) trigger.shelf ≡ false)) (sym same.late) good.suspends) in
    let registered : All (IsRegistered start.rows) trigger.shelves = subst (λ (rows : List Registration). All (IsRegistered rows) trigger.shelves) (sym same.rows) targets.registered in
    let room : length state.session.late + length (suspended (asks state.session) trigger.shelves) ≤ 16 =
    not_more late_places (length state.session.late) (length (suspended (asks state.session) trigger.shelves)) _ good.ready.underway.few_late free in
    let places : HasPlaces start trigger.shelves = omega (arith, ap length same.late, ap (λ (asked : List Sent). length (suspended asked trigger.shelves)) same.asked, room) in
    let rest = given_all_move laws is trigger.code trigger.body trigger.shelves start first.ready suspends registered targets.apart places in
    record {
      moved = is.joined state (unmoved start) (in_turn (given_one trigger.code trigger.body) trigger.shelves start) first.moved rest.moves.moved;
      ready = rest.moves.ready;
    }

-- an idle applet has nothing late
pub nothing_late : (state : ToolkitState) (shelf : ℕ) → is_idle (asks state.session) shelf ≡ true → AreSuspended state → All (λ trigger. trigger.shelf ≢ shelf) state.session.late
nothing_late state shelf idle suspends =
    All-weaker (λ trigger. is_idle (asks state.session) trigger.shelf ≡ false) (λ trigger. trigger.shelf ≢ shelf)
    (λ trigger busy same. cc (sym busy ∙ ap (is_idle (asks state.session)) same ∙ idle)) state.session.late suspends

profiled_moves : HasLaws → {Brings : ToolkitInput → Type 0} {R : ToolkitState → Passed → Type 0} → IsStepping Brings R → (bytes : List ℕ) (state : ToolkitState) → IsReady state → Drives R state (profiled bytes state)
unfolding profiled
profiled_moves laws is bytes state ready =
    let start = with_profile state bytes in
    let now = profile_ready state bytes ready in
    let all = told_all_move laws is PROFILE_DOWNLOAD bytes (targets start.rows PROFILE_DOWNLOAD) start now (ordered_targets start.rows PROFILE_DOWNLOAD now.rows_are).registered (inl refl) in
    let first = registered_told PROFILE_DOWNLOAD bytes start in
    let rest = and_driven laws is start first all.moved all.ready in
    record { moved = is.joined state (unmoved start) (before first driven) (is.profiles state bytes) rest.moved; ready = rest.ready }

polled_moves : HasLaws → {Brings : ToolkitInput → Type 0} {R : ToolkitState → Passed → Type 0} → IsStepping Brings R → (state : ToolkitState) → IsReady state → Drives R state (polled state)
unfolding polled
polled_moves laws is state ready =
    let all = told_all_move laws is STATUS_COMMAND [] (targets state.rows STATUS_COMMAND) state ready (ordered_targets state.rows STATUS_COMMAND ready.rows_are).registered (inr refl) in
    and_driven laws is state (registered_told STATUS_COMMAND [] state) all.moved all.ready

enveloped_moves : HasLaws → {Brings : ToolkitInput → Type 0} {R : ToolkitState → Passed → Type 0} → IsStepping Brings R → (envelope : Envelope) (state : ToolkitState) → is_busy envelope state ≡ false → IsGood state → Drives R state (enveloped envelope state)
unfolding enveloped
enveloped_moves laws is envelope state free good =
    let first = triggered_moves laws is envelope state free good in
    and_driven laws is state (triggered envelope state) first.moved first.ready

responded_moves : HasLaws → {Brings : ToolkitInput → Type 0} {R : ToolkitState → Passed → Type 0} → IsStepping Brings R → (out : Outstanding) (reply : Reply) (state : ToolkitState) → unanswered state.session ≡ Some out → IsReady state → Drives R state (responded out reply state)
unfolding responded
responded_moves laws is out reply state held ready =
    and_driven laws is state (answered out reply state) (is.answers state out reply ready held) (answered_ready laws.any laws.proper state out reply held ready)

installed_moves : HasLaws → {Brings : ToolkitInput → Type 0} {R : ToolkitState → Passed → Type 0} → IsStepping Brings R → (row : Registration) (state : ToolkitState) → IsAccepted (Install row) state → Brings (Install row) → IsReady state → Drives R state (installed row state)
unfolding installed
installed_moves laws is row state accepted brings ready = and_driven laws is state (registering row state) (is.registers state row accepted brings) (registering_ready row state accepted.0 accepted.1 ready)

deleted_moves : HasLaws → {Brings : ToolkitInput → Type 0} {R : ToolkitState → Passed → Type 0} → IsStepping Brings R → (shelf : ℕ) (state : ToolkitState) → is_idle (asks state.session) shelf ≡ true → IsGood state → Drives R state (delete_carried shelf state)
unfolding delete_carried
deleted_moves laws is shelf state idle good =
    and_driven laws is state (unregistering shelf state) (is.unregisters state shelf good.ready idle) (unregistering_ready shelf state idle (nothing_late state shelf idle good.suspends) good.ready)

pub command_moves : HasLaws → {Brings : ToolkitInput → Type 0} {R : ToolkitState → Passed → Type 0} → IsStepping Brings R → (command : ToolkitInput) (state : ToolkitState) → IsAccepted command state → Brings command → IsGood state → Drives R state (moved command state)
command_moves laws is (Profile bytes) state accepted brings good = profiled_moves laws is bytes state good.ready
command_moves laws is Status state accepted brings good = polled_moves laws is state good.ready
command_moves laws is (Report envelope) state accepted brings good = enveloped_moves laws is envelope state accepted good
command_moves laws is (Fetch out) state accepted brings good = record { moved = is.fetches state out good.ready accepted; ready = fetched_ready state out accepted good.ready }
command_moves laws is (Respond out reply) state accepted brings good = responded_moves laws is out reply state accepted good.ready
command_moves laws is (Install row) state accepted brings good = installed_moves laws is row state accepted brings good.ready
command_moves laws is (Delete shelf) state accepted brings good = deleted_moves laws is shelf state accepted.1 good
command_moves laws is (Wake rows minds) state accepted brings good = record { moved = is.wakes state rows minds brings; ready = woken_ready rows minds accepted.0 accepted.1 }

-- ---- a session in order stays so

abbrev pub Anything : ToolkitState → Passed → Type 0
Anything state passed = Unit {0}

pub anything : IsStepping Freely Anything
anything = record {
  still = λ state. tt;
  joined = λ state first second one other. tt;
  ran = λ state trigger ready idle there own. tt;
  given_run = λ state trigger ready suspends idle there. tt;
  given_late = λ state trigger ready busy. tt;
  caught = λ state found ready first. tt;
  settles = λ state ready. tt;
  profiles = λ state bytes. tt;
  reports = λ state code. tt;
  fetches = λ state out ready is. tt;
  answers = λ state out reply ready is. tt;
  registers = λ state row accepted free. tt;
  unregisters = λ state shelf ready idle. tt;
  wakes = λ state rows minds free. tt;
}

-- a command that ends in driving
after_driving : (first : Passed) → IsReady (before first driven).state → IsGood (before first driven).state
after_driving first ready = record { ready = ready; suspends = driven_suspends first.state; behind = driven_behind first.state }

profiled_good : (bytes : List ℕ) (state : ToolkitState) → IsReady (profiled bytes state).state → IsGood (profiled bytes state).state
unfolding profiled
profiled_good bytes state ready = after_driving (registered_told PROFILE_DOWNLOAD bytes (with_profile state bytes)) ready

polled_good : (state : ToolkitState) → IsReady (polled state).state → IsGood (polled state).state
unfolding polled
polled_good state ready = after_driving (registered_told STATUS_COMMAND [] state) ready

enveloped_good : (envelope : Envelope) (state : ToolkitState) → IsReady (enveloped envelope state).state → IsGood (enveloped envelope state).state
unfolding enveloped
enveloped_good envelope state ready = after_driving (triggered envelope state) ready

responded_good : (out : Outstanding) (reply : Reply) (state : ToolkitState) → IsReady (responded out reply state).state → IsGood (responded out reply state).state
unfolding responded
responded_good out reply state ready = after_driving (answered out reply state) ready

installed_good : (row : Registration) (state : ToolkitState) → IsReady (installed row state).state → IsGood (installed row state).state
unfolding installed
installed_good row state ready = after_driving (registering row state) ready

deleted_good : (shelf : ℕ) (state : ToolkitState) → IsReady (delete_carried shelf state).state → IsGood (delete_carried shelf state).state
unfolding delete_carried
deleted_good shelf state ready = after_driving (unregistering shelf state) ready

fetched_late : (out : Outstanding) (state : ToolkitState) → (fetched out state).state.session.late ≡ state.session.late
unfolding fetched
fetched_late out state = refl

fetched_behind : (out : Outstanding) (state : ToolkitState) → WaitsBehind (fetched out state).state.session
unfolding fetched
fetched_behind out state = λ none. cc

fetched_good : (out : Outstanding) (state : ToolkitState) → unfetched state.session ≡ Some out → IsGood state → IsReady (fetched out state).state → IsGood (fetched out state).state
fetched_good out state is good ready = record {
  ready = ready;
  suspends = subst (λ (asked : List Sent). All (λ trigger. is_idle asked trigger.shelf ≡ false) (fetched out state).state.session.late) (sym (fetched_asks state out is))
      (subst (All (λ (trigger : LateTrigger). is_idle (asks state.session) trigger.shelf ≡ false)) (sym (fetched_late out state)) good.suspends);
  behind = fetched_behind out state;
}

woken_good : (rows : List Registration) (minds : List (Option AppletState)) → IsReady (toolkit_woken rows minds) → IsGood (toolkit_woken rows minds)
unfolding toolkit_woken
woken_good rows minds ready = record { ready = ready; suspends = All-nil (λ trigger. is_idle (asks (toolkit_woken rows minds).session) trigger.shelf ≡ false); behind = λ none. refl }

good_if_ready : (command : ToolkitInput) (state : ToolkitState) → IsAccepted command state → IsGood state → IsReady (moved command state).state → IsGood (moved command state).state
good_if_ready (Profile bytes) state accepted good ready = profiled_good bytes state ready
good_if_ready Status state accepted good ready = polled_good state ready
good_if_ready (Report envelope) state accepted good ready = enveloped_good envelope state ready
good_if_ready (Fetch out) state accepted good ready = fetched_good out state accepted good ready
good_if_ready (Respond out reply) state accepted good ready = responded_good out reply state ready
good_if_ready (Install row) state accepted good ready = installed_good row state ready
good_if_ready (Delete shelf) state accepted good ready = deleted_good shelf state ready
good_if_ready (Wake rows minds) state accepted good ready = woken_good rows minds ready

pub stays_good : HasLaws → (command : ToolkitInput) (state : ToolkitState) → IsAccepted command state → IsGood state → IsGood (moved command state).state
stays_good laws command state accepted good = good_if_ready command state accepted good (command_moves laws anything command state accepted tt good).ready

-- ---- several commands

pub record Run (R : ToolkitState → Passed → Type 0) (state : ToolkitState) (passed : Passed) : Type 0 where
  pub moved : R state passed
  pub good : IsGood passed.state

pub commands_move : HasLaws → {R : ToolkitState → Passed → Type 0} → IsStepping Freely R → (commands : List ToolkitInput) (state : ToolkitState) → AreAccepted commands state → IsGood state → Run R state (moved_by commands state)
commands_move laws is [] state accepted good = record { moved = is.still state; good = good }
commands_move laws is (command ∷ others) state accepted good =
    let step = moved command state in
    let now = stays_good laws command state accepted.0 good in
    let rest = commands_move laws is others step.state accepted.1 now in
    record { moved = is.joined state step (moved_by others step.state) (command_moves laws is command state accepted.0 tt good).moved rest.moved; good = rest.good }

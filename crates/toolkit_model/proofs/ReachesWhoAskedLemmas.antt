-- A response reaches the applet that asked, step by step.
use Rattle.std.proofs.Common.{◌≡◌, ℕ, map, ◌⊎◌, inl, inr, Bool, true, false, cond, List, [], ◌∷◌, ◌++◌, Option, Some, None, ap, refl, sym, ◌∙◌, subst, ⊎_elim, ◌≢◌, ◌==◌, All, IfSome, is_some}
use Rattle.std.proofs.lemmas.Bool.{cases_eq, ne_eqb, eq-eqb}
use Rattle.std.proofs.lemmas.List.Elements.{All-head, All-tail, All-contains}
use Rattle.card_state.specs.Persistent.{Registration}
use Rattle.toolkit_commands.specs.declared.commands.Proactive.{Proactive}
use Rattle.toolkit_commands.specs.declared.responses.Response.{Response as Reply}
use Rattle.timer_table.specs.Timers.{Owners}
use Rattle.applet_trait.specs.declared.stimuli.Stimulus.{Stimulus}
use Rattle.applet_trait.specs.declared.stimuli.Stimulus.TheVariants.{Event, Response, Went, Refused, Timer}
use Rattle.applet_trait.specs.declared.stimuli.Act.{Act}
use Rattle.applet_trait.specs.declared.stimuli.Act.TheVariants.{Send}
use Rattle.applet_trait.specs.Minds.{AppletState}
use Rattle.toolkit_model.specs.Sessions.{Outstanding, Sent, LateTrigger, SessionState}
use Rattle.toolkit_model.specs.Orderly.{IsRegistered, sent_by, asks}
use Rattle.toolkit_model.specs.Passing.{ToolkitState, ShelfTurn, Happening, Woke, Fetched, Responded, Given, Turned, Committed, Passed}
use Rattle.toolkit_model.specs.Running.{run_of_row, sending}
use Rattle.toolkit_model.specs.Driving.{is_idle, with_session, running, first_idle}
use Rattle.toolkit_model.specs.Commands.{with_profile, unanswered, fetched, resumed, with_nothing_out, answered, unregistering, toolkit_woken}
use Rattle.toolkit_model.specs.Steps.{HasMind, ToolkitInput, AreAccepted, moved_by}
use Rattle.toolkit_model.specs.OrderlySessions.{IsInOrder}
use Rattle.toolkit_model.specs.Turns.{IsInner, IsCommit}
use Rattle.toolkit_model.specs.Awaiting.{Awaits, Nothing, Answer, Telling, awaited, IsNoResponse, IsTold, asked_by, awaits_after, OnTurn, OnReply, is_owner, ReachesWhoAsked}
use Rattle.toolkit_model.proofs.RunOnLemmas.{IsOfRuns}
use Rattle.toolkit_model.proofs.RunOfRowLemmas.{IsReady, run_is, idle_all, asks_more, asks_same}
use Rattle.toolkit_model.proofs.LateTriggerLemmas.{taken_out, late_asks}
use Rattle.toolkit_model.proofs.FilledLemmas.{settled_asks}
use Rattle.toolkit_model.proofs.CommandsLemmas.{reply_out, asks_of_profile, asks_forgetting, asks_out, asks_nothing_out, asks_put_out, asks_fresh, fetched_asks, owner_apart}
use Rattle.toolkit_model.proofs.DrivingLemmas.{HasLaws, Freely, IsStepping}
use Rattle.toolkit_model.proofs.MovedByLemmas.{commands_move}
use Rattle.toolkit_model.proofs.IsInOrderLemmas.{good_from}

-- ---- what is noted, part by part

on_turn : (b : Bool) (turn : ShelfTurn) (held : Awaits) (P Q : Awaits → Type 0) → ((later : Awaits) → P later → Q later) → OnTurn b turn held P → OnTurn b turn held Q
on_turn true turn held P Q more here = (here.0, more (awaits_after turn) here.1)
on_turn false turn held P Q more here = more held here

on_reply : (b : Bool) (out : Outstanding) (reply : Reply) (held : Awaits) (P Q : Awaits → Type 0) → ((later : Awaits) → P later → Q later) → OnReply b out reply held P → OnReply b out reply held Q
on_reply true out reply held P Q more here = (here.0, more (Telling reply) here.1)
on_reply false out reply held P Q more here = more held here

reaches_join : (shelf : ℕ) (held mid now : Awaits) (log more : List Happening) → ReachesWhoAsked shelf held log mid → ReachesWhoAsked shelf mid more now → ReachesWhoAsked shelf held (log ++ more) now
reaches_join shelf held mid now [] more first second = subst (λ (held : Awaits). ReachesWhoAsked shelf held more now) (sym first) second
reaches_join shelf held mid now (Woke ∷ log) more first second = reaches_join shelf Nothing mid now log more first second
reaches_join shelf held mid now (Responded out reply ∷ log) more first second =
    on_reply (is_owner shelf out.owner) out reply held (λ later. ReachesWhoAsked shelf later log mid) (λ later. ReachesWhoAsked shelf later (log ++ more) now) (λ later part. reaches_join shelf later mid now log more part second) first
reaches_join shelf held mid now (Turned turn ∷ log) more first second =
    on_turn (turn.shelf == shelf) turn held (λ later. ReachesWhoAsked shelf later log mid) (λ later. ReachesWhoAsked shelf later (log ++ more) now) (λ later part. reaches_join shelf later mid now log more part second) first
reaches_join shelf held mid now (Fetched out ∷ log) more first second = reaches_join shelf held mid now log more first second
reaches_join shelf held mid now (Given trigger ∷ log) more first second = reaches_join shelf held mid now log more first second
reaches_join shelf held mid now (Committed change rows ∷ log) more first second = reaches_join shelf held mid now log more first second

after_commit : (shelf : ℕ) (held now : Awaits) (commit log : List Happening) → IsCommit commit → ReachesWhoAsked shelf held log now → ReachesWhoAsked shelf held (commit ++ log) now
after_commit shelf held now [] log is rest = rest
after_commit shelf held now (Committed change rows ∷ []) log is rest = rest
after_commit shelf held now (Committed change rows ∷ more ∷ others) log is rest = absurd is
after_commit shelf held now (Woke ∷ others) log is rest = absurd is
after_commit shelf held now (Fetched out ∷ others) log is rest = absurd is
after_commit shelf held now (Responded out reply ∷ others) log is rest = absurd is
after_commit shelf held now (Given trigger ∷ others) log is rest = absurd is
after_commit shelf held now (Turned turn ∷ others) log is rest = absurd is

-- ---- runs of another applet

on_other : (b : Bool) (turn : ShelfTurn) (held : Awaits) (P : Awaits → Type 0) → b ≡ false → P held → OnTurn b turn held P
on_other true turn held P is here = cc
on_other false turn held P is here = here

on_own : (b : Bool) (turn : ShelfTurn) (held : Awaits) (P : Awaits → Type 0) → b ≡ true → IsTold held turn.stimulus → P (awaits_after turn) → OnTurn b turn held P
on_own true turn held P is told here = (told, here)
on_own false turn held P is told here = cc

abbrev IsQuietFor : ℕ → Stimulus → Option Proactive → List Happening → Type 0
IsQuietFor shelf stimulus sent log = (held : Awaits) → ReachesWhoAsked shelf held log held

quiet_runs : (runner shelf : ℕ) → (runner == shelf) ≡ false → IsOfRuns runner (IsQuietFor shelf)
quiet_runs runner shelf other = record {
  broken = λ stimulus held. refl;
  ended = λ stimulus does sent known held. on_other (runner == shelf) (record { shelf = runner; stimulus = stimulus; act = does; is_admitted = is_some sent }) held (λ later. ReachesWhoAsked shelf later [] held) other refl;
  gone_on = λ stimulus next does sent commit log inner is rest held.
      on_other (runner == shelf) (record { shelf = runner; stimulus = stimulus; act = does; is_admitted = false }) held (λ later. ReachesWhoAsked shelf later (commit ++ log) held) other
      (after_commit shelf held held commit log is (rest held));
}

-- ---- runs of the applet itself

abbrev awaits_sent : Option Proactive → Awaits
awaits_sent None = Nothing
awaits_sent (Some command) = Answer command

abbrev IsToldFor : ℕ → Stimulus → Option Proactive → List Happening → Type 0
IsToldFor shelf stimulus sent log = (held : Awaits) → IsTold held stimulus → (ReachesWhoAsked shelf held log (awaits_sent sent)) ⊎ ((log ≡ []) × (sent ≡ None))

inner_no_response : (stimulus : Stimulus) → IsInner stimulus → IsNoResponse stimulus
inner_no_response (Event code body) inner = absurd inner
inner_no_response (Response result item text) inner = absurd inner
inner_no_response Went inner = tt
inner_no_response Refused inner = tt
inner_no_response (Timer timer) inner = tt

sent_awaits : (does : Act) (sent : Option Proactive) → IfSome sent (λ command. does ≡ Send command) → cond (is_some sent) (asked_by does) Nothing ≡ awaits_sent sent
sent_awaits does None known = refl
sent_awaits does (Some command) known = ap asked_by known

either_reaches : (shelf : ℕ) (sent : Option Proactive) (log : List Happening) → (ReachesWhoAsked shelf Nothing log (awaits_sent sent)) ⊎ ((log ≡ []) × (sent ≡ None)) → ReachesWhoAsked shelf Nothing log (awaits_sent sent)
either_reaches shelf sent log (inl there) = there
either_reaches shelf sent log (inr both) =
    subst (λ (log : List Happening). ReachesWhoAsked shelf Nothing log (awaits_sent sent)) (sym both.0) (sym (ap awaits_sent both.1))

own_runs : (shelf : ℕ) → IsOfRuns shelf (IsToldFor shelf)
own_runs shelf = record {
  broken = λ stimulus held told. inr (refl, refl);
  ended = λ stimulus does sent known held told.
      let turn : ShelfTurn = record { shelf = shelf; stimulus = stimulus; act = does; is_admitted = is_some sent } in
      inl (on_own (shelf == shelf) turn held (λ later. ReachesWhoAsked shelf later [] (awaits_sent sent)) (eq-eqb shelf shelf refl) told (sent_awaits does sent known));
  gone_on = λ stimulus next does sent commit log inner is rest held told.
      let turn : ShelfTurn = record { shelf = shelf; stimulus = stimulus; act = does; is_admitted = false } in
      inl (on_own (shelf == shelf) turn held (λ later. ReachesWhoAsked shelf later (commit ++ log) (awaits_sent sent)) (eq-eqb shelf shelf refl) told
      (after_commit shelf Nothing (awaits_sent sent) commit log is (either_reaches shelf sent log (rest Nothing (inner_no_response next inner)))));
}

-- ---- who asks

awaited_other : (shelf : ℕ) (asked : List Sent) (sent : Sent) → (sent.shelf == shelf) ≡ false → awaited shelf (asked ++ sent ∷ []) ≡ awaited shelf asked
awaited_other shelf [] sent other = ap (λ (b : Bool). cond b (Answer sent.command) Nothing) other
awaited_other shelf (first ∷ others) sent other = ap (λ (rest : Awaits). cond (first.shelf == shelf) (Answer first.command) rest) (awaited_other shelf others sent other)

awaited_apart : (shelf : ℕ) (asked : List Sent) → All (λ sent. sent.shelf ≢ shelf) asked → awaited shelf asked ≡ Nothing
awaited_apart shelf [] apart = refl
awaited_apart shelf (sent ∷ others) apart =
    ap (λ (b : Bool). cond b (Answer sent.command) (awaited shelf others)) (ne_eqb sent.shelf shelf (All-head (λ sent. sent.shelf ≢ shelf) sent others apart))
    ∙ awaited_apart shelf others (All-tail (λ sent. sent.shelf ≢ shelf) sent others apart)

awaited_new : (shelf : ℕ) (asked : List Sent) (command : Proactive) → All (λ sent. sent.shelf ≢ shelf) asked → awaited shelf (asked ++ record { shelf = shelf; command = command } ∷ []) ≡ Answer command
awaited_new shelf [] command apart = ap (λ (b : Bool). cond b (Answer command) Nothing) (eq-eqb shelf shelf refl)
awaited_new shelf (sent ∷ others) command apart =
    ap (λ (b : Bool). cond b (Answer sent.command) (awaited shelf (others ++ record { shelf = shelf; command = command } ∷ []))) (ne_eqb sent.shelf shelf (All-head (λ sent. sent.shelf ≢ shelf) sent others apart))
    ∙ awaited_new shelf others command (All-tail (λ sent. sent.shelf ≢ shelf) sent others apart)

awaited_first : (shelf : ℕ) (command : Proactive) (waiting : List Sent) → awaited shelf (record { shelf = shelf; command = command } ∷ waiting) ≡ Answer command
awaited_first shelf command waiting = ap (λ (b : Bool). cond b (Answer command) (awaited shelf waiting)) (eq-eqb shelf shelf refl)

awaited_behind : (shelf owner : ℕ) (command : Proactive) (waiting : List Sent) → (owner == shelf) ≡ false → awaited shelf (record { shelf = owner; command = command } ∷ waiting) ≡ awaited shelf waiting
awaited_behind shelf owner command waiting other = ap (λ (b : Bool). cond b (Answer command) (awaited shelf waiting)) other

abbrev now_awaited : ℕ → ToolkitState → Awaits
now_awaited shelf state = awaited shelf (asks state.session)

abbrev Reaches : ℕ → ToolkitState → Passed → Type 0
Reaches shelf state passed = ReachesWhoAsked shelf (now_awaited shelf state) passed.log (now_awaited shelf passed.state)

sent_other : (shelf runner : ℕ) (session : SessionState) (timers : Owners) (sent : Option Proactive) → (runner == shelf) ≡ false
    → awaited shelf (asks (sending runner false sent (record session { timers = timers }))) ≡ awaited shelf (asks session)
sent_other shelf runner session timers None other = ap (awaited shelf) (asks_same session timers)
sent_other shelf runner session timers (Some command) other =
    ap (awaited shelf) (asks_more session timers runner command) ∙ awaited_other shelf (asks session) (record { shelf = runner; command = command }) other

sent_own : (shelf : ℕ) (session : SessionState) (timers : Owners) (sent : Option Proactive) → All (λ sent. sent.shelf ≢ shelf) (asks session)
    → awaited shelf (asks (sending shelf false sent (record session { timers = timers }))) ≡ awaits_sent sent
sent_own shelf session timers None apart = ap (awaited shelf) (asks_same session timers) ∙ awaited_apart shelf (asks session) apart
sent_own shelf session timers (Some command) apart = ap (awaited shelf) (asks_more session timers shelf command) ∙ awaited_new shelf (asks session) command apart

begun : (shelf : ℕ) (held : Awaits) (sent : Option Proactive) (log : List Happening) → (log ≡ [] → ⊥) → (ReachesWhoAsked shelf held log (awaits_sent sent)) ⊎ ((log ≡ []) × (sent ≡ None)) → ReachesWhoAsked shelf held log (awaits_sent sent)
begun shelf held sent log some (inl there) = there
begun shelf held sent log some (inr none) = absurd (some none.0)

run_other : (shelf runner : ℕ) (stimulus : Stimulus) (state : ToolkitState) → (runner == shelf) ≡ false → Reaches shelf state (run_of_row runner stimulus false state)
run_other shelf runner stimulus state other =
    let run = run_is runner stimulus false state in
    let passed = run_of_row runner stimulus false state in
    let same : now_awaited shelf passed.state ≡ now_awaited shelf state = ap (λ (session : SessionState). awaited shelf (asks session)) run.session_is ∙ sent_other shelf runner state.session run.timers run.sent other in
    subst (ReachesWhoAsked shelf (now_awaited shelf state) passed.log) (sym same) (run.noted (IsQuietFor shelf) (quiet_runs runner shelf other) (now_awaited shelf state))

run_own : (shelf : ℕ) (stimulus : Stimulus) (state : ToolkitState) → HasMind state.minds shelf → IsNoResponse stimulus → is_idle (asks state.session) shelf ≡ true → Reaches shelf state (run_of_row shelf stimulus false state)
run_own shelf stimulus state has no_response idle =
    let run = run_is shelf stimulus false state in
    let passed = run_of_row shelf stimulus false state in
    let apart = idle_all (asks state.session) shelf idle in
    let same : now_awaited shelf passed.state ≡ awaits_sent run.sent = ap (λ (session : SessionState). awaited shelf (asks session)) run.session_is ∙ sent_own shelf state.session run.timers run.sent apart in
    subst (λ (held : Awaits). ReachesWhoAsked shelf held passed.log (now_awaited shelf passed.state)) (sym (awaited_apart shelf (asks state.session) apart))
    (subst (ReachesWhoAsked shelf Nothing passed.log) (sym same) (begun shelf Nothing run.sent passed.log (run.begins has) (run.noted (IsToldFor shelf) (own_runs shelf) Nothing no_response)))

run_reaches : (shelf : ℕ) (trigger : LateTrigger) (state : ToolkitState) → HasMind state.minds trigger.shelf → is_idle (asks state.session) trigger.shelf ≡ true → Reaches shelf state (running trigger state)
run_reaches shelf trigger state has idle =
    let stimulus = Event trigger.code trigger.body in
    ⊎_elim {C = Reaches shelf state (running trigger state)}
    (λ same. subst (λ (shelf : ℕ). Reaches shelf state (running trigger state)) same (run_own trigger.shelf stimulus state has tt idle))
    (λ other. run_other shelf trigger.shelf stimulus state (ne_eqb trigger.shelf shelf other))
    (cases_eq trigger.shelf shelf)

-- ---- an answer

resumed_other : (shelf runner : ℕ) (session : SessionState) (timers : Owners) (sent : Option Proactive) → session.out ≡ None → (runner == shelf) ≡ false
    → awaited shelf (asks (sending runner true sent (record session { timers = timers }))) ≡ awaited shelf session.waiting
resumed_other shelf runner session timers None none other =
    ap (awaited shelf) (asks_same session timers ∙ ap asks (ap (λ (out : Option Outstanding). record session { out = out }) none) ∙ asks_nothing_out session)
resumed_other shelf runner session timers (Some command) none other =
    ap (awaited shelf) (asks_put_out (record session { timers = timers }) runner command) ∙ awaited_behind shelf runner command session.waiting other

resumed_own : (shelf : ℕ) (session : SessionState) (timers : Owners) (sent : Option Proactive) → session.out ≡ None → All (λ sent. sent.shelf ≢ shelf) session.waiting
    → awaited shelf (asks (sending shelf true sent (record session { timers = timers }))) ≡ awaits_sent sent
resumed_own shelf session timers None none apart =
    ap (awaited shelf) (asks_same session timers ∙ ap asks (ap (λ (out : Option Outstanding). record session { out = out }) none) ∙ asks_nothing_out session) ∙ awaited_apart shelf session.waiting apart
resumed_own shelf session timers (Some command) none apart =
    ap (awaited shelf) (asks_put_out (record session { timers = timers }) shelf command) ∙ awaited_first shelf command session.waiting

on_no_owner : (b : Bool) (out : Outstanding) (reply : Reply) (held : Awaits) (P : Awaits → Type 0) → b ≡ false → P held → OnReply b out reply held P
on_no_owner true out reply held P is here = cc
on_no_owner false out reply held P is here = here

on_owner : (b : Bool) (out : Outstanding) (reply : Reply) (held : Awaits) (P : Awaits → Type 0) → b ≡ true → held ≡ Answer out.command → P (Telling reply) → OnReply b out reply held P
on_owner true out reply held P is same here = (same, here)
on_owner false out reply held P is same here = cc

flipped : (a : ℕ) (asked : List Sent) → All (λ other. a ≢ other.shelf) asked → All (λ other. other.shelf ≢ a) asked
flipped a asked apart k d low same = apart k d low (sym same)

answered_other : (shelf owner : ℕ) (out : Outstanding) (reply : Reply) (state : ToolkitState) → state.session.out ≡ Some out → out.owner ≡ Some owner → (owner == shelf) ≡ false
    → ReachesWhoAsked shelf (now_awaited shelf state) (resumed (Some owner) reply (with_nothing_out state)).log (now_awaited shelf (resumed (Some owner) reply (with_nothing_out state)).state)
answered_other shelf owner out reply state is own other =
    let start = with_nothing_out state in
    let stimulus = Response reply.result reply.item reply.text in
    let run = run_is owner stimulus true start in
    let passed = run_of_row owner stimulus true start in
    let after : now_awaited shelf passed.state ≡ awaited shelf state.session.waiting =
    ap (λ (session : SessionState). awaited shelf (asks session)) run.session_is ∙ resumed_other shelf owner start.session run.timers run.sent refl other in
    let first : now_awaited shelf state ≡ awaited shelf state.session.waiting =
    ap (awaited shelf) (asks_out state.session out is ∙ ap (λ (owner : Option ℕ). sent_by owner out.command ++ state.session.waiting) own) ∙ awaited_behind shelf owner out.command state.session.waiting other in
    subst (ReachesWhoAsked shelf (now_awaited shelf state) passed.log) (first ∙ sym after) (run.noted (IsQuietFor shelf) (quiet_runs owner shelf other) (now_awaited shelf state))

answered_own : (shelf : ℕ) (out : Outstanding) (reply : Reply) (state : ToolkitState) → IsReady state → state.session.out ≡ Some out → out.owner ≡ Some shelf
    → (now_awaited shelf state ≡ Answer out.command)
    × ReachesWhoAsked shelf (Telling reply) (resumed (Some shelf) reply (with_nothing_out state)).log (now_awaited shelf (resumed (Some shelf) reply (with_nothing_out state)).state)
answered_own shelf out reply state ready is own =
    let start = with_nothing_out state in
    let stimulus = Response reply.result reply.item reply.text in
    let run = run_is shelf stimulus true start in
    let passed = run_of_row shelf stimulus true start in
    let both = owner_apart state out shelf is own ready in
    let has : HasMind state.minds shelf = All-contains (HasMind state.minds) (map (λ row. row.shelf) state.rows) shelf ready.minds both.0 in
    let after : now_awaited shelf passed.state ≡ awaits_sent run.sent =
    ap (λ (session : SessionState). awaited shelf (asks session)) run.session_is ∙ resumed_own shelf start.session run.timers run.sent refl (flipped shelf state.session.waiting both.1) in (
      ap (awaited shelf) (asks_out state.session out is ∙ ap (λ (owner : Option ℕ). sent_by owner out.command ++ state.session.waiting) own) ∙ awaited_first shelf out.command state.session.waiting,
      subst (ReachesWhoAsked shelf (Telling reply) passed.log) (sym after) (begun shelf (Telling reply) run.sent passed.log (run.begins has) (run.noted (IsToldFor shelf) (own_runs shelf) (Telling reply) refl)),
    )

answered_some : (shelf owner : ℕ) (out : Outstanding) (reply : Reply) (state : ToolkitState) → IsReady state → state.session.out ≡ Some out → out.owner ≡ Some owner
    → let passed = resumed (Some owner) reply (with_nothing_out state) in
    OnReply (owner == shelf) out reply (now_awaited shelf state) (λ later. ReachesWhoAsked shelf later passed.log (now_awaited shelf passed.state))
answered_some shelf owner out reply state ready is own =
    let passed = resumed (Some owner) reply (with_nothing_out state) in
    let P : ℕ → Type 0 = λ shelf. OnReply (owner == shelf) out reply (now_awaited shelf state) (λ later. ReachesWhoAsked shelf later passed.log (now_awaited shelf passed.state)) in
    ⊎_elim {C = P shelf}
    (λ same. subst P same
    (let both = answered_own owner out reply state ready is own in
    on_owner (owner == owner) out reply (now_awaited owner state) (λ later. ReachesWhoAsked owner later passed.log (now_awaited owner passed.state)) (eq-eqb owner owner refl) both.0 both.1))
    (λ other. on_no_owner (owner == shelf) out reply (now_awaited shelf state) (λ later. ReachesWhoAsked shelf later passed.log (now_awaited shelf passed.state)) (ne_eqb owner shelf other)
    (answered_other shelf owner out reply state is own (ne_eqb owner shelf other)))
    (cases_eq owner shelf)

answered_by : (shelf : ℕ) (out : Outstanding) (owner : Option ℕ) (reply : Reply) (state : ToolkitState) → IsReady state → state.session.out ≡ Some out → out.owner ≡ owner
    → let passed = resumed owner reply (with_nothing_out state) in
    OnReply (is_owner shelf owner) out reply (now_awaited shelf state) (λ later. ReachesWhoAsked shelf later passed.log (now_awaited shelf passed.state))
answered_by shelf out None reply state ready is own =
    ap (awaited shelf) (asks_out state.session out is ∙ ap (λ (owner : Option ℕ). sent_by owner out.command ++ state.session.waiting) own ∙ sym (asks_nothing_out state.session))
answered_by shelf out (Some owner) reply state ready is own = answered_some shelf owner out reply state ready is own

answered_reaches : (shelf : ℕ) (out : Outstanding) (reply : Reply) (state : ToolkitState) → IsReady state → unanswered state.session ≡ Some out → Reaches shelf state (answered out reply state)
unfolding answered
answered_reaches shelf out reply state ready is = answered_by shelf out out.owner reply state ready (reply_out state.session out is) refl

-- ---- each step

fetched_reaches : (shelf : ℕ) (out : Outstanding) (state : ToolkitState) → asks (fetched out state).state.session ≡ asks state.session → Reaches shelf state (fetched out state)
unfolding fetched
fetched_reaches shelf out state same = sym (ap (awaited shelf) same)

woken_reaches : (shelf : ℕ) (rows : List Registration) (minds : List (Option AppletState)) → Nothing ≡ awaited shelf (asks (toolkit_woken rows minds).session)
unfolding toolkit_woken
woken_reaches shelf rows minds = sym (ap (awaited shelf) asks_fresh)

pub has_mind : (state : ToolkitState) (shelf : ℕ) → IsReady state → IsRegistered state.rows shelf → HasMind state.minds shelf
has_mind state shelf ready there = All-contains (HasMind state.minds) (map (λ row. row.shelf) state.rows) shelf ready.minds there

caught_reaches : (shelf : ℕ) (state : ToolkitState) (found : LateTrigger × List LateTrigger) → IsReady state → first_idle (asks state.session) state.session.late ≡ Some found
    → Reaches shelf state (running found.0 (with_session state (record state.session { late = found.1 })))
caught_reaches shelf state found ready first =
    let left = with_session state (record state.session { late = found.1 }) in
    let taken = taken_out (asks state.session) state.session.late found first in
    let asked : asks left.session ≡ asks state.session = late_asks state.session found.1 in
    let idle : is_idle (asks left.session) found.0.shelf ≡ true = ap (λ (asked : List Sent). is_idle asked found.0.shelf) asked ∙ taken.is_idle in
    let there : IsRegistered state.rows found.0.shelf = (taken.all (λ trigger. IsRegistered state.rows trigger.shelf) ready.underway.late_rows).0 in
    let passed = running found.0 left in
    subst (λ (held : Awaits). ReachesWhoAsked shelf held passed.log (now_awaited shelf passed.state)) (ap (awaited shelf) asked) (run_reaches shelf found.0 left (has_mind state found.0.shelf ready there) idle)

reaching : (shelf : ℕ) → IsStepping Freely (Reaches shelf)
reaching shelf = record {
  still = λ state. refl;
  joined = λ state first second one other. reaches_join shelf (now_awaited shelf state) (now_awaited shelf first.state) (now_awaited shelf second.state) first.log second.log one other;
  ran = λ state trigger ready idle there own. run_reaches shelf trigger state (has_mind state trigger.shelf ready there) idle;
  given_run = λ state trigger ready suspends idle there. run_reaches shelf trigger state (has_mind state trigger.shelf ready there) idle;
  given_late = λ state trigger ready busy. sym (ap (awaited shelf) (late_asks state.session (state.session.late ++ trigger ∷ [])));
  caught = λ state found ready first. caught_reaches shelf state found ready first;
  settles = λ state ready. sym (ap (awaited shelf) (settled_asks state));
  profiles = λ state bytes. sym (ap (awaited shelf) (asks_of_profile state.session (with_profile state bytes).session.profile));
  reports = λ state code. sym (ap (awaited shelf) (asks_forgetting code state.session));
  fetches = λ state out ready is. fetched_reaches shelf out state (fetched_asks state out is);
  answers = λ state out reply ready is. answered_reaches shelf out reply state ready is;
  registers = λ state row accepted free. refl;
  unregisters = λ state gone ready idle. sym (ap (awaited shelf) (asks_same state.session (unregistering gone state).state.session.timers));
  wakes = λ state rows minds free. woken_reaches shelf rows minds;
}

pub responses_reach : HasLaws → (commands : List ToolkitInput) (state : ToolkitState) (shelf : ℕ) → IsInOrder state → AreAccepted commands state
    → ReachesWhoAsked shelf (awaited shelf (asks state.session)) (moved_by commands state).log (awaited shelf (asks (moved_by commands state).state.session))
responses_reach laws commands state shelf is accepted = (commands_move laws (reaching shelf) commands state accepted (good_from state is)).moved

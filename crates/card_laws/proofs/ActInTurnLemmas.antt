-- Applets change by the turns that are noted alone.
use Rattle.std.proofs.Common.{◌≡◌, ℕ, zero, suc, ◌+◌, Bool, true, false, List, [], ◌∷◌, ◌++◌, length, Option, Some, None, refl, sym, subst, arith, ◌==◌, if◌then◌else◌, is_some, option_to_list, eq-eqb, ne_eqb, set-set}
use Rattle.uicc_types.specs.declared.events.TheConstants.{PROFILE_DOWNLOAD, STATUS_COMMAND}
use Rattle.card_state.specs.Changes.{Change}
use Rattle.card_state.specs.Persistent.{Registration}
use Rattle.toolkit_commands.specs.declared.commands.Proactive.{Proactive}
use Rattle.toolkit_commands.specs.declared.envelopes.Envelope.{Envelope}
use Rattle.toolkit_commands.specs.declared.envelopes.Envelope.TheVariants as Envelopes
use Rattle.toolkit_commands.specs.declared.responses.Response.{Response as Reply}
use Rattle.applet_trait.specs.declared.stimuli.Stimulus.{Stimulus}
use Rattle.applet_trait.specs.declared.stimuli.Stimulus.TheVariants.{Event, Response}
use Rattle.applet_trait.specs.Minds.{AppletState}
use Rattle.applet_trait.specs.Turns.{act}
use Rattle.toolkit_model.specs.Sessions.{Outstanding, Sent, LateTrigger, SessionState}
use Rattle.toolkit_model.specs.Order.{targets}
use Rattle.toolkit_model.specs.Orderly.{asks}
use Rattle.toolkit_model.specs.Passing.{ToolkitState, ShelfTurn, Happening, Woke, Fetched, Responded, Given, Turned, Committed, Passed, before, in_turn}
use Rattle.toolkit_model.specs.Changes.{change_by}
use Rattle.toolkit_model.specs.Running.{Setting, Works, Ran, admitted, carried, going_on, run_on, most_acts, mind_on, with_mind, sending, setting_of, works_of, run_of_mind, run_of_row}
use Rattle.toolkit_model.specs.Driving.{is_idle, with_session, running, told_if, given_if, trigger_for, told_one, given_one, first_idle, catching, caught_up, wanted, front_out, next_out, filled, with_next_command, driven}
use Rattle.toolkit_model.specs.Commands.{registered_told, with_profile, profiled, polled, Trigger, triggered_by, is_reported_once, forgetting, reported, triggered, enveloped, fetched, resumed, with_nothing_out, answered, responded, registering, installed, unregistering, delete_carried}
use Rattle.toolkit_model.specs.Steps.{ToolkitInput, Profile, Status, Report, Fetch, Respond, Install, Delete, Wake, moved, moved_by}
use Rattle.card_model.specs.Instructions.{has_toolkit}
use Rattle.card_model.specs.States.{CardState}
use Rattle.card_model.specs.Toolkit.{toolkit_of}
use Rattle.card_model.specs.declared.instructions.Instruction.{Instruction}
use Rattle.card_laws.specs.Acting.{OpenRun, Point, point_of, begins_run, IsTurnOf, after_act, ActInTurn, begins_with, AppletsActInTurn, begins_at, ActAtEach}
use Rattle.card_laws.specs.ToolkitLaws.{EventsGoOn}
use Rattle.card_laws.specs.Moving.{HasOrder, Event as Happens, AllCanHappen, card_after, taken_at, noted_of}

-- ---- logs

abbrev Minds : Type 0
Minds = List (Option AppletState)

act_joined : (from middle now : Point) (first second : List Happening) → ActInTurn from first middle → ActInTurn middle second now → ActInTurn from (first ++ second) now
act_joined from middle now [] second one other = subst (λ (start : Point). ActInTurn start second now) one other
act_joined from middle now (Turned turn ∷ first) second one other = (one.0, one.1, act_joined one.0 middle now first second one.2 other)
act_joined from middle now (Woke ∷ first) second one other = act_joined from middle now first second one other
act_joined from middle now (Fetched out ∷ first) second one other = act_joined from middle now first second one other
act_joined from middle now (Responded out reply ∷ first) second one other = act_joined from middle now first second one other
act_joined from middle now (Given trigger ∷ first) second one other = act_joined from middle now first second one other
act_joined from middle now (Committed change rows ∷ first) second one other = (one.0, act_joined from middle now first second one.1 other)

after_commit : (change : Change) (b : Bool) (from now : Point) (log : List Happening) → ActInTurn from log now → ActInTurn from ((if b then Committed change from.rows ∷ [] else []) ++ log) now
after_commit change true from now log acts = (refl, acts)
after_commit change false from now log acts = acts

-- ---- a run of an applet

pub there_now : (minds : Minds) (shelf : ℕ) (mind : AppletState) (other : Option AppletState) → mind_on minds shelf ≡ Some mind → mind_on (with_mind minds shelf other) shelf ≡ other
there_now [] shelf mind other there = absurd (cc)
there_now (first ∷ others) zero mind other there = refl
there_now (first ∷ others) (suc shelf) mind other there = there_now others shelf mind other there

abbrev point_in : Setting → Minds → Works → Option OpenRun → Point
point_in at minds works run = record { profile = at.profile; rows = works.rows; timers = works.timers; minds = minds; run = run }

-- once this run ended
abbrev ended : Setting → Minds → Ran → Point
ended at minds ran = point_in at (with_mind minds at.shelf (Some ran.works.mind)) ran.works None

-- the run, before this act of it
abbrev run_at : Setting → ℕ → Stimulus → OpenRun
run_at at acts stimulus = record { shelf = at.shelf; in_call = at.in_call; acts = acts; tells = stimulus }

abbrev turn_on : Setting → Stimulus → Works → ShelfTurn
turn_on at stimulus works =
    let made = act works.mind stimulus in
    record { shelf = at.shelf; stimulus = stimulus; act = made.does; is_admitted = is_some (admitted at works.timers made.does) }

-- after an act the applet is told so, and does acts as these
abbrev GoesOn : Point → OpenRun → Setting → Minds → (Stimulus → Works → Ran) → Bool → Works → Type 0
GoesOn from run at minds next is_last done = (told : Stimulus) → ActInTurn (after_act from run done (Some told) is_last) (next told done).log (ended at minds (next told done))

-- what comes after an act
later_acts : (change : Change) (acts : ℕ) (at : Setting) (stimulus : Stimulus) (works done : Works) (minds : Minds) (before : Option OpenRun) (next : Stimulus → Works → Ran) (sent : Option Proactive) (b is_last : Bool) (tells : Option Stimulus)
    → GoesOn (point_in at minds works before) (run_at at acts stimulus) at minds next is_last done
    → ActInTurn (after_act (point_in at minds works before) (run_at at acts stimulus) done tells is_last) ((if b then Committed change done.rows ∷ [] else []) ++ (going_on done sent next tells).log) (ended at minds (going_on done sent next tells))
later_acts change acts at stimulus works done minds before next sent b is_last None more = after_commit change b (ended at minds (record { works = done; sent = sent; log = [] })) _ [] refl
later_acts change acts at stimulus works done minds before next sent b true (Some told) more = after_commit change b _ _ _ (more told)
later_acts change acts at stimulus works done minds before next sent b false (Some told) more = after_commit change b _ _ _ (more told)

-- a run of one act more
abbrev RunsWell : ℕ → ℕ → Setting → Stimulus → Works → Minds → Option OpenRun → Type 0
RunsWell acts left at stimulus works minds before =
    mind_on minds at.shelf ≡ Some works.mind → IsTurnOf before (turn_on at stimulus works) (run_at at acts stimulus)
    → ActInTurn (point_in at minds works before) (run_on (suc left) at stimulus works).log (ended at minds (run_on (suc left) at stimulus works))

first_acts : (acts left : ℕ) (at : Setting) (stimulus : Stimulus) (works : Works) (minds : Minds) (before : Option OpenRun)
    → ((done : Works) → GoesOn (point_in at minds works before) (run_at at acts stimulus) at minds (run_on left at) (acts == most_acts) done) → RunsWell acts left at stimulus works minds before
unfolding run_on
first_acts acts left at stimulus works minds before more there whose =
    let made = act works.mind stimulus in
    let turned : Works = record works { mind = made.next } in
    let done = carried at made.does turned in (
      after_act (point_in at minds works before) (run_at at acts stimulus) done.works done.tells (acts == most_acts),
      record { run = run_at at acts stimulus; mind = works.mind; goes_on = whose; there = there; does = refl; admits = refl; done = done; carries = refl; leaves = refl },
      later_acts (change_by at.shelf made.does done.works.rows) acts at stimulus works done.works minds before (run_on left at) (admitted at turned.timers made.does) done.is_committed (acts == most_acts) done.tells (more done.works),
    )

-- after the last act the applet begins anew
last_goes : (acts : ℕ) (at : Setting) (stimulus : Stimulus) (works : Works) (minds : Minds) (before : Option OpenRun) → acts ≡ 32 → (done : Works)
    → GoesOn (point_in at minds works before) (run_at at acts stimulus) at minds (run_on zero at) (acts == most_acts) done
unfolding run_on
last_goes acts at stimulus works minds before is done told =
    subst (λ (last : Bool). ActInTurn (after_act (point_in at minds works before) (run_at at acts stimulus) done (Some told) last) [] (ended at minds (run_on zero at told done))) (sym (eq-eqb acts 32 is)) refl

run_acts : (acts left : ℕ) (at : Setting) (stimulus : Stimulus) (works : Works) (minds : Minds) (before : Option OpenRun) → acts + left ≡ 32 → RunsWell acts left at stimulus works minds before
run_acts acts zero at stimulus works minds before is there = first_acts acts zero at stimulus works minds before (last_goes acts at stimulus works minds before (omega (arith, is))) there
run_acts acts (suc left) at stimulus works minds before is there = first_acts acts (suc left) at stimulus works minds before (λ done told.
    let next : Minds = with_mind minds at.shelf (Some done.mind) in
    let ran : Ran = run_on (suc left) at told done in
    let run : OpenRun = run_at at (acts + 1) told in
    subst (λ (last : Bool). ActInTurn (after_act (point_in at minds works before) (run_at at acts stimulus) done (Some told) last) ran.log (ended at minds ran)) (sym (ne_eqb acts 32 (λ same. omega (arith, is, same))))
    (subst (λ (minds : Minds). ActInTurn (point_in at next done (Some run)) ran.log (point_in at minds ran.works None)) (set-set minds at.shelf (Some done.mind) (Some ran.works.mind))
    (run_acts (acts + 1) left at told done next (Some run) (omega (arith, is)) (there_now minds at.shelf works.mind (Some done.mind) there) (refl, refl, refl)))) there

-- ---- from state to state

abbrev Moves : ToolkitState → Passed → Type 0
Moves state passed = ActInTurn (point_of state) passed.log (point_of passed.state)

acts_before : (from : Point) (first second : Passed) → ActInTurn from first.log (point_of first.state) → Moves first.state second → ActInTurn from (first.log ++ second.log) (point_of second.state)
acts_before from first second one other = act_joined from (point_of first.state) (point_of second.state) first.log second.log one other

-- what is sent is no part of it
sent_point : (shelf : ℕ) (is_resumed : Bool) (sent : Option Proactive) (rows : List Registration) (session : SessionState) (minds : Minds)
    → point_of (record { rows = rows; session = session; minds = minds }) ≡ point_of (record { rows = rows; session = sending shelf is_resumed sent session; minds = minds })
sent_point shelf is_resumed None rows session minds = refl
sent_point shelf true (Some command) rows session minds = refl
sent_point shelf false (Some command) rows session minds = refl

mind_acts : (shelf : ℕ) (stimulus : Stimulus) (is_resumed : Bool) (state : ToolkitState) (mind : Option AppletState) → begins_run stimulus ≡ true → mind_on state.minds shelf ≡ mind
    → Moves state (run_of_mind shelf stimulus is_resumed state mind)
mind_acts shelf stimulus is_resumed state None begins there = refl
mind_acts shelf stimulus is_resumed state (Some mind) begins there =
    let at : Setting = setting_of shelf stimulus state in
    let ran : Ran = run_on most_acts at stimulus (works_of mind state) in
    subst (ActInTurn (point_of state) ran.log)
    (sent_point shelf is_resumed ran.sent ran.works.rows (record state.session { timers = ran.works.timers }) (with_mind state.minds shelf (Some ran.works.mind)))
    (run_acts 1 31 at stimulus (works_of mind state) state.minds None refl there (begins, refl))

row_acts : (shelf : ℕ) (stimulus : Stimulus) (is_resumed : Bool) (state : ToolkitState) → begins_run stimulus ≡ true → Moves state (run_of_row shelf stimulus is_resumed state)
unfolding run_of_row
row_acts shelf stimulus is_resumed state begins = mind_acts shelf stimulus is_resumed state (mind_on state.minds shelf) begins refl

event_acts : (trigger : LateTrigger) (state : ToolkitState) → Moves state (running trigger state)
event_acts trigger state = row_acts trigger.shelf (Event trigger.code trigger.body) false state refl

in_turn_acts : {X : Type 0} (step : X → ToolkitState → Passed) → ((x : X) (state : ToolkitState) → Moves state (step x state)) → (xs : List X) (state : ToolkitState) → Moves state (in_turn step xs state)
in_turn_acts step each [] state = refl
in_turn_acts step each (x ∷ others) state = acts_before (point_of state) (step x state) (in_turn step others (step x state).state) (each x state) (in_turn_acts step each others (step x state).state)

told_acts : (b : Bool) (trigger : LateTrigger) (state : ToolkitState) → Moves state (told_if b trigger state)
told_acts true trigger state = event_acts trigger state
told_acts false trigger state = refl

told_one_acts : (code : ℕ) (body : List ℕ) (shelf : ℕ) (state : ToolkitState) → Moves state (told_one code body shelf state)
unfolding told_one
told_one_acts code body shelf state = told_acts (is_idle (asks state.session) shelf) (trigger_for code body shelf) state

given_acts : (b : Bool) (trigger : LateTrigger) (state : ToolkitState) → Moves state (given_if b trigger state)
given_acts true trigger state = event_acts trigger state
given_acts false trigger state = refl

given_one_acts : (code : ℕ) (body : List ℕ) (shelf : ℕ) (state : ToolkitState) → Moves state (given_one code body shelf state)
unfolding given_one
given_one_acts code body shelf state = given_acts (is_idle (asks state.session) shelf) (trigger_for code body shelf) state

catching_acts : (next : ToolkitState → Passed) (state : ToolkitState) (found : Option (LateTrigger × List LateTrigger)) → ((later : ToolkitState) → Moves later (next later)) → Moves state (catching next state found)
catching_acts next state None more = refl
catching_acts next state (Some found) more =
    let left : ToolkitState = with_session state (record state.session { late = found.1 }) in
    let first : Passed = running found.0 left in
    acts_before (point_of state) first (next first.state) (event_acts found.0 left) (more first.state)

caught_acts : (count : ℕ) (state : ToolkitState) → Moves state (caught_up count state)
unfolding caught_up
caught_acts zero state = refl
caught_acts (suc count) state = catching_acts (caught_up count) state (first_idle (asks state.session) state.session.late) (caught_acts count)

-- what becomes outstanding is no part of it
front_point : (rows : List Registration) (minds : Minds) (session : SessionState) (waiting : List Sent)
    → point_of (record { rows = rows; session = front_out waiting session; minds = minds }) ≡ point_of (record { rows = rows; session = session; minds = minds })
front_point rows minds session [] = refl
front_point rows minds session (sent ∷ others) = refl

next_point : (rows : List Registration) (minds : Minds) (session : SessionState) (first : Option Proactive)
    → point_of (record { rows = rows; session = next_out first session; minds = minds }) ≡ point_of (record { rows = rows; session = session; minds = minds })
next_point rows minds session None = front_point rows minds session session.waiting
next_point rows minds session (Some command) = refl

filled_point : (rows : List Registration) (minds : Minds) (session : SessionState) (out : Option Outstanding)
    → point_of (record { rows = rows; session = filled out rows session; minds = minds }) ≡ point_of (record { rows = rows; session = session; minds = minds })
filled_point rows minds session (Some out) = refl
filled_point rows minds session None = next_point rows minds session (wanted session.profile rows session.announced)

settled_point : (state : ToolkitState) → point_of (with_next_command state) ≡ point_of state
unfolding with_next_command
settled_point state = filled_point state.rows state.minds state.session state.session.out

driven_acts : (state : ToolkitState) → Moves state (driven state)
unfolding driven
driven_acts state =
    let first : Passed = caught_up (length state.session.late) state in
    act_joined (point_of state) (point_of first.state) (point_of (with_next_command first.state)) first.log [] (caught_acts (length state.session.late) state) (settled_point first.state)

and_driven : (from : Point) (first : Passed) → ActInTurn from first.log (point_of first.state) → ActInTurn from (before first driven).log (point_of (before first driven).state)
and_driven from first acts = acts_before from first (driven first.state) acts (driven_acts first.state)

-- ---- each command

profiled_acts : (bytes : List ℕ) (state : ToolkitState) → Moves (with_profile state bytes) (profiled bytes state)
unfolding profiled
profiled_acts bytes state =
    let start : ToolkitState = with_profile state bytes in
    and_driven (point_of start) (registered_told PROFILE_DOWNLOAD bytes start) (in_turn_acts (told_one PROFILE_DOWNLOAD bytes) (told_one_acts PROFILE_DOWNLOAD bytes) (targets start.rows PROFILE_DOWNLOAD) start)

polled_acts : (state : ToolkitState) → Moves state (polled state)
unfolding polled
polled_acts state = and_driven (point_of state) (registered_told STATUS_COMMAND [] state) (in_turn_acts (told_one STATUS_COMMAND []) (told_one_acts STATUS_COMMAND []) (targets state.rows STATUS_COMMAND) state)

once_point : (b : Bool) (code : ℕ) (state : ToolkitState) → point_of (if b then with_session state (forgetting code state.session) else state) ≡ point_of state
once_point true code state = refl
once_point false code state = refl

reported_point : (envelope : Envelope) (state : ToolkitState) → point_of (reported envelope state) ≡ point_of state
reported_point (Envelopes.Event code body) state = once_point (is_reported_once code) code state
reported_point (Envelopes.Menu item) state = refl
reported_point (Envelopes.CallControl address) state = refl
reported_point (Envelopes.Timer timer) state = refl

triggered_acts : (envelope : Envelope) (state : ToolkitState) → Moves state (triggered envelope state)
unfolding triggered
triggered_acts envelope state =
    let trigger : Trigger = triggered_by envelope state in
    let start : ToolkitState = reported envelope state in
    let passed : Passed = in_turn (given_one trigger.code trigger.body) trigger.shelves start in
    subst (λ (from : Point). ActInTurn from passed.log (point_of passed.state)) (reported_point envelope state)
    (in_turn_acts (given_one trigger.code trigger.body) (given_one_acts trigger.code trigger.body) trigger.shelves start)

enveloped_acts : (envelope : Envelope) (state : ToolkitState) → Moves state (enveloped envelope state)
unfolding enveloped
enveloped_acts envelope state = and_driven (point_of state) (triggered envelope state) (triggered_acts envelope state)

fetched_acts : (out : Outstanding) (state : ToolkitState) → Moves state (fetched out state)
unfolding fetched
fetched_acts out state = refl

resumed_acts : (owner : Option ℕ) (reply : Reply) (state : ToolkitState) → Moves state (resumed owner reply state)
resumed_acts None reply state = refl
resumed_acts (Some shelf) reply state = row_acts shelf (Response reply.result reply.item reply.text) true state refl

answered_acts : (out : Outstanding) (reply : Reply) (state : ToolkitState) → Moves state (answered out reply state)
unfolding answered
answered_acts out reply state = resumed_acts out.owner reply (with_nothing_out state)

responded_acts : (out : Outstanding) (reply : Reply) (state : ToolkitState) → Moves state (responded out reply state)
unfolding responded
responded_acts out reply state = and_driven (point_of state) (answered out reply state) (answered_acts out reply state)

abbrev CommandActs : ToolkitInput → ToolkitState → Passed → Type 0
CommandActs command state passed = ActInTurn (point_of (begins_with command state)) passed.log (point_of passed.state)

installed_acts : (row : Registration) (state : ToolkitState) → CommandActs (Install row) state (installed row state)
unfolding installed
installed_acts row state = and_driven (point_of (begins_with (Install row) state)) (registering row state) (refl, refl)

deleted_acts : (shelf : ℕ) (state : ToolkitState) → CommandActs (Delete shelf) state (delete_carried shelf state)
unfolding delete_carried
deleted_acts shelf state = and_driven (point_of (begins_with (Delete shelf) state)) (unregistering shelf state) (refl, refl)

pub command_acts : (command : ToolkitInput) (state : ToolkitState) → CommandActs command state (moved command state)
command_acts (Profile bytes) state = profiled_acts bytes state
command_acts Status state = polled_acts state
command_acts (Report envelope) state = enveloped_acts envelope state
command_acts (Fetch out) state = fetched_acts out state
command_acts (Respond out reply) state = responded_acts out reply state
command_acts (Install row) state = installed_acts row state
command_acts (Delete shelf) state = deleted_acts shelf state
command_acts (Wake rows minds) state = refl

-- ---- over all that happens

-- what is noted of one event
event_at : AppletsActInTurn → (command : Option ToolkitInput) (state : ToolkitState)
    → ActInTurn (point_of (begins_at command state)) (moved_by (option_to_list command ++ []) state).log (point_of (moved_by (option_to_list command ++ []) state).state)
event_at acts None state = refl
event_at acts (Some command) state = act_joined (point_of (begins_with command state)) (point_of (moved command state).state) (point_of (moved command state).state) (moved command state).log [] (acts command state) refl

module _ (goes : EventsGoOn) (acts : AppletsActInTurn) (knows : Instruction → Bool) (runs : has_toolkit knows ≡ true) where
  pub all_act : (card : CardState) (events : List Happens) → HasOrder card → AllCanHappen knows card events → ActAtEach knows card events
  all_act card [] ready can = tt
  all_act card (event ∷ events) ready can =
      let gone = goes knows card (event ∷ []) runs ready (can.0, tt) in (
        subst (λ (state : ToolkitState). ActInTurn (point_of (begins_at (taken_at knows card event) (toolkit_of card))) (noted_of knows card (event ∷ [])).log (point_of state)) (sym gone.1)
            (event_at acts (taken_at knows card event) (toolkit_of card)),
        all_act (card_after knows card event) events gone.2 can.1,
      )

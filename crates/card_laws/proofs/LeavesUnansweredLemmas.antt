-- Which commands of the toolkit change whether a command was fetched and not answered.
use Rattle.std.proofs.Common.{◌≡◌, ℕ, zero, suc, Bool, true, false, cond, List, [], ◌∷◌, length, Option, Some, None, refl, sym, ◌∙◌, ap, if◌then◌else◌, is_some}
use Rattle.card_state.specs.Persistent.{Registration}
use Rattle.toolkit_commands.specs.declared.commands.Proactive.{Proactive}
use Rattle.toolkit_commands.specs.declared.envelopes.Envelope.{Envelope}
use Rattle.toolkit_commands.specs.declared.envelopes.Envelope.TheVariants as Envelopes
use Rattle.toolkit_commands.specs.declared.responses.Response.{Response as Reply}
use Rattle.applet_trait.specs.declared.stimuli.Stimulus.{Stimulus}
use Rattle.applet_trait.specs.declared.stimuli.Stimulus.TheVariants.{Event, Response}
use Rattle.applet_trait.specs.Minds.{AppletState}
use Rattle.toolkit_model.specs.Sessions.{Outstanding, Sent, LateTrigger, SessionState}
use Rattle.toolkit_model.specs.Orderly.{asks}
use Rattle.toolkit_model.specs.Order.{targets}
use Rattle.toolkit_model.specs.Passing.{ToolkitState, Passed, in_turn}
use Rattle.toolkit_model.specs.Running.{Ran, sending, run_on, most_acts, mind_on, works_of, setting_of, run_of_mind, run_of_row}
use Rattle.toolkit_model.specs.Driving.{with_session, running, is_idle, told_if, given_if, told_one, given_one, trigger_for, first_idle, catching, caught_up, front_out, next_out, filled, wanted, with_next_command, driven}
use Rattle.toolkit_model.specs.Commands.{if_fetched, unfetched, unanswered, registered_told, with_profile, profiled, polled, triggered_by, is_reported_once, reported, triggered, enveloped, fetched, resumed, with_nothing_out, answered, responded, registering, installed, unregistering, delete_carried}
use Rattle.toolkit_model.specs.Steps.{ToolkitInput, Profile, Status, Report, Fetch, Respond, Install, Delete, Wake, moved}
use Rattle.toolkit_model.proofs.FetchingLemmas.{sent_unanswered}
use Rattle.card_model.specs.Answers.{Answered, answer_of}
use Rattle.card_model.specs.States.{CardState}
use Rattle.card_model.specs.Toolkit.{toolkit_of}
use Rattle.card_laws.specs.ToolkitLaws.{AnswersGoOn}
use Rattle.card_laws.specs.Moving.{GoesOn, taken}
use Rattle.card_laws.specs.Staying.{LeavesUnanswered, OthersLeaveUnanswered}

abbrev pub held_in : ToolkitState → Option Outstanding
held_in state = unanswered state.session

-- the command that was fetched and not answered is the same
abbrev Holds : ToolkitState → Passed → Type 0
Holds state passed = held_in passed.state ≡ held_in state

-- ---- a run

sent_holds : (shelf : ℕ) (sent : Option Proactive) (session : SessionState) → unanswered (sending shelf false sent session) ≡ unanswered session
sent_holds shelf None session = refl
sent_holds shelf (Some command) session = refl

mind_holds : (shelf : ℕ) (stimulus : Stimulus) (state : ToolkitState) (mind : Option AppletState) → Holds state (run_of_mind shelf stimulus false state mind)
mind_holds shelf stimulus state None = refl
mind_holds shelf stimulus state (Some mind) =
    let ran : Ran = run_on most_acts (setting_of shelf stimulus state) stimulus (works_of mind state) in
    sent_holds shelf ran.sent (record state.session { timers = ran.works.timers })

row_holds : (shelf : ℕ) (stimulus : Stimulus) (state : ToolkitState) → Holds state (run_of_row shelf stimulus false state)
unfolding run_of_row
row_holds shelf stimulus state = mind_holds shelf stimulus state (mind_on state.minds shelf)

mind_on_again : (shelf : ℕ) (stimulus : Stimulus) (state : ToolkitState) (mind : Option AppletState) → state.session.out ≡ None → held_in (run_of_mind shelf stimulus true state mind).state ≡ None
mind_on_again shelf stimulus state None free = ap (if_fetched true) free
mind_on_again shelf stimulus state (Some mind) free =
    let ran : Ran = run_on most_acts (setting_of shelf stimulus state) stimulus (works_of mind state) in
    sent_unanswered shelf ran.sent (record state.session { timers = ran.works.timers }) free

row_on_again : (shelf : ℕ) (stimulus : Stimulus) (state : ToolkitState) → state.session.out ≡ None → held_in (run_of_row shelf stimulus true state).state ≡ None
unfolding run_of_row
row_on_again shelf stimulus state free = mind_on_again shelf stimulus state (mind_on state.minds shelf) free

-- ---- triggers

turns_hold : {X : Type 0} (step : X → ToolkitState → Passed) → ((x : X) (state : ToolkitState) → Holds state (step x state)) → (xs : List X) (state : ToolkitState) → Holds state (in_turn step xs state)
turns_hold step each [] state = refl
turns_hold step each (x ∷ others) state = turns_hold step each others (step x state).state ∙ each x state

told_holds : (b : Bool) (trigger : LateTrigger) (state : ToolkitState) → Holds state (told_if b trigger state)
told_holds true trigger state = row_holds trigger.shelf (Event trigger.code trigger.body) state
told_holds false trigger state = refl

told_one_holds : (code : ℕ) (body : List ℕ) (shelf : ℕ) (state : ToolkitState) → Holds state (told_one code body shelf state)
unfolding told_one
told_one_holds code body shelf state = told_holds (is_idle (asks state.session) shelf) (trigger_for code body shelf) state

given_holds : (b : Bool) (trigger : LateTrigger) (state : ToolkitState) → Holds state (given_if b trigger state)
given_holds true trigger state = row_holds trigger.shelf (Event trigger.code trigger.body) state
given_holds false trigger state = refl

given_one_holds : (code : ℕ) (body : List ℕ) (shelf : ℕ) (state : ToolkitState) → Holds state (given_one code body shelf state)
unfolding given_one
given_one_holds code body shelf state = given_holds (is_idle (asks state.session) shelf) (trigger_for code body shelf) state

catching_holds : (next : ToolkitState → Passed) → ((later : ToolkitState) → Holds later (next later)) → (state : ToolkitState) (found : Option (LateTrigger × List LateTrigger)) → Holds state (catching next state found)
catching_holds next each state None = refl
catching_holds next each state (Some found) =
    let without : ToolkitState = with_session state (record state.session { late = found.1 }) in
    each (running found.0 without).state ∙ row_holds found.0.shelf (Event found.0.code found.0.body) without

caught_holds : (count : ℕ) (state : ToolkitState) → Holds state (caught_up count state)
unfolding caught_up
caught_holds zero state = refl
caught_holds (suc count) state = catching_holds (caught_up count) (λ later. caught_holds count later) state (first_idle (asks state.session) state.session.late)

-- ---- what becomes outstanding is not fetched yet

front_holds : (waiting : List Sent) (session : SessionState) → session.out ≡ None → unanswered (front_out waiting session) ≡ None
front_holds [] session free = ap (if_fetched true) free
front_holds (sent ∷ others) session free = refl

next_holds : (found : Option Proactive) (session : SessionState) → session.out ≡ None → unanswered (next_out found session) ≡ None
next_holds None session free = front_holds session.waiting session free
next_holds (Some command) session free = refl

filled_holds : (out : Option Outstanding) (rows : List Registration) (session : SessionState) → session.out ≡ out → unanswered (filled out rows session) ≡ unanswered session
filled_holds (Some out) rows session is = refl
filled_holds None rows session is = next_holds (wanted session.profile rows session.announced) session is ∙ sym (ap (if_fetched true) is)

settled_holds : (state : ToolkitState) → held_in (with_next_command state) ≡ held_in state
unfolding with_next_command
settled_holds state = filled_holds state.session.out state.rows state.session refl

driven_holds : (state : ToolkitState) → Holds state (driven state)
unfolding driven
driven_holds state = settled_holds (caught_up (length state.session.late) state).state ∙ caught_holds (length state.session.late) state

-- ---- commands

told_all_hold : (code : ℕ) (body : List ℕ) (state : ToolkitState) → Holds state (registered_told code body state)
told_all_hold code body state = turns_hold (told_one code body) (λ shelf later. told_one_holds code body shelf later) (targets state.rows code) state

profiled_holds : (bytes : List ℕ) (state : ToolkitState) → Holds state (profiled bytes state)
unfolding profiled
profiled_holds bytes state = driven_holds _ ∙ told_all_hold _ bytes (with_profile state bytes)

polled_holds : (state : ToolkitState) → Holds state (polled state)
unfolding polled
polled_holds state = driven_holds _ ∙ told_all_hold _ [] state

reported_if : (b : Bool) (state other : ToolkitState) → held_in other ≡ held_in state → held_in (cond b other state) ≡ held_in state
reported_if true state other same = same
reported_if false state other same = refl

reported_holds : (envelope : Envelope) (state : ToolkitState) → held_in (reported envelope state) ≡ held_in state
reported_holds (Envelopes.Event code body) state = reported_if (is_reported_once code) state _ refl
reported_holds (Envelopes.Menu item) state = refl
reported_holds (Envelopes.CallControl address) state = refl
reported_holds (Envelopes.Timer timer) state = refl

enveloped_holds : (envelope : Envelope) (state : ToolkitState) → Holds state (enveloped envelope state)
unfolding enveloped triggered
enveloped_holds envelope state =
    let trigger = triggered_by envelope state in
    driven_holds _ ∙ turns_hold (given_one trigger.code trigger.body) (λ shelf later. given_one_holds trigger.code trigger.body shelf later) trigger.shelves (reported envelope state) ∙ reported_holds envelope state

resumed_holds : (owner : Option ℕ) (reply : Reply) (state : ToolkitState) → state.session.out ≡ None → held_in (resumed owner reply state).state ≡ None
resumed_holds None reply state free = ap (if_fetched true) free
resumed_holds (Some shelf) reply state free = row_on_again shelf (Response reply.result reply.item reply.text) state free

responded_holds : (out : Outstanding) (reply : Reply) (state : ToolkitState) → held_in (responded out reply state).state ≡ None
unfolding responded answered
responded_holds out reply state = driven_holds _ ∙ resumed_holds out.owner reply (with_nothing_out state) refl

installed_holds : (row : Registration) (state : ToolkitState) → Holds state (installed row state)
unfolding installed
installed_holds row state = driven_holds (registering row state).state

deleted_holds : (shelf : ℕ) (state : ToolkitState) → Holds state (delete_carried shelf state)
unfolding delete_carried
deleted_holds shelf state = driven_holds (unregistering shelf state).state

-- what is to be fetched is not fetched yet
one_of_both : (b : Bool) (out found : Outstanding) → (if b then None else Some out) ≡ Some found → (if b then Some out else None) ≡ None
one_of_both true out found is = absurd (cc)
one_of_both false out found is = refl

pub none_held : (session : SessionState) (found : Outstanding) → unfetched session ≡ Some found → unanswered session ≡ None
none_held session found is = by_out session.out is where
  by_out : (out : Option Outstanding) → if_fetched false out ≡ Some found → if_fetched true out ≡ None
  by_out None is = refl
  by_out (Some out) is = one_of_both out.is_fetched out found is

pub fetched_holds : (out : Outstanding) (state : ToolkitState) → is_some (held_in (fetched out state).state) ≡ true
unfolding fetched
fetched_holds out state = refl

-- commands that leave it
pub other_holds : (command : ToolkitInput) (state : ToolkitState) → LeavesUnanswered (Some command) → Holds state (moved command state)
other_holds (Profile bytes) state other = profiled_holds bytes state
other_holds Status state other = polled_holds state
other_holds (Report envelope) state other = enveloped_holds envelope state
other_holds (Fetch out) state other = absurd other
other_holds (Respond out reply) state other = absurd other
other_holds (Install row) state other = installed_holds row state
other_holds (Delete shelf) state other = deleted_holds shelf state
other_holds (Wake rows minds) state other = absurd other

pub respond_holds : (out : Outstanding) (reply : Reply) (state : ToolkitState) → held_in (moved (Respond out reply) state).state ≡ None
respond_holds out reply state = responded_holds out reply state

-- ---- a card

card_leaves : (card : CardState) (answered : Answered) (command : Option ToolkitInput) → GoesOn command card answered → LeavesUnanswered command → unanswered answered.state.session ≡ unanswered card.session
card_leaves card answered None on leaves = ap held_in on.toolkit
card_leaves card answered (Some command) on leaves = ap held_in on.toolkit ∙ other_holds command (toolkit_of card) leaves

pub others_leave : AnswersGoOn → OthersLeaveUnanswered
others_leave goes knows card bytes runs ready leaves = card_leaves card (answer_of knows card bytes) (taken knows card bytes) (goes knows card bytes runs ready) leaves

-- What is noted of FETCH and TERMINAL RESPONSE, step by step.
use Rattle.std.proofs.Common.{◌≡◌, ℕ, Bool, true, false, cond, List, [], ◌∷◌, ◌++◌, Option, Some, None, ap, refl, sym, ◌∙◌, subst}
use Rattle.std.specs.List.{list_any}
use Rattle.card_state.specs.Persistent.{Registration}
use Rattle.toolkit_commands.specs.declared.commands.Proactive.{Proactive}
use Rattle.toolkit_commands.specs.declared.responses.Response.{Response as Reply}
use Rattle.applet_trait.specs.declared.stimuli.Stimulus.{Stimulus}
use Rattle.applet_trait.specs.declared.stimuli.Stimulus.TheVariants.{Event, Response}
use Rattle.applet_trait.specs.Minds.{AppletState}
use Rattle.toolkit_model.specs.Sessions.{Outstanding, Sent, SessionState}
use Rattle.toolkit_model.specs.Passing.{ToolkitState, Happening, Woke, Fetched, Responded, Given, Turned, Committed, Passed}
use Rattle.toolkit_model.specs.Running.{run_of_row, sending}
use Rattle.toolkit_model.specs.Driving.{with_session, wanted, front_out, next_out, filled, with_next_command}
use Rattle.toolkit_model.specs.Commands.{as_fetched, if_fetched, unfetched, unanswered, fetched, resumed, with_nothing_out, answered, toolkit_woken}
use Rattle.toolkit_model.specs.Steps.{ToolkitInput, AreAccepted, moved_by}
use Rattle.toolkit_model.specs.OrderlySessions.{IsInOrder}
use Rattle.toolkit_model.specs.Turns.{IsCommit}
use Rattle.toolkit_model.specs.Fetching.{OneAtATime, is_end, AnsweredBetween}
use Rattle.toolkit_model.proofs.RunOnLemmas.{IsOfRuns}
use Rattle.toolkit_model.proofs.RunOfRowLemmas.{run_is}
use Rattle.toolkit_model.proofs.AsksLemmas.{run_out}
use Rattle.toolkit_model.proofs.DrivingLemmas.{HasLaws, Freely, IsStepping}
use Rattle.toolkit_model.proofs.MovedByLemmas.{commands_move}
use Rattle.toolkit_model.proofs.IsInOrderLemmas.{good_from}

-- one at a time, and which command is fetched and not answered at the end
abbrev Follows : Option Outstanding → List Happening → Option Outstanding → Type 0
Follows held [] now = held ≡ now
Follows held (Woke ∷ log) now = Follows None log now
Follows held (Fetched out ∷ log) now = (held ≡ None) × Follows (Some (as_fetched out)) log now
Follows held (Responded out reply ∷ log) now = (held ≡ Some out) × Follows None log now
Follows held (Given trigger ∷ log) now = Follows held log now
Follows held (Turned turn ∷ log) now = Follows held log now
Follows held (Committed change rows ∷ log) now = Follows held log now

follows_join : (held mid now : Option Outstanding) (log more : List Happening) → Follows held log mid → Follows mid more now → Follows held (log ++ more) now
follows_join held mid now [] more first second = subst (λ (held : Option Outstanding). Follows held more now) (sym first) second
follows_join held mid now (Woke ∷ log) more first second = follows_join None mid now log more first second
follows_join held mid now (Fetched out ∷ log) more first second = (first.0, follows_join (Some (as_fetched out)) mid now log more first.1 second)
follows_join held mid now (Responded out reply ∷ log) more first second = (first.0, follows_join None mid now log more first.1 second)
follows_join held mid now (Given trigger ∷ log) more first second = follows_join held mid now log more first second
follows_join held mid now (Turned turn ∷ log) more first second = follows_join held mid now log more first second
follows_join held mid now (Committed change rows ∷ log) more first second = follows_join held mid now log more first second

one_from : (held now : Option Outstanding) (log : List Happening) → Follows held log now → OneAtATime held log
one_from held now [] follows = tt
one_from held now (Woke ∷ log) follows = one_from None now log follows
one_from held now (Fetched out ∷ log) follows = (follows.0, one_from (Some (as_fetched out)) now log follows.1)
one_from held now (Responded out reply ∷ log) follows = (follows.0, one_from None now log follows.1)
one_from held now (Given trigger ∷ log) follows = one_from held now log follows
one_from held now (Turned turn ∷ log) follows = one_from held now log follows
one_from held now (Committed change rows ∷ log) follows = one_from held now log follows

-- ---- runs

-- what a run notes changes nothing of it
abbrev IsQuiet : Stimulus → Option Proactive → List Happening → Type 0
IsQuiet stimulus sent log = (held : Option Outstanding) → Follows held log held

quiet_commit : (commit log : List Happening) (held : Option Outstanding) → IsCommit commit → Follows held log held → Follows held (commit ++ log) held
quiet_commit [] log held is rest = rest
quiet_commit (Committed change rows ∷ []) log held is rest = rest
quiet_commit (Committed change rows ∷ more ∷ others) log held is rest = absurd is
quiet_commit (Woke ∷ others) log held is rest = absurd is
quiet_commit (Fetched out ∷ others) log held is rest = absurd is
quiet_commit (Responded out reply ∷ others) log held is rest = absurd is
quiet_commit (Given trigger ∷ others) log held is rest = absurd is
quiet_commit (Turned turn ∷ others) log held is rest = absurd is

quiet_runs : (shelf : ℕ) → IsOfRuns shelf IsQuiet
quiet_runs shelf = record {
  broken = λ stimulus held. refl;
  ended = λ stimulus does sent known held. refl;
  gone_on = λ stimulus next does sent commit log inner is rest held. quiet_commit commit log held is (rest held);
}

run_follows : (shelf : ℕ) (stimulus : Stimulus) (state : ToolkitState)
    → Follows (unanswered state.session) (run_of_row shelf stimulus false state).log (unanswered (run_of_row shelf stimulus false state).state.session)
run_follows shelf stimulus state =
    let run = run_is shelf stimulus false state in
    subst (Follows (unanswered state.session) (run_of_row shelf stimulus false state).log) (sym (ap (if_fetched true) (run_out shelf stimulus state)))
    (run.noted IsQuiet (quiet_runs shelf) (unanswered state.session))

pub sent_unanswered : (shelf : ℕ) (sent : Option Proactive) (session : SessionState) → session.out ≡ None → unanswered (sending shelf true sent session) ≡ None
sent_unanswered shelf None session none = ap (if_fetched true) none
sent_unanswered shelf (Some command) session none = refl

resumed_follows : (owner : Option ℕ) (reply : Reply) (state : ToolkitState) → state.session.out ≡ None
    → Follows None (resumed owner reply state).log (unanswered (resumed owner reply state).state.session)
resumed_follows None reply state none = sym (ap (if_fetched true) none)
resumed_follows (Some shelf) reply state none =
    let stimulus = Response reply.result reply.item reply.text in
    let run = run_is shelf stimulus true state in
    let after : unanswered (run_of_row shelf stimulus true state).state.session ≡ None = ap unanswered run.session_is ∙ sent_unanswered shelf run.sent (record state.session { timers = run.timers }) none in
    subst (Follows None (run_of_row shelf stimulus true state).log) (sym after) (run.noted IsQuiet (quiet_runs shelf) None)

-- ---- each step

abbrev Fetches : ToolkitState → Passed → Type 0
Fetches state passed = Follows (unanswered state.session) passed.log (unanswered passed.state.session)

one_of_two : (b : Bool) (held out : Outstanding) → cond b None (Some held) ≡ Some out → cond b (Some held) None ≡ None
one_of_two true held out is = cc
one_of_two false held out is = refl

not_both : (held : Option Outstanding) (out : Outstanding) → if_fetched false held ≡ Some out → if_fetched true held ≡ None
not_both None out is = refl
not_both (Some held) out is = one_of_two held.is_fetched held out is

fetched_follows : (out : Outstanding) (state : ToolkitState) → unfetched state.session ≡ Some out → Fetches state (fetched out state)
unfolding fetched
fetched_follows out state is = (not_both state.session.out out is, refl)

answered_follows : (out : Outstanding) (reply : Reply) (state : ToolkitState) → unanswered state.session ≡ Some out → Fetches state (answered out reply state)
unfolding answered
answered_follows out reply state is = (is, resumed_follows out.owner reply (with_nothing_out state) refl)

front_unanswered : (session : SessionState) (waiting : List Sent) → session.out ≡ None → unanswered (front_out waiting session) ≡ None
front_unanswered session [] none = ap (if_fetched true) none
front_unanswered session (sent ∷ others) none = refl

next_unanswered : (session : SessionState) (found : Option Proactive) → session.out ≡ None → unanswered (next_out found session) ≡ None
next_unanswered session None none = front_unanswered session session.waiting none
next_unanswered session (Some command) none = refl

filled_unanswered : (rows : List Registration) (session : SessionState) (out : Option Outstanding) → session.out ≡ out → unanswered session ≡ unanswered (filled out rows session)
filled_unanswered rows session (Some out) is = refl
filled_unanswered rows session None is = ap (if_fetched true) is ∙ sym (next_unanswered session (wanted session.profile rows session.announced) is)

settled_follows : (state : ToolkitState) → unanswered state.session ≡ unanswered (with_next_command state).session
unfolding with_next_command
settled_follows state = filled_unanswered state.rows state.session state.session.out refl

woken_follows : (rows : List Registration) (minds : List (Option AppletState)) → None ≡ unanswered (toolkit_woken rows minds).session
unfolding toolkit_woken
woken_follows rows minds = refl

fetching : IsStepping Freely Fetches
fetching = record {
  still = λ state. refl;
  joined = λ state first second one other. follows_join (unanswered state.session) (unanswered first.state.session) (unanswered second.state.session) first.log second.log one other;
  ran = λ state trigger ready idle there own. run_follows trigger.shelf (Event trigger.code trigger.body) state;
  given_run = λ state trigger ready suspends idle there. run_follows trigger.shelf (Event trigger.code trigger.body) state;
  given_late = λ state trigger ready busy. refl;
  caught = λ state found ready first. run_follows found.0.shelf (Event found.0.code found.0.body) (with_session state (record state.session { late = found.1 }));
  settles = λ state ready. settled_follows state;
  profiles = λ state bytes. refl;
  reports = λ state code. refl;
  fetches = λ state out ready is. fetched_follows out state is;
  answers = λ state out reply ready is. answered_follows out reply state is;
  registers = λ state row accepted free. refl;
  unregisters = λ state shelf ready idle. refl;
  wakes = λ state rows minds free. woken_follows rows minds;
}

pub fetched_one_at_a_time : HasLaws → (commands : List ToolkitInput) (state : ToolkitState) → IsInOrder state → AreAccepted commands state → OneAtATime (unanswered state.session) (moved_by commands state).log
fetched_one_at_a_time laws commands state is accepted =
    let after = moved_by commands state in
    one_from (unanswered state.session) (unanswered after.state.session) after.log (commands_move laws fetching commands state accepted (good_from state is)).moved

-- ---- between two

late_part : (held : Option Outstanding) (early rest : List Happening) → OneAtATime held (early ++ rest) → (now : Option Outstanding) × OneAtATime now rest
late_part held [] rest one = (held, one)
late_part held (Woke ∷ early) rest one = late_part None early rest one
late_part held (Fetched out ∷ early) rest one = late_part (Some (as_fetched out)) early rest one.1
late_part held (Responded out reply ∷ early) rest one = late_part None early rest one.1
late_part held (Given trigger ∷ early) rest one = late_part held early rest one
late_part held (Turned turn ∷ early) rest one = late_part held early rest one
late_part held (Committed change rows ∷ early) rest one = late_part held early rest one

answered_between : (held second : Outstanding) (between late : List Happening) → OneAtATime (Some held) (between ++ (Fetched second ∷ late)) → list_any is_end between ≡ true
answered_between held second [] late one = absurd (cc (one.0))
answered_between held second (Woke ∷ between) late one = refl
answered_between held second (Responded out reply ∷ between) late one = refl
answered_between held second (Fetched out ∷ between) late one = absurd (cc (one.0))
answered_between held second (Given trigger ∷ between) late one = answered_between held second between late one
answered_between held second (Turned turn ∷ between) late one = answered_between held second between late one
answered_between held second (Committed change rows ∷ between) late one = answered_between held second between late one

pub one_is_answered : (held : Option Outstanding) (log : List Happening) → OneAtATime held log → AnsweredBetween log
one_is_answered held log one early between late first second is =
    let rest = late_part held early (Fetched first ∷ (between ++ (Fetched second ∷ late))) (subst (OneAtATime held) is one) in
    answered_between (as_fetched first) second between late rest.1.1

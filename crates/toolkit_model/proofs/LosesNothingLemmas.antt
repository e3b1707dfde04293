-- No event is lost, step by step.
use Rattle.std.proofs.Common.{◌≡◌, ℕ, ◌⊎◌, inl, inr, Bool, true, false, cond, List, [], ◌∷◌, ◌++◌, Option, Some, None, append_assoc, ap, refl, sym, ◌∙◌, subst, ⊎_elim, ◌≢◌, ◌==◌, ◌&&◌, ◌||◌, not, All, option_map, option_to_list, append-nil}
use Rattle.std.specs.List.{filter_map, list_any, cons_option}
use Rattle.std.proofs.lemmas.List.Elements.{All-head, All-tail, filter-append, filter_map-append}
use Rattle.std.proofs.lemmas.Bool.{eqb-true, eq-eqb, or_parts, and_parts}
use Rattle.std.proofs.lemmas.Option.{same_Some}
use Rattle.list_laws.proofs.CondLemmas.{mapped_Some, chosen}
use Rattle.uicc_types.specs.declared.events.TheConstants.{PROFILE_DOWNLOAD, STATUS_COMMAND}
use Rattle.toolkit_commands.specs.declared.commands.Proactive.{Proactive}
use Rattle.toolkit_commands.specs.declared.responses.Response.{Response as Reply}
use Rattle.applet_trait.specs.declared.stimuli.Stimulus.{Stimulus}
use Rattle.applet_trait.specs.declared.stimuli.Stimulus.TheVariants.{Event, Response, Went, Refused, Timer}
use Rattle.toolkit_model.specs.Sessions.{Outstanding, Sent, LateTrigger}
use Rattle.toolkit_model.specs.Orderly.{IsRegistered, asks}
use Rattle.toolkit_model.specs.Passing.{ToolkitState, Happening, Woke, Fetched, Responded, Given, Turned, Committed, Passed, noting}
use Rattle.toolkit_model.specs.Running.{run_of_row}
use Rattle.toolkit_model.specs.Driving.{is_idle, with_session, running, behind, first_idle}
use Rattle.toolkit_model.specs.Commands.{fetched, resumed, with_nothing_out, answered}
use Rattle.toolkit_model.specs.Steps.{HasMind, ToolkitInput, AreAccepted, moved_by}
use Rattle.toolkit_model.specs.OrderlySessions.{IsInOrder}
use Rattle.toolkit_model.specs.Turns.{IsInner, IsCommit}
use Rattle.toolkit_model.specs.Owing.{counts, owed, given_in, event_of, told_in, given_to, told_to, is_wake, LosesNothing}
use Rattle.toolkit_model.proofs.RunOnLemmas.{IsOfRuns}
use Rattle.toolkit_model.proofs.RunOfRowLemmas.{IsReady, run_is}
use Rattle.toolkit_model.proofs.LateTriggerLemmas.{taken_out}
use Rattle.toolkit_model.proofs.CommandsLemmas.{is_either}
use Rattle.toolkit_model.proofs.FilledLemmas.{settled_late}
use Rattle.toolkit_model.proofs.AsksLemmas.{run_late}
use Rattle.toolkit_model.proofs.ReachesWhoAskedLemmas.{has_mind}
use Rattle.toolkit_model.proofs.DrivingLemmas.{HasLaws, AreSuspended, IsOwn, Freely, IsStepping}
use Rattle.toolkit_model.proofs.MovedByLemmas.{commands_move, nothing_late}
use Rattle.toolkit_model.proofs.IsInOrderLemmas.{good_from}

-- ---- a run

-- nothing is given in a run, and at its beginning alone it may be told of an event
record TellsOnce (shelf : ℕ) (stimulus : Stimulus) (log : List Happening) : Type 0 where
  gives : filter_map given_in log ≡ []
  tells : (filter_map told_in log ≡ option_to_list (event_of shelf stimulus)) ⊎ (log ≡ [])

abbrev Tells : ℕ → Stimulus → Option Proactive → List Happening → Type 0
Tells shelf stimulus sent log = TellsOnce shelf stimulus log

one_told : (found : Option LateTrigger) → cons_option found [] ≡ option_to_list found
one_told None = refl
one_told (Some trigger) = refl

commit_gives : (commit log : List Happening) → IsCommit commit → filter_map given_in (commit ++ log) ≡ filter_map given_in log
commit_gives [] log is = refl
commit_gives (Committed change rows ∷ []) log is = refl
commit_gives (Committed change rows ∷ more ∷ others) log is = absurd is
commit_gives (Woke ∷ others) log is = absurd is
commit_gives (Fetched out ∷ others) log is = absurd is
commit_gives (Responded out reply ∷ others) log is = absurd is
commit_gives (Given trigger ∷ others) log is = absurd is
commit_gives (Turned turn ∷ others) log is = absurd is

commit_tells : (commit log : List Happening) → IsCommit commit → filter_map told_in (commit ++ log) ≡ filter_map told_in log
commit_tells [] log is = refl
commit_tells (Committed change rows ∷ []) log is = refl
commit_tells (Committed change rows ∷ more ∷ others) log is = absurd is
commit_tells (Woke ∷ others) log is = absurd is
commit_tells (Fetched out ∷ others) log is = absurd is
commit_tells (Responded out reply ∷ others) log is = absurd is
commit_tells (Given trigger ∷ others) log is = absurd is
commit_tells (Turned turn ∷ others) log is = absurd is

inner_tells : (shelf : ℕ) (stimulus : Stimulus) (log : List Happening) → IsInner stimulus → (filter_map told_in log ≡ option_to_list (event_of shelf stimulus)) ⊎ (log ≡ []) → filter_map told_in log ≡ []
inner_tells shelf (Event code body) log inner either = absurd inner
inner_tells shelf (Response result item text) log inner either = absurd inner
inner_tells shelf Went log inner either = ⊎_elim {C = filter_map told_in log ≡ []} (λ is. is) (λ is. ap (filter_map told_in) is) either
inner_tells shelf Refused log inner either = ⊎_elim {C = filter_map told_in log ≡ []} (λ is. is) (λ is. ap (filter_map told_in) is) either
inner_tells shelf (Timer timer) log inner either = ⊎_elim {C = filter_map told_in log ≡ []} (λ is. is) (λ is. ap (filter_map told_in) is) either

telling_runs : (shelf : ℕ) → IsOfRuns shelf (Tells shelf)
telling_runs shelf = record {
  broken = λ stimulus. record { gives = refl; tells = inr refl };
  ended = λ stimulus does sent known. record { gives = refl; tells = inl (one_told (event_of shelf stimulus)) };
  gone_on = λ stimulus next does sent commit log inner is rest. record {
    gives = commit_gives commit log is ∙ rest.gives;
    tells = inl (ap (cons_option (event_of shelf stimulus)) (commit_tells commit log is ∙ inner_tells shelf next log inner rest.tells) ∙ one_told (event_of shelf stimulus));
  };
}

-- a run that begins with an event, of an applet that is there
run_tells : (trigger : LateTrigger) (state : ToolkitState) → HasMind state.minds trigger.shelf → filter_map told_in (running trigger state).log ≡ trigger ∷ []
run_tells trigger state has =
    let run = run_is trigger.shelf (Event trigger.code trigger.body) false state in
    let passed = running trigger state in
    ⊎_elim {C = filter_map told_in passed.log ≡ trigger ∷ []} (λ is. is) (λ none. absurd (run.begins has none)) (run.noted (Tells trigger.shelf) (telling_runs trigger.shelf)).tells

run_gives : (shelf : ℕ) (stimulus : Stimulus) (is_resumed : Bool) (state : ToolkitState) → filter_map given_in (run_of_row shelf stimulus is_resumed state).log ≡ []
run_gives shelf stimulus is_resumed state = ((run_is shelf stimulus is_resumed state).noted (Tells shelf) (telling_runs shelf)).gives

-- ---- what counts

not_second : (a b c : Bool) → b ≡ true → (a && not b && not c) ≡ false
not_second true true c is = refl
not_second false true c is = refl
not_second true false c is = cc
not_second false false c is = refl

not_third : (a b c : Bool) → c ≡ true → (a && not b && not c) ≡ false
not_third a b false is = cc
not_third true true true is = refl
not_third true false true is = refl
not_third false b true is = refl

own_not : (shelf : ℕ) (trigger : LateTrigger) → IsOwn trigger.code → owed shelf (trigger ∷ []) ≡ []
own_not shelf trigger own =
    let out : counts shelf trigger ≡ false =
    ⊎_elim {C = counts shelf trigger ≡ false}
    (λ is. not_second (trigger.shelf == shelf) (trigger.code == PROFILE_DOWNLOAD) (trigger.code == STATUS_COMMAND) (eq-eqb trigger.code PROFILE_DOWNLOAD is))
    (λ is. not_third (trigger.shelf == shelf) (trigger.code == PROFILE_DOWNLOAD) (trigger.code == STATUS_COMMAND) (eq-eqb trigger.code STATUS_COMMAND is)) own in
    ap (λ (b : Bool). cond b (trigger ∷ []) []) out

counts_shelf : (shelf : ℕ) (trigger : LateTrigger) → counts shelf trigger ≡ true → trigger.shelf ≡ shelf
counts_shelf shelf trigger is =
    let first = and_parts (trigger.shelf == shelf && not (trigger.code == PROFILE_DOWNLOAD)) (not (trigger.code == STATUS_COMMAND)) is in
    eqb-true trigger.shelf shelf (and_parts (trigger.shelf == shelf) (not (trigger.code == PROFILE_DOWNLOAD)) first.0).0

-- triggers of two applets can't both count
two_count : (shelf : ℕ) (a b : LateTrigger) → a.shelf ≢ b.shelf → (counts shelf a ≡ false) ⊎ (counts shelf b ≡ false)
two_count shelf a b apart =
    ⊎_elim {C = (counts shelf a ≡ false) ⊎ (counts shelf b ≡ false)}
    (λ first. ⊎_elim {C = (counts shelf a ≡ false) ⊎ (counts shelf b ≡ false)}
    (λ second. absurd (apart (counts_shelf shelf a first ∙ sym (counts_shelf shelf b second))))
    (λ second. inr second) (is_either (counts shelf b)))
    (λ first. inl first) (is_either (counts shelf a))

swapped : (x y : Bool) (a b : LateTrigger) (more : List LateTrigger) → (x ≡ false) ⊎ (y ≡ false)
    → cond x (a ∷ []) [] ++ (cond y (b ∷ []) [] ++ more) ≡ cond y (b ∷ []) [] ++ (cond x (a ∷ []) [] ++ more)
swapped true true a b more none = absurd (⊎_elim {C = ⊥} (λ is. cc) (λ is. cc) none)
swapped true false a b more none = refl
swapped false y a b more none = refl

owed_first : (shelf : ℕ) (trigger : LateTrigger) (others : List LateTrigger) → owed shelf (trigger ∷ others) ≡ owed shelf (trigger ∷ []) ++ owed shelf others
owed_first shelf trigger others = filter-append (counts shelf) (trigger ∷ []) others

taken_owed : (shelf : ℕ) (asked : List Sent) (late : List LateTrigger) (found : LateTrigger × List LateTrigger) → first_idle asked late ≡ Some found
    → owed shelf late ≡ owed shelf (found.0 ∷ []) ++ owed shelf found.1
taken_owed shelf asked [] found is = cc
taken_owed shelf asked (trigger ∷ others) found is =
    ⊎_elim {C = owed shelf (trigger ∷ others) ≡ owed shelf (found.0 ∷ []) ++ owed shelf found.1}
    (λ here. subst (λ (found : LateTrigger × List LateTrigger). owed shelf (trigger ∷ others) ≡ owed shelf (found.0 ∷ []) ++ owed shelf found.1) (same_Some (trigger, others) found here.1) (owed_first shelf trigger others))
    (λ later.
    let inner = mapped_Some (behind trigger) (first_idle asked others) found later.1 in
    let idle : is_idle asked inner.0.0.shelf ≡ true = (taken_out asked others inner.0 inner.1).is_idle in
    let apart : trigger.shelf ≢ inner.0.0.shelf = λ same. cc (sym later.0 ∙ ap (is_idle asked) same ∙ idle) in
    subst (λ (found : LateTrigger × List LateTrigger). owed shelf (trigger ∷ others) ≡ owed shelf (found.0 ∷ []) ++ owed shelf found.1) inner.2
    (owed_first shelf trigger others
    ∙ ap (λ (more : List LateTrigger). owed shelf (trigger ∷ []) ++ more) (taken_owed shelf asked others inner.0 inner.1)
    ∙ swapped (counts shelf trigger) (counts shelf inner.0.0) trigger inner.0.0 (owed shelf inner.0.1) (two_count shelf trigger inner.0.0 apart)
    ∙ ap (λ (more : List LateTrigger). owed shelf (inner.0.0 ∷ []) ++ more) (sym (owed_first shelf trigger inner.0.1))))
    (chosen (is_idle asked trigger.shelf) (Some (trigger, others)) (option_map (behind trigger) (first_idle asked others)) (Some found) is)

-- an idle applet is owed nothing
idle_owed : (shelf : ℕ) (trigger : LateTrigger) (late : List LateTrigger) → All (λ other. other.shelf ≢ trigger.shelf) late → owed shelf late ++ owed shelf (trigger ∷ []) ≡ owed shelf (trigger ∷ []) ++ owed shelf late
idle_owed shelf trigger [] apart = sym (append-nil (owed shelf (trigger ∷ [])))
idle_owed shelf trigger (first ∷ others) apart =
    ap (λ (front : List LateTrigger). front ++ owed shelf (trigger ∷ [])) (owed_first shelf first others)
    ∙ append_assoc (owed shelf (first ∷ [])) (owed shelf others) (owed shelf (trigger ∷ []))
    ∙ ap (λ (more : List LateTrigger). owed shelf (first ∷ []) ++ more) (idle_owed shelf trigger others (All-tail (λ other. other.shelf ≢ trigger.shelf) first others apart))
    ∙ swapped (counts shelf first) (counts shelf trigger) first trigger (owed shelf others) (two_count shelf first trigger (All-head (λ other. other.shelf ≢ trigger.shelf) first others apart))
    ∙ ap (λ (more : List LateTrigger). owed shelf (trigger ∷ []) ++ more) (sym (owed_first shelf first others))

-- ---- each step

neither_wakes : (first second : List Happening) → list_any is_wake (first ++ second) ≡ false → (list_any is_wake first ≡ false) × (list_any is_wake second ≡ false)
neither_wakes [] second none = (refl, none)
neither_wakes (happening ∷ first) second none =
    let two = or_parts (is_wake happening) (list_any is_wake (first ++ second)) none in
    let rest = neither_wakes first second two.1 in
    (ap (λ (b : Bool). b || list_any is_wake first) two.0 ∙ rest.0, rest.1)

events_join : (shelf : ℕ) (state : ToolkitState) (first second : Passed) → LosesNothing shelf state first → LosesNothing shelf first.state second → LosesNothing shelf state (noting first.log second)
events_join shelf state first second one other none =
    let two = neither_wakes first.log second.log none in
    let given : given_to shelf (first.log ++ second.log) ≡ given_to shelf first.log ++ given_to shelf second.log =
    ap (owed shelf) (filter_map-append given_in first.log second.log) ∙ filter-append (counts shelf) (filter_map given_in first.log) (filter_map given_in second.log) in
    let told : told_to shelf (first.log ++ second.log) ≡ told_to shelf first.log ++ told_to shelf second.log =
    ap (owed shelf) (filter_map-append told_in first.log second.log) ∙ filter-append (counts shelf) (filter_map told_in first.log) (filter_map told_in second.log) in
    ap (λ (more : List LateTrigger). owed shelf state.session.late ++ more) given
    ∙ sym (append_assoc (owed shelf state.session.late) (given_to shelf first.log) (given_to shelf second.log))
    ∙ ap (λ (front : List LateTrigger). front ++ given_to shelf second.log) (one two.0)
    ∙ append_assoc (told_to shelf first.log) (owed shelf first.state.session.late) (given_to shelf second.log)
    ∙ ap (λ (more : List LateTrigger). told_to shelf first.log ++ more) (other two.1)
    ∙ sym (append_assoc (told_to shelf first.log) (told_to shelf second.log) (owed shelf second.state.session.late))
    ∙ ap (λ (front : List LateTrigger). front ++ owed shelf second.state.session.late) (sym told)

-- nothing is given and nothing told, and what is late stays
quiet_step : (shelf : ℕ) (state : ToolkitState) (passed : Passed) → given_to shelf passed.log ≡ [] → told_to shelf passed.log ≡ [] → passed.state.session.late ≡ state.session.late → LosesNothing shelf state passed
quiet_step shelf state passed gives tells late none =
    ap (λ (given : List LateTrigger). owed shelf state.session.late ++ given) gives ∙ append-nil (owed shelf state.session.late) ∙ sym (ap (owed shelf) late)
    ∙ ap (λ (told : List LateTrigger). told ++ owed shelf passed.state.session.late) (sym tells)

run_own : (shelf : ℕ) (state : ToolkitState) (trigger : LateTrigger) → HasMind state.minds trigger.shelf → IsOwn trigger.code → LosesNothing shelf state (running trigger state)
run_own shelf state trigger has own =
    quiet_step shelf state (running trigger state) (ap (owed shelf) (run_gives trigger.shelf (Event trigger.code trigger.body) false state))
    (ap (owed shelf) (run_tells trigger state has) ∙ own_not shelf trigger own) (run_late trigger.shelf (Event trigger.code trigger.body) false state)

run_given : (shelf : ℕ) (state : ToolkitState) (trigger : LateTrigger) → HasMind state.minds trigger.shelf → is_idle (asks state.session) trigger.shelf ≡ true → AreSuspended state
    → LosesNothing shelf state (noting (Given trigger ∷ []) (running trigger state))
run_given shelf state trigger has idle suspends none =
    let passed = running trigger state in
    let given : owed shelf (trigger ∷ filter_map given_in passed.log) ≡ owed shelf (trigger ∷ []) = ap (λ (more : List LateTrigger). owed shelf (trigger ∷ more)) (run_gives trigger.shelf (Event trigger.code trigger.body) false state) in
    ap (λ (more : List LateTrigger). owed shelf state.session.late ++ more) given
    ∙ idle_owed shelf trigger state.session.late (nothing_late state trigger.shelf idle suspends)
    ∙ ap (λ (late : List LateTrigger). owed shelf (trigger ∷ []) ++ owed shelf late) (sym (run_late trigger.shelf (Event trigger.code trigger.body) false state))
    ∙ ap (λ (told : List LateTrigger). owed shelf told ++ owed shelf passed.state.session.late) (sym (run_tells trigger state has))

kept_given : (shelf : ℕ) (state : ToolkitState) (trigger : LateTrigger) → owed shelf state.session.late ++ owed shelf (trigger ∷ []) ≡ owed shelf (state.session.late ++ trigger ∷ [])
kept_given shelf state trigger = sym (filter-append (counts shelf) state.session.late (trigger ∷ []))

caught_event : (shelf : ℕ) (state : ToolkitState) (found : LateTrigger × List LateTrigger) → IsReady state → first_idle (asks state.session) state.session.late ≡ Some found
    → LosesNothing shelf state (running found.0 (with_session state (record state.session { late = found.1 })))
caught_event shelf state found ready first none =
    let left = with_session state (record state.session { late = found.1 }) in
    let passed = running found.0 left in
    let there : IsRegistered state.rows found.0.shelf = ((taken_out (asks state.session) state.session.late found first).all (λ trigger. IsRegistered state.rows trigger.shelf) ready.underway.late_rows).0 in
    let has = has_mind state found.0.shelf ready there in
    ap (λ (given : List LateTrigger). owed shelf state.session.late ++ owed shelf given) (run_gives found.0.shelf (Event found.0.code found.0.body) false left)
    ∙ append-nil (owed shelf state.session.late)
    ∙ taken_owed shelf (asks state.session) state.session.late found first
    ∙ ap (λ (late : List LateTrigger). owed shelf (found.0 ∷ []) ++ owed shelf late) (sym (run_late found.0.shelf (Event found.0.code found.0.body) false left))
    ∙ ap (λ (told : List LateTrigger). owed shelf told ++ owed shelf passed.state.session.late) (sym (run_tells found.0 left has))

no_event : (shelf : ℕ) (reply : Reply) (state : ToolkitState) → filter_map told_in (run_of_row shelf (Response reply.result reply.item reply.text) true state).log ≡ []
no_event shelf reply state =
    let stimulus = Response reply.result reply.item reply.text in
    let log = (run_of_row shelf stimulus true state).log in
    ⊎_elim {C = filter_map told_in log ≡ []} (λ is. is) (λ is. ap (filter_map told_in) is) ((run_is shelf stimulus true state).noted (Tells shelf) (telling_runs shelf)).tells

resumed_event : (shelf : ℕ) (out : Outstanding) (owner : Option ℕ) (reply : Reply) (state : ToolkitState) → LosesNothing shelf state (noting (Responded out reply ∷ []) (resumed owner reply (with_nothing_out state)))
resumed_event shelf out None reply state = quiet_step shelf state (noting (Responded out reply ∷ []) (resumed None reply (with_nothing_out state))) refl refl refl
resumed_event shelf out (Some owner) reply state =
    let start = with_nothing_out state in
    let stimulus = Response reply.result reply.item reply.text in
    quiet_step shelf state (noting (Responded out reply ∷ []) (resumed (Some owner) reply start)) (ap (owed shelf) (run_gives owner stimulus true start)) (ap (owed shelf) (no_event owner reply start)) (run_late owner stimulus true start)

answered_event : (shelf : ℕ) (out : Outstanding) (reply : Reply) (state : ToolkitState) → LosesNothing shelf state (answered out reply state)
unfolding answered
answered_event shelf out reply state = resumed_event shelf out out.owner reply state

fetched_event : (shelf : ℕ) (out : Outstanding) (state : ToolkitState) → LosesNothing shelf state (fetched out state)
unfolding fetched
fetched_event shelf out state none = append-nil (owed shelf state.session.late)

losing_nothing : (shelf : ℕ) → IsStepping Freely (LosesNothing shelf)
losing_nothing shelf = record {
  still = λ state none. append-nil (owed shelf state.session.late);
  joined = λ state first second one other. events_join shelf state first second one other;
  ran = λ state trigger ready idle there own. run_own shelf state trigger (has_mind state trigger.shelf ready there) own;
  given_run = λ state trigger ready suspends idle there. run_given shelf state trigger (has_mind state trigger.shelf ready there) idle suspends;
  given_late = λ state trigger ready busy none. kept_given shelf state trigger;
  caught = λ state found ready first. caught_event shelf state found ready first;
  settles = λ state ready none. append-nil (owed shelf state.session.late) ∙ sym (ap (owed shelf) (settled_late state));
  profiles = λ state bytes none. append-nil (owed shelf state.session.late);
  reports = λ state code none. append-nil (owed shelf state.session.late);
  fetches = λ state out ready is. fetched_event shelf out state;
  answers = λ state out reply ready is. answered_event shelf out reply state;
  registers = λ state row accepted free none. append-nil (owed shelf state.session.late);
  unregisters = λ state gone ready idle none. append-nil (owed shelf state.session.late);
  wakes = λ state rows minds free none. cc;
}

pub nothing_lost : HasLaws → (commands : List ToolkitInput) (state : ToolkitState) (shelf : ℕ) → IsInOrder state → AreAccepted commands state → LosesNothing shelf state (moved_by commands state)
nothing_lost laws commands state shelf is accepted = (commands_move laws (losing_nothing shelf) commands state accepted (good_from state is)).moved

-- Which applets a command tells of an event.
use Rattle.std.proofs.Common.{◌≡◌, ℕ, ◌⊎◌, inl, inr, Bool, true, false, cond, List, [], ◌∷◌, ◌++◌, map, Option, Some, None, ap, refl, sym, ◌∙◌, subst, ⊎_elim, get_or, ◌≢◌, All, AllPairs, filter, option_to_list}
use Rattle.std.specs.List.{cons_option}
use Rattle.std.proofs.lemmas.List.Elements.{All-head, All-tail, All-weaker, All-contains, filter_map-append}
use Rattle.list_laws.proofs.AllPairsLemmas.{pairs_head, pairs_tail}
use Rattle.toolkit_commands.specs.declared.commands.Proactive.{Proactive}
use Rattle.toolkit_commands.specs.declared.envelopes.Envelope.{Envelope}
use Rattle.applet_trait.specs.Minds.{AppletState}
use Rattle.applet_trait.specs.declared.stimuli.Stimulus.{Stimulus}
use Rattle.applet_trait.specs.declared.stimuli.Stimulus.TheVariants.{Event, Response, Went, Refused, Timer}
use Rattle.toolkit_model.specs.Sessions.{LateTrigger, Sent}
use Rattle.toolkit_model.specs.Orderly.{IsRegistered, asks}
use Rattle.toolkit_model.specs.Order.{targets}
use Rattle.toolkit_model.specs.Passing.{ToolkitState, Happening, Woke, Fetched, Responded, Given, Turned, Committed, Passed, noting, before, in_turn}
use Rattle.toolkit_model.specs.Driving.{is_idle, running, kept_late, told_if, given_if, trigger_for, told_one, given_one, driven}
use Rattle.toolkit_model.specs.Commands.{registered_told, triggered_by, reported, triggered, enveloped}
use Rattle.toolkit_model.specs.Steps.{HasMind}
use Rattle.toolkit_model.specs.OrderlySessions.{IsInOrder}
use Rattle.toolkit_model.specs.Turns.{IsInner, IsCommit}
use Rattle.toolkit_model.specs.Begun.{shelf_if, begun_in, begun}
use Rattle.toolkit_model.proofs.RunOnLemmas.{IsOfRuns}
use Rattle.toolkit_model.proofs.RunOfRowLemmas.{IsReady, run_is}
use Rattle.toolkit_model.proofs.LateTriggerLemmas.{late_asks}
use Rattle.toolkit_model.proofs.AsksLemmas.{run_idle}
use Rattle.toolkit_model.proofs.MovedByLemmas.{ordered_targets, triggered_targets, reported_before}
use Rattle.toolkit_model.proofs.IsInOrderLemmas.{good_from}

-- ---- a run

first_begun : (found : Option ℕ) → cons_option found [] ≡ option_to_list found
first_begun None = refl
first_begun (Some shelf) = refl

begun_commit : (commit log : List Happening) → IsCommit commit → begun (commit ++ log) ≡ begun log
begun_commit [] log is = refl
begun_commit (Committed change rows ∷ []) log is = refl
begun_commit (Committed change rows ∷ more ∷ others) log is = absurd is
begun_commit (Woke ∷ others) log is = absurd is
begun_commit (Fetched out ∷ others) log is = absurd is
begun_commit (Responded out reply ∷ others) log is = absurd is
begun_commit (Given trigger ∷ others) log is = absurd is
begun_commit (Turned turn ∷ others) log is = absurd is

abbrev BeginsOnce : ℕ → Stimulus → Option Proactive → List Happening → Type 0
BeginsOnce shelf stimulus sent log = (begun log ≡ option_to_list (shelf_if shelf stimulus)) ⊎ (log ≡ [])

inner_begins : (shelf : ℕ) (stimulus : Stimulus) (log : List Happening) → IsInner stimulus → (begun log ≡ option_to_list (shelf_if shelf stimulus)) ⊎ (log ≡ []) → begun log ≡ []
inner_begins shelf (Event code body) log inner either = absurd inner
inner_begins shelf (Response result item text) log inner either = absurd inner
inner_begins shelf Went log inner either = ⊎_elim {C = begun log ≡ []} (λ is. is) (λ is. ap begun is) either
inner_begins shelf Refused log inner either = ⊎_elim {C = begun log ≡ []} (λ is. is) (λ is. ap begun is) either
inner_begins shelf (Timer timer) log inner either = ⊎_elim {C = begun log ≡ []} (λ is. is) (λ is. ap begun is) either

begin_runs : (shelf : ℕ) → IsOfRuns shelf (BeginsOnce shelf)
begin_runs shelf = record {
  broken = λ stimulus. inr refl;
  ended = λ stimulus does sent known. inl (first_begun (shelf_if shelf stimulus));
  gone_on = λ stimulus next does sent commit log inner is rest.
      inl (ap (cons_option (shelf_if shelf stimulus)) (begun_commit commit log is ∙ inner_begins shelf next log inner rest) ∙ first_begun (shelf_if shelf stimulus));
}

run_begun : (trigger : LateTrigger) (state : ToolkitState) → HasMind state.minds trigger.shelf → begun (running trigger state).log ≡ trigger.shelf ∷ []
run_begun trigger state has =
    let run = run_is trigger.shelf (Event trigger.code trigger.body) false state in
    let passed = running trigger state in
    ⊎_elim {C = begun passed.log ≡ trigger.shelf ∷ []} (λ is. is) (λ none. absurd (run.begins has none)) (run.noted (BeginsOnce trigger.shelf) (begin_runs trigger.shelf))

-- ---- several, one after the other

record BeginsOne (shelf : ℕ) (others : List ℕ) (state : ToolkitState) (passed : Passed) : Type 0 where
  begins : begun passed.log ≡ cond (is_idle (asks state.session) shelf) (shelf ∷ []) []
  minds : All (HasMind passed.state.minds) others
  idle : All (λ other. is_idle (asks passed.state.session) other ≡ is_idle (asks state.session) other) others

abbrev BeginsEach : (ℕ → ToolkitState → Passed) → Type 0
BeginsEach step = (shelf : ℕ) (others : List ℕ) (state : ToolkitState) → All (λ other. shelf ≢ other) others → HasMind state.minds shelf → All (HasMind state.minds) others
    → BeginsOne shelf others state (step shelf state)

same_idle : (p q : ℕ → Bool) (shelves : List ℕ) → All (λ other. q other ≡ p other) shelves → filter q shelves ≡ filter p shelves
same_idle p q [] same = refl
same_idle p q (shelf ∷ others) same =
    ap (λ (b : Bool). cond b (shelf ∷ filter q others) (filter q others)) (All-head (λ other. q other ≡ p other) shelf others same)
    ∙ ap (λ (left : List ℕ). cond (p shelf) (shelf ∷ left) left) (same_idle p q others (All-tail (λ other. q other ≡ p other) shelf others same))

joined_one : (b : Bool) (shelf : ℕ) (others : List ℕ) → cond b (shelf ∷ []) [] ++ others ≡ cond b (shelf ∷ others) others
joined_one true shelf others = refl
joined_one false shelf others = refl

begins_all : (step : ℕ → ToolkitState → Passed) → BeginsEach step → (shelves : List ℕ) (state : ToolkitState) → AllPairs (λ a b. a ≢ b) shelves → All (HasMind state.minds) shelves
    → begun (in_turn step shelves state).log ≡ filter (is_idle (asks state.session)) shelves
begins_all step each [] state apart has = refl
begins_all step each (shelf ∷ others) state apart has =
    let first = step shelf state in
    let one = each shelf others state (pairs_head (λ a b. a ≢ b) shelf others apart) (All-head (HasMind state.minds) shelf others has) (All-tail (HasMind state.minds) shelf others has) in
    let rest = begins_all step each others first.state (pairs_tail (λ a b. a ≢ b) shelf others apart) one.minds in
    filter_map-append begun_in first.log (in_turn step others first.state).log
    ∙ ap (λ (front : List ℕ). front ++ begun (in_turn step others first.state).log) one.begins
    ∙ ap (λ (back : List ℕ). cond (is_idle (asks state.session) shelf) (shelf ∷ []) [] ++ back) (rest ∙ same_idle (is_idle (asks state.session)) (is_idle (asks first.state.session)) others one.idle)
    ∙ joined_one (is_idle (asks state.session) shelf) shelf (filter (is_idle (asks state.session)) others)

-- ---- one that is told, and one that is given its event

run_begins_one : (trigger : LateTrigger) (others : List ℕ) (state : ToolkitState) → is_idle (asks state.session) trigger.shelf ≡ true → All (λ other. trigger.shelf ≢ other) others
    → HasMind state.minds trigger.shelf → All (HasMind state.minds) others → BeginsOne trigger.shelf others state (running trigger state)
run_begins_one trigger others state idle apart has minds =
    let stimulus = Event trigger.code trigger.body in
    let passed = running trigger state in
    record {
      begins = run_begun trigger state has ∙ ap (λ (b : Bool). cond b (trigger.shelf ∷ []) []) (sym idle);
      minds = (run_is trigger.shelf stimulus false state).minds others minds;
      idle = All-weaker (λ other. trigger.shelf ≢ other) (λ other. is_idle (asks passed.state.session) other ≡ is_idle (asks state.session) other) (λ other. run_idle trigger.shelf other stimulus state) others apart;
    }

all_of : (P : ℕ → Type 0) → ((other : ℕ) → P other) → (others : List ℕ) → All P others
all_of P each others k d low = each (get_or others k d)

told_begins : (trigger : LateTrigger) (others : List ℕ) (state : ToolkitState) (b : Bool) → is_idle (asks state.session) trigger.shelf ≡ b → All (λ other. trigger.shelf ≢ other) others
    → HasMind state.minds trigger.shelf → All (HasMind state.minds) others → BeginsOne trigger.shelf others state (told_if b trigger state)
told_begins trigger others state true idle apart has minds = run_begins_one trigger others state idle apart has minds
told_begins trigger others state false busy apart has minds = record {
  begins = ap (λ (b : Bool). cond b (trigger.shelf ∷ []) []) (sym busy);
  minds = minds;
  idle = all_of (λ other. is_idle (asks state.session) other ≡ is_idle (asks state.session) other) (λ other. refl) others;
}

told_each : (code : ℕ) (body : List ℕ) → BeginsEach (told_one code body)
unfolding told_one
told_each code body shelf others state apart has minds = told_begins (trigger_for code body shelf) others state (is_idle (asks state.session) shelf) refl apart has minds

kept_idle : (trigger : LateTrigger) (state : ToolkitState) (others : List ℕ) → All (λ other. is_idle (asks (kept_late trigger state).state.session) other ≡ is_idle (asks state.session) other) others
kept_idle trigger state others =
    all_of (λ other. is_idle (asks (kept_late trigger state).state.session) other ≡ is_idle (asks state.session) other)
    (λ other. ap (λ (asked : List Sent). is_idle asked other) (late_asks state.session (state.session.late ++ trigger ∷ []))) others

given_begins : (trigger : LateTrigger) (others : List ℕ) (state : ToolkitState) (b : Bool) → is_idle (asks state.session) trigger.shelf ≡ b → All (λ other. trigger.shelf ≢ other) others
    → HasMind state.minds trigger.shelf → All (HasMind state.minds) others → BeginsOne trigger.shelf others state (noting (Given trigger ∷ []) (given_if b trigger state))
given_begins trigger others state true idle apart has minds =
    let one = run_begins_one trigger others state idle apart has minds in
    record { begins = one.begins; minds = one.minds; idle = one.idle }
given_begins trigger others state false busy apart has minds = record {
  begins = ap (λ (b : Bool). cond b (trigger.shelf ∷ []) []) (sym busy);
  minds = minds;
  idle = kept_idle trigger state others;
}

given_each : (code : ℕ) (body : List ℕ) → BeginsEach (given_one code body)
unfolding given_one
given_each code body shelf others state apart has minds = given_begins (trigger_for code body shelf) others state (is_idle (asks state.session) shelf) refl apart has minds

-- ---- a command

have_minds : (state : ToolkitState) (shelves : List ℕ) → IsReady state → All (IsRegistered state.rows) shelves → All (HasMind state.minds) shelves
have_minds state shelves ready there =
    All-weaker (IsRegistered state.rows) (HasMind state.minds) (λ shelf. All-contains (HasMind state.minds) (map (λ row. row.shelf) state.rows) shelf ready.minds) shelves there

pub told_begin : (code : ℕ) (body : List ℕ) (state : ToolkitState) → IsInOrder state → begun (registered_told code body state).log ≡ filter (is_idle (asks state.session)) (targets state.rows code)
told_begin code body state is =
    let ready = (good_from state is).ready in
    let to = ordered_targets state.rows code ready.rows_are in
    begins_all (told_one code body) (told_each code body) (targets state.rows code) state to.apart (have_minds state (targets state.rows code) ready to.registered)

pub triggered_begin : (envelope : Envelope) (state : ToolkitState) → IsInOrder state → begun (triggered envelope state).log ≡ filter (is_idle (asks state.session)) (triggered_by envelope state).shelves
unfolding triggered
triggered_begin envelope state is =
    let ready = (good_from state is).ready in
    let trigger = triggered_by envelope state in
    let start = reported envelope state in
    let same = reported_before envelope state in
    let to = triggered_targets envelope state ready in
    let minds : All (HasMind start.minds) trigger.shelves = subst (λ (minds : List (Option AppletState)). All (HasMind minds) trigger.shelves) (sym same.minds) (have_minds state trigger.shelves ready to.registered) in
    begins_all (given_one trigger.code trigger.body) (given_each trigger.code trigger.body) trigger.shelves start to.apart minds
    ∙ ap (λ (asked : List Sent). filter (is_idle asked) trigger.shelves) same.asked

pub before_driving : (envelope : Envelope) (state : ToolkitState) → enveloped envelope state ≡ before (triggered envelope state) driven
unfolding enveloped
before_driving envelope state = refl

-- The kinds of applets stay known, whatever moves the toolkit.
use Rattle.std.proofs.Common.{◌≡◌, ℕ, zero, suc, ◌≤◌, Bool, true, false, cond, List, [], ◌∷◌, length, Option, Some, None, Result, Ok, Err, refl, ◌∙◌, ap, subst, arith, IfSome, nat_le}
use Rattle.std.proofs.lemmas.List.Elements.{All-tail, All-set}
use Rattle.card_state.specs.Persistent.{Registration}
use Rattle.card_state.specs.AppletKinds.{IsAppletKind}
use Rattle.toolkit_commands.specs.declared.commands.Proactive.{Proactive}
use Rattle.toolkit_commands.specs.declared.envelopes.Envelope.{Envelope}
use Rattle.toolkit_commands.specs.declared.envelopes.Envelope.TheVariants as Envelopes
use Rattle.toolkit_commands.specs.declared.responses.Response.{Response as Reply}
use Rattle.timer_table.specs.Timers.{smallest_free}
use Rattle.applet_trait.specs.declared.numbers.TheConstants.{MOST_KEPT}
use Rattle.applet_trait.specs.declared.stimuli.Stimulus.{Stimulus}
use Rattle.applet_trait.specs.declared.stimuli.Stimulus.TheVariants.{Event}
use Rattle.applet_trait.specs.declared.stimuli.Act.{Act}
use Rattle.applet_trait.specs.declared.stimuli.Act.TheVariants.{Done, Send, Keep, Register, Deregister, TakeTimer, FreeTimer, Answer}
use Rattle.applet_trait.specs.Minds.{AppletState}
use Rattle.applet_trait.specs.Turns.{act}
use Rattle.toolkit_model.specs.declared.faults.RowFault.{RowFault}
use Rattle.toolkit_model.specs.Sessions.{Outstanding, LateTrigger}
use Rattle.toolkit_model.specs.Orderly.{asks}
use Rattle.toolkit_model.specs.Order.{targets}
use Rattle.toolkit_model.specs.Registry.{with_code, without_code, registers, deregisters}
use Rattle.toolkit_model.specs.Passing.{ToolkitState, Passed, before, in_turn}
use Rattle.toolkit_model.specs.Running.{Setting, Works, Carried, Ran, changing, taking, carried, is_admitted, is_held_by, admitted, going_on, run_on, most_acts, mind_on, with_mind, works_of, setting_of, run_of_mind, run_of_row}
use Rattle.toolkit_model.specs.Driving.{with_session, running, is_idle, told_if, given_if, told_one, given_one, trigger_for, first_idle, catching, caught_up, with_next_command, driven}
use Rattle.toolkit_model.specs.Commands.{registered_told, with_profile, profiled, polled, triggered_by, is_reported_once, reported, triggered, enveloped, fetched, resumed, with_nothing_out, answered, responded, registering, installed, unregistering, delete_carried}
use Rattle.toolkit_model.specs.Steps.{ToolkitInput, Profile, Status, Report, Fetch, Respond, Install, Delete, Wake, moved}
use Rattle.toolkit_model.specs.Sound.{BringsSound}
use Rattle.card_model.specs.States.{IsOfKnownKind, AreOfKnownKinds}
use Rattle.card_model.proofs.WokenLemmas.{kinds_woken}
use Rattle.card_laws.proofs.ToolkitWokenLemmas.{wakes}

abbrev pub TurnsKeepKinds : Type 0
TurnsKeepKinds = (mind : AppletState) (stimulus : Stimulus) → (act mind stimulus).next.kind ≡ mind.kind

-- ---- an act

either_mind : (b : Bool) (mind : AppletState) (x y : Carried) → x.works.mind ≡ mind → y.works.mind ≡ mind → (cond b x y).works.mind ≡ mind
either_mind true mind x y first second = first
either_mind false mind x y first second = second

changing_mind : (works : Works) (rows : List Registration) (result : Result Bool RowFault) → (changing works rows result).works.mind ≡ works.mind
changing_mind works rows (Ok true) = refl
changing_mind works rows (Ok false) = refl
changing_mind works rows (Err fault) = refl

taking_mind : (shelf : ℕ) (works : Works) (found : Option ℕ) → (taking shelf works found).works.mind ≡ works.mind
taking_mind shelf works (Some timer) = refl
taking_mind shelf works None = refl

carried_mind : (at : Setting) (does : Act) (works : Works) → (carried at does works).works.mind ≡ works.mind
carried_mind at Done works = refl
carried_mind at (Send command) works = either_mind (is_admitted at works.timers command) works.mind _ _ refl refl
carried_mind at (Keep bytes) works = either_mind (nat_le (length bytes) MOST_KEPT) works.mind _ _ refl refl
carried_mind at (Register code) works = changing_mind works (with_code works.rows at.shelf code) (registers works.rows at.shelf code)
carried_mind at (Deregister code) works = changing_mind works (without_code works.rows at.shelf code) (deregisters works.rows at.shelf code)
carried_mind at TakeTimer works = taking_mind at.shelf works (smallest_free works.timers)
carried_mind at (FreeTimer timer) works = either_mind (is_held_by works.timers at.shelf timer) works.mind _ _ refl refl
carried_mind at (Answer allows) works = refl

-- ---- a run

going_kind : (works : Works) (sent : Option Proactive) (next : Stimulus → Works → Ran) (tells : Option Stimulus) → ((stimulus : Stimulus) → (next stimulus works).works.mind.kind ≡ works.mind.kind)
    → (going_on works sent next tells).works.mind.kind ≡ works.mind.kind
going_kind works sent next None more = refl
going_kind works sent next (Some stimulus) more = more stimulus

-- the applet on a shelf, and another put there
pub at_shelf : (minds : List (Option AppletState)) (shelf : ℕ) → AreOfKnownKinds minds → IfSome (mind_on minds shelf) IsOfKnownKind
at_shelf [] zero are = tt
at_shelf [] (suc shelf) are = tt
at_shelf (first ∷ others) zero are = are 0 None (omega arith)
at_shelf (first ∷ others) (suc shelf) are = at_shelf others shelf (All-tail (λ mind. IfSome mind IsOfKnownKind) first others are)

put_there : (minds : List (Option AppletState)) (shelf : ℕ) (mind : Option AppletState) → IfSome mind IsOfKnownKind → AreOfKnownKinds minds → AreOfKnownKinds (with_mind minds shelf mind)
put_there minds shelf mind is are = All-set (λ each. IfSome each IsOfKnownKind) minds shelf mind is are

same_kind : (old new : AppletState) → new.kind ≡ old.kind → IsOfKnownKind old → IsOfKnownKind new
same_kind old new same is = (omega (arith, same, is.0), omega (arith, same, is.1))

-- ---- from state to state

-- where the applets are of known kinds, they are so afterwards
abbrev pub Keeps : ToolkitState → Passed → Type 0
Keeps state passed = AreOfKnownKinds state.minds → AreOfKnownKinds passed.state.minds

-- a row that comes, and applets that all wake, are of known kinds
abbrev pub BringsKinds : ToolkitInput → Type 0
BringsKinds (Install row) = IsAppletKind row.kind
BringsKinds (Wake rows minds) = AreOfKnownKinds minds
BringsKinds _ = Unit {0}

-- and they are sound
abbrev pub BringsGood : Bool → ℕ → ToolkitInput → Type 0
BringsGood wide next command = BringsSound wide next command × BringsKinds command

module _ (same : TurnsKeepKinds) where
  run_kind : (fuel : ℕ) (at : Setting) (stimulus : Stimulus) (works : Works) → (run_on fuel at stimulus works).works.mind.kind ≡ works.mind.kind
  unfolding run_on
  run_kind zero at stimulus works = refl
  run_kind (suc fuel) at stimulus works =
      let made = act works.mind stimulus in
      let turned : Works = record works { mind = made.next } in
      let done : Carried = carried at made.does turned in
      going_kind done.works (admitted at turned.timers made.does) (run_on fuel at) done.tells (λ next. run_kind fuel at next done.works)
      ∙ ap (λ (mind : AppletState). mind.kind) (carried_mind at made.does turned) ∙ same works.mind stimulus

  mind_keeps : (shelf : ℕ) (stimulus : Stimulus) (is_resumed : Bool) (state : ToolkitState) (mind : Option AppletState) → IfSome mind IsOfKnownKind → Keeps state (run_of_mind shelf stimulus is_resumed state mind)
  mind_keeps shelf stimulus is_resumed state None is are = are
  mind_keeps shelf stimulus is_resumed state (Some mind) is are =
      let ran : Ran = run_on most_acts (setting_of shelf stimulus state) stimulus (works_of mind state) in
      put_there state.minds shelf (Some ran.works.mind) (same_kind mind ran.works.mind (run_kind most_acts (setting_of shelf stimulus state) stimulus (works_of mind state)) is) are

  row_keeps : (shelf : ℕ) (stimulus : Stimulus) (is_resumed : Bool) (state : ToolkitState) → Keeps state (run_of_row shelf stimulus is_resumed state)
  unfolding run_of_row
  row_keeps shelf stimulus is_resumed state are = mind_keeps shelf stimulus is_resumed state (mind_on state.minds shelf) (at_shelf state.minds shelf are) are

  before_keeps : (state : ToolkitState) (first : Passed) (next : ToolkitState → Passed) → Keeps state first → ((later : ToolkitState) → Keeps later (next later)) → Keeps state (before first next)
  before_keeps state first next a b are = b first.state (a are)

  turns_keep : {X : Type 0} (step : X → ToolkitState → Passed) → ((x : X) (state : ToolkitState) → Keeps state (step x state)) → (xs : List X) (state : ToolkitState) → Keeps state (in_turn step xs state)
  turns_keep step each [] state are = are
  turns_keep step each (x ∷ others) state are = before_keeps state (step x state) (in_turn step others) (each x state) (λ later. turns_keep step each others later) are

  -- ---- triggers

  told_keeps : (b : Bool) (trigger : LateTrigger) (state : ToolkitState) → Keeps state (told_if b trigger state)
  told_keeps true trigger state are = row_keeps trigger.shelf _ false state are
  told_keeps false trigger state are = are

  told_one_keeps : (code : ℕ) (body : List ℕ) (shelf : ℕ) (state : ToolkitState) → Keeps state (told_one code body shelf state)
  unfolding told_one
  told_one_keeps code body shelf state are = told_keeps (is_idle (asks state.session) shelf) (trigger_for code body shelf) state are

  given_keeps : (b : Bool) (trigger : LateTrigger) (state : ToolkitState) → Keeps state (given_if b trigger state)
  given_keeps true trigger state are = row_keeps trigger.shelf _ false state are
  given_keeps false trigger state are = are

  given_one_keeps : (code : ℕ) (body : List ℕ) (shelf : ℕ) (state : ToolkitState) → Keeps state (given_one code body shelf state)
  unfolding given_one
  given_one_keeps code body shelf state are = given_keeps (is_idle (asks state.session) shelf) (trigger_for code body shelf) state are

  catching_keeps : (next : ToolkitState → Passed) → ((later : ToolkitState) → Keeps later (next later)) → (state : ToolkitState) (found : Option (LateTrigger × List LateTrigger)) → Keeps state (catching next state found)
  catching_keeps next each state None are = are
  catching_keeps next each state (Some found) are =
      let without : ToolkitState = with_session state (record state.session { late = found.1 }) in
      each (running found.0 without).state (row_keeps found.0.shelf (Event found.0.code found.0.body) false without are)

  caught_keeps : (count : ℕ) (state : ToolkitState) → Keeps state (caught_up count state)
  unfolding caught_up
  caught_keeps zero state are = are
  caught_keeps (suc count) state are = catching_keeps (caught_up count) (λ later. caught_keeps count later) state (first_idle (asks state.session) state.session.late) are

  settled_keeps : (state : ToolkitState) → AreOfKnownKinds state.minds → AreOfKnownKinds (with_next_command state).minds
  unfolding with_next_command
  settled_keeps state are = are

  driven_keeps : (state : ToolkitState) → Keeps state (driven state)
  unfolding driven
  driven_keeps state are = settled_keeps (caught_up (length state.session.late) state).state (caught_keeps (length state.session.late) state are)

  -- ---- commands

  told_all_keep : (code : ℕ) (body : List ℕ) (state : ToolkitState) → Keeps state (registered_told code body state)
  told_all_keep code body state are = turns_keep (told_one code body) (λ shelf later. told_one_keeps code body shelf later) (targets state.rows code) state are

  profiled_keeps : (bytes : List ℕ) (state : ToolkitState) → Keeps state (profiled bytes state)
  unfolding profiled
  profiled_keeps bytes state are = driven_keeps _ (told_all_keep _ bytes (with_profile state bytes) are)

  polled_keeps : (state : ToolkitState) → Keeps state (polled state)
  unfolding polled
  polled_keeps state are = driven_keeps _ (told_all_keep _ [] state are)

  reported_if : (b : Bool) (state other : ToolkitState) → AreOfKnownKinds other.minds → AreOfKnownKinds state.minds → AreOfKnownKinds (cond b other state).minds
  reported_if true state other there here = there
  reported_if false state other there here = here

  reported_keeps : (envelope : Envelope) (state : ToolkitState) → AreOfKnownKinds state.minds → AreOfKnownKinds (reported envelope state).minds
  reported_keeps (Envelopes.Event code body) state are = reported_if (is_reported_once code) state _ are are
  reported_keeps (Envelopes.Menu item) state are = are
  reported_keeps (Envelopes.CallControl address) state are = are
  reported_keeps (Envelopes.Timer timer) state are = are

  enveloped_keeps : (envelope : Envelope) (state : ToolkitState) → Keeps state (enveloped envelope state)
  unfolding enveloped triggered
  enveloped_keeps envelope state are =
      let trigger = triggered_by envelope state in
      driven_keeps _ (turns_keep (given_one trigger.code trigger.body) (λ shelf later. given_one_keeps trigger.code trigger.body shelf later) trigger.shelves (reported envelope state) (reported_keeps envelope state are))

  fetched_keeps : (out : Outstanding) (state : ToolkitState) → Keeps state (fetched out state)
  unfolding fetched
  fetched_keeps out state are = are

  resumed_keeps : (owner : Option ℕ) (reply : Reply) (state : ToolkitState) → Keeps state (resumed owner reply state)
  resumed_keeps None reply state are = are
  resumed_keeps (Some shelf) reply state are = row_keeps shelf _ true state are

  responded_keeps : (out : Outstanding) (reply : Reply) (state : ToolkitState) → Keeps state (responded out reply state)
  unfolding responded answered
  responded_keeps out reply state are = driven_keeps _ (resumed_keeps out.owner reply (with_nothing_out state) are)

  installed_keeps : (row : Registration) (state : ToolkitState) → IsAppletKind row.kind → Keeps state (installed row state)
  unfolding installed
  installed_keeps row state is are = driven_keeps (registering row state).state (put_there state.minds row.shelf _ is are)

  deleted_keeps : (shelf : ℕ) (state : ToolkitState) → Keeps state (delete_carried shelf state)
  unfolding delete_carried
  deleted_keeps shelf state are = driven_keeps (unregistering shelf state).state (put_there state.minds shelf None tt are)

  pub moved_keeps : (command : ToolkitInput) (state : ToolkitState) → BringsKinds command → Keeps state (moved command state)
  moved_keeps (Profile bytes) state brings are = profiled_keeps bytes state are
  moved_keeps Status state brings are = polled_keeps state are
  moved_keeps (Report envelope) state brings are = enveloped_keeps envelope state are
  moved_keeps (Fetch out) state brings are = fetched_keeps out state are
  moved_keeps (Respond out reply) state brings are = responded_keeps out reply state are
  moved_keeps (Install row) state brings are = installed_keeps row state brings are
  moved_keeps (Delete shelf) state brings are = deleted_keeps shelf state are
  moved_keeps (Wake rows minds) state brings are = subst AreOfKnownKinds (ap (λ (woke : ToolkitState). woke.minds) (wakes rows minds)) (kinds_woken rows minds brings)

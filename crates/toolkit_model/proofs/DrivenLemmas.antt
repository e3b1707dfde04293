-- Where driving ends.
use Rattle.std.proofs.Common.{◌≡◌, ℕ, zero, suc, ◌≤◌, false, List, [], ◌∷◌, length, Option, Some, None, ap, arith, refl, sym, subst, ⊎_elim, All, option_map}
use Rattle.std.proofs.lemmas.List.Elements.{All-nil, All-cons}
use Rattle.list_laws.proofs.CondLemmas.{chosen}
use Rattle.list_laws.proofs.IfSomeLemmas.{none_mapped}
use Rattle.applet_trait.specs.declared.stimuli.Stimulus.TheVariants.{Event}
use Rattle.toolkit_model.specs.Sessions.{Sent, LateTrigger}
use Rattle.toolkit_model.specs.Orderly.{asks}
use Rattle.toolkit_model.specs.Passing.{ToolkitState}
use Rattle.toolkit_model.specs.Driving.{is_idle, with_session, running, behind, first_idle, catching, caught_up, with_next_command, driven}
use Rattle.toolkit_model.proofs.LateTriggerLemmas.{taken_out}
use Rattle.toolkit_model.proofs.FilledLemmas.{WaitsBehind, settled_behind, settled_asks, settled_late}
use Rattle.toolkit_model.proofs.AsksLemmas.{run_late}
use Rattle.toolkit_model.proofs.DrivingLemmas.{AreSuspended}

-- where no late trigger is of an idle applet, all are of others
none_idle : (asked : List Sent) (late : List LateTrigger) → first_idle asked late ≡ None → All (λ trigger. is_idle asked trigger.shelf ≡ false) late
none_idle asked [] is = All-nil (λ trigger. is_idle asked trigger.shelf ≡ false)
none_idle asked (trigger ∷ others) is =
    ⊎_elim {C = All (λ trigger. is_idle asked trigger.shelf ≡ false) (trigger ∷ others)}
    (λ here. cc (here.1))
    (λ later. All-cons (λ trigger. is_idle asked trigger.shelf ≡ false) trigger others later.0 (none_idle asked others (none_mapped (behind trigger) (first_idle asked others) later.1)))
    (chosen (is_idle asked trigger.shelf) (Some (trigger, others)) (option_map (behind trigger) (first_idle asked others)) None is)

nothing_there : (asked : List Sent) (late : List LateTrigger) → length late ≤ 0 → first_idle asked late ≡ None
nothing_there asked [] few = refl
nothing_there asked (trigger ∷ others) few = absurd (omega arith)

catching_ends : (count : ℕ) (state : ToolkitState) (found : Option (LateTrigger × List LateTrigger)) → first_idle (asks state.session) state.session.late ≡ found → length state.session.late ≤ suc count
    → ((later : ToolkitState) → length later.session.late ≤ count → AreSuspended (caught_up count later).state) → AreSuspended (catching (caught_up count) state found).state
catching_ends count state None first few more = none_idle (asks state.session) state.session.late first
catching_ends count state (Some found) first few more =
    let left = with_session state (record state.session { late = found.1 }) in
    let taken = taken_out (asks state.session) state.session.late found first in
    let same : (running found.0 left).state.session.late ≡ found.1 = run_late found.0.shelf (Event found.0.code found.0.body) false left in
    more (running found.0 left).state (omega (arith, ap length same, taken.one_less, few))

caught_up_ends : (count : ℕ) (state : ToolkitState) → length state.session.late ≤ count → AreSuspended (caught_up count state).state
unfolding caught_up
caught_up_ends zero state few = none_idle (asks state.session) state.session.late (nothing_there (asks state.session) state.session.late few)
caught_up_ends (suc count) state few = catching_ends count state (first_idle (asks state.session) state.session.late) refl few (caught_up_ends count)

pub driven_suspends : (state : ToolkitState) → AreSuspended (driven state).state
unfolding driven
driven_suspends state =
    let caught = (caught_up (length state.session.late) state).state in
    let ends : AreSuspended caught = caught_up_ends (length state.session.late) state (omega arith) in
    subst (λ (asked : List Sent). All (λ trigger. is_idle asked trigger.shelf ≡ false) (with_next_command caught).session.late) (sym (settled_asks caught))
    (subst (All (λ (trigger : LateTrigger). is_idle (asks caught.session) trigger.shelf ≡ false)) (sym (settled_late caught)) ends)

pub driven_behind : (state : ToolkitState) → WaitsBehind (driven state).state.session
unfolding driven
driven_behind state = settled_behind (caught_up (length state.session.late) state).state

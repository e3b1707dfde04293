-- Late triggers that are caught up with, one after the other.
use Rattle.std.proofs.Common.{◌≡◌, refl, sym, ap, ◌∙◌, subst, ℕ, zero, suc, true, false, List, length, Some, None, Option, ◌≢◌, Result, Ok, Err, IsErr}
use Rattle.store_form.specs.declared.store.StoreFault.{StoreFault}
use Rattle.store_form.specs.declared.store.StoreFault.TheVariants.{Failed}
use Rattle.card_state.specs.declared.entries.Loaded.{Loaded}
use Rattle.card_state.specs.Memory.{held}
use Rattle.card_state.specs.States.{rows_of}
use Rattle.card_commits.specs.Entries.{HasRowOn}
use Rattle.applet_trait.specs.declared.stimuli.Stimulus.TheVariants.{Event}
use Rattle.toolkit_model.specs.Sessions.{Sent, LateTrigger, SessionState}
use Rattle.toolkit_model.specs.Orderly.{asks}
use Rattle.toolkit_model.specs.Passing.{ToolkitState, Passed, unmoved, before, passed_rows}
use Rattle.toolkit_model.specs.Running.{run_of_row}
use Rattle.toolkit_model.specs.Driving.{is_idle, with_session, running, first_idle, catching, caught_up, filled, with_next_command, driven}
use Rattle.toolkit_model.proofs.LateTriggerLemmas.{late_asks}
use Rattle.proactive_handler.specs.Runs.{StopsIn}
use Rattle.proactive_handler.specs.Boxes.{IsSameBox, AreForOthers}
use Rattle.proactive_handler.specs.Serving.{IsSessionServed}
use Rattle.proactive_handler.specs.Steps.{toolkit, Scene, IsDone, MovesTo}
use Rattle.proactive_handler.proofs.StopsAtLemmas.{first_stops, both_done, then_moves}
use Rattle.proactive_handler.specs.Reached.{HasNoTurn, StopsBehind, TurnsTo}
use Rattle.proactive_handler.proofs.ReachedLemmas.{both_leave, then_turns, since_turns, first_turns}
use Rattle.proactive_handler.specs.Moved.{HasRowsOf}
use Rattle.proactive_handler.proofs.MovedLemmas.{still_done, since_moves}
use Rattle.proactive_handler.proofs.IsSessionServedLemmas.{IsFound, found_first, taken_served}

-- ---- the first whose applet is idle was taken out

module _ (table : Loaded) (session left : SessionState) (trigger : LateTrigger) (served : IsSessionServed table session) (first : first_idle (asks session) session.late ≡ Some (trigger, left.late)) (is : left ≡ record session { late = left.late }) where
  found : IsFound (asks session) (λ t. HasRowOn table t.shelf) (trigger, left.late)
  found = found_first (asks session) (λ t. HasRowOn table t.shelf) session.late (trigger, left.late) served.late first

  pub caught_row : HasRowOn table trigger.shelf
  caught_row = found.here

  pub caught_idle : is_idle (asks left) trigger.shelf ≡ true
  caught_idle = ap (λ (s : SessionState). is_idle (asks s) trigger.shelf) is ∙ ap (λ (asked : List Sent). is_idle asked trigger.shelf) (late_asks session left.late) ∙ found.idle

  pub caught_served : IsSessionServed table left
  caught_served = subst (IsSessionServed table) (sym is) (taken_served table session left.late found.others served)

-- it is not for this applet, nor are those that are left
pub caught_apart : (other : ℕ) (session left : SessionState) (trigger : LateTrigger) → first_idle (asks session) session.late ≡ Some (trigger, left.late) → AreForOthers other session.late
    → (trigger.shelf ≢ other) × AreForOthers other left.late
caught_apart other session left trigger first apart =
    let found = found_first (asks session) (λ t. t.shelf ≢ other) session.late (trigger, left.late) apart first in
    (found.here, found.others)

-- ---- one of so many

none_caught : (state : ToolkitState) → caught_up zero state ≡ unmoved state
unfolding caught_up
none_caught state = refl

next_caught : (fuel : ℕ) (state : ToolkitState) → caught_up (suc fuel) state ≡ catching (caught_up fuel) state (first_idle (asks state.session) state.session.late)
unfolding caught_up
next_caught fuel state = refl

-- a step that leaves everything as it is
still_so : (passed : Passed) (old : Scene) → HasRowsOf (held old.memory) (rows_of old.memory.table) → passed ≡ unmoved (toolkit old) → IsDone passed old old
still_so passed old has is =
    still_done passed old old has (ap (λ (p : Passed). passed_rows p.log) is) (ap (λ (p : Passed). p.state.rows) is) (sym (ap (λ (p : Passed). p.state) is)) refl

pub zero_done : (count : ℕ) (old : Scene) → HasRowsOf (held old.memory) (rows_of old.memory.table) → count ≡ 0 → IsDone (caught_up count (toolkit old)) old old
zero_done count old has is = still_so (caught_up count (toolkit old)) old has (ap (λ (n : ℕ). caught_up n (toolkit old)) is ∙ none_caught (toolkit old))

pub none_done : (count fuel : ℕ) (old : Scene) → HasRowsOf (held old.memory) (rows_of old.memory.table) → count ≡ suc fuel → first_idle (asks old.session) old.session.late ≡ None → IsDone (caught_up count (toolkit old)) old old
none_done count fuel old has is none =
    still_so (caught_up count (toolkit old)) old has (ap (λ (n : ℕ). caught_up n (toolkit old)) is ∙ next_caught fuel (toolkit old) ∙ ap (catching (caught_up fuel) (toolkit old)) none)

module _ (count fuel : ℕ) (old : Scene) (left : SessionState) (trigger : LateTrigger) (mid : Scene) (count_is : count ≡ suc fuel)
    (first : first_idle (asks old.session) old.session.late ≡ Some (trigger, left.late)) (is : left ≡ record old.session { late = left.late }) where
  abbrev early : Scene
  early = record old { session = left }

  abbrev one : Passed
  one = running trigger (with_session (toolkit old) (record old.session { late = left.late }))

  caught_is : caught_up count (toolkit old) ≡ before one (caught_up fuel)
  caught_is = ap (λ (n : ℕ). caught_up n (toolkit old)) count_is ∙ next_caught fuel (toolkit old) ∙ ap (catching (caught_up fuel) (toolkit old)) first

  one_moves : {X : Type 0} (r : Result X StoreFault) → MovesTo (run_of_row trigger.shelf (Event trigger.code trigger.body) false (toolkit early)) early mid r → MovesTo one old mid r
  one_moves r moves =
      since_moves one old early mid r refl (subst (λ (s : SessionState). MovesTo (run_of_row trigger.shelf (Event trigger.code trigger.body) false (toolkit (record old { session = s }))) early mid r) is moves)

  pub one_stops : {X : Type 0} (r : Result X StoreFault) → IsErr r → StopsIn (run_of_row trigger.shelf (Event trigger.code trigger.body) false (toolkit early)).log old.memory mid.memory
      → MovesTo (caught_up count (toolkit old)) old mid r
  one_stops (Ok x) err stop = cc err
  one_stops (Err fault) err stop =
      subst (λ (p : Passed). StopsIn p.log old.memory mid.memory) (sym caught_is) (first_stops one (caught_up fuel) old mid mid (one_moves {X = ℕ} (Err fault) stop))

  one_turns : {X B : Type 0} (cast left' : List (Option B)) (r : Result X StoreFault) → TurnsTo (run_of_row trigger.shelf (Event trigger.code trigger.body) false (toolkit early)) early mid cast left' r → TurnsTo one old mid cast left' r
  one_turns cast left' r leaves =
      since_turns cast left' one old early mid r refl (subst (λ (s : SessionState). TurnsTo (run_of_row trigger.shelf (Event trigger.code trigger.body) false (toolkit (record old { session = s }))) early mid cast left' r) is leaves)

  pub one_leaves : {X B : Type 0} (cast between : List (Option B)) (r : Result X StoreFault) → IsErr r → StopsBehind (run_of_row trigger.shelf (Event trigger.code trigger.body) false (toolkit early)).log early mid cast between
      → TurnsTo (caught_up count (toolkit old)) old mid cast between r
  one_leaves cast between r err stop =
      subst (λ (p : Passed). TurnsTo p old mid cast between r) (sym caught_is) (first_turns one (caught_up fuel) old mid cast between r err (one_turns {X = ℕ} cast between (Err Failed) stop))

  pub more_leaves : {X B : Type 0} (new : Scene) (cast between left' : List (Option B)) (r : Result X StoreFault) → IsDone (run_of_row trigger.shelf (Event trigger.code trigger.body) false (toolkit early)) early mid
      → ((shelf : ℕ) → HasNoTurn shelf (run_of_row trigger.shelf (Event trigger.code trigger.body) false (toolkit early)).log → IsSameBox shelf cast between) → TurnsTo (caught_up fuel (toolkit mid)) mid new between left' r → TurnsTo (caught_up count (toolkit old)) old new cast left' r
  more_leaves {X} new cast between left' r done leaves later =
      subst (λ (p : Passed). TurnsTo p old new cast left' r) (sym caught_is)
      (then_turns one (caught_up fuel) old mid new cast between left' (one_moves {X = ℕ} (Ok 0) done) (one_turns {X = ℕ} cast between (Ok 0) leaves) r later)

  pub more_moves : {X : Type 0} (new : Scene) (r : Result X StoreFault) → IsDone (run_of_row trigger.shelf (Event trigger.code trigger.body) false (toolkit early)) early mid → MovesTo (caught_up fuel (toolkit mid)) mid new r → MovesTo (caught_up count (toolkit old)) old new r
  more_moves {X} new r done moves =
      subst (λ (p : Passed). MovesTo p old new r) (sym caught_is) (then_moves one (caught_up fuel) old mid new r (one_moves {X = ℕ} (Ok 0) done) moves)

-- ---- and then something becomes outstanding

driven_is : (count : ℕ) (state : ToolkitState) → count ≡ length state.session.late → driven state ≡ before (caught_up count state) (λ later. unmoved (with_next_command later))
unfolding driven
driven_is count state is = ap (λ (n : ℕ). before (caught_up n state) (λ (later : ToolkitState). unmoved (with_next_command later))) (sym is)

settled_is : (state : ToolkitState) → with_next_command state ≡ with_session state (filled state.session.out state.rows state.session)
unfolding with_next_command
settled_is state = refl

module _ (count : ℕ) (old mid : Scene) (count_is : count ≡ length old.session.late) where
  pub driven_stops : {X : Type 0} (r : Result X StoreFault) → IsErr r → StopsIn (caught_up count (toolkit old)).log old.memory mid.memory → MovesTo (driven (toolkit old)) old mid r
  driven_stops (Ok x) err stop = cc err
  driven_stops (Err fault) err stop =
      subst (λ (p : Passed). StopsIn p.log old.memory mid.memory) (sym (driven_is count (toolkit old) count_is))
      (first_stops (caught_up count (toolkit old)) (λ later. unmoved (with_next_command later)) old mid mid stop)

  pub driven_leaves : {X B : Type 0} (cast between : List (Option B)) (r : Result X StoreFault) → IsErr r → StopsBehind (caught_up count (toolkit old)).log old mid cast between → TurnsTo (driven (toolkit old)) old mid cast between r
  driven_leaves cast between r err stop =
      subst (λ (p : Passed). TurnsTo p old mid cast between r) (sym (driven_is count (toolkit old) count_is)) (first_turns (caught_up count (toolkit old)) (λ later. unmoved (with_next_command later)) old mid cast between r err stop)

  pub driven_left : {B : Type 0} (new : Scene) (cast left : List (Option B)) → IsDone (caught_up count (toolkit old)) old mid → ((shelf : ℕ) → HasNoTurn shelf (caught_up count (toolkit old)).log → IsSameBox shelf cast left)
      → (shelf : ℕ) → HasNoTurn shelf (driven (toolkit old)).log → IsSameBox shelf cast left
  driven_left new cast left done leaves =
      subst (λ (p : Passed). (shelf : ℕ) → HasNoTurn shelf p.log → IsSameBox shelf cast left) (sym (driven_is count (toolkit old) count_is))
      (both_leave (caught_up count (toolkit old)) (λ later. unmoved (with_next_command later)) old mid new cast left left done leaves (λ shelf none. refl))

  pub driven_done : (new : Scene) → IsDone (caught_up count (toolkit old)) old mid → HasRowsOf (held mid.memory) (rows_of mid.memory.table) → toolkit new ≡ with_session (toolkit mid) (filled mid.session.out (rows_of mid.memory.table) mid.session) → new.memory ≡ mid.memory
      → IsDone (driven (toolkit old)) old new
  driven_done new done has state same =
      subst (λ (p : Passed). IsDone p old new) (sym (driven_is count (toolkit old) count_is))
      (both_done (caught_up count (toolkit old)) (λ later. unmoved (with_next_command later)) old mid new done
      (still_done (unmoved (with_next_command (toolkit mid))) mid new has refl (ap (λ (s : ToolkitState). s.rows) (settled_is (toolkit mid))) (state ∙ sym (settled_is (toolkit mid))) same))

-- The kinds of applets, step by step.
use Rattle.std.proofs.Common.{◌≡◌, ℕ, zero, suc, ◌+◌, Bool, true, false, cond, List, [], ◌∷◌, ◌++◌, map, Option, Some, None, Result, Ok, Err, get_or, arith, refl, sym, ◌∙◌, ap, subst, ◌≢◌, not, nat_lt, filter, All, IfSome, option_map, slice_index_or, get_or-set_other}
use Rattle.std.specs.List.{list_any, enumerate_from}
use Rattle.std.proofs.lemmas.Bool.{eqb-false, not-true, ltb-true, or_parts, cond_both}
use Rattle.std.proofs.lemmas.List.Folds.{list_any-append}
use Rattle.std.proofs.lemmas.List.Elements.{All-map, All-push, All-append, All-filter, filter_passes}
use Rattle.list_laws.proofs.MapLemmas.{all_unmapped}
use Rattle.card_state.specs.Persistent.{Registration}
use Rattle.toolkit_commands.specs.declared.commands.Proactive.{Proactive}
use Rattle.toolkit_commands.specs.declared.responses.Response.{Response as Reply}
use Rattle.timer_table.specs.Timers.{smallest_free}
use Rattle.applet_trait.specs.declared.stimuli.Stimulus.{Stimulus}
use Rattle.applet_trait.specs.declared.stimuli.Stimulus.TheVariants.{Event, Response}
use Rattle.applet_trait.specs.declared.stimuli.Act.{Act}
use Rattle.applet_trait.specs.declared.stimuli.Act.TheVariants.{Done, Send, Keep, Register, Deregister, TakeTimer, FreeTimer, Answer}
use Rattle.applet_trait.specs.Minds.{AppletState, fresh}
use Rattle.applet_trait.specs.Turns.{act}
use Rattle.toolkit_model.specs.declared.faults.RowFault.{RowFault}
use Rattle.toolkit_model.specs.Sessions.{Outstanding}
use Rattle.toolkit_model.specs.Passing.{ToolkitState, Passed}
use Rattle.toolkit_model.specs.Registry.{is_on, row_on, without_row, with_code, without_code, registers, deregisters}
use Rattle.toolkit_model.specs.Running.{Setting, Works, Carried, Ran, is_admitted, admitted, is_held_by, carried, changing, taking, going_on, run_on, most_acts, setting_of, works_of, mind_on, with_mind, run_of_mind, run_of_row}
use Rattle.toolkit_model.specs.Driving.{with_next_command}
use Rattle.toolkit_model.specs.Commands.{fetched, resumed, with_nothing_out, answered, registering, unregistering, woken_mind, woken_box, toolkit_woken, woken_boxes}
use Rattle.toolkit_model.specs.Kinds.{AreOfKinds, IsOfKinds, KindsStay, WakesKeepKinds}
use Rattle.toolkit_model.specs.Owing.{is_wake}
use Rattle.toolkit_model.proofs.CarriedLemmas.{changed_map}
use Rattle.toolkit_model.proofs.DrivingLemmas.{HasLaws, Freely, IsStepping}
use Rattle.toolkit_model.proofs.MovedByLemmas.{commands_move}
use Rattle.toolkit_model.proofs.IsInOrderLemmas.{good_from}

-- ---- rows of the same shelves and kinds, and applets of the same kinds

abbrev tags_of : List Registration → List (ℕ × ℕ)
tags_of rows = map (λ row. (row.shelf, row.kind)) rows

abbrev kinds_of : List (Option AppletState) → List (Option ℕ)
kinds_of minds = map (option_map (λ mind. mind.kind)) minds

kind_there : (minds : List (Option AppletState)) (shelf : ℕ) → slice_index_or (kinds_of minds) shelf None ≡ option_map (λ mind. mind.kind) (mind_on minds shelf)
kind_there [] zero = refl
kind_there [] (suc shelf) = refl
kind_there (first ∷ others) zero = refl
kind_there (first ∷ others) (suc shelf) = kind_there others shelf

mapped_if : (kind : ℕ) (found : Option AppletState) → IfSome found (λ mind. mind.kind ≡ kind) → IfSome (option_map (λ mind. mind.kind) found) (λ each. each ≡ kind)
mapped_if kind None is = tt
mapped_if kind (Some mind) is = is

unmapped_if : (kind : ℕ) (found : Option AppletState) → IfSome (option_map (λ mind. mind.kind) found) (λ each. each ≡ kind) → IfSome found (λ mind. mind.kind ≡ kind)
unmapped_if kind None is = tt
unmapped_if kind (Some mind) is = is

abbrev IsTagged : List (Option ℕ) → ℕ × ℕ → Type 0
IsTagged kinds tag = IfSome (slice_index_or kinds tag.0 None) (λ kind. kind ≡ tag.1)

tagged : (rows : List Registration) (minds : List (Option AppletState)) → AreOfKinds rows minds → All (IsTagged (kinds_of minds)) (tags_of rows)
tagged rows minds are =
    All-map (IsTagged (kinds_of minds)) (λ row. (row.shelf, row.kind)) rows (λ k d low.
    let row : Registration = get_or rows k d in
    subst (λ (found : Option ℕ). IfSome found (λ kind. kind ≡ row.kind)) (sym (kind_there minds row.shelf)) (mapped_if row.kind (mind_on minds row.shelf) (are k d low)))

untagged : (rows : List Registration) (minds : List (Option AppletState)) → All (IsTagged (kinds_of minds)) (tags_of rows) → AreOfKinds rows minds
untagged rows minds all = λ k d low.
    let row : Registration = get_or rows k d in
    unmapped_if row.kind (mind_on minds row.shelf)
    (subst (λ (found : Option ℕ). IfSome found (λ kind. kind ≡ row.kind)) (kind_there minds row.shelf) (all_unmapped (IsTagged (kinds_of minds)) (λ row. (row.shelf, row.kind)) rows all k d low))

record AreSame (state after : ToolkitState) : Type 0 where
  tags : tags_of after.rows ≡ tags_of state.rows
  kinds : kinds_of after.minds ≡ kinds_of state.minds

stay : (state after : ToolkitState) → AreSame state after → IsOfKinds state → IsOfKinds after
stay state after same are =
    untagged after.rows after.minds
    (subst (λ (tags : List (ℕ × ℕ)). All (IsTagged (kinds_of after.minds)) tags) (sym same.tags)
    (subst (λ (kinds : List (Option ℕ)). All (IsTagged kinds) (tags_of state.rows)) (sym same.kinds) (tagged state.rows state.minds are)))

-- ---- a run

abbrev pub SameKind : Type 0
SameKind = (mind : AppletState) (stimulus : Stimulus) → (act mind stimulus).next.kind ≡ mind.kind

record Keeps (works after : Works) : Type 0 where
  tags : tags_of after.rows ≡ tags_of works.rows
  kind : after.mind.kind ≡ works.mind.kind

keeps_all : (works : Works) → Keeps works works
keeps_all works = record { tags = refl; kind = refl }

changing_keeps : (works : Works) (rows : List Registration) (result : Result Bool RowFault) → tags_of rows ≡ tags_of works.rows → Keeps works (changing works rows result).works
changing_keeps works rows (Ok true) same = record { tags = same; kind = refl }
changing_keeps works rows (Ok false) same = keeps_all works
changing_keeps works rows (Err fault) same = keeps_all works

taking_keeps : (shelf : ℕ) (works : Works) (found : Option ℕ) → Keeps works (taking shelf works found).works
taking_keeps shelf works (Some timer) = record { tags = refl; kind = refl }
taking_keeps shelf works None = keeps_all works

changed_tags : (change : Registration → Registration) (shelf : ℕ) (rows : List Registration) → ((row : Registration) → (let tag : ℕ × ℕ = ((change row).shelf, (change row).kind) in tag) ≡ (row.shelf, row.kind))
    → tags_of (map (λ row. cond (is_on shelf row) (change row) row) rows) ≡ tags_of rows
changed_tags change shelf rows same = changed_map (λ row. (row.shelf, row.kind)) change shelf rows same

carried_keeps : (at : Setting) (does : Act) (works : Works) → Keeps works (carried at does works).works
carried_keeps at Done works = keeps_all works
carried_keeps at (Send command) works = cond_both (is_admitted at works.timers command) _ _ (λ (done : Carried). Keeps works done.works) (λ h. keeps_all works) (λ h. keeps_all works)
carried_keeps at (Keep bytes) works =
    cond_both _ _ _ (λ (done : Carried). Keeps works done.works) (λ h. record { tags = changed_tags (λ row. record row { kept = bytes }) at.shelf works.rows (λ row. refl); kind = refl }) (λ h. keeps_all works)
carried_keeps at (Register code) works = changing_keeps works (with_code works.rows at.shelf code) (registers works.rows at.shelf code) (changed_tags _ at.shelf works.rows (λ row. refl))
carried_keeps at (Deregister code) works = changing_keeps works (without_code works.rows at.shelf code) (deregisters works.rows at.shelf code) (changed_tags _ at.shelf works.rows (λ row. refl))
carried_keeps at TakeTimer works = taking_keeps at.shelf works (smallest_free works.timers)
carried_keeps at (FreeTimer timer) works = cond_both (is_held_by works.timers at.shelf timer) _ _ (λ (done : Carried). Keeps works done.works) (λ h. record { tags = refl; kind = refl }) (λ h. keeps_all works)
carried_keeps at (Answer allows) works = keeps_all works

going_keeps : (start works : Works) (sent : Option Proactive) (next : Stimulus → Works → Ran) (tells : Option Stimulus) → Keeps start works → ((stimulus : Stimulus) → Keeps works (next stimulus works).works) → Keeps start (going_on works sent next tells).works
going_keeps start works sent next None so_far more = so_far
going_keeps start works sent next (Some stimulus) so_far more = record { tags = (more stimulus).tags ∙ so_far.tags; kind = (more stimulus).kind ∙ so_far.kind }

run_keeps : SameKind → (fuel : ℕ) (at : Setting) (stimulus : Stimulus) (works : Works) → Keeps works (run_on fuel at stimulus works).works
unfolding run_on
run_keeps same zero at stimulus works = record { tags = refl; kind = refl }
run_keeps same (suc fuel) at stimulus works =
    let made = act works.mind stimulus in
    let turned : Works = record works { mind = made.next } in
    let done = carried at made.does turned in
    let carries = carried_keeps at made.does turned in
    going_keeps works done.works (admitted at works.timers made.does) (run_on fuel at) done.tells (record { tags = carries.tags; kind = carries.kind ∙ same works.mind stimulus }) (λ next. run_keeps same fuel at next done.works)

set_same : (minds : List (Option AppletState)) (shelf : ℕ) (mind new : AppletState) → mind_on minds shelf ≡ Some mind → new.kind ≡ mind.kind → kinds_of (with_mind minds shelf (Some new)) ≡ kinds_of minds
set_same [] zero mind new is same = refl
set_same [] (suc shelf) mind new is same = refl
set_same (first ∷ others) zero mind new is same = ap (λ (kind : Option ℕ). kind ∷ kinds_of others) (ap (λ (kind : ℕ). let some : Option ℕ = Some kind in some) same ∙ sym (ap (option_map (λ (each : AppletState). each.kind)) is))
set_same (first ∷ others) (suc shelf) mind new is same = ap (λ (kinds : List (Option ℕ)). option_map (λ mind. mind.kind) first ∷ kinds) (set_same others shelf mind new is same)

run_same : SameKind → (shelf : ℕ) (stimulus : Stimulus) (is_resumed : Bool) (state : ToolkitState) (mind : Option AppletState) → mind_on state.minds shelf ≡ mind → AreSame state (run_of_mind shelf stimulus is_resumed state mind).state
run_same same shelf stimulus is_resumed state None is = record { tags = refl; kinds = refl }
run_same same shelf stimulus is_resumed state (Some mind) is =
    let keeps = run_keeps same most_acts (setting_of shelf stimulus state) stimulus (works_of mind state) in
    record { tags = keeps.tags; kinds = set_same state.minds shelf mind (run_on most_acts (setting_of shelf stimulus state) stimulus (works_of mind state)).works.mind is keeps.kind }

pub run_stays : SameKind → (shelf : ℕ) (stimulus : Stimulus) (is_resumed : Bool) (state : ToolkitState) → IsOfKinds state → IsOfKinds (run_of_row shelf stimulus is_resumed state).state
unfolding run_of_row
run_stays same shelf stimulus is_resumed state are = stay state (run_of_row shelf stimulus is_resumed state).state (run_same same shelf stimulus is_resumed state (mind_on state.minds shelf) refl) are

-- ---- the other steps

set_here : (minds : List (Option AppletState)) (shelf : ℕ) (mind : AppletState) → IfSome (mind_on (with_mind minds shelf (Some mind)) shelf) (λ each. each.kind ≡ mind.kind)
set_here [] zero mind = tt
set_here [] (suc shelf) mind = tt
set_here (first ∷ others) zero mind = refl
set_here (first ∷ others) (suc shelf) mind = set_here others shelf mind

-- a row of another shelf
set_elsewhere : (minds : List (Option AppletState)) (shelf : ℕ) (mind : Option AppletState) (row : Registration) → row.shelf ≢ shelf → IfSome (mind_on minds row.shelf) (λ each. each.kind ≡ row.kind)
    → IfSome (mind_on (with_mind minds shelf mind) row.shelf) (λ each. each.kind ≡ row.kind)
set_elsewhere minds shelf mind row other is = subst (λ (found : Option AppletState). IfSome found (λ each. each.kind ≡ row.kind)) (sym (get_or-set_other minds shelf row.shelf mind None other)) is

among_others : (minds : List (Option AppletState)) (shelf : ℕ) (mind : Option AppletState) (rows : List Registration) → All (λ row. row.shelf ≢ shelf) rows → AreOfKinds rows minds → AreOfKinds rows (with_mind minds shelf mind)
among_others minds shelf mind rows others are = λ k d low. set_elsewhere minds shelf mind (get_or rows k d) (others k d low) (are k d low)

abbrev HasKind : List (Option AppletState) → Registration → Type 0
HasKind minds row = IfSome (mind_on minds row.shelf) (λ mind. mind.kind ≡ row.kind)

pub registering_stays : (row : Registration) (state : ToolkitState) → IsOfKinds state → IsOfKinds (registering row state).state
registering_stays row state are =
    let minds : List (Option AppletState) = with_mind state.minds row.shelf (Some (fresh row.kind row.kept)) in
    let lower : List Registration = filter (λ other. nat_lt other.shelf row.shelf) state.rows in
    let upper : List Registration = filter (λ other. nat_lt row.shelf other.shelf) state.rows in
    let below : All (λ other. other.shelf ≢ row.shelf) lower = λ k d low. let less = ltb-true (get_or lower k d).shelf row.shelf (filter_passes (λ other. nat_lt other.shelf row.shelf) state.rows k d low) in λ same. omega (arith, less, same) in
    let above : All (λ other. other.shelf ≢ row.shelf) upper = λ k d low. let more = ltb-true row.shelf (get_or upper k d).shelf (filter_passes (λ other. nat_lt row.shelf other.shelf) state.rows k d low) in λ same. omega (arith, more, same) in
    All-append (HasKind minds) (lower ++ row ∷ []) upper
    (All-push (HasKind minds) lower row (among_others state.minds row.shelf (Some (fresh row.kind row.kept)) lower below (All-filter (λ other. nat_lt other.shelf row.shelf) (HasKind state.minds) state.rows are)) (set_here state.minds row.shelf (fresh row.kind row.kept)))
    (among_others state.minds row.shelf (Some (fresh row.kind row.kept)) upper above (All-filter (λ other. nat_lt row.shelf other.shelf) (HasKind state.minds) state.rows are))

pub unregistering_stays : (shelf : ℕ) (state : ToolkitState) → IsOfKinds state → IsOfKinds (unregistering shelf state).state
unregistering_stays shelf state are =
    let left : List Registration = without_row state.rows shelf in
    among_others state.minds shelf None left
    (λ k d low. eqb-false (get_or left k d).shelf shelf (not-true (is_on shelf (get_or left k d)) (filter_passes (λ row. not (is_on shelf row)) state.rows k d low)))
    (All-filter (λ row. not (is_on shelf row)) (HasKind state.minds) state.rows are)

pub settled_stays : (state : ToolkitState) → IsOfKinds state → IsOfKinds (with_next_command state)
unfolding with_next_command
settled_stays state are = are

pub fetched_stays : (out : Outstanding) (state : ToolkitState) → IsOfKinds state → IsOfKinds (fetched out state).state
unfolding fetched
fetched_stays out state are = are

resumed_stays : SameKind → (owner : Option ℕ) (reply : Reply) (state : ToolkitState) → IsOfKinds state → IsOfKinds (resumed owner reply state).state
resumed_stays same None reply state are = are
resumed_stays same (Some shelf) reply state are = run_stays same shelf (Response reply.result reply.item reply.text) true state are

answered_stays : SameKind → (out : Outstanding) (reply : Reply) (state : ToolkitState) → IsOfKinds state → IsOfKinds (answered out reply state).state
unfolding answered
answered_stays same out reply state are = resumed_stays same out.owner reply (with_nothing_out state) are

abbrev KeepsKinds : ToolkitState → Passed → Type 0
KeepsKinds state passed = list_any is_wake passed.log ≡ false → IsOfKinds state → IsOfKinds passed.state

keeping_kinds : SameKind → IsStepping Freely KeepsKinds
keeping_kinds same = record {
  still = λ state none are. are;
  joined = λ state first second one other none are.
      let two = or_parts (list_any is_wake first.log) (list_any is_wake second.log) (sym (list_any-append is_wake first.log second.log) ∙ none) in
      other two.1 (one two.0 are);
  ran = λ state trigger ready idle there own none are. run_stays same trigger.shelf (Event trigger.code trigger.body) false state are;
  given_run = λ state trigger ready suspends idle there none are. run_stays same trigger.shelf (Event trigger.code trigger.body) false state are;
  given_late = λ state trigger ready busy none are. are;
  caught = λ state found ready first none are. run_stays same found.0.shelf (Event found.0.code found.0.body) false _ are;
  settles = λ state ready none are. settled_stays state are;
  profiles = λ state bytes none are. are;
  reports = λ state code none are. are;
  fetches = λ state out ready is none are. fetched_stays out state are;
  answers = λ state out reply ready is none are. answered_stays same out reply state are;
  registers = λ state row accepted free none are. registering_stays row state are;
  unregisters = λ state shelf ready idle none are. unregistering_stays shelf state are;
  wakes = λ state rows minds free none. cc;
}

pub kinds_stay : HasLaws → SameKind → KindsStay
kinds_stay laws same commands state is accepted = (commands_move laws (keeping_kinds same) commands state accepted (good_from state is)).moved

-- ---- all wake

mind_same : (row : Option Registration) (mind : AppletState) → (woken_mind row mind).kind ≡ mind.kind
mind_same None mind = refl
mind_same (Some row) mind = refl

woken_one : (row : Option Registration) (mind : Option AppletState) → option_map (λ (each : AppletState). each.kind) (option_map (woken_mind row) mind) ≡ option_map (λ each. each.kind) mind
woken_one row None = refl
woken_one row (Some mind) = ap (λ (kind : ℕ). let some : Option ℕ = Some kind in some) (mind_same row mind)

woken_same : (rows : List Registration) (from : ℕ) (minds : List (Option AppletState)) → kinds_of (map (woken_box rows) (enumerate_from from minds)) ≡ kinds_of minds
woken_same rows from [] = refl
woken_same rows from (mind ∷ others) = λ i. woken_one (row_on rows from) mind i ∷ woken_same rows (from + 1) others i

pub wakes_keep_kinds : WakesKeepKinds
unfolding toolkit_woken woken_boxes
wakes_keep_kinds rows minds are =
    untagged rows (toolkit_woken rows minds).minds (subst (λ (kinds : List (Option ℕ)). All (IsTagged kinds) (tags_of rows)) (sym (woken_same rows 0 minds)) (tagged rows minds are))

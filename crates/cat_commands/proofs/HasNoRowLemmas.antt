-- Where a shelf has no row, applets that run leave it without one.
use Rattle.std.proofs.Common.{◌≡◌, refl, sym, ap, ◌∙◌, ℕ, zero, suc, Bool, true, false, cond, List, [], ◌∷◌, Option, Some, None, arith, ◌≢◌, ◌==◌, not, nat_le, length, filter, slice_set, option_map, Result, Ok, Err}
use Rattle.std.proofs.lemmas.Bool.Decides.{nat_tests}
use Rattle.std.proofs.lemmas.List.{map-set}
use Rattle.std.proofs.lemmas.List.Elements.{All-nil, All-cons, All-head, All-tail}
use Rattle.card_state.specs.Persistent.{Registration}
use Rattle.card_state.specs.Sections.{sorted_codes}
use Rattle.toolkit_commands.specs.declared.commands.Proactive.{Proactive}
use Rattle.timer_table.specs.Timers.{smallest_free}
use Rattle.applet_trait.specs.declared.numbers.TheConstants.{MOST_KEPT}
use Rattle.applet_trait.specs.declared.stimuli.Stimulus.{Stimulus}
use Rattle.applet_trait.specs.declared.stimuli.Act.{Act}
use Rattle.applet_trait.specs.declared.stimuli.Act.TheVariants.{Done, Send, Keep, Register, Deregister, TakeTimer, FreeTimer, Answer}
use Rattle.applet_trait.specs.Minds.{AppletState}
use Rattle.applet_trait.specs.Turns.{act}
use Rattle.toolkit_model.specs.declared.faults.RowFault.{RowFault}
use Rattle.toolkit_model.specs.Sessions.{LateTrigger}
use Rattle.toolkit_model.specs.Orderly.{asks}
use Rattle.toolkit_model.specs.Registry.{is_on, with_changed, with_code, without_code, registers, deregisters, without_row}
use Rattle.toolkit_model.specs.Passing.{ToolkitState, Passed}
use Rattle.toolkit_model.specs.Running.{Setting, Works, Carried, Ran, changing, taking, carried, is_admitted, is_held_by, admitted, going_on, run_on, most_acts, mind_on, works_of, setting_of, run_of_mind, run_of_row}
use Rattle.toolkit_model.specs.Driving.{first_idle, catching, caught_up, with_next_command, driven}
use Rattle.proactive_handler.specs.Boxes.{kinds_of}
use Rattle.cat_commands.specs.Deleting.{HasNoRow}

module _ (shelf : ℕ) where
  abbrev Lacks : List Registration → Type 0
  Lacks rows = HasNoRow rows shelf

  -- ---- an act

  changed_one : (b : Bool) (row : Registration) (change : Registration → Registration) → (change row).shelf ≡ row.shelf → row.shelf ≢ shelf → (cond b (change row) row).shelf ≢ shelf
  changed_one true row change same apart = λ is. apart (sym same ∙ is)
  changed_one false row change same apart = apart

  changed_lacks : (rows : List Registration) (at : ℕ) (change : Registration → Registration) → ((row : Registration) → (change row).shelf ≡ row.shelf) → Lacks rows → Lacks (with_changed rows at change)
  changed_lacks [] at change same lacks = lacks
  changed_lacks (row ∷ rows) at change same lacks =
      All-cons (λ (r : Registration). r.shelf ≢ shelf) _ (with_changed rows at change) (changed_one (is_on at row) row change (same row) (All-head (λ (r : Registration). r.shelf ≢ shelf) row rows lacks))
      (changed_lacks rows at change same (All-tail (λ (r : Registration). r.shelf ≢ shelf) row rows lacks))

  changing_lacks : (works : Works) (rows : List Registration) (result : Result Bool RowFault) → Lacks works.rows → Lacks rows → Lacks (changing works rows result).works.rows
  changing_lacks works rows (Ok true) lacks then = then
  changing_lacks works rows (Ok false) lacks then = lacks
  changing_lacks works rows (Err fault) lacks then = lacks

  taking_lacks : (at : ℕ) (works : Works) (found : Option ℕ) → Lacks works.rows → Lacks (taking at works found).works.rows
  taking_lacks at works (Some timer) lacks = lacks
  taking_lacks at works None lacks = lacks

  either_lacks : (b : Bool) (x y : Carried) → Lacks x.works.rows → Lacks y.works.rows → Lacks (cond b x y).works.rows
  either_lacks true x y first second = first
  either_lacks false x y first second = second

  carried_lacks : (at : Setting) (does : Act) (works : Works) → Lacks works.rows → Lacks (carried at does works).works.rows
  carried_lacks at Done works lacks = lacks
  carried_lacks at (Send command) works lacks = either_lacks (is_admitted at works.timers command) _ _ lacks lacks
  carried_lacks at (Keep bytes) works lacks =
      either_lacks (nat_le (length bytes) MOST_KEPT) _ _ (changed_lacks works.rows at.shelf (λ row. record row { kept = bytes }) (λ row. refl) lacks) lacks
  carried_lacks at (Register code) works lacks =
      changing_lacks works (with_code works.rows at.shelf code) (registers works.rows at.shelf code) lacks (changed_lacks works.rows at.shelf (λ row. record row { codes = sorted_codes (code ∷ row.codes) }) (λ row. refl) lacks)
  carried_lacks at (Deregister code) works lacks =
      changing_lacks works (without_code works.rows at.shelf code) (deregisters works.rows at.shelf code) lacks
      (changed_lacks works.rows at.shelf (λ row. record row { codes = filter (λ other. not (other == code)) row.codes }) (λ row. refl) lacks)
  carried_lacks at TakeTimer works lacks = taking_lacks at.shelf works (smallest_free works.timers) lacks
  carried_lacks at (FreeTimer timer) works lacks = either_lacks (is_held_by works.timers at.shelf timer) _ _ lacks lacks
  carried_lacks at (Answer allows) works lacks = lacks

  -- ---- a run

  goes_on : (done : Carried) (sent : Option Proactive) (next : Stimulus → Works → Ran) (tells : Option Stimulus) → Lacks done.works.rows → ((stimulus : Stimulus) → Lacks (next stimulus done.works).works.rows)
      → Lacks (going_on done.works sent next tells).works.rows
  goes_on done sent next None lacks more = lacks
  goes_on done sent next (Some told) lacks more = more told

  run_lacks : (fuel : ℕ) (at : Setting) (stimulus : Stimulus) (works : Works) → Lacks works.rows → Lacks (run_on fuel at stimulus works).works.rows
  unfolding run_on
  run_lacks zero at stimulus works lacks = lacks
  run_lacks (suc fuel) at stimulus works lacks =
      let made = act works.mind stimulus in
      let turned : Works = record works { mind = made.next } in
      let done : Carried = carried at made.does turned in
      let here : Lacks done.works.rows = carried_lacks at made.does turned lacks in
      goes_on done (admitted at turned.timers made.does) (run_on fuel at) done.tells here (λ next. run_lacks fuel at next done.works here)

  -- ---- from state to state

  mind_lacks : (at : ℕ) (stimulus : Stimulus) (is_resumed : Bool) (state : ToolkitState) (mind : Option AppletState) → Lacks state.rows → Lacks (run_of_mind at stimulus is_resumed state mind).state.rows
  mind_lacks at stimulus is_resumed state None lacks = lacks
  mind_lacks at stimulus is_resumed state (Some mind) lacks = run_lacks most_acts (setting_of at stimulus state) stimulus (works_of mind state) lacks

  row_lacks : (at : ℕ) (stimulus : Stimulus) (is_resumed : Bool) (state : ToolkitState) → Lacks state.rows → Lacks (run_of_row at stimulus is_resumed state).state.rows
  unfolding run_of_row
  row_lacks at stimulus is_resumed state lacks = mind_lacks at stimulus is_resumed state (mind_on state.minds at) lacks

  catching_lacks : (next : ToolkitState → Passed) → ((later : ToolkitState) → Lacks later.rows → Lacks (next later).state.rows) → (state : ToolkitState) (found : Option (LateTrigger × List LateTrigger)) → Lacks state.rows
      → Lacks (catching next state found).state.rows
  catching_lacks next each state None lacks = lacks
  catching_lacks next each state (Some found) lacks = each _ (row_lacks found.0.shelf _ false _ lacks)

  caught_lacks : (count : ℕ) (state : ToolkitState) → Lacks state.rows → Lacks (caught_up count state).state.rows
  unfolding caught_up
  caught_lacks zero state lacks = lacks
  caught_lacks (suc count) state lacks = catching_lacks (caught_up count) (λ later there. caught_lacks count later there) state (first_idle (asks state.session) state.session.late) lacks

  settled_lacks : (state : ToolkitState) → Lacks state.rows → Lacks (with_next_command state).rows
  unfolding with_next_command
  settled_lacks state lacks = lacks

  pub driven_lacks : (state : ToolkitState) → Lacks state.rows → Lacks (driven state).state.rows
  unfolding driven
  driven_lacks state lacks = settled_lacks _ (caught_lacks (length state.session.late) state lacks)

  pub gone_rows : (rows : List Registration) → Lacks (without_row rows shelf)
  gone_rows [] = All-nil (λ (r : Registration). r.shelf ≢ shelf)
  gone_rows (row ∷ rows) = by_shelf (row.shelf == shelf) refl (gone_rows rows) where
    by_shelf : (b : Bool) → (row.shelf == shelf) ≡ b → Lacks (without_row rows shelf) → Lacks (cond (not b) (row ∷ without_row rows shelf) (without_row rows shelf))
    by_shelf true is rest = rest
    by_shelf false is rest = All-cons (λ (r : Registration). r.shelf ≢ shelf) row (without_row rows shelf) (λ same. absurd (grind (arith, nat_tests, is, same))) rest

pub kinds_without : (minds new : List (Option AppletState)) (shelf : ℕ) → new ≡ slice_set minds shelf None → kinds_of new ≡ slice_set (kinds_of minds) shelf None
kinds_without minds new shelf is = ap kinds_of is ∙ map-set (option_map (λ (mind : AppletState). mind.kind)) minds shelf None

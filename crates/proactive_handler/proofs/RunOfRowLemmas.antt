-- The run of an applet as a step of the toolkit.
use Rattle.std.proofs.Common.{◌≡◌, refl, sym, ap, ◌∙◌, subst, ℕ, zero, suc, Bool, true, false, List, [], ◌∷◌, cond, Option, Some, None, option_map}
use Rattle.std.specs.List.{last_or}
use Rattle.std.proofs.lemmas.List.Elements.{filter_map-append}
use Rattle.card_state.specs.Changes.{Change}
use Rattle.card_state.specs.Memory.{Memory, held}
use Rattle.card_state.specs.Persistent.{Registration}
use Rattle.card_state.specs.States.{rows_of}
use Rattle.toolkit_commands.specs.declared.commands.Proactive.{Proactive}
use Rattle.timer_table.specs.Timers.{Owners}
use Rattle.applet_trait.specs.declared.stimuli.Stimulus.{Stimulus}
use Rattle.applet_trait.specs.Minds.{AppletState}
use Rattle.applet_trait.specs.Turns.{act}
use Rattle.toolkit_model.specs.Sessions.{SessionState}
use Rattle.toolkit_model.specs.Passing.{ToolkitState, Committed, Passed, rows_in, passed_rows}
use Rattle.toolkit_model.specs.Commands.{last_answer}
use Rattle.toolkit_model.specs.Changes.{change_by}
use Rattle.toolkit_model.specs.Running.{Setting, Works, Ran, carried, admitted, committed, going_on, run_on, most_acts, setting_of, works_of, sending, begins_call, with_mind, mind_on, ended_in, run_of_mind, run_of_row}
use Rattle.proactive_handler.specs.declared.settings.Setting.{Setting as GivenSetting}
use Rattle.proactive_handler.specs.Acts.{stage, works_at, with_these_rows}
use Rattle.proactive_handler.specs.Counting.{Counts}
use Rattle.proactive_handler.specs.Written.{IsWritten}
use Rattle.proactive_handler.specs.Runs.{run_of, Ended, StopsIn, IsRun, IsCut}
use Rattle.proactive_handler.specs.Steps.{toolkit, Scene, scene, IsDone}
use Rattle.proactive_handler.proofs.RunOnLemmas.{rests}
use Rattle.proactive_handler.proofs.StopsAtLemmas.{last_append}

-- ---- the rows after a run are those of its last commit

last_of_commit : (moved : Bool) (change : Change) (rows after : List Registration) → (moved ≡ false → after ≡ rows) → last_or (Some rows) (passed_rows (cond moved (Committed change after ∷ []) [])) ≡ Some after
last_of_commit true change rows after same = refl
last_of_commit false change rows after same = ap (λ (r : List Registration). Some r) (sym (same refl))

going_last : (works : Works) (sent : Option Proactive) (next : Stimulus → Works → Ran) (tells : Option Stimulus)
    → ((stimulus : Stimulus) → last_or (Some works.rows) (passed_rows (next stimulus works).log) ≡ Some (next stimulus works).works.rows)
    → last_or (Some works.rows) (passed_rows (going_on works sent next tells).log) ≡ Some (going_on works sent next tells).works.rows
going_last works sent next None more = refl
going_last works sent next (Some stimulus) more = more stimulus

pub run_last : (fuel : ℕ) (at : Setting) (stimulus : Stimulus) (works : Works) → last_or (Some works.rows) (passed_rows (run_on fuel at stimulus works).log) ≡ Some (run_on fuel at stimulus works).works.rows
unfolding run_on
run_last zero at stimulus works = refl
run_last (suc fuel) at stimulus works =
    let made = act works.mind stimulus in
    let turned : Works = record works { mind = made.next } in
    let done = carried at made.does turned in
    let rest = going_on done.works (admitted at turned.timers made.does) (run_on fuel at) done.tells in
    let first : last_or (Some works.rows) (passed_rows (committed at made.does done)) ≡ Some done.works.rows = last_of_commit done.is_committed (change_by at.shelf made.does done.works.rows) works.rows done.works.rows (rests at made.does turned) in
    ap (last_or (Some works.rows)) (filter_map-append rows_in (committed at made.does done) rest.log)
    ∙ last_append (Some works.rows) (passed_rows (committed at made.does done)) (passed_rows rest.log)
    ∙ ap (λ (o : Option (List Registration)). last_or o (passed_rows rest.log)) first
    ∙ going_last done.works (admitted at turned.timers made.does) (run_on fuel at) done.tells (λ next. run_last fuel at next done.works)

-- ---- the run of one box

module _ (shelf : ℕ) (stimulus : Stimulus) (is_resumed : Bool) (old : Scene) (mind : AppletState) (is : mind_on old.minds shelf ≡ Some mind) where
  abbrev pub ran : Ran
  ran = run_on most_acts (setting_of shelf stimulus (toolkit old)) stimulus (works_of mind (toolkit old))

  pub run_is : run_of_row shelf stimulus is_resumed (toolkit old) ≡ ended_in shelf is_resumed (toolkit old) ran
  unfolding run_of_row
  run_is = ap (run_of_mind shelf stimulus is_resumed (toolkit old)) is

  -- the run that is made
  pub run_same : (at : GivenSetting) (timers : Owners) → at.shelf.0 ≡ shelf → at.profile ≡ old.session.profile → at.in_call ≡ begins_call stimulus → timers ≡ old.session.timers → run_of at stimulus (works_at (stage old.memory timers mind)) ≡ ran
  run_same at timers shelf_is profile_is call_is timers_is = rw (shelf_is, profile_is, call_is, timers_is) refl

  module _ (made : Ran) (same : made ≡ ran) (memory' : Memory) (index' : List (List ℕ)) (session' : SessionState) (mind' : AppletState) where
    abbrev new_scene : Scene
    new_scene = scene memory' index' session' (with_mind old.minds shelf (Some mind'))

    pub run_done : (before after : Owners) (ending : Ended) → IsRun made (stage old.memory before mind) (stage memory' after mind') ending → session' ≡ sending shelf is_resumed ending.sent (record old.session { timers = after })
        → IsDone (run_of_row shelf stimulus is_resumed (toolkit old)) old new_scene
    run_done before after ending run session_is =
        let works_now : works_at (stage memory' after mind') ≡ ran.works = run.works_are ∙ ap (λ (r : Ran). r.works) same in
        let rows_are : rows_of memory'.table ≡ ran.works.rows = ap (λ (w : Works). w.rows) works_now in
        let timers_now : after ≡ ran.works.timers = ap (λ (w : Works). w.timers) works_now in
        let mind_now : mind' ≡ ran.works.mind = ap (λ (w : Works). w.mind) works_now in
        let sent_now : ending.sent ≡ ran.sent = run.sent_is ∙ ap (λ (r : Ran). r.sent) same in
        let session_now : session' ≡ sending shelf is_resumed ran.sent (record old.session { timers = ran.works.timers }) =
        session_is ∙ ap (λ (o : Option Proactive). sending shelf is_resumed o (record old.session { timers = after })) sent_now
        ∙ ap (λ (t : Owners). sending shelf is_resumed ran.sent (record old.session { timers = t })) timers_now in
        subst (λ (p : Passed). IsDone p old new_scene) (sym run_is) (record {
          state_is = rw (rows_are, session_now, mind_now) refl;
          stands = run.stands ∙ ap (λ (r : List Registration). option_map (with_these_rows r) (held old.memory)) rows_are;
          last_is = run_last most_acts (setting_of shelf stimulus (toolkit old)) stimulus (works_of mind (toolkit old));
          counts = subst (λ (r : Ran). Counts (passed_rows r.log) old.memory memory') same run.counts;
          writes = subst (λ (r : Ran). IsWritten r.log old.memory memory') same run.writes;
        })

    pub run_stopped : (before after : Owners) → IsCut made (stage old.memory before mind) (stage memory' after mind')
        → StopsIn (run_of_row shelf stimulus is_resumed (toolkit old)).log old.memory memory'
    run_stopped before after cut =
        subst (λ (p : Passed). StopsIn p.log old.memory memory') (sym run_is)
        (subst (λ (r : Ran). StopsIn r.log old.memory memory') same cut.stops)

    pub run_answer : (answer : Option Bool) → answer ≡ last_answer made.log → answer ≡ last_answer (run_of_row shelf stimulus is_resumed (toolkit old)).log
    run_answer answer so = so ∙ ap (λ (r : Ran). last_answer r.log) same ∙ sym (ap (λ (p : Passed). last_answer p.log) run_is)

-- there is no applet on the shelf
pub none_runs : (shelf : ℕ) (stimulus : Stimulus) (is_resumed : Bool) (state : ToolkitState) → mind_on state.minds shelf ≡ None → run_of_row shelf stimulus is_resumed state ≡ record { state = state; log = [] }
unfolding run_of_row
none_runs shelf stimulus is_resumed state is = ap (run_of_mind shelf stimulus is_resumed state) is

-- What is seen of the card where a run ended before the handset rested.
use Rattle.std.proofs.Common.{◌≡◌, List, [], ◌∷◌, ◌++◌, refl, sym, ap, ◌∙◌, subst, inl, inr, map, ◌⊎◌, append-nil}
use Rattle.uicc_types.specs.declared.plans.Plan.{Plan}
use Rattle.uicc_types.specs.declared.runs.Step.{Step}
use Rattle.uicc_types.specs.declared.runs.TraceItem.{TraceItem}
use Rattle.uicc_types.specs.declared.runs.Step.TheVariants as step
use Rattle.script_form.specs.declared.handset.Note.{Note}
use Rattle.handset_model.specs.Legal.{Seen, Shown, items_seen}
use Rattle.handset_model.specs.Rules.{asked}
use Rattle.handset_model.specs.Sending.{apdu_of}
use Rattle.handset_model.specs.declared.commands.Command.{Command}
use Rattle.handset_model.specs.declared.known.Duty.{Duty}
use Rattle.handset_model.specs.declared.known.Duty.TheVariants.{Transmit, Show, ResetCard}
use Rattle.run_steps.proofs.ViewLemmas.{run_failed, run_shown_of, steps_one, steps_then}
use Rattle.run_steps.specs.Stepping.{BreaksOff, Holds, Moment}
use Rattle.run_steps.specs.Views.{CardView, IsRunOf, LastShows, StepShows}
use Rattle.run_steps.specs.declared.steps.StepEnd.TheVariants.{SinkFailed, ResetFailed}
use Rattle.phone_runs.proofs.EndsAreBegunLemmas.{command_begun, reset_begun, shows_failed, shows_note, shows_step}
use Rattle.phone_runs.proofs.RunsLemmas.{seen-append}
use Rattle.phone_runs.specs.Runs.{BreakIsOfTheCard, ShowsRun, ShowsTrace, ShowsUnsent, trace_with, Beginning, BreaksIn, BreaksInNote, BreaksInStep, IsPhoneRun}
use Rattle.phone_runs.specs.Laws.{EndsAreOfTheCard}
use Rattle.phone_runs.specs.Logs.{Event, history, lines_back, shown, steps, trace}

-- ---- what is seen

seen_items : (items : List TraceItem) → items_seen (map Seen items) ≡ items
seen_items [] = refl
seen_items (one ∷ items) = ap (λ more. one ∷ more) (seen_items items)

seen_with : (log : List Event) (items : List TraceItem) → items_seen (trace_with log items) ≡ shown log ++ items
seen_with log items = seen-append (trace log) (map Seen items) ∙ ap (λ more. shown log ++ more) (seen_items items)

seen_noted : (log : List Event) (note : Note) → items_seen (trace log ++ Shown note ∷ []) ≡ shown log
seen_noted log note = seen-append (trace log) (Shown note ∷ []) ∙ append-nil (shown log)

-- ---- runs

run_gives : (first old new : CardView) (log : List Event) (step : Step) (items : List TraceItem) → IsPhoneRun first log old → StepShows old step items new → IsRunOf first (steps log ++ step ∷ []) (shown log ++ items) new
run_gives first old new log step items run gives =
    run_shown_of (steps log ++ step ∷ []) first new (shown log ++ items) (steps_then (steps log) (step ∷ []) first old new (shown log) items run.run (steps_one old new step items gives))

run_seen : (first new : CardView) (log : List Event) (steps_so : List Step) (items : List TraceItem) → IsRunOf first steps_so (shown log ++ items) new → IsRunOf first steps_so (items_seen (trace_with log items)) new
run_seen first new log steps_so items run = subst (λ i. IsRunOf first steps_so i new) (sym (seen_with log items)) run

run_given : (first old new : CardView) (log : List Event) (step : Step) (items : List TraceItem) → IsPhoneRun first log old → StepShows old step items new → IsRunOf first (steps log ++ step ∷ []) (items_seen (trace_with log items)) new
run_given first old new log step items run gives = run_seen first new log (steps log ++ step ∷ []) items (run_gives first old new log step items run gives)

run_ended : (first old new : CardView) (log : List Event) (step : Step) (items : List TraceItem) → IsPhoneRun first log old → LastShows old step items new → IsRunOf first (steps log ++ step ∷ []) (items_seen (trace_with log items)) new
run_ended first old new log step items run ends =
    run_seen first new log (steps log ++ step ∷ []) items (run_failed (steps log) step first old new (shown log) items run.run ends)

run_so_far : (first old : CardView) (log : List Event) → IsPhoneRun first log old → IsRunOf first (steps log) (shown log) old
run_so_far first old log run = run_shown_of (steps log) first old (shown log) run.run

-- ---- ends

command_of_card : (given : Beginning) (log : List Event) (old : CardView) (command : Command) (now : Moment) → (broken : BreaksInStep given log old (step.Apdu (apdu_of command)) now) → IsPhoneRun given.first log old
    → ShowsTrace given (lines_back log) (trace_with log broken.pending) now → (due : List Plan) → BreaksOff old (step.Apdu (apdu_of command)) broken.pending due broken.set broken.card
    → ShowsRun given (lines_back log) (trace_with log broken.pending) (steps log ++ step.Apdu (apdu_of command) ∷ []) broken.card now ⊎ ShowsUnsent given (lines_back log) (trace log) (apdu_of command) (steps log) old now
command_of_card given log old command now broken run shows due (inl unsent) = inr (record {
  shows = subst (λ i. ShowsTrace given (lines_back log) (trace_with log i) now) unsent.0 shows;
  run = run_so_far given.first old log run;
  stands = subst (λ (c : CardView). Holds c now.held) unsent.1 broken.stands;
})
command_of_card given log old command now broken run shows due (inr taken) = inl (record {
  shows = shows;
  run = run_given given.first old broken.card log (step.Apdu (apdu_of command)) broken.pending run taken.0;
  stands = broken.stands;
})

reset_run : (first old new : CardView) (log : List Event) (items : List TraceItem) (due set : List Plan) → IsPhoneRun first log old → BreaksOff old step.Reset items due set new → IsRunOf first (steps log ++ step.Reset ∷ []) (items_seen (trace_with log items)) new
reset_run first old new log items due set run (inl gives, same) = run_given first old new log step.Reset items run gives
reset_run first old new log items due set run (inr ends, same) = run_ended first old new log step.Reset items run ends

note_of_card : (given : Beginning) (log : List Event) (old : CardView) (note : Note) (now : Moment) → asked (history log) ≡ Show note → (broken : BreaksInNote given log old note now) → IsPhoneRun given.first log old
    → ShowsRun given (lines_back log) (trace log ++ Shown note ∷ []) (steps log) old now
note_of_card given log old note now is broken run = record {
  shows = shows_note given log old note now is run.orderly broken;
  run = subst (λ i. IsRunOf given.first (steps log) i old) (sym (seen_noted log note)) (run_so_far given.first old log run);
  stands = broken.stands;
}

broken_of_card : (given : Beginning) (log : List Event) (old : CardView) (now : Moment) (duty : Duty) → asked (history log) ≡ duty → IsPhoneRun given.first log old → (broken : BreaksIn given log old now duty)
    → BreakIsOfTheCard given (lines_back log) log old now duty broken
broken_of_card given log old now (Transmit command) is run broken =
    command_of_card given log old command now broken run
    (shows_step given log old (step.Apdu (apdu_of command)) now broken (command_begun log command old broken.card broken.pending _ broken.set is run.orderly broken.broken)) _ broken.broken
broken_of_card given log old now ResetCard is run broken = record {
  shows = shows_step given log old step.Reset now broken (reset_begun log old broken.card broken.pending _ broken.set is run.orderly broken.broken);
  run = reset_run given.first old broken.card log broken.pending _ broken.set run broken.broken;
  stands = broken.stands;
}
broken_of_card given log old now (Show note) is run broken = note_of_card given log old note now is broken run
broken_of_card given log old now other is run broken = absurd broken

pub ended_of_card : EndsAreOfTheCard
ended_of_card given told now SinkFailed broken =
    subst (λ t. BreakIsOfTheCard given t broken.log broken.old now (asked (history broken.log)) broken.broken) broken.lines_are
    (broken_of_card given broken.log broken.old now (asked (history broken.log)) refl broken.run broken.broken)
ended_of_card given told now ResetFailed failed =
    subst (λ t. ShowsRun given t (trace_with failed.log failed.last) (steps failed.log ++ step.Reset ∷ []) failed.card now) failed.lines_are (record {
      shows = shows_failed given told now failed;
      run = run_ended given.first failed.old failed.card failed.log step.Reset failed.last failed.run failed.ends;
      stands = failed.stands;
    })

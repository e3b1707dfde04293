-- From one event of a run to the next, by what is known of the card.
use Rattle.std.proofs.Common.{◌≡◌, ℕ, List, [], ◌∷◌, ◌++◌, Option, Err, refl, sym, ap, ◌∙◌, subst, inl, inr, reverse, Ok, rules}
use Rattle.std.proofs.lemmas.List.{append-nil, reverse-append}
use Rattle.std.proofs.lemmas.List.Concat.{flat_map-append}
use Rattle.std.specs.Io.KnownBytes.{append_known}
use Rattle.uicc_types.specs.declared.answers.Answer.{Answer}
use Rattle.uicc_types.specs.declared.plans.Plan.{Plan}
use Rattle.uicc_types.specs.declared.plans.TheConstants.Plan.{NONE}
use Rattle.uicc_types.specs.declared.runs.Step.{Step}
use Rattle.uicc_types.specs.declared.runs.TraceItem.{TraceItem}
use Rattle.uicc_types.specs.declared.runs.Step.TheVariants as step
use Rattle.uicc_types.specs.declared.runs.TraceItem.TheVariants as item
use Rattle.t0_link.specs.declared.endpoint.LinkFault.TheVariants.{PowerLost, NoPower}
use Rattle.script_form.specs.declared.handset.HandsetLine.{HandsetLine}
use Rattle.script_form.specs.declared.handset.Note.{Note}
use Rattle.card_model.specs.Counts.{IsCounted}
use Rattle.card_model.specs.Laws.{CountsJoin, PlansAreSetInOrder}
use Rattle.card_model.specs.Runs.{plan_given, armed_after, plans_joined, waiting_after}
use Rattle.handset_model.specs.History.{Said, Sent, Noted}
use Rattle.handset_model.specs.Legal.{IsOrderly, TraceEntry, Seen, Shown, entries_of, items_seen}
use Rattle.handset_model.specs.Rules.{asked}
use Rattle.handset_model.specs.Sending.{apdu_of}
use Rattle.handset_model.specs.declared.commands.Command.{Command}
use Rattle.handset_model.specs.declared.known.Duty.{Duty}
use Rattle.handset_model.specs.declared.known.Duty.TheVariants.{Rest, Transmit, Show, ResetCard}
use Rattle.terminal_side.specs.Kept.{Kept, kept}
use Rattle.run_steps.specs.Ends.{End, moment_at}
use Rattle.run_steps.specs.Runs.{text_of}
use Rattle.run_steps.specs.Stepping.{BreaksOff, Holds, IsSeen, Moment}
use Rattle.run_steps.specs.Taking.{Outcome, BreaksStep, EndsStep, GivesReset, Rests, TakesShowing, exchanged, restarted_by, seen as seen_of}
use Rattle.run_steps.specs.Views.{CardView, StepsShow}
use Rattle.run_steps.specs.declared.steps.Restarted.{Restarted as AReset}
use Rattle.run_steps.specs.declared.steps.StepEnd.{StepEnd}
use Rattle.run_steps.specs.declared.steps.StepEnd.TheVariants.{SinkFailed, ResetFailed}
use Rattle.run_steps.proofs.SteppingLemmas.{ToldFront, still_shows, taken_none, told_more}
use Rattle.run_steps.proofs.ViewLemmas.{rests_then, steps_nowhere, steps_one, steps_then}
use Rattle.run_steps.specs.declared.steps.Restarted.TheVariants as ended
use Rattle.phone_runs.specs.Logs.{Arms, Event, Happens, Plans, AreInTurn, cut_steps, history, lines_back, shown, steps, steps_back, trace}
use Rattle.phone_runs.specs.Playing.{Begins}
use Rattle.phone_runs.specs.Runs.{Beginning, BreaksIn, BreaksInStep, BreaksSo, RunEnds, FailsSo, IsPhoneRun, entries_text, entry_text, note_line}
use Rattle.phone_runs.specs.Settling.{IsAt, Reaches, Rests as HandsetRests}
use Rattle.phone_runs.specs.Serving.{replied, reset_by}

-- ---- traces after traces

pub seen-append : (one more : List TraceEntry) → items_seen (one ++ more) ≡ items_seen one ++ items_seen more
seen-append [] more = refl
seen-append (Seen item ∷ one) more = ap (λ s. item ∷ s) (seen-append one more)
seen-append (Shown note ∷ one) more = seen-append one more

pub text-append : (one more : List TraceEntry) → entries_text (one ++ more) ≡ entries_text one ++ entries_text more
text-append one more = flat_map-append entry_text one more

-- ---- one more step

-- a log goes on with one step of the card, which shows this
pub record GoesOnBy (log later : List Event) (step : Step) (items : List TraceItem) : Type 0 where
  pub steps_are : steps later ≡ steps log ++ step ∷ []
  pub shown_is : shown later ≡ shown log ++ items
  pub text_is : entries_text (trace later) ≡ entries_text (trace log) ++ text_of items
  pub orderly : IsOrderly (history log) → IsOrderly (history later)
  pub in_turn : AreInTurn log → AreInTurn later

pub plans_behind : PlansAreSetInOrder → (steps_so : List Step) (step : Step) (waiting : Plan) → waiting ≡ waiting_after NONE steps_so
    → plan_given steps_so ++ armed_after waiting (step ∷ []) ≡ plan_given (steps_so ++ step ∷ [])
plans_behind order steps_so step waiting waits = ap (λ w. plan_given steps_so ++ armed_after w (step ∷ [])) waits ∙ sym (order NONE steps_so (step ∷ [])).0

pub waiting_behind : PlansAreSetInOrder → (steps_so : List Step) (step : Step) (waiting : Plan) → waiting ≡ waiting_after NONE steps_so
    → waiting_after waiting (step ∷ []) ≡ waiting_after NONE (steps_so ++ step ∷ [])
waiting_behind order steps_so step waiting waits = ap (λ w. waiting_after w (step ∷ [])) waits ∙ sym (order NONE steps_so (step ∷ [])).1

runs_on : (first old new : CardView) (log later : List Event) (step : Step) (items : List TraceItem) → IsPhoneRun first log old → GoesOnBy log later step items
    → StepsShow old (step ∷ []) items new → IsPhoneRun first later new
runs_on first old new log later step items run goes more = record {
  orderly = goes.orderly run.orderly;
  in_turn = goes.in_turn run.in_turn;
  run = subst (λ s. StepsShow first s (shown later) new) (sym goes.steps_are)
      (subst (λ i. StepsShow first (steps log ++ step ∷ []) i new) (sym goes.shown_is) (steps_then (steps log) (step ∷ []) first old new (shown log) items run.run more));
}

-- a step was taken
pub reaches_by : CountsJoin → PlansAreSetInOrder → (given : Beginning) (log later : List Event) (step : Step) (items : List TraceItem) (phone mid : Kept) (from to : Moment) → GoesOnBy log later step items → phone ≡ kept (history later)
    → ((old : CardView) → IsSeen old from → TakesShowing items old step from to) → IsAt given log mid from → IsAt given later phone to
reaches_by join order given log later step items phone mid from to goes keeps takes at =
    let showing = takes at.card at.seen in
    let taken = showing.taken in
    search (rules, taken, runs_on given.first at.card taken.card log later step items at.run goes (subst (λ i. StepsShow at.card (step ∷ []) i taken.card) showing.shows (steps_one at.card taken.card step taken.shown taken.gives)), keeps, told_more given.before from.taken to.taken (entries_text (trace log)) (text_of taken.shown) taken.written at.written ∙ ap (append_known given.before) (ap (λ i. entries_text (trace log) ++ text_of i) showing.shows ∙ sym goes.text_is), subst (λ s. IsCounted given.meter to.meter (plan_given s) (shown later)) (sym goes.steps_are) (subst (λ i. IsCounted given.meter to.meter (plan_given (steps log ++ step ∷ [])) i) (ap (λ i. shown log ++ i) showing.shows ∙ sym goes.shown_is) (subst (λ l. IsCounted given.meter to.meter l (shown log ++ taken.shown)) (plans_behind order (steps log) step from.waiting at.waits) (join given.meter from.meter to.meter (plan_given (steps log)) (armed_after from.waiting (step ∷ [])) (shown log) taken.shown at.counted taken.counted))), taken.waits ∙ waiting_behind order (steps log) step from.waiting at.waits ∙ ap (λ s. waiting_after NONE s) (sym goes.steps_are), subst (λ (i : List TraceItem). Rests taken.card i to.is_due) (ap (λ i. shown log ++ i) showing.shows ∙ sym goes.shown_is) (rests_then at.card taken.card (step ∷ []) (shown log) taken.shown from.is_due to.is_due (steps_one at.card taken.card step taken.shown taken.gives) at.rests taken.rests))

-- a step was the last
fails_by : CountsJoin → PlansAreSetInOrder → (given : Beginning) (log : List Event) (phone : Kept) (from to : Moment) → asked (history log) ≡ ResetCard
    → ((old : CardView) → IsSeen old from → EndsStep old step.Reset from to) → IsAt given log phone from → FailsSo given (lines_back log) to
fails_by join order given log phone from to resets ends at =
    let last = ends at.card at.seen in
    search (rules, at, resets, last, told_more given.before from.taken to.taken (entries_text (trace log)) (text_of last.shown) last.written at.written, subst (λ l. IsCounted given.meter to.meter l (shown log ++ last.shown)) (plans_behind order (steps log) step.Reset from.waiting at.waits) (join given.meter from.meter to.meter (plan_given (steps log)) (armed_after from.waiting (step.Reset ∷ [])) (shown log) last.shown at.counted last.counted))

-- the sink failed in a step
breaks_by : CountsJoin → (given : Beginning) (log : List Event) (phone : Kept) (step : Step) (from to : Moment)
    → ((old : CardView) → IsSeen old from → BreaksStep old step from to) → (at : IsAt given log phone from) → BreaksInStep given log at.card step to
breaks_by join given log phone step from to breaks at =
    let broken = breaks at.card at.seen in
    search (rules, broken, subst (λ w. BreaksOff at.card step broken.pending (armed_after w (step ∷ [])) broken.set broken.card) at.waits broken.broken, told_more given.before from.taken to.taken (entries_text (trace log)) broken.front broken.written at.written, join given.meter from.meter to.meter (plan_given (steps log)) broken.set (shown log) broken.pending at.counted broken.counted)

broken_at : (given : Beginning) (log : List Event) (old : CardView) (now : Moment) (duty : Duty) → asked (history log) ≡ duty → IsPhoneRun given.first log old → BreaksIn given log old now duty → BreaksSo given (lines_back log) now
broken_at given log old now duty is run broken = record { log = log; old = old; lines_are = refl; run = run; broken = subst (λ d. BreaksIn given log old now d) (sym is) broken }

-- ---- a command

-- a command and what came of it
abbrev pub with_reply : Command → Outcome → Answer → List Event → List Event
with_reply command outcome answer log = Happens (replied outcome answer) ∷ Happens (Sent command) ∷ log

steps_sent : (command : Command) (outcome : Outcome) (answer : Answer) (log : List Event) → steps (with_reply command outcome answer log) ≡ steps log ++ step.Apdu (apdu_of command) ∷ []
steps_sent command (Err PowerLost) answer log = reverse-append (step.Apdu (apdu_of command) ∷ []) (steps_back log)
steps_sent command other answer log = reverse-append (step.Apdu (apdu_of command) ∷ []) (steps_back log)

abbrev pub sent_entries : Command → Outcome → Answer → List TraceEntry
sent_entries command outcome answer = Seen (item.Command (apdu_of command)) ∷ Seen (seen_of outcome answer) ∷ []

pub trace_sent : (command : Command) (outcome : Outcome) (answer : Answer) (log : List Event) → trace (with_reply command outcome answer log) ≡ trace log ++ sent_entries command outcome answer
trace_sent command (Ok done) answer log = reverse-append (Seen (item.Answer answer.body answer.status) ∷ Seen (item.Command (apdu_of command)) ∷ []) (entries_of (history log))
trace_sent command (Err PowerLost) answer log = reverse-append (Seen item.Cut ∷ Seen (item.Command (apdu_of command)) ∷ []) (entries_of (history log))
trace_sent command (Err NoPower) answer log = reverse-append (Seen item.Off ∷ Seen (item.Command (apdu_of command)) ∷ []) (entries_of (history log))

pub orderly_sent : (command : Command) (outcome : Outcome) (answer : Answer) (log : List Event) → asked (history log) ≡ Transmit command → IsOrderly (history log) → IsOrderly (history (with_reply command outcome answer log))
orderly_sent command (Err PowerLost) answer log is orderly = (inl refl, (is, orderly))
orderly_sent command other answer log is orderly = (refl, (is, orderly))

pub sends_on : (command : Command) (outcome : Outcome) (answer : Answer) (log : List Event) → asked (history log) ≡ Transmit command
    → GoesOnBy log (with_reply command outcome answer log) (step.Apdu (apdu_of command)) (exchanged (apdu_of command) answer outcome)
sends_on command outcome answer log is = record {
  steps_are = steps_sent command outcome answer log;
  shown_is = ap items_seen (trace_sent command outcome answer log) ∙ seen-append (trace log) (sent_entries command outcome answer);
  text_is = ap entries_text (trace_sent command outcome answer log) ∙ text-append (trace log) (sent_entries command outcome answer);
  orderly = orderly_sent command outcome answer log is;
  in_turn = λ in_turn. in_turn;
}

pub lines_sent : (command : Command) (outcome : Outcome) (answer : Answer) (log : List Event) → lines_back (with_reply command outcome answer log) ≡ lines_back log
lines_sent command (Err PowerLost) answer log = refl
lines_sent command other answer log = refl

pub reaches_sent : CountsJoin → PlansAreSetInOrder → (given : Beginning) (log : List Event) (command : Command) (outcome : Outcome) (answer : Answer) (old new : Kept) (from to : Moment) → asked (history log) ≡ Transmit command
    → ((old : CardView) → IsSeen old from → TakesShowing (exchanged (apdu_of command) answer outcome) old (step.Apdu (apdu_of command)) from to)
    → new ≡ kept (replied outcome answer ∷ Sent command ∷ history log) → IsAt given log old from → Reaches given (lines_back log) new to
reaches_sent join order given log command outcome answer old new from to is takes keeps at = record {
  log = with_reply command outcome answer log;
  lines_are = lines_sent command outcome answer log;
  at = reaches_by join order given log (with_reply command outcome answer log) _ _ new old from to (sends_on command outcome answer log is) keeps takes at;
}

-- the sink failed in it
pub ends_sent : CountsJoin → (given : Beginning) (log : List Event) (command : Command) (phone : Kept) (from to : Moment) → asked (history log) ≡ Transmit command
    → ((old : CardView) → IsSeen old from → BreaksStep old (step.Apdu (apdu_of command)) from to)
    → IsAt given log phone from → BreaksSo given (lines_back log) to
ends_sent join given log command phone from to is breaks at =
    broken_at given log at.card to (Transmit command) is at.run (breaks_by join given log phone (step.Apdu (apdu_of command)) from to breaks at)

-- ---- a reset

abbrev pub with_reset : AReset → List Event → List Event
with_reset outcome log = Happens (reset_by outcome) ∷ log

steps_reset : (outcome : AReset) (log : List Event) → asked (history log) ≡ ResetCard → steps (with_reset outcome log) ≡ steps log ++ step.Reset ∷ []
steps_reset ended.Done log is = reverse-append (step.Reset ∷ []) (steps_back log)
steps_reset ended.Cut log is = ap (λ d. reverse (cut_steps d ++ steps_back log)) is ∙ reverse-append (step.Reset ∷ []) (steps_back log)

abbrev pub reset_entries : AReset → List TraceEntry
reset_entries ended.Done = Seen item.Reset ∷ []
reset_entries ended.Cut = Seen item.Cut ∷ []

pub trace_reset : (outcome : AReset) (log : List Event) → trace (with_reset outcome log) ≡ trace log ++ reset_entries outcome
trace_reset ended.Done log = reverse-append (Seen item.Reset ∷ []) (entries_of (history log))
trace_reset ended.Cut log = reverse-append (Seen item.Cut ∷ []) (entries_of (history log))

pub orderly_reset : (outcome : AReset) (log : List Event) → asked (history log) ≡ ResetCard → IsOrderly (history log) → IsOrderly (history (with_reset outcome log))
orderly_reset ended.Done log is orderly = (is, orderly)
orderly_reset ended.Cut log is orderly = (inr is, orderly)

resets_seen : (outcome : AReset) → items_seen (reset_entries outcome) ≡ restarted_by outcome
resets_seen ended.Done = refl
resets_seen ended.Cut = refl

resets_text : (outcome : AReset) → entries_text (reset_entries outcome) ≡ text_of (restarted_by outcome)
resets_text ended.Done = refl
resets_text ended.Cut = refl

pub lines_reset : (outcome : AReset) (log : List Event) → lines_back (with_reset outcome log) ≡ lines_back log
lines_reset ended.Done log = refl
lines_reset ended.Cut log = refl

pub resets_on : (outcome : AReset) (log : List Event) → asked (history log) ≡ ResetCard → GoesOnBy log (with_reset outcome log) step.Reset (restarted_by outcome)
resets_on outcome log is = record {
  steps_are = steps_reset outcome log is;
  shown_is = ap items_seen (trace_reset outcome log) ∙ seen-append (trace log) (reset_entries outcome) ∙ ap (λ i. shown log ++ i) (resets_seen outcome);
  text_is = ap entries_text (trace_reset outcome log) ∙ text-append (trace log) (reset_entries outcome) ∙ ap (λ t. entries_text (trace log) ++ t) (resets_text outcome);
  orderly = orderly_reset outcome log is;
  in_turn = λ in_turn. in_turn;
}

pub reaches_reset : CountsJoin → PlansAreSetInOrder → (given : Beginning) (log : List Event) (outcome : AReset) (old new : Kept) (from to : Moment) → asked (history log) ≡ ResetCard
    → ((old : CardView) → IsSeen old from → TakesShowing (restarted_by outcome) old step.Reset from to)
    → new ≡ kept (reset_by outcome ∷ history log) → IsAt given log old from → Reaches given (lines_back log) new to
reaches_reset join order given log outcome old new from to is takes keeps at = record {
  log = with_reset outcome log;
  lines_are = lines_reset outcome log;
  at = reaches_by join order given log (with_reset outcome log) _ _ new old from to (resets_on outcome log is) keeps takes at;
}

pub ends_reset : CountsJoin → PlansAreSetInOrder → (given : Beginning) (log : List Event) (end : StepEnd) (phone : Kept) (from to : Moment) → asked (history log) ≡ ResetCard
    → ((old : CardView) → IsSeen old from → GivesReset (Err end) old from to)
    → IsAt given log phone from → RunEnds given (lines_back log) to end
ends_reset join order given log SinkFailed phone from to is gives at = broken_at given log at.card to ResetCard is at.run (breaks_by join given log phone step.Reset from to gives at)
ends_reset join order given log ResetFailed phone from to is gives at = fails_by join order given log phone from to is gives at

-- ---- a note

pub trace_noted : (note : Note) (log : List Event) → trace (Happens (Noted note) ∷ log) ≡ trace log ++ Shown note ∷ []
trace_noted note log = reverse-append (Shown note ∷ []) (entries_of (history log))

pub shown_noted : (note : Note) (log : List Event) → shown (Happens (Noted note) ∷ log) ≡ shown log
shown_noted note log = ap items_seen (trace_noted note log) ∙ seen-append (trace log) (Shown note ∷ []) ∙ append-nil (shown log)

pub text_noted : (note : Note) (log : List Event) → entries_text (trace (Happens (Noted note) ∷ log)) ≡ entries_text (trace log) ++ note_line note
text_noted note log = ap entries_text (trace_noted note log) ∙ text-append (trace log) (Shown note ∷ []) ∙ ap (λ t. entries_text (trace log) ++ t) (append-nil (note_line note))

-- where the card stands and what waits is the same, and this is what the sink has taken
pub reaches_noted : (given : Beginning) (log : List Event) (note : Note) (old new : Kept) (from : Moment) (taken : Option (List ℕ)) → asked (history log) ≡ Show note
    → taken ≡ append_known from.taken (note_line note) → new ≡ kept (Noted note ∷ history log) → IsAt given log old from → Reaches given (lines_back log) new (record from { taken = taken })
reaches_noted given log note old new from taken is more keeps at = record {
  log = Happens (Noted note) ∷ log;
  lines_are = refl;
  at = record {
    card = at.card;
    run = record {
      orderly = (is, at.run.orderly);
      in_turn = at.run.in_turn;
      run = subst (λ i. StepsShow given.first (steps log) i at.card) (sym (shown_noted note log)) at.run.run;
    };
    keeps = keeps;
    seen = at.seen;
    written = told_more given.before from.taken taken (entries_text (trace log)) (note_line note) more at.written ∙ ap (append_known given.before) (sym (text_noted note log));
    counted = subst (λ i. IsCounted given.meter from.meter (plan_given (steps log)) i) (sym (shown_noted note log)) at.counted;
    waits = at.waits;
    rests = subst (λ (i : List TraceItem). Rests at.card i from.is_due) (sym (shown_noted note log)) at.rests;
  };
}

pub ends_noted : (given : Beginning) (log : List Event) (note : Note) (phone : Kept) (from : Moment) (taken : Option (List ℕ)) → ((card : CardView) → IsSeen card from → Holds card from.held) → asked (history log) ≡ Show note
    → ToldFront from.taken taken (note_line note) → IsAt given log phone from → BreaksSo given (lines_back log) (record from { taken = taken })
ends_noted given log note phone from taken stands is front at =
    broken_at given log at.card (record from { taken = taken }) (Show note) is at.run (record {
      front = front.front;
      begun = front.begun;
      stands = stands at.card at.seen;
      written = told_more given.before from.taken taken (entries_text (trace log)) front.front front.written at.written;
      counted = at.counted;
    })

-- ---- lines

-- the handset hears a line
pub hears_line : (given : Beginning) (log : List Event) (line : HandsetLine) (old new : Kept) (now : Moment) → asked (history log) ≡ Rest → new ≡ kept (Said line ∷ history log) → IsAt given log old now → IsAt given (Happens (Said line) ∷ log) new now
hears_line given log line old new now rest keeps at = record {
  card = at.card;
  run = record { orderly = (rest, at.run.orderly); in_turn = at.run.in_turn; run = at.run.run };
  keeps = keeps;
  seen = at.seen;
  written = at.written;
  counted = at.counted;
  waits = at.waits;
  rests = at.rests;
}

pub steps_planned : (plan : Plan) (log : List Event) → steps (Plans plan ∷ log) ≡ steps log ++ step.Plan plan ∷ []
steps_planned plan log = reverse-append (step.Plan plan ∷ []) (steps_back log)

-- faults are planned
plans_so : PlansAreSetInOrder → (given : Beginning) (log : List Event) (plan : Plan) (phone : Kept) (now : Moment) → asked (history log) ≡ Rest → IsAt given log phone now
    → IsAt given (Plans plan ∷ log) phone (record now { waiting = plans_joined now.waiting plan })
plans_so order given log plan phone now rest at = record {
  card = at.card;
  run = record {
    orderly = at.run.orderly;
    in_turn = (rest, at.run.in_turn);
    run = subst (λ s. StepsShow given.first s (shown log) at.card) (sym (steps_planned plan log))
        (subst (λ i. StepsShow given.first (steps log ++ step.Plan plan ∷ []) i at.card) (append-nil (shown log))
        (steps_then (steps log) (step.Plan plan ∷ []) given.first at.card at.card (shown log) [] at.run.run (steps_one at.card at.card (step.Plan plan) [] (still_shows at.card plan))));
  };
  keeps = at.keeps;
  seen = at.seen;
  written = at.written;
  counted = subst (λ l. IsCounted given.meter now.meter l (shown log)) (sym (append-nil (plan_given (steps log))) ∙ sym (order NONE (steps log) (step.Plan plan ∷ [])).0 ∙ ap (λ s. plan_given s) (sym (steps_planned plan log))) at.counted;
  waits = ap (λ w. plans_joined w plan) at.waits ∙ sym (order NONE (steps log) (step.Plan plan ∷ [])).1 ∙ ap (λ s. waiting_after NONE s) (sym (steps_planned plan log));
  rests = at.rests;
}

pub plans_further : PlansAreSetInOrder → (given : Beginning) (log : List Event) (plan : Plan) (phone : Kept) (from to : End) (taken : Option (List ℕ)) → asked (history log) ≡ Rest → to ≡ record from { waiting = plans_joined from.waiting plan }
    → IsAt given log phone (moment_at from taken) → HandsetRests given (Arms plan ∷ lines_back log) phone (moment_at to taken)
plans_further order given log plan phone from to taken rest joins at =
    search (rules, subst (λ (e : End). IsAt given (Plans plan ∷ log) phone (moment_at e taken)) (sym joins) (plans_so order given log plan phone (moment_at from taken) rest at), rest)

-- a handset that keeps the same
pub keeps_same : (given : Beginning) (log : List Event) (old new : Kept) (now : Moment) → new ≡ kept (history log) → IsAt given log old now → IsAt given log new now
keeps_same given log old new now keeps at = search (rules, at, keeps)

-- nothing has happened yet
pub begins_empty : (given : Beginning) (phone : Kept) (now : Moment) → phone ≡ kept [] → Begins given now → IsAt given [] phone now
begins_empty given phone now keeps begins = record {
  card = given.first;
  run = record { orderly = tt; in_turn = tt; run = steps_nowhere given.first given.first refl };
  keeps = keeps;
  seen = begins.seen;
  written = begins.written ∙ sym (taken_none given.before);
  counted = begins.counted;
  waits = begins.waits;
  rests = begins.rests;
}

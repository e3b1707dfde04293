-- What the sink has taken where a run ended before the handset rested.
use Rattle.std.proofs.Common.{◌≡◌, ℕ, Bool, true, false, List, [], ◌∷◌, ◌++◌, refl, sym, ap, ◌∙◌, append_assoc, subst, inl, inr, map, reverse, ◌⊎◌, MatchBool, Ok, Err, rules}
use Rattle.std.proofs.lemmas.List.{append-nil, reverse-append}
use Rattle.uicc_types.specs.Told.{IsFront}
use Rattle.uicc_types.specs.declared.answers.Answer.{Answer}
use Rattle.uicc_types.specs.declared.plans.Plan.{Plan}
use Rattle.uicc_types.specs.declared.runs.TraceItem.{TraceItem}
use Rattle.uicc_types.specs.declared.runs.Step.TheVariants as step
use Rattle.uicc_types.specs.declared.runs.TraceItem.TheVariants as item
use Rattle.t0_link.specs.declared.endpoint.LinkFault.TheVariants.{PowerLost, NoPower}
use Rattle.script_form.specs.declared.handset.Note.{Note}
use Rattle.card_model.specs.Answers.{answer}
use Rattle.card_model.specs.Runs.{Commands, MeetsNoPower}
use Rattle.card_model.specs.States.{Machine}
use Rattle.handset_model.specs.History.{Noted, Sent}
use Rattle.handset_model.specs.Legal.{IsBegun, IsOrderly, TraceEntry, Seen, Shown, entries_of}
use Rattle.handset_model.specs.Rules.{asked}
use Rattle.handset_model.specs.Sending.{apdu_of}
use Rattle.handset_model.specs.declared.commands.Command.{Command}
use Rattle.handset_model.specs.declared.known.Duty.{Duty}
use Rattle.handset_model.specs.declared.known.Duty.TheVariants.{Transmit, Show, ResetCard}
use Rattle.run_steps.proofs.GoesOnLemmas.{text_of-append}
use Rattle.run_steps.specs.Runs.{item_text, text_of}
use Rattle.run_steps.specs.Stepping.{BreaksOff, IsCutOff, Moment}
use Rattle.run_steps.specs.Taking.{Outcome, exchanged}
use Rattle.run_steps.specs.Views.{CardView, IsReply, ItsPower, LastShows, StepShows, TheCard}
use Rattle.run_steps.specs.declared.steps.StepEnd.TheVariants.{SinkFailed, ResetFailed}
use Rattle.run_steps.specs.declared.steps.Restarted.TheVariants as ended
use Rattle.phone_runs.proofs.RunsAreLegalLemmas.{is_of}
use Rattle.phone_runs.proofs.RunsLemmas.{lines_reset, lines_sent, orderly_reset, orderly_sent, text-append, trace_noted, trace_reset, trace_sent, with_reply, with_reset}
use Rattle.phone_runs.specs.Laws.{EndsAreBegun}
use Rattle.phone_runs.specs.Runs.{ShowsBegun, ShowsTrace, Beginning, BreaksIn, BreaksInNote, BreaksInStep, FailsSo, entries_text, note_line}
use Rattle.phone_runs.specs.Logs.{Event, Happens, PhoneLine, heard, history, log_lines, lines_back, trace}

-- ---- texts

seen_text : (items : List TraceItem) → entries_text (map Seen items) ≡ text_of items
seen_text [] = refl
seen_text (one ∷ items) = ap (λ more. item_text one ++ more) (seen_text items)

text_with : (log : List Event) (items : List TraceItem) → entries_text (trace log ++ map Seen items) ≡ entries_text (trace log) ++ text_of items
text_with log items = text-append (trace log) (map Seen items) ∙ ap (λ more. entries_text (trace log) ++ more) (seen_text items)

front_behind : (first front whole : List ℕ) → IsFront front whole → IsFront (first ++ front) (first ++ whole)
front_behind first front whole is = (is.0, ap (λ more. first ++ more) is.1 ∙ sym (append_assoc first front is.0))

front_as : (front one other : List ℕ) → one ≡ other → IsFront front one → IsFront front other
front_as front one other same is = subst (λ whole. IsFront front whole) same is

front_of_pending : (pending : List TraceItem) (front : List ℕ) → IsCutOff pending front → IsFront front (text_of pending)
front_of_pending pending front cut = (
  cut.begun.0,
  ap text_of cut.parted ∙ text_of-append cut.whole (cut.last ∷ []) ∙ ap (λ last. text_of cut.whole ++ last) (append-nil (item_text cut.last) ∙ cut.begun.1)
      ∙ sym (append_assoc (text_of cut.whole) cut.part cut.begun.0) ∙ ap (λ first. first ++ cut.begun.0) (sym cut.written),
)

-- ---- traces

begun_by : (log later : List Event) (entries : List TraceEntry) → lines_back later ≡ lines_back log → IsOrderly (history later) → trace later ≡ entries → IsBegun (heard (log_lines log)) entries
begun_by log later entries same orderly is = inl (record {
  history = history later;
  is_of = record { orderly = orderly; lines_are = (is_of later orderly).lines_are ∙ ap (λ told. heard (reverse told)) same; trace_is = is };
})

-- what a step of a command shows is a command and a reply
record IsReplied (apdu : List ℕ) (items : List TraceItem) : Type 0 where
  outcome : Outcome
  answer : Answer
  shows : items ≡ exchanged apdu answer outcome

abbrev any_answer : Answer
any_answer = record { body = []; status = record { 0 = 0 } }

replied_by : (on : Bool) (old new : Machine) (apdu : List ℕ) (items : List TraceItem) → MatchBool on (Commands old apdu items new) (MeetsNoPower old apdu items new) → IsReplied apdu items
replied_by true old new apdu items (inl exchanges) = record { outcome = Ok tt; answer = record { body = (answer old.card apdu).body; status = (answer old.card apdu).status }; shows = exchanges.seen }
replied_by true old new apdu items (inr (inl fails)) = record { outcome = Ok tt; answer = record { body = []; status = _ }; shows = fails.seen }
replied_by true old new apdu items (inr (inr lost)) = record { outcome = Err PowerLost; answer = any_answer; shows = lost.seen }
replied_by false old new apdu items none = record { outcome = Err NoPower; answer = any_answer; shows = none.seen }

replied_power : (on after : Bool) (apdu : List ℕ) (reply_so : TraceItem) (items : List TraceItem) → IsReply on reply_so after → items ≡ item.Command apdu ∷ reply_so ∷ [] → IsReplied apdu items
replied_power on after apdu (item.Answer body status) items replies seen = record { outcome = Ok tt; answer = record { body = body; status = status }; shows = seen }
replied_power on after apdu item.Cut items replies seen = record { outcome = Err PowerLost; answer = any_answer; shows = seen }
replied_power on after apdu item.Off items replies seen = record { outcome = Err NoPower; answer = any_answer; shows = seen }
replied_power on after apdu other items replies seen = absurd replies

replied_so : (old new : CardView) (apdu : List ℕ) (items : List TraceItem) → StepShows old (step.Apdu apdu) items new → IsReplied apdu items
replied_so (TheCard old) (TheCard new) apdu items gives = replied_by old.on old new apdu items gives
replied_so (ItsPower on) (ItsPower after) apdu items may = replied_power on after apdu may.0 items may.1 may.2
replied_so old new apdu items none = absurd none

pub command_begun : (log : List Event) (command : Command) (old new : CardView) (items : List TraceItem) (due set : List Plan) → asked (history log) ≡ Transmit command → IsOrderly (history log)
    → BreaksOff old (step.Apdu (apdu_of command)) items due set new → IsBegun (heard (log_lines log)) (trace log ++ map Seen items)
command_begun log command old new items due set is orderly (inl alone) =
    begun_by log (Happens (Sent command) ∷ log) _ refl (is, orderly)
    (reverse-append (Seen (item.Command (apdu_of command)) ∷ []) (entries_of (history log)) ∙ ap (λ i. trace log ++ map Seen i) (sym alone.0))
command_begun log command old new items due set is orderly (inr whole) =
    let replied = replied_so old new (apdu_of command) items whole.0 in
    begun_by log (with_reply command replied.outcome replied.answer log) _ (lines_sent command replied.outcome replied.answer log) (orderly_sent command replied.outcome replied.answer log is orderly)
    (trace_sent command replied.outcome replied.answer log ∙ ap (λ i. trace log ++ map Seen i) (sym replied.shows))

pub stopped_at : (log : List Event) (items : List TraceItem) → asked (history log) ≡ ResetCard → IsOrderly (history log) → items ≡ item.EepromFailed ∷ [] → IsBegun (heard (log_lines log)) (trace log ++ map Seen items)
stopped_at log items is orderly seen = inr (record { history = history log; before = trace log; is_of = is_of log orderly; resets = is; stopped = ap (λ i. trace log ++ map Seen i) seen })

-- a reset is shown in one line
reset_items : (old new : CardView) (items : List TraceItem) → StepShows old step.Reset items new → (items ≡ item.Reset ∷ []) ⊎ (items ≡ item.Cut ∷ [])
reset_items (TheCard old) (TheCard new) items (inl done) = inl done.seen
reset_items (TheCard old) (TheCard new) items (inr cut) = inr cut.seen
reset_items (ItsPower on) (ItsPower after) items (inl done) = inl done.0
reset_items (ItsPower on) (ItsPower after) items (inr cut) = inr cut.0
reset_items old new items none = absurd none

pub last_items : (old new : CardView) (items : List TraceItem) → LastShows old step.Reset items new → items ≡ item.EepromFailed ∷ []
last_items (TheCard old) (TheCard new) items fails = fails.seen
last_items (ItsPower on) (ItsPower after) items fails = fails
last_items old new items none = absurd none

restart_begun : (log : List Event) (items : List TraceItem) → asked (history log) ≡ ResetCard → IsOrderly (history log) → (items ≡ item.Reset ∷ []) ⊎ (items ≡ item.Cut ∷ []) → IsBegun (heard (log_lines log)) (trace log ++ map Seen items)
restart_begun log items is orderly (inl done) =
    begun_by log (with_reset ended.Done log) _ (lines_reset ended.Done log) (orderly_reset ended.Done log is orderly) (trace_reset ended.Done log ∙ ap (λ i. trace log ++ map Seen i) (sym done))
restart_begun log items is orderly (inr cut) =
    begun_by log (with_reset ended.Cut log) _ (lines_reset ended.Cut log) (orderly_reset ended.Cut log is orderly) (trace_reset ended.Cut log ∙ ap (λ i. trace log ++ map Seen i) (sym cut))

pub reset_begun : (log : List Event) (old new : CardView) (items : List TraceItem) (due set : List Plan) → asked (history log) ≡ ResetCard → IsOrderly (history log) → BreaksOff old step.Reset items due set new
    → IsBegun (heard (log_lines log)) (trace log ++ map Seen items)
reset_begun log old new items due set is orderly (inl gives, same) = restart_begun log items is orderly (reset_items old new items gives)
reset_begun log old new items due set is orderly (inr fails, same) = stopped_at log items is orderly (last_items old new items fails)

-- ---- ends

pub shows_step : (given : Beginning) (log : List Event) (old : CardView) (s : _) (now : Moment) → (broken : BreaksInStep given log old s now) → IsBegun (heard (log_lines log)) (trace log ++ map Seen broken.pending) → ShowsTrace given (lines_back log) (trace log ++ map Seen broken.pending) now
shows_step given log old s now broken begun =
    search (rules, begun, front_as _ _ _ (sym (text_with log broken.pending)) (front_behind (entries_text (trace log)) broken.front (text_of broken.pending) (front_of_pending broken.pending broken.front broken.cut_off)), broken)

pub shows_note : (given : Beginning) (log : List Event) (old : CardView) (note : Note) (now : Moment) → asked (history log) ≡ Show note → IsOrderly (history log) → BreaksInNote given log old note now → ShowsTrace given (lines_back log) (trace log ++ Shown note ∷ []) now
shows_note given log old note now is orderly broken =
    search (rules, begun_by log (Happens (Noted note) ∷ log) _ refl (is, orderly) (trace_noted note log), front_as _ _ _ (sym (text-append (trace log) (Shown note ∷ []) ∙ ap (λ more. entries_text (trace log) ++ more) (append-nil (note_line note)))) (front_behind (entries_text (trace log)) broken.front (note_line note) broken.begun), broken)

shows_broken : (given : Beginning) (log : List Event) (old : CardView) (now : Moment) (duty : Duty) → asked (history log) ≡ duty → IsOrderly (history log) → BreaksIn given log old now duty → ShowsBegun given (lines_back log) now
shows_broken given log old now (Transmit command) is orderly broken =
    record { entries = _; shows = shows_step given log old (step.Apdu (apdu_of command)) now broken (command_begun log command old broken.card broken.pending _ broken.set is orderly broken.broken) }
shows_broken given log old now ResetCard is orderly broken =
    record { entries = _; shows = shows_step given log old step.Reset now broken (reset_begun log old broken.card broken.pending _ broken.set is orderly broken.broken) }
shows_broken given log old now (Show note) is orderly broken = record { entries = _; shows = shows_note given log old note now is orderly broken }
shows_broken given log old now other is orderly broken = absurd broken

shows_told : (given : Beginning) (told other : List PhoneLine) (now : Moment) → other ≡ told → ShowsBegun given other now → ShowsBegun given told now
shows_told given told other now same shows = subst (λ t. ShowsBegun given t now) same shows

pub shows_failed : (given : Beginning) (told : List PhoneLine) (now : Moment) → (failed : FailsSo given told now) → ShowsTrace given (lines_back failed.log) (trace failed.log ++ map Seen failed.last) now
shows_failed given told now failed =
    search (rules, stopped_at failed.log failed.last failed.resets failed.run.orderly (last_items failed.old failed.card failed.last failed.ends), front_as _ _ _ (sym (text_with failed.log failed.last)) ([], sym (append-nil (entries_text (trace failed.log) ++ text_of failed.last))), failed)

pub ended_begun : EndsAreBegun
ended_begun given told now SinkFailed broken = shows_told given told _ now broken.lines_are (shows_broken given broken.log broken.old now (asked (history broken.log)) refl broken.run.orderly broken.broken)
ended_begun given told now ResetFailed failed = shows_told given told _ now failed.lines_are (record { entries = _; shows = shows_failed given told now failed })

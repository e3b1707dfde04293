-- What is kept after one more event is what each call makes of what was kept before.
use Rattle.std.proofs.Common.{◌≡◌, ℕ, ◌+◌, List, [], ◌∷◌, Option, Some, None, Bool, true, false, refl, ap, arith, map, ◌==◌, if◌then◌else◌, suc, zero}
use Rattle.std.proofs.lemmas.Grind.{common_steps}
use Rattle.uicc_types.specs.declared.answers.Answer.{Answer}
use Rattle.script_form.specs.declared.handset.HandsetLine.{HandsetLine}
use Rattle.script_form.specs.declared.handset.Note.{Note}
use Rattle.toolkit_commands.specs.declared.commands.Proactive.{Proactive}
use Rattle.toolkit_commands.specs.declared.commands.Proactive.TheVariants.{Refresh, MoreTime, PollInterval, SetUpEventList, PlayTone, DisplayText, GetInkey, GetInput, SelectItem, SetUpMenu, LocalInformation, TimerManagement, IdleText}
use Rattle.toolkit_commands.specs.declared.qualifiers.TheConstants.{START, DEACTIVATE}
use Rattle.handset_model.specs.declared.commands.Command.{Command}
use Rattle.handset_model.specs.declared.commands.Command.TheVariants.{SelectMf, SendProfile, Fetch, Respond, Tell, AskStatus}
use Rattle.handset_model.specs.declared.commands.Report.{Report}
use Rattle.handset_model.specs.declared.commands.Report.TheVariants.{MenuSelection, UserActivity, IdleScreen, Location, CallControl, Expired}
use Rattle.handset_model.specs.declared.known.Duty.{Duty}
use Rattle.handset_model.specs.declared.known.Duty.TheVariants.{Rest, Transmit, Await, Show, ResetCard}
use Rattle.handset_model.specs.declared.known.Held.{Held}
use Rattle.handset_model.specs.declared.known.Running.{Running}
use Rattle.handset_model.specs.Timers.{seconds_of}
use Rattle.handset_model.specs.History.{Happened, Said, Sent, Answered, Noted, Restarted, PowerCut, FoundOff, known, timer_numbers, running, running_if, running_by, running_after, with_command, brought, last_sent, moment}
use Rattle.handset_model.specs.Rules.{asked}
use Rattle.handset_model.specs.Legal.{item_of, next_item}
use Rattle.terminal_side.specs.Kept.{Kept, kept, unstarted, with_timer, timers_by, timers_after, with_line, with_sent, with_found, with_status, with_answer, with_reset, hearing, hearing_answer, doing, starting, losing_power, then_done, with_next}

-- ---- timers

with_timer_map : (timer : ℕ) (slot : Option Running) (f : ℕ → Option Running)
    → with_timer timer slot (map f timer_numbers) ≡ map (λ number. running_if (timer == number) slot (f number)) timer_numbers
with_timer_map zero slot f = refl
with_timer_map (suc zero) slot f = refl
with_timer_map (suc (suc zero)) slot f = refl
with_timer_map (suc (suc (suc zero))) slot f = refl
with_timer_map (suc (suc (suc (suc zero)))) slot f = refl
with_timer_map (suc (suc (suc (suc (suc zero))))) slot f = refl
with_timer_map (suc (suc (suc (suc (suc (suc zero)))))) slot f = refl
with_timer_map (suc (suc (suc (suc (suc (suc (suc zero))))))) slot f = refl
with_timer_map (suc (suc (suc (suc (suc (suc (suc (suc zero)))))))) slot f = refl
with_timer_map (suc (suc (suc (suc (suc (suc (suc (suc (suc timer))))))))) slot f = grind (arith, common_steps)

managed : (start stop : Bool) (timer : ℕ) (slot : Option Running) (f : ℕ → Option Running)
    → (if start then with_timer timer slot (map f timer_numbers)
    else (if stop then with_timer timer None (map f timer_numbers) else map f timer_numbers))
    ≡ map (λ number. if start then running_if (timer == number) slot (f number)
    else (if stop then running_if (timer == number) None (f number) else f number)) timer_numbers
managed true stop timer slot f = with_timer_map timer slot f
managed false true timer slot f = with_timer_map timer None f
managed false false timer slot f = refl

timers_commanded : (now : ℕ) (command : Proactive) (f : ℕ → Option Running)
    → timers_by now command (map f timer_numbers) ≡ map (λ number. running_by number now command (f number)) timer_numbers
timers_commanded now (TimerManagement action timer value) f =
    managed (action == START) (action == DEACTIVATE) timer (Some (record { due = now + seconds_of value; value = value })) f
timers_commanded now (Refresh mode) f = refl
timers_commanded now MoreTime f = refl
timers_commanded now (PollInterval seconds) f = refl
timers_commanded now (SetUpEventList events) f = refl
timers_commanded now (PlayTone tone) f = refl
timers_commanded now (DisplayText text) f = refl
timers_commanded now (GetInkey text) f = refl
timers_commanded now (GetInput text digits least most) f = refl
timers_commanded now (SelectItem title items) f = refl
timers_commanded now (SetUpMenu title items) f = refl
timers_commanded now (LocalInformation what) f = refl
timers_commanded now (IdleText text) f = refl

timers_brought : (now : ℕ) (found : Option Held) (f : ℕ → Option Running)
    → with_command (timers_by now) found (map f timer_numbers) ≡ map (λ number. with_command (running_by number now) found (f number)) timer_numbers
timers_brought now None f = refl
timers_brought now (Some held) f = timers_commanded now held.command f

timers_told : (report : Report) (f : ℕ → Option Running)
    → timers_after (Tell report) (map f timer_numbers) ≡ map (λ number. running_after number (Tell report) (f number)) timer_numbers
timers_told (Expired timer value due) f = with_timer_map timer None f
timers_told (MenuSelection item) f = refl
timers_told UserActivity f = refl
timers_told IdleScreen f = refl
timers_told (Location place) f = refl
timers_told (CallControl digits) f = refl

timers_sent : (command : Command) (f : ℕ → Option Running)
    → timers_after command (map f timer_numbers) ≡ map (λ number. running_after number command (f number)) timer_numbers
timers_sent (Tell report) f = timers_told report f
timers_sent SelectMf f = refl
timers_sent SendProfile f = refl
timers_sent (Fetch size) f = refl
timers_sent (Respond details reply) f = refl
timers_sent AskStatus f = refl

-- ---- what is kept

abbrev with_timers : Kept → List (Option Running) → Kept
with_timers old changed = record old { known = record old.known { timers = changed } }

pub kept_line : (line : HandsetLine) (h : List Happened) → hearing line (kept h) ≡ kept (Said line ∷ h)
unfolding kept known with_line
kept_line line h = refl

pub kept_sent : (command : Command) (h : List Happened) → doing (Transmit command) (kept h).known ≡ kept (Sent command ∷ h)
unfolding kept known with_sent
kept_sent command h = ap (with_timers (kept (Sent command ∷ h))) (timers_sent command (λ number. running number h))

pub kept_answer : (answer : Answer) (h : List Happened) → hearing_answer answer (kept h) ≡ kept (Answered answer ∷ h)
unfolding kept known with_answer with_status with_found
kept_answer answer h =
    ap (with_timers (kept (Answered answer ∷ h))) (timers_brought (moment h) (brought (last_sent h) answer) (λ number. running number h))

pub kept_note : (note : Note) (h : List Happened) → doing (Show note) (kept h).known ≡ kept (Noted note ∷ h)
unfolding kept known
kept_note note h = refl

pub kept_reset : (h : List Happened) → starting (kept h) ≡ kept (Restarted ∷ h)
unfolding kept known with_reset
kept_reset h = refl

pub kept_start : starting unstarted ≡ kept []
unfolding kept known with_reset unstarted
kept_start = refl

pub kept_cut : (h : List Happened) → losing_power (kept h) ≡ kept (PowerCut ∷ h)
unfolding kept known
kept_cut h = refl

pub kept_off : (h : List Happened) → losing_power (kept h) ≡ kept (FoundOff ∷ h)
unfolding kept known
kept_off h = refl

doing_next : (duty : Duty) (h : List Happened) → asked h ≡ duty → doing duty (kept h).known ≡ kept (then_done duty h)
unfolding kept
doing_next Rest h is = rw is refl
doing_next (Transmit command) h is = kept_sent command h
doing_next Await h is = rw is refl
doing_next (Show note) h is = kept_note note h
doing_next ResetCard h is = rw is refl

pub kept_next : (h : List Happened) → doing (kept h).asked (kept h).known ≡ kept (with_next h)
unfolding kept
kept_next h = doing_next (asked h) h refl

pub asked_kept : (h : List Happened) → item_of (kept h).asked ≡ next_item h
unfolding kept
asked_kept h = refl

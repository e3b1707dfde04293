-- What is left to do for a line falls with each event.
use Rattle.std.proofs.Common.{◌≡◌, ℕ, ◌<◌, ◌≤◌, List, [], ◌∷◌, Option, Some, None, Bool, true, false, refl, ⊎_elim, arith, ◌||◌, ◌==◌, if◌then◌else◌, Result, Ok, Err, ◌≢◌, subst}
use Rattle.std.proofs.lemmas.Grind.{common_steps}
use Rattle.uicc_types.specs.declared.answers.Answer.{Answer}
use Rattle.uicc_types.specs.declared.answers.TheConstants.StatusWord.{TOOLKIT_BUSY}
use Rattle.script_form.specs.declared.handset.Note.{Note}
use Rattle.script_form.specs.declared.handset.Note.TheVariants.{Text, Ask, Choose, Menu, Tone, Idle, Call, Barred, Busy}
use Rattle.toolkit_commands.specs.Reading.{proactive_of, details_found}
use Rattle.toolkit_commands.specs.Values.{is_pair}
use Rattle.toolkit_commands.specs.declared.commands.Details.{Details}
use Rattle.toolkit_commands.specs.declared.commands.Proactive.{Proactive}
use Rattle.toolkit_commands.specs.declared.commands.Proactive.TheVariants.{Refresh, MoreTime, PollInterval, SetUpEventList, PlayTone, DisplayText, GetInkey, GetInput, SelectItem, SetUpMenu, LocalInformation, TimerManagement, IdleText}
use Rattle.toolkit_commands.specs.declared.faults.ProactiveFault.{ProactiveFault}
use Rattle.toolkit_commands.specs.declared.qualifiers.TheConstants.{CARD_RESET}
use Rattle.handset_model.specs.declared.TheConstants.{MOST_COMMANDS}
use Rattle.handset_model.specs.declared.known.Due.{Due}
use Rattle.handset_model.specs.declared.known.Duty.{Duty}
use Rattle.handset_model.specs.declared.known.Duty.TheVariants.{Rest, Transmit, Await, Show, ResetCard}
use Rattle.handset_model.specs.declared.known.Held.{Held}
use Rattle.handset_model.specs.declared.known.Known.{Known}
use Rattle.handset_model.specs.declared.known.LastSent.{LastSent}
use Rattle.handset_model.specs.declared.known.LastSent.TheVariants.{NoCommand, Selecting, Fetching, Calling, Reporting, Another}
use Rattle.handset_model.specs.Timers.{soonest}
use Rattle.handset_model.specs.History.{Happened, Said, Sent, Answered, Noted, Restarted, PowerCut, FoundOff, commands, is_silent, known, announced_by}
use Rattle.handset_model.specs.Rules.{settled, report_due, ripe, fetch_or_settle, carried_out, fetched, followed, after_call, unless_busy, answered, answered_at, noted, respond_done, asked}
use Rattle.handset_model.specs.Legal.{IsOrderly}
use Rattle.handset_model.specs.Ending.{rank, work_left, IsOfLine}

-- ---- how far each duty goes

rank_if : (test : Bool) (most : ℕ) (one other : Duty) → rank one ≤ most → rank other ≤ most → rank (if test then one else other) ≤ most
rank_if true most one other a b = a
rank_if false most one other a b = b

rank_reported : (due : Option Due) → rank (report_due due) ≤ 1
rank_reported None = omega arith
rank_reported (Some due) = omega arith

rank_settled : (known : Known) → rank (settled known) ≤ 1
unfolding settled
rank_settled known =
    rank_if known.is_timed 1 (report_due (ripe known.clock (soonest 1 known.timers))) Rest (rank_reported (ripe known.clock (soonest 1 known.timers))) (omega arith)

rank_fetched_next : (announced : Option ℕ) (known : Known) → rank (fetch_or_settle announced known) ≤ 1
rank_fetched_next None known = rank_settled known
rank_fetched_next (Some size) known = omega arith

rank_done : (held : Option Held) → rank (respond_done held) ≤ 1
rank_done None = omega arith
rank_done (Some held) = omega arith

rank_noted : (note : Note) (known : Known) → rank (noted note known) ≤ 1
rank_noted (Text text) known = rank_settled known
rank_noted (Ask text) known = rank_settled known
rank_noted (Choose count) known = rank_settled known
rank_noted (Menu count) known = rank_done known.held
rank_noted (Tone tone) known = rank_done known.held
rank_noted (Idle text) known = rank_done known.held
rank_noted Call known = rank_fetched_next known.announced known
rank_noted Barred known = rank_fetched_next known.announced known
rank_noted Busy known = rank_settled known

rank_refresh : (is_reset is_second : Bool) (one two three : Duty) → rank one ≤ 2 → rank two ≤ 2 → rank three ≤ 2
    → rank (if is_reset then (if is_second then one else two) else three) ≤ 2
rank_refresh true true one two three a b c = a
rank_refresh true false one two three a b c = b
rank_refresh false is_second one two three a b c = c

rank_carried_out : (command : Proactive) (held : Held) (known : Known) → rank (carried_out command held known) ≤ 2
rank_carried_out (DisplayText text) held known = omega arith
rank_carried_out (GetInkey text) held known = omega arith
rank_carried_out (GetInput text digits least most) held known = omega arith
rank_carried_out (SelectItem title items) held known = omega arith
rank_carried_out (SetUpMenu title items) held known = omega arith
rank_carried_out (SetUpEventList events) held known = omega arith
rank_carried_out (PlayTone tone) held known = omega arith
rank_carried_out (IdleText text) held known = omega arith
rank_carried_out MoreTime held known = omega arith
rank_carried_out (PollInterval seconds) held known = omega arith
rank_carried_out (LocalInformation what) held known = omega arith
rank_carried_out (TimerManagement action timer value) held known = omega arith
rank_carried_out (Refresh mode) held known =
    rank_refresh (mode == CARD_RESET) known.is_refreshed _ _ _ (omega arith) (omega arith) (omega arith)

rank_fetched : (found : Result (Details × Proactive) ProactiveFault) (details : Details) (known : Known) → rank (fetched found details known) ≤ 2
rank_fetched (Ok found) details known = rank_carried_out found.1 (record { details = found.0; command = found.1 }) known
rank_fetched (Err fault) details known = omega arith

rank_followed : (answer : Answer) (known : Known) → rank (followed answer known) ≤ 2
rank_followed answer known = omega (arith, rank_fetched_next (announced_by answer) known)

rank_after_call : (answer : Answer) (known : Known) → rank (after_call answer.body (followed answer known)) ≤ 2
rank_after_call answer known =
    rank_refresh_call (is_pair answer.body 0x00 0x00) (is_pair answer.body 0x01 0x00) (followed answer known) (rank_followed answer known)
  where
    rank_refresh_call : (is_allowed is_barred : Bool) (duty : Duty) → rank duty ≤ 2
        → rank (if is_allowed then Show Call else (if is_barred then Show Barred else duty)) ≤ 2
    rank_refresh_call true is_barred duty a = omega arith
    rank_refresh_call false true duty a = omega arith
    rank_refresh_call false false duty a = a

rank_unless_busy : (answer : Answer) (duty : Duty) → rank duty ≤ 2 → rank (unless_busy answer duty) ≤ 2
rank_unless_busy answer duty a = rank_if (answer.status.0 == TOOLKIT_BUSY.0) 2 (Show Busy) duty (omega arith) a

rank_answered : (last : LastSent) (answer : Answer) (known : Known) → rank (answered last answer known) ≤ 2
rank_answered NoCommand answer known = omega arith
rank_answered Selecting answer known = omega arith
rank_answered Fetching answer known = rank_fetched (proactive_of answer.body) (details_found answer.body) known
rank_answered Calling answer known = rank_unless_busy answer _ (rank_after_call answer known)
rank_answered Reporting answer known = rank_unless_busy answer _ (rank_followed answer known)
rank_answered Another answer known = rank_followed answer known

rank_answered_at : (silent : Bool) (answer : Answer) (known : Known) → rank (answered_at silent answer known) ≤ 2
rank_answered_at true answer known = omega arith
rank_answered_at false answer known = rank_answered known.last_sent answer known

-- ---- where something is still to be done, a command may be sent

counted_up : (h : List Happened) → commands h ≤ MOST_COMMANDS
counted_up [] = omega arith
counted_up (Said line ∷ h) = omega arith
counted_up (Sent command ∷ h) = omega arith
counted_up (Answered answer ∷ h) = counted_up h
counted_up (Noted note ∷ h) = counted_up h
counted_up (Restarted ∷ h) = counted_up h
counted_up (PowerCut ∷ h) = counted_up h
counted_up (FoundOff ∷ h) = counted_up h

-- nothing is to be done, an answer is awaited, or not all commands were sent
abbrev MayGoOn : Duty → ℕ → Type 0
MayGoOn Rest count = Unit {0}
MayGoOn Await count = Unit {0}
MayGoOn duty count = count < MOST_COMMANDS

low_enough : (duty : Duty) (count : ℕ) → count < MOST_COMMANDS → MayGoOn duty count
low_enough Rest count low = tt
low_enough Await count low = tt
low_enough (Transmit command) count low = low
low_enough (Show note) count low = low
low_enough ResetCard count low = low

after_answer : (memory spent silent : Bool) (answer : Answer) (known : Known) (count : ℕ) → count ≤ MOST_COMMANDS → (spent ≡ false → count ≢ MOST_COMMANDS)
    → MayGoOn (answered_at ((memory || spent) || silent) answer known) count
after_answer true spent silent answer known count most not_all = tt
after_answer false true silent answer known count most not_all = tt
after_answer false false true answer known count most not_all = tt
after_answer false false false answer known count most not_all =
    low_enough (answered known.last_sent answer known) count (omega (arith, not_all refl))

may_go_on : (h : List Happened) → IsOrderly h → MayGoOn (asked h) (commands h)
may_go_on [] o = omega arith
may_go_on (Said line ∷ h) o = low_enough (asked (Said line ∷ h)) 0 (omega arith)
may_go_on (Sent command ∷ h) o = tt
may_go_on (Answered answer ∷ h) o =
    after_answer (answer.status.0 == 0x6581) (commands h == MOST_COMMANDS) (is_silent h) answer (known h) (commands h) (counted_up h) (λ not. grind (arith, common_steps))
may_go_on (Noted note ∷ h) o =
    low_enough (asked (Noted note ∷ h)) (commands h) (subst (λ (duty : Duty). MayGoOn duty (commands h)) o.0 (may_go_on h o.1))
may_go_on (Restarted ∷ h) o = subst (λ (duty : Duty). MayGoOn duty (commands h)) o.0 (may_go_on h o.1)
may_go_on (PowerCut ∷ h) o = tt
may_go_on (FoundOff ∷ h) o = tt

-- ---- what is left to do

pub lines_end : (h : List Happened) (event : Happened) → IsOrderly (event ∷ h) → IsOfLine event → work_left (event ∷ h) < work_left h
lines_end h (Said line) o of_line = absurd of_line
lines_end h (Sent command) o of_line =
    let low : commands h < MOST_COMMANDS = subst (λ (duty : Duty). MayGoOn duty (commands h)) o.0 (may_go_on h o.1) in
    rw o.0 (omega arith)
lines_end h (Answered answer) o of_line = rw o.0 (omega (arith, rank_answered_at (is_silent (Answered answer ∷ h)) answer (known h)))
lines_end h (Noted note) o of_line = rw o.0 (omega (arith, rank_noted note (known h)))
lines_end h Restarted o of_line = rw o.0 (omega arith)
lines_end h PowerCut o of_line = ⊎_elim {C = work_left (PowerCut ∷ h) < work_left h} (λ is. rw is (omega arith)) (λ is. rw is (omega arith)) o.0
lines_end h FoundOff o of_line = rw o.0 (omega arith)

-- From one event of a handset to the next: all is in order, and less is left to do for the line.
use Rattle.std.proofs.Common.{◌≡◌, ℕ, ◌<◌, Bool, true, false, List, ◌∷◌, Option, Some, None, refl, sym, ap, ◌∙◌, subst, inl, inr, arith, ◌+◌, ◌&&◌, if◌then◌else◌, is_none, length, Ok, Err, rules}
use Rattle.uicc_types.specs.declared.answers.Answer.{Answer}
use Rattle.t0_link.specs.declared.endpoint.LinkFault.TheVariants.{PowerLost, NoPower}
use Rattle.script_form.specs.declared.handset.HandsetLine.{HandsetLine}
use Rattle.script_form.specs.declared.handset.HandsetLine.TheVariants.{UserOk, UserType, UserPick, UserPress, UserIdle, UserDial, NetPlace, NetPoll, Time, Reset}
use Rattle.script_form.specs.declared.handset.Note.{Note}
use Rattle.toolkit_commands.specs.declared.commands.Proactive.{Proactive}
use Rattle.toolkit_commands.specs.declared.commands.Proactive.TheVariants.{DisplayText, SelectItem}
use Rattle.handset_model.specs.Ending.{IsOfLine, work, work_left}
use Rattle.handset_model.specs.History.{Happened, Said, Sent, Answered, Noted, Restarted, PowerCut, FoundOff, clock, commands, is_silent, known, span_of}
use Rattle.handset_model.specs.Legal.{IsOrderly, item_of, next_item}
use Rattle.handset_model.specs.Rules.{asked, confirm, lists, pick, pick_in_menu, pick_with, report_due, ripe, said, said_at, settled, takes, with_held}
use Rattle.handset_model.specs.Sending.{apdu_of}
use Rattle.handset_model.specs.Timers.{soonest}
use Rattle.handset_model.specs.declared.commands.Command.{Command}
use Rattle.handset_model.specs.declared.known.Due.{Due}
use Rattle.handset_model.specs.declared.known.Duty.{Duty}
use Rattle.handset_model.specs.declared.known.Duty.TheVariants.{Rest, Transmit, Await, Show, ResetCard}
use Rattle.handset_model.specs.declared.known.Held.{Held}
use Rattle.handset_model.specs.declared.known.Known.{Known}
use Rattle.handset_model.specs.declared.steps.PhoneStep.TheVariants as step
use Rattle.terminal_side.specs.Kept.{Kept, kept, then_done, with_next}
use Rattle.terminal_side.proofs.KeptLemmas.{clock_kept}
use Rattle.run_steps.specs.Taking.{Outcome}
use Rattle.run_steps.specs.declared.steps.Restarted.{Restarted as AReset}
use Rattle.run_steps.specs.declared.steps.Restarted.TheVariants as ended
use Rattle.phone_runs.specs.Serving.{IsPhoneServed, IsServedMore, replied, reset_by, work_at}

-- ---- what is kept

pub work_kept : (h : List Happened) → work_at (kept h) ≡ work_left h
unfolding kept known
work_kept h = refl

pub asked_kept : (h : List Happened) → (kept h).asked ≡ asked h
unfolding kept
asked_kept h = refl

-- ---- what is asked for

pub record IsSend (h : List Happened) (apdu : List ℕ) : Type 0 where
  pub command : Command
  pub asked_is : asked h ≡ Transmit command
  pub bytes : apdu_of command ≡ apdu

send_of : (h : List Happened) (duty : Duty) (apdu : List ℕ) → asked h ≡ duty → item_of duty ≡ Some (step.Send apdu) → IsSend h apdu
send_of h (Transmit command) apdu is item = record { command = command; asked_is = is; bytes = cc }
send_of h other apdu is item = absurd (cc)

pub is_send : (h : List Happened) (apdu : List ℕ) → next_item h ≡ Some (step.Send apdu) → IsSend h apdu
is_send h apdu item = send_of h (asked h) apdu refl item

note_of : (duty : Duty) (note : Note) → item_of duty ≡ Some (step.Note note) → duty ≡ Show note
note_of (Show shown) note item = cc
note_of other note item = absurd (cc)

pub is_note : (h : List Happened) (note : Note) → next_item h ≡ Some (step.Note note) → asked h ≡ Show note
is_note h note item = note_of (asked h) note item

reset_of : (duty : Duty) → item_of duty ≡ Some step.Reset → duty ≡ ResetCard
reset_of ResetCard item = refl
reset_of other item = absurd (cc)

pub is_reset : (h : List Happened) → next_item h ≡ Some step.Reset → asked h ≡ ResetCard
is_reset h item = reset_of (asked h) item

none_of : (duty : Duty) → item_of duty ≡ None → (duty ≡ Await → ⊥) → duty ≡ Rest
none_of Rest item no_answer = refl
none_of Await item no_answer = absurd (no_answer refl)
none_of other item no_answer = absurd (cc)

pub is_none_asked : (h : List Happened) → next_item h ≡ None → (asked h ≡ Await → ⊥) → asked h ≡ Rest
is_none_asked h item no_answer = none_of (asked h) item no_answer

pub next_is : (h : List Happened) (duty : Duty) → asked h ≡ duty → with_next h ≡ then_done duty h
next_is h duty is = ap (λ d. then_done d h) is

-- ---- what follows

abbrev pub LinesEnd : Type 0
LinesEnd = (h : List Happened) (event : Happened) → IsOrderly (event ∷ h) → IsOfLine event → work_left (event ∷ h) < work_left h

pub record IsNext (h later : List Happened) : Type 0 where
  pub orderly : IsOrderly later
  pub less : work_left later < work_left h
  pub clock_is : clock later ≡ clock h
  pub no_answer : asked later ≡ Await → ⊥

answered_calm : (count : ℕ) (duty : Duty) → work count duty < work count Await → duty ≡ Await → ⊥
answered_calm count duty less is = let same : work count duty ≡ work count Await = ap (work count) is in omega arith

noted_calm : (count : ℕ) (duty : Duty) (note : Note) → work count duty < work count (Show note) → duty ≡ Await → ⊥
noted_calm count duty note less is = let same : work count duty ≡ work count Await = ap (work count) is in omega arith

less_twice : (one two three : ℕ) → one < two → two < three → one < three
less_twice one two three first second = omega arith

sent_by : LinesEnd → (h : List Happened) (command : Command) (event : Happened) → IsOrderly (Sent command ∷ h) → IsOrderly (event ∷ Sent command ∷ h) → IsOfLine event → commands (event ∷ Sent command ∷ h) ≡ commands (Sent command ∷ h)
    → clock (event ∷ Sent command ∷ h) ≡ clock h → IsNext h (event ∷ Sent command ∷ h)
sent_by ending h command event first second of_line same_commands same_clock =
    let less = ending (Sent command ∷ h) event second of_line in
    search (rules, second, less_twice _ _ _ less (ending h (Sent command) first tt), same_clock, answered_calm (commands (Sent command ∷ h)) (asked (event ∷ Sent command ∷ h)) (subst (λ count. work count (asked (event ∷ Sent command ∷ h)) < work_left (Sent command ∷ h)) same_commands less))

pub sent_next : LinesEnd → (h : List Happened) (command : Command) (outcome : Outcome) (answer : Answer) → IsOrderly h → asked h ≡ Transmit command → IsNext h (replied outcome answer ∷ Sent command ∷ h)
sent_next ending h command (Ok done) answer orderly is = sent_by ending h command (Answered answer) (is, orderly) (refl, (is, orderly)) tt refl refl
sent_next ending h command (Err PowerLost) answer orderly is = sent_by ending h command PowerCut (is, orderly) (inl refl, (is, orderly)) tt refl refl
sent_next ending h command (Err NoPower) answer orderly is = sent_by ending h command FoundOff (is, orderly) (refl, (is, orderly)) tt refl refl

pub reset_next : LinesEnd → (h : List Happened) (outcome : AReset) → IsOrderly h → asked h ≡ ResetCard → IsNext h (reset_by outcome ∷ h)
reset_next ending h ended.Done orderly is = record { orderly = (is, orderly); less = ending h Restarted (is, orderly) tt; clock_is = refl; no_answer = λ awaits. cc }
reset_next ending h ended.Cut orderly is = record { orderly = (inr is, orderly); less = ending h PowerCut (inr is, orderly) tt; clock_is = refl; no_answer = λ awaits. cc }

pub noted_next : LinesEnd → (h : List Happened) (note : Note) → IsOrderly h → asked h ≡ Show note → IsNext h (Noted note ∷ h)
noted_next ending h note orderly is =
    let less = ending h (Noted note) (is, orderly) tt in
    record {
      orderly = (is, orderly);
      less = less;
      clock_is = refl;
      no_answer = noted_calm (commands h) (asked (Noted note ∷ h)) note (subst (λ d. work (commands h) (asked (Noted note ∷ h)) < work (commands h) d) is less);
    }

pub served_more : (old new : Kept) (h later : List Happened) → old ≡ kept h → new ≡ kept later → IsNext h later → IsServedMore old new
served_more old new h later was is next = record {
  served = record { history = later; keeps = is; orderly = next.orderly; no_answer = next.no_answer };
  less = subst (λ w. w < work_at old) (sym (ap work_at is ∙ work_kept later)) (subst (λ w. work_left later < w) (sym (ap work_at was ∙ work_kept h)) next.less);
  clock = ap (λ (k : Kept). k.known.clock) is ∙ clock_kept later ∙ next.clock_is ∙ sym (clock_kept h) ∙ ap (λ (k : Kept). k.known.clock) (sym was);
}

-- ---- a line

-- the handset waits for an answer
abbrev awaits : Duty → Bool
awaits Await = true
awaits other = false

if_calm : (test : Bool) (one other : Duty) → awaits one ≡ false → awaits other ≡ false → awaits (if test then one else other) ≡ false
if_calm true one other first second = first
if_calm false one other first second = second

held_calm : (held : Option Held) (react : Held → Duty) → ((command : Held) → awaits (react command) ≡ false) → awaits (with_held held react) ≡ false
held_calm None react calm = refl
held_calm (Some command) react calm = calm command

confirm_calm : (command : Proactive) (held : Held) → awaits (confirm command held) ≡ false
confirm_calm (DisplayText text) held = refl
confirm_calm _ held = refl

menu_calm : (id : ℕ) (known : Known) → awaits (pick_in_menu id known) ≡ false
menu_calm id known = if_calm (lists id known.menu) _ _ refl refl

pick_calm : (id : ℕ) (command : Proactive) (held : Held) (known : Known) → awaits (pick id command held known) ≡ false
pick_calm id (SelectItem title items) held known = if_calm (lists id items) _ _ refl refl
pick_calm id _ held known = menu_calm id known

pick_with_calm : (id : ℕ) (held : Option Held) (known : Known) → awaits (pick_with id held known) ≡ false
pick_with_calm id None known = menu_calm id known
pick_with_calm id (Some held) known = pick_calm id held.command held known

report_calm : (due : Option Due) → awaits (report_due due) ≡ false
report_calm None = refl
report_calm (Some due) = refl

settled_calm : (known : Known) → awaits (settled known) ≡ false
unfolding settled
settled_calm known = if_calm known.is_timed _ _ (report_calm (ripe known.clock (soonest 1 known.timers))) refl

said_calm : (line : HandsetLine) (known : Known) → awaits (said line known) ≡ false
said_calm UserOk known = held_calm known.held _ (λ held. confirm_calm held.command held)
said_calm (UserType text) known = held_calm known.held _ (λ held. if_calm (takes held.command (length text)) _ _ refl refl)
said_calm (UserPick id) known = pick_with_calm id known.held known
said_calm UserPress known = if_calm known.listed.activity _ _ refl refl
said_calm UserIdle known = if_calm (known.listed.idle && is_none known.held) _ _ refl refl
said_calm (UserDial digits) known = refl
said_calm (NetPlace place) known = if_calm known.listed.location _ _ refl refl
said_calm NetPoll known = refl
said_calm (Time seconds) known = settled_calm known
said_calm Reset known = refl
said_calm other known = held_calm known.held _ (λ held. refl)

heard_calm : (silent : Bool) (line : HandsetLine) (known : Known) → awaits (said_at silent line known) ≡ false
heard_calm true Reset known = refl
heard_calm true _ known = refl
heard_calm false line known = said_calm line known

no_await : (duty : Duty) → awaits duty ≡ false → duty ≡ Await → ⊥
no_await duty calm is = let same = ap awaits is in cc

pub said_served : (new : Kept) (h : List Happened) (line : HandsetLine) → IsOrderly h → asked h ≡ Rest → new ≡ kept (Said line ∷ h) → IsPhoneServed new
said_served new h line orderly rest is = record {
  history = Said line ∷ h;
  keeps = is;
  orderly = (rest, orderly);
  no_answer = no_await (asked (Said line ∷ h)) (heard_calm (is_silent h) line (known (Said line ∷ h)));
}

pub said_clock : (old new : Kept) (h : List Happened) (line : HandsetLine) → old ≡ kept h → new ≡ kept (Said line ∷ h) → new.known.clock ≡ old.known.clock + span_of line
said_clock old new h line was is = ap (λ (k : Kept). k.known.clock) is ∙ clock_kept (Said line ∷ h) ∙ ap (λ c. c + span_of line) (sym (clock_kept h) ∙ ap (λ (k : Kept). k.known.clock) (sym was))

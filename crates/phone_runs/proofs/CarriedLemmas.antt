-- What a handset sends goes over the link of its carrier, where that is one.
use Rattle.std.proofs.Common.{◌≡◌, ℕ, suc, ◌+◌, ◌≤◌, min, Bool, true, if◌then◌else◌, List, [], ◌∷◌, Option, Some, refl, sym, ap, ◌∙◌, subst, arith, Err}
use Rattle.uicc_types.specs.declared.answers.Answer.{Answer}
use Rattle.apdu_form.specs.Model.{Apdu}
use Rattle.t0_link.specs.Carrying.{is_carried, tpdus_by, tpdus_for, tpdus_if_carried, tpdus_sent}
use Rattle.t0_link.specs.Tpdus.{transfer_of}
use Rattle.t0_link.specs.declared.tpdus.Transfer.{Transfer}
use Rattle.t0_link.specs.declared.tpdus.Transfer.TheVariants.{Incoming}
use Rattle.t0_link.specs.declared.endpoint.LinkFault.TheVariants.{PowerLost}
use Rattle.script_form.specs.declared.handset.HandsetLine.{HandsetLine}
use Rattle.script_form.specs.declared.handset.Note.{Note}
use Rattle.handset_model.specs.History.{Happened, Noted, Said, Sent, commands, known}
use Rattle.handset_model.specs.Sending.{apdu_of}
use Rattle.handset_model.specs.declared.TheConstants.{MOST_COMMANDS}
use Rattle.handset_model.specs.declared.commands.Command.{Command}
use Rattle.handset_model.specs.declared.steps.PhoneStep.{PhoneStep}
use Rattle.handset_model.specs.declared.commands.Command.TheVariants as sent
use Rattle.handset_model.specs.declared.steps.PhoneStep.TheVariants as step
use Rattle.terminal_side.specs.Kept.{Kept, kept}
use Rattle.run_steps.specs.Taking.{Outcome}
use Rattle.run_steps.specs.Carriers.{Carries}
use Rattle.run_steps.specs.declared.carriers.Carrier.{Carrier}
use Rattle.run_steps.specs.declared.steps.Restarted.{Restarted as AReset}
use Rattle.run_steps.proofs.CarriesLemmas.{carries_fewer, carries_none, carries_on}
use Rattle.run_steps.specs.declared.steps.Restarted.TheVariants as ended
use Rattle.phone_runs.proofs.ApduOfLemmas.{parts_of, parts_read}
use Rattle.phone_runs.proofs.ServeLemmas.{IsAskedOf, note_keeps, note_so, reset_keeps, reset_so, sent_so}
use Rattle.phone_runs.specs.Serving.{CarriesMore, IsPhoneServed, replied, reset_by}

-- ---- each command goes over it

one_by : (way : Transfer) (body : List ℕ) → 1 ≤ tpdus_by way body
one_by Incoming (byte ∷ more) = omega arith
one_by way body = omega arith

carried_parts : (command : Command) → is_carried (parts_of command) ≡ true
carried_parts sent.SelectMf = refl
carried_parts other = refl

one_at_least : (command : Command) (body : List ℕ) → 1 ≤ tpdus_for (apdu_of command) body
one_at_least command body =
    subst (λ (read : Option Apdu). 1 ≤ tpdus_if_carried read body) (sym (parts_read command))
    (subst (λ (b : Bool). 1 ≤ (if b then tpdus_sent (parts_of command) body else 0)) (sym (carried_parts command)) (one_by (transfer_of (parts_of command).ins (parts_of command).p1) body))

-- ---- how many it sent

commands_kept : (h : List Happened) → (kept h).known.commands ≡ commands h
unfolding kept known
commands_kept h = refl

commands_at : (phone : Kept) (h : List Happened) → phone ≡ kept h → phone.known.commands ≡ commands h
commands_at phone h is = ap (λ (k : Kept). k.known.commands) is ∙ commands_kept h

replied_commands : (outcome : Outcome) (answer : Answer) (h : List Happened) → commands (replied outcome answer ∷ h) ≡ commands h
replied_commands (Err PowerLost) answer h = refl
replied_commands other answer h = refl

reset_commands : (outcome : AReset) (h : List Happened) → commands (reset_by outcome ∷ h) ≡ commands h
reset_commands ended.Done h = refl
reset_commands ended.Cut h = refl

one_more : (old now count : ℕ) → old ≡ count → now ≡ min (suc count) MOST_COMMANDS → now ≤ old + 1
one_more old now count was is = omega (arith, was, is)

no_more : (old now count : ℕ) → old ≡ count → now ≡ count → now ≤ old + 0
no_more old now count was is = omega (arith, was, is)

-- ---- one thing that it asked for

-- it sent nothing
pub quiet_carried : (old new : Kept) (h later : List Happened) (each : Carrier) → old ≡ kept h → new ≡ kept later → commands later ≡ commands h → CarriesMore old new each each
quiet_carried old new h later each was is same = record {
  times = 0;
  sent = no_more old.known.commands new.known.commands (commands h) (commands_at old h was) (commands_at new later is ∙ same);
  carried = carries_none each;
}

pub same_carried : (old new : Kept) (each : Carrier) → new ≡ old → CarriesMore old new each each
same_carried old new each same = record { times = 0; sent = no_more old.known.commands new.known.commands old.known.commands refl (ap (λ (k : Kept). k.known.commands) same); carried = carries_none each }

-- a command
pub sent_carried : (old mid new : Kept) (found : Option PhoneStep) (apdu : List ℕ) (outcome : Outcome) (answer : Answer) (before after : Carrier) → IsAskedOf old mid found → found ≡ Some (step.Send apdu)
    → ((h : List Happened) → mid ≡ kept h → new ≡ kept (replied outcome answer ∷ h)) → IsPhoneServed old → Carries (tpdus_for apdu answer.body) before after → CarriesMore old new before after
sent_carried old mid new found apdu outcome answer before after asking is hears served carries =
    let sent = sent_so old mid found apdu served.history asking is served.keeps in
    let now = hears (Sent sent.command ∷ served.history) sent.keeps in
    record {
      times = 1;
      sent = one_more old.known.commands new.known.commands (commands served.history) (commands_at old served.history served.keeps)
          (commands_at new (replied outcome answer ∷ Sent sent.command ∷ served.history) now ∙ replied_commands outcome answer (Sent sent.command ∷ served.history));
      carried = carries_fewer 1 (tpdus_for (apdu_of sent.command) answer.body) before after (one_at_least sent.command answer.body)
          (subst (λ (a : List ℕ). Carries (tpdus_for a answer.body) before after) (sym sent.bytes) carries);
    }

-- a reset
pub reset_carried : (old mid new : Kept) (found : Option PhoneStep) (outcome : AReset) (each : Carrier) → IsAskedOf old mid found → found ≡ Some step.Reset
    → ((h : List Happened) → mid ≡ kept h → new ≡ kept (reset_by outcome ∷ h)) → IsPhoneServed old → CarriesMore old new each each
reset_carried old mid new found outcome each asking is hears served =
    let resets = reset_so old mid found served.history asking is served.keeps in
    quiet_carried old new served.history (reset_by outcome ∷ served.history) each served.keeps (hears served.history (reset_keeps old mid found served.history asking resets served.keeps)) (reset_commands outcome served.history)

-- a note
pub note_carried : (old mid : Kept) (found : Option PhoneStep) (note : Note) (each : Carrier) → IsAskedOf old mid found → found ≡ Some (step.Note note) → IsPhoneServed old → CarriesMore old mid each each
note_carried old mid found note each asking is served =
    let shows = note_so old mid found note served.history asking is served.keeps in
    quiet_carried old mid served.history (Noted note ∷ served.history) each served.keeps (note_keeps old mid found note served.history asking shows served.keeps) refl

-- ---- one thing after another

more_sent : (first second third one other : ℕ) → second ≤ first + one → third ≤ second + other → third ≤ first + (one + other)
more_sent first second third one other early late = omega (arith, early, late)

pub carried_on : (old mid new : Kept) (before between after : Carrier) → CarriesMore old mid before between → CarriesMore mid new between after → CarriesMore old new before after
carried_on old mid new before between after one other = record {
  times = one.times + other.times;
  sent = more_sent old.known.commands mid.known.commands new.known.commands one.times other.times one.sent other.sent;
  carried = carries_on one.times other.times before between after one.carried other.carried;
}

-- ---- all of a line

all_sent : (old now times : ℕ) → old ≡ 0 → now ≤ old + times → now ≤ times
all_sent old now times none sent = omega (arith, none, sent)

pub all_carried : (old new : Kept) (before after : Carrier) → old.known.commands ≡ 0 → CarriesMore old new before after → Carries new.known.commands before after
all_carried old new before after none more = carries_fewer new.known.commands more.times before after (all_sent old.known.commands new.known.commands more.times none more.sent) more.carried

pub said_none : (new : Kept) (line : HandsetLine) (h : List Happened) → new ≡ kept (Said line ∷ h) → new.known.commands ≡ 0
said_none new line h is = commands_at new (Said line ∷ h) is

pub started_none : (new : Kept) → new ≡ kept [] → new.known.commands ≡ 0
started_none new is = commands_at new [] is

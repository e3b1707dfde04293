-- What comes of one thing that a handset asks for.
use Rattle.std.proofs.Common.{◌≡◌, ℕ, List, ◌∷◌, Option, Some, None, Err, refl, sym, ap, ◌∙◌, subst, rules}
use Rattle.std.specs.Io.KnownBytes.{append_known}
use Rattle.uicc_types.specs.Told.{Becomes}
use Rattle.uicc_types.specs.declared.answers.Answer.{Answer}
use Rattle.uicc_types.specs.declared.runs.Step.TheVariants as run
use Rattle.byte_streams.specs.Streams.{TakesFront}
use Rattle.script_form.specs.declared.handset.Note.{Note}
use Rattle.card_model.specs.Laws.{CountsJoin, PlansAreSetInOrder}
use Rattle.handset_model.specs.History.{Happened, Noted, Sent}
use Rattle.handset_model.specs.Legal.{next_item}
use Rattle.handset_model.specs.Rules.{asked}
use Rattle.handset_model.specs.Sending.{apdu_of}
use Rattle.handset_model.specs.declared.commands.Command.{Command}
use Rattle.handset_model.specs.declared.known.Duty.TheVariants.{Rest, Transmit, Show, ResetCard}
use Rattle.handset_model.specs.declared.steps.PhoneStep.{PhoneStep}
use Rattle.handset_model.specs.declared.steps.PhoneStep.TheVariants as step
use Rattle.terminal_side.specs.Kept.{Kept, kept, with_next}
use Rattle.terminal_side.specs.Stages.{step_of}
use Rattle.terminal_side.specs.declared.phone.Next.{Next}
use Rattle.terminal_side.specs.declared.phone.Next.TheVariants as next
use Rattle.run_steps.specs.Taking.{BreaksStep, GivesReset, Outcome, TakesShowing, exchanged, restarted_by}
use Rattle.run_steps.specs.Stepping.{Holds, IsSeen, Moment}
use Rattle.run_steps.specs.Views.{CardView}
use Rattle.run_steps.specs.declared.steps.Restarted.{Restarted as AReset}
use Rattle.run_steps.specs.declared.steps.StepEnd.{StepEnd}
use Rattle.run_steps.proofs.SteppingLemmas.{told_front}
use Rattle.phone_runs.proofs.IsServedMoreLemmas.{LinesEnd, asked_kept, is_none_asked, is_note, is_reset, is_send, next_is, noted_next, reset_next, sent_next, served_more}
use Rattle.phone_runs.proofs.RunsLemmas.{ends_noted, ends_reset, ends_sent, keeps_same, reaches_noted, reaches_reset, reaches_sent}
use Rattle.phone_runs.specs.Logs.{Event, PhoneLine, history, lines_back}
use Rattle.phone_runs.specs.Runs.{Beginning, BreaksSo, RunEnds, note_line}
use Rattle.phone_runs.specs.Settling.{IsAt, Reaches, Rests}
use Rattle.phone_runs.specs.Serving.{IsPhoneServed, IsServedMore, replied, reset_by}

-- the handset was asked what it wants
pub record IsAskedOf (old mid : Kept) (found : Option PhoneStep) : Type 0 where
  pub item : (h : List Happened) → old ≡ kept h → found ≡ next_item h
  pub after : (h : List Happened) → old ≡ kept h → mid ≡ kept (with_next h)

-- the places tell what it wants
asks : (asked_for other : Next) (apdu : List ℕ) (note : Note) → asked_for ≡ other → step_of asked_for apdu note ≡ step_of other apdu note
asks asked_for other apdu note is = ap (λ (r : Next). step_of r apdu note) is

pub asks_send : (asked_for : Next) (apdu bytes : List ℕ) (note : Note) → asked_for ≡ next.Send → bytes ≡ apdu → step_of asked_for apdu note ≡ Some (step.Send bytes)
asks_send asked_for apdu bytes note is same = asks asked_for next.Send apdu note is ∙ ap (λ (b : List ℕ). Some (step.Send b)) (sym same)

pub asks_reset : (asked_for : Next) (apdu : List ℕ) (note : Note) → asked_for ≡ next.Reset → step_of asked_for apdu note ≡ Some step.Reset
asks_reset asked_for apdu note is = asks asked_for next.Reset apdu note is

pub asks_note : (asked_for : Next) (apdu : List ℕ) (note : Note) → asked_for ≡ next.Show → step_of asked_for apdu note ≡ Some (step.Note note)
asks_note asked_for apdu note is = asks asked_for next.Show apdu note is

-- ---- nothing

-- it stands where it stood
pub stays : (old mid : Kept) (h : List Happened) → IsAskedOf old mid None → asked h ≡ Rest → old ≡ kept h → mid ≡ kept h
stays old mid h asking rest keeps = asking.after h keeps ∙ ap kept (next_is h Rest rest)

pub at_rest : (old mid : Kept) (h : List Happened) → IsAskedOf old mid None → IsPhoneServed old → old ≡ kept h → asked h ≡ Rest
at_rest old mid h asking served keeps =
    let same : asked h ≡ asked served.history = sym (asked_kept h) ∙ ap (λ (k : Kept). k.asked) (sym keeps ∙ served.keeps) ∙ asked_kept served.history in
    is_none_asked h (sym (asking.item h keeps)) (λ awaits. served.no_answer (sym same ∙ awaits))

pub none_further : (old mid : Kept) (given : Beginning) (log : List Event) (now : Moment) → IsAskedOf old mid None → IsPhoneServed old → IsAt given log old now → Rests given (lines_back log) mid now
none_further old mid given log now asking served at =
    let rest = at_rest old mid (history log) asking served at.keeps in
    record { log = log; lines_are = refl; at = keeps_same given log old mid now (stays old mid (history log) asking rest at.keeps) at; done = rest }

pub none_rests : (old mid : Kept) → IsAskedOf old mid None → IsPhoneServed old → mid.asked ≡ Rest
none_rests old mid asking served =
    let rest = at_rest old mid served.history asking served served.keeps in
    ap (λ (k : Kept). k.asked) (stays old mid served.history asking rest served.keeps) ∙ asked_kept served.history ∙ rest

pub none_same : (old mid : Kept) → IsAskedOf old mid None → IsPhoneServed old → mid ≡ old
none_same old mid asking served = stays old mid served.history asking (at_rest old mid served.history asking served served.keeps) served.keeps ∙ sym served.keeps

-- ---- a command

pub record SentSo (h : List Happened) (apdu : List ℕ) (mid : Kept) : Type 0 where
  pub command : Command
  pub asked_is : asked h ≡ Transmit command
  pub bytes : apdu_of command ≡ apdu
  pub keeps : mid ≡ kept (Sent command ∷ h)

pub sent_so : (old mid : Kept) (found : Option PhoneStep) (apdu : List ℕ) (h : List Happened) → IsAskedOf old mid found → found ≡ Some (step.Send apdu) → old ≡ kept h → SentSo h apdu mid
sent_so old mid found apdu h asking is keeps =
    let send = is_send h apdu (sym (asking.item h keeps) ∙ is) in
    search (rules, send, asking.after h keeps ∙ ap kept (next_is h (Transmit send.command) send.asked_is))

pub sent_further : CountsJoin → PlansAreSetInOrder → (old mid new : Kept) (found : Option PhoneStep) (apdu : List ℕ) (outcome : Outcome) (answer : Answer) (given : Beginning) (log : List Event) (from to : Moment)
    → IsAskedOf old mid found → found ≡ Some (step.Send apdu) → ((h : List Happened) → mid ≡ kept h → new ≡ kept (replied outcome answer ∷ h))
    → ((old : CardView) → IsSeen old from → TakesShowing (exchanged apdu answer outcome) old (run.Apdu apdu) from to) → IsAt given log old from → Reaches given (lines_back log) new to
sent_further join order old mid new found apdu outcome answer given log from to asking is hears takes at =
    let sent = sent_so old mid found apdu (history log) asking is at.keeps in
    let Takes : List ℕ → Type 0 = λ a. (old : CardView) → IsSeen old from → TakesShowing (exchanged a answer outcome) old (run.Apdu a) from to in
    reaches_sent join order given log sent.command outcome answer old new from to sent.asked_is (subst Takes (sym sent.bytes) takes) (hears (Sent sent.command ∷ history log) sent.keeps) at

pub sent_ends : CountsJoin → (old mid : Kept) (found : Option PhoneStep) (apdu : List ℕ) (given : Beginning) (log : List Event) (from to : Moment) → IsAskedOf old mid found → found ≡ Some (step.Send apdu)
    → ((old : CardView) → IsSeen old from → BreaksStep old (run.Apdu apdu) from to) → IsAt given log old from → BreaksSo given (lines_back log) to
sent_ends join old mid found apdu given log from to asking is breaks at =
    let sent = sent_so old mid found apdu (history log) asking is at.keeps in
    let Breaks : List ℕ → Type 0 = λ a. (old : CardView) → IsSeen old from → BreaksStep old (run.Apdu a) from to in
    ends_sent join given log sent.command old from to sent.asked_is (subst Breaks (sym sent.bytes) breaks) at

pub sent_more : LinesEnd → (old mid new : Kept) (found : Option PhoneStep) (apdu : List ℕ) (outcome : Outcome) (answer : Answer) → IsAskedOf old mid found → found ≡ Some (step.Send apdu)
    → ((h : List Happened) → mid ≡ kept h → new ≡ kept (replied outcome answer ∷ h)) → IsPhoneServed old → IsServedMore old new
sent_more ending old mid new found apdu outcome answer asking is hears served =
    let sent = sent_so old mid found apdu served.history asking is served.keeps in
    served_more old new served.history (replied outcome answer ∷ Sent sent.command ∷ served.history) served.keeps (hears (Sent sent.command ∷ served.history) sent.keeps)
    (sent_next ending served.history sent.command outcome answer served.orderly sent.asked_is)

-- ---- a reset

pub reset_so : (old mid : Kept) (found : Option PhoneStep) (h : List Happened) → IsAskedOf old mid found → found ≡ Some step.Reset → old ≡ kept h → asked h ≡ ResetCard
reset_so old mid found h asking is keeps = is_reset h (sym (asking.item h keeps) ∙ is)

pub reset_keeps : (old mid : Kept) (found : Option PhoneStep) (h : List Happened) → IsAskedOf old mid found → asked h ≡ ResetCard → old ≡ kept h → mid ≡ kept h
reset_keeps old mid found h asking resets keeps = asking.after h keeps ∙ ap kept (next_is h ResetCard resets)

pub reset_further : CountsJoin → PlansAreSetInOrder → (old mid new : Kept) (found : Option PhoneStep) (outcome : AReset) (given : Beginning) (log : List Event) (from to : Moment) → IsAskedOf old mid found → found ≡ Some step.Reset
    → ((h : List Happened) → mid ≡ kept h → new ≡ kept (reset_by outcome ∷ h)) → ((old : CardView) → IsSeen old from → TakesShowing (restarted_by outcome) old run.Reset from to)
    → IsAt given log old from → Reaches given (lines_back log) new to
reset_further join order old mid new found outcome given log from to asking is hears takes at =
    let resets = reset_so old mid found (history log) asking is at.keeps in
    reaches_reset join order given log outcome old new from to resets takes (hears (history log) (reset_keeps old mid found (history log) asking resets at.keeps)) at

pub reset_ends : CountsJoin → PlansAreSetInOrder → (old mid : Kept) (found : Option PhoneStep) (end : StepEnd) (given : Beginning) (log : List Event) (from to : Moment) → IsAskedOf old mid found → found ≡ Some step.Reset
    → ((old : CardView) → IsSeen old from → GivesReset (Err end) old from to) → IsAt given log old from → RunEnds given (lines_back log) to end
reset_ends join order old mid found end given log from to asking is gives at = ends_reset join order given log end old from to (reset_so old mid found (history log) asking is at.keeps) gives at

pub reset_more : LinesEnd → (old mid new : Kept) (found : Option PhoneStep) (outcome : AReset) → IsAskedOf old mid found → found ≡ Some step.Reset → ((h : List Happened) → mid ≡ kept h → new ≡ kept (reset_by outcome ∷ h)) → IsPhoneServed old → IsServedMore old new
reset_more ending old mid new found outcome asking is hears served =
    let resets = reset_so old mid found served.history asking is served.keeps in
    served_more old new served.history (reset_by outcome ∷ served.history) served.keeps (hears served.history (reset_keeps old mid found served.history asking resets served.keeps))
    (reset_next ending served.history outcome served.orderly resets)

-- ---- a note

pub note_so : (old mid : Kept) (found : Option PhoneStep) (note : Note) (h : List Happened) → IsAskedOf old mid found → found ≡ Some (step.Note note) → old ≡ kept h → asked h ≡ Show note
note_so old mid found note h asking is keeps = is_note h note (sym (asking.item h keeps) ∙ is)

pub note_keeps : (old mid : Kept) (found : Option PhoneStep) (note : Note) (h : List Happened) → IsAskedOf old mid found → asked h ≡ Show note → old ≡ kept h → mid ≡ kept (Noted note ∷ h)
note_keeps old mid found note h asking shows keeps = asking.after h keeps ∙ ap kept (next_is h (Show note) shows)

pub note_further : (old mid : Kept) (found : Option PhoneStep) (note : Note) (given : Beginning) (log : List Event) (from : Moment) (taken : Option (List ℕ)) → IsAskedOf old mid found → found ≡ Some (step.Note note)
    → taken ≡ append_known from.taken (note_line note) → IsAt given log old from → Reaches given (lines_back log) mid (record from { taken = taken })
note_further old mid found note given log from taken asking is more at =
    let shows = note_so old mid found note (history log) asking is at.keeps in
    reaches_noted given log note old mid from taken shows more (note_keeps old mid found note (history log) asking shows at.keeps) at

pub note_ends : (old mid : Kept) (found : Option PhoneStep) (note : Note) (given : Beginning) (log : List Event) (from : Moment) (taken : Option (List ℕ)) → ((card : CardView) → IsSeen card from → Holds card from.held)
    → IsAskedOf old mid found → found ≡ Some (step.Note note) → Becomes (TakesFront (note_line note)) from.taken taken → IsAt given log old from → BreaksSo given (lines_back log) (record from { taken = taken })
note_ends old mid found note given log from taken stands asking is err at =
    ends_noted given log note old from taken stands (note_so old mid found note (history log) asking is at.keeps) (told_front from.taken taken (note_line note) err) at

pub note_more : LinesEnd → (old mid : Kept) (found : Option PhoneStep) (note : Note) → IsAskedOf old mid found → found ≡ Some (step.Note note) → IsPhoneServed old → IsServedMore old mid
note_more ending old mid found note asking is served =
    let shows = note_so old mid found note served.history asking is served.keeps in
    served_more old mid served.history (Noted note ∷ served.history) served.keeps (note_keeps old mid found note served.history asking shows served.keeps) (noted_next ending served.history note served.orderly shows)

-- ---- one thing after others

pub reaches_again : (given : Beginning) (told other : List PhoneLine) (phone : Kept) (now : Moment) → other ≡ told → Reaches given other phone now → Reaches given told phone now
reaches_again given told other phone now same reached = subst (λ t. Reaches given t phone now) same reached

pub rests_again : (given : Beginning) (told other : List PhoneLine) (phone : Kept) (now : Moment) → other ≡ told → Rests given other phone now → Rests given told phone now
rests_again given told other phone now same rests = subst (λ t. Rests given t phone now) same rests

pub ends_again : (given : Beginning) (told other : List PhoneLine) (now : Moment) (end : StepEnd) → other ≡ told → RunEnds given other now end → RunEnds given told now end
ends_again given told other now end same ended = subst (λ t. RunEnds given t now end) same ended

pub rest_of : (phone : Kept) (h : List Happened) → phone ≡ kept h → phone.asked ≡ Rest → asked h ≡ Rest
rest_of phone h keeps rests = sym (asked_kept h) ∙ ap (λ (k : Kept). k.asked) (sym keeps) ∙ rests

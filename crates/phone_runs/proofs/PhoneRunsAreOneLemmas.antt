-- The lines and the card determine what happens, where nothing fails and no power is lost.
use Rattle.std.proofs.Common.{◌≡◌, ℕ, Bool, true, false, List, [], ◌∷◌, ◌++◌, Option, Some, None, refl, sym, ap, ◌∙◌, subst, inl, inr, ◌⊎◌, reverse, MatchBool}
use Rattle.std.proofs.lemmas.List.{reverse-reverse}
use Rattle.std.proofs.lemmas.List.Elements.{All-head}
use Rattle.std.specs.Prelude.{⊤}
use mathlib.Core.List.{reverse_aux}
use Rattle.list_laws.proofs.ContainsLemmas.{back_of, front_of}
use Rattle.uicc_types.specs.declared.plans.Plan.{Plan}
use Rattle.uicc_types.specs.declared.runs.Step.{Step}
use Rattle.uicc_types.specs.declared.runs.TraceItem.{TraceItem}
use Rattle.uicc_types.specs.declared.runs.Step.TheVariants as step
use Rattle.uicc_types.specs.declared.runs.TraceItem.TheVariants as item
use Rattle.script_form.specs.declared.handset.HandsetLine.{HandsetLine}
use Rattle.script_form.specs.declared.handset.Note.{Note}
use Rattle.card_model.specs.Counts.{is_cut, is_failure}
use Rattle.card_model.specs.Runs.{Commands, IsRun, MeetsNoPower, StepGives}
use Rattle.card_model.specs.States.{Machine}
use Rattle.card_laws.specs.FaultLaws.{RunsAreOne}
use Rattle.card_laws.specs.Faults.{ShowsNoCut, ShowsNoFailure}
use Rattle.handset_model.specs.History.{Said, Sent, Answered, Noted, Restarted, PowerCut, FoundOff}
use Rattle.handset_model.specs.Legal.{IsAsked, IsOrderly, TraceEntry, Seen, Shown, entries_of, items_seen}
use Rattle.handset_model.specs.Rules.{asked}
use Rattle.handset_model.specs.Sending.{apdu_of}
use Rattle.handset_model.specs.declared.commands.Command.{Command}
use Rattle.handset_model.specs.declared.known.Duty.{Duty}
use Rattle.handset_model.specs.declared.known.Duty.TheVariants.{Rest, Transmit, Await, Show, ResetCard}
use Rattle.run_steps.proofs.GoesOnLemmas.{run_of, run_one}
use Rattle.run_steps.specs.Runs.{GoesOn}
use Rattle.run_steps.specs.Views.{ItsPower, TheCard}
use Rattle.phone_runs.specs.Laws.{IsPhoneUndisturbed, PhoneRunsAreOne}
use Rattle.phone_runs.specs.Logs.{Event, Happens, Plans, AreInTurn, PhoneLine, Hears, Arms, cut_steps, history, lines_back, shown, steps, steps_back, trace}

-- ---- what happens from somewhere on, oldest first

-- an event is asked for; a plan's line stands where the handset rests
abbrev MayCome : Event → Duty → Type 0
MayCome (Happens event) duty = IsAsked event duty
MayCome (Plans plan) duty = duty ≡ Rest

abbrev Follows : List Event → List Event → Type 0
Follows log [] = ⊤
Follows log (event ∷ later) = MayCome event (asked (history log)) × Follows (event ∷ log) later

-- the lines in it
abbrev lines_on : List Event → List PhoneLine
lines_on [] = []
lines_on (Happens (Said line) ∷ later) = Hears line ∷ lines_on later
lines_on (Plans plan ∷ later) = Arms plan ∷ lines_on later
lines_on (event ∷ later) = lines_on later

-- the steps of the card
abbrev steps_on : List Event → List Event → List Step
steps_on log [] = []
steps_on log (Happens (Sent command) ∷ later) = step.Apdu (apdu_of command) ∷ steps_on (Happens (Sent command) ∷ log) later
steps_on log (Happens Restarted ∷ later) = step.Reset ∷ steps_on (Happens Restarted ∷ log) later
steps_on log (Happens PowerCut ∷ later) = cut_steps (asked (history log)) ++ steps_on (Happens PowerCut ∷ log) later
steps_on log (Plans plan ∷ later) = step.Plan plan ∷ steps_on (Plans plan ∷ log) later
steps_on log (event ∷ later) = steps_on (event ∷ log) later

-- what is shown
abbrev entries_on : List Event → List TraceEntry
entries_on [] = []
entries_on (Happens (Said line) ∷ later) = entries_on later
entries_on (Happens (Sent command) ∷ later) = Seen (item.Command (apdu_of command)) ∷ entries_on later
entries_on (Happens (Answered answer) ∷ later) = Seen (item.Answer answer.body answer.status) ∷ entries_on later
entries_on (Happens (Noted note) ∷ later) = Shown note ∷ entries_on later
entries_on (Happens Restarted ∷ later) = Seen item.Reset ∷ entries_on later
entries_on (Happens PowerCut ∷ later) = Seen item.Cut ∷ entries_on later
entries_on (Happens FoundOff ∷ later) = Seen item.Off ∷ entries_on later
entries_on (Plans plan ∷ later) = entries_on later

-- and what is seen of the card
abbrev items_on : List Event → List TraceItem
items_on later = items_seen (entries_on later)

-- ---- from newest first to oldest first

follows_onto : (log later : List Event) → IsOrderly (history log) → AreInTurn log → Follows log later → Follows [] (reverse_aux log later)
follows_onto [] later o t f = f
follows_onto (Happens event ∷ log) later o t f = follows_onto log (Happens event ∷ later) o.1 t (o.0, f)
follows_onto (Plans plan ∷ log) later o t f = follows_onto log (Plans plan ∷ later) o t.1 (t.0, f)

lines_onto : (log later : List Event) → lines_on (reverse_aux log later) ≡ reverse_aux (lines_back log) (lines_on later)
lines_onto [] later = refl
lines_onto (Happens (Said line) ∷ log) later = lines_onto log (Happens (Said line) ∷ later)
lines_onto (event ∷ log) later = lines_onto log (event ∷ later)

cut_onto : (duty : Duty) (back later : List Step) → reverse_aux back (cut_steps duty ++ later) ≡ reverse_aux (cut_steps duty ++ back) later
cut_onto ResetCard back later = refl
cut_onto other back later = refl

steps_onto : (log later : List Event) → steps_on [] (reverse_aux log later) ≡ reverse_aux (steps_back log) (steps_on log later)
steps_onto [] later = refl
steps_onto (Happens PowerCut ∷ log) later = steps_onto log (Happens PowerCut ∷ later) ∙ cut_onto (asked (history log)) (steps_back log) (steps_on (Happens PowerCut ∷ log) later)
steps_onto (event ∷ log) later = steps_onto log (event ∷ later)

entries_onto : (log later : List Event) → entries_on (reverse_aux log later) ≡ reverse_aux (entries_of (history log)) (entries_on later)
entries_onto [] later = refl
entries_onto (Happens (Said line) ∷ log) later = entries_onto log (Happens (Said line) ∷ later)
entries_onto (event ∷ log) later = entries_onto log (event ∷ later)

-- ---- a run from somewhere on

abbrev NotFailed : TraceItem → Type 0
NotFailed shown = is_failure shown ≡ false

abbrev NotCut : TraceItem → Type 0
NotCut shown = is_cut shown ≡ false

-- nothing fails, and no power is lost
abbrev IsCalm : List TraceItem → Type 0
IsCalm items = ShowsNoFailure items × ShowsNoCut items

calm_front : (front back : List TraceItem) → IsCalm (front ++ back) → IsCalm front
calm_front front back calm = (front_of NotFailed front back calm.0, front_of NotCut front back calm.1)

calm_back : (front back : List TraceItem) → IsCalm (front ++ back) → IsCalm back
calm_back front back calm = (back_of NotFailed front back calm.0, back_of NotCut front back calm.1)

no_cut : (items : List TraceItem) → IsCalm (item.Cut ∷ items) → ⊥
no_cut items calm = let first = All-head NotCut item.Cut items calm.1 in cc

-- this is to come after a log, on a card that stands so, and nothing is disturbed in it
pub record Onward (log : List Event) (old : Machine) (later : List Event) (now : Machine) : Type 0 where
  pub follows : Follows log later
  pub run : GoesOn old (steps_on log later) (items_on later) now
  pub calm : IsCalm (items_on later)
  pub rests : asked (history (reverse_aux later log)) ≡ Rest

-- the card takes a step that shows this, and then that is to come
pub record Moves (old : Machine) (step : Step) (items : List TraceItem) (log later : List Event) (now : Machine) : Type 0 where
  pub middle : Machine
  pub gives : StepGives old step items middle
  pub calm : IsCalm items
  pub onward : Onward log middle later now

abbrev tail_of : {A : Type 0} → List A → List A
tail_of [] = []
tail_of (first ∷ others) = others

abbrev head_or : {A : Type 0} → A → List A → A
head_or other [] = other
head_or other (first ∷ others) = first

abbrev held_or : {A : Type 0} → A → Option A → A
held_or other None = other
held_or other (Some x) = x

said_on : (log : List Event) (old now : Machine) (line : HandsetLine) (later : List Event) → Onward log old (Happens (Said line) ∷ later) now → Onward (Happens (Said line) ∷ log) old later now
said_on log old now line later on = record { follows = on.follows.1; run = on.run; calm = on.calm; rests = on.rests }

noted_on : (log : List Event) (old now : Machine) (note : Note) (later : List Event) → Onward log old (Happens (Noted note) ∷ later) now → Onward (Happens (Noted note) ∷ log) old later now
noted_on log old now note later on = record { follows = on.follows.1; run = on.run; calm = on.calm; rests = on.rests }

-- a plan shows nothing, and moves nothing
plan_on : (log : List Event) (old now : Machine) (plan : Plan) (later : List Event) → Onward log old (Plans plan ∷ later) now → Onward (Plans plan ∷ log) old later now
plan_on log old now plan later on =
    let back : items_on later ≡ on.run.back = on.run.seen ∙ ap (λ front. front ++ on.run.back) on.run.first.seen in
    record {
      follows = on.follows.1;
      run = subst (λ items. GoesOn old (steps_on (Plans plan ∷ log) later) items now) (sym back)
          (subst (λ middle. GoesOn middle (steps_on (Plans plan ∷ log) later) on.run.back now) on.run.first.stays on.run.rest);
      calm = on.calm;
      rests = on.rests;
    }

reset_on : (log : List Event) (old now : Machine) (later : List Event) → Onward log old (Happens Restarted ∷ later) now → Moves old step.Reset (item.Reset ∷ []) (Happens Restarted ∷ log) later now
reset_on log old now later on = by_step on.run.first where
  by_step : StepGives old step.Reset on.run.front on.run.middle → Moves old step.Reset (item.Reset ∷ []) (Happens Restarted ∷ log) later now
  by_step (inl gives) =
      let back : items_on later ≡ on.run.back = ap tail_of (on.run.seen ∙ ap (λ front. front ++ on.run.back) gives.seen) in
      record {
        middle = on.run.middle;
        gives = inl (record { seen = refl; moved = gives.moved });
        calm = calm_front (item.Reset ∷ []) (items_on later) on.calm;
        onward = record {
          follows = on.follows.1;
          run = subst (λ items. GoesOn on.run.middle (steps_on (Happens Restarted ∷ log) later) items now) (sym back) on.run.rest;
          calm = calm_back (item.Reset ∷ []) (items_on later) on.calm;
          rests = on.rests;
        };
      }
  by_step (inr cut) = absurd (let seen_first = on.run.seen ∙ ap (λ front. front ++ on.run.back) cut.seen in cc)

-- ---- a command and its answer

-- a command shows its own line, and one after it
pub record ShowsTwo (apdu : List ℕ) (items : List TraceItem) : Type 0 where
  pub shown : TraceItem
  pub seen : items ≡ item.Command apdu ∷ shown ∷ []

two_by : (on : Bool) (old new : Machine) (apdu : List ℕ) (items : List TraceItem) → MatchBool on (Commands old apdu items new) (MeetsNoPower old apdu items new) → ShowsTwo apdu items
two_by true old new apdu items (inl answered) = record { shown = _; seen = answered.seen }
two_by true old new apdu items (inr (inl fails)) = record { shown = _; seen = fails.seen }
two_by true old new apdu items (inr (inr cut)) = record { shown = _; seen = cut.seen }
two_by false old new apdu items none = record { shown = _; seen = none.seen }

shows_two : (old new : Machine) (apdu : List ℕ) (items : List TraceItem) → StepGives old (step.Apdu apdu) items new → ShowsTwo apdu items
shows_two old new apdu items gives = two_by old.on old new apdu items gives

-- what is seen of an answer, and the answer that it is
abbrev shown_by : Event → TraceItem
shown_by (Happens (Answered answer)) = item.Answer answer.body answer.status
shown_by (Happens FoundOff) = item.Off
shown_by _ = item.Cut

abbrev event_of : TraceItem → Option Event
event_of (item.Answer body status) = Some (Happens (Answered (record { body = body; status = status })))
event_of item.Off = Some (Happens FoundOff)
event_of _ = None

-- the answer to a command that was sent
pub record IsReplied (old : Machine) (command : Command) (log : List Event) (event : Event) (later : List Event) (now : Machine) : Type 0 where
  pub told : event_of (shown_by event) ≡ Some event
  pub moves : Moves old (step.Apdu (apdu_of command)) (item.Command (apdu_of command) ∷ shown_by event ∷ []) (event ∷ Happens (Sent command) ∷ log) later now

module _ (log : List Event) (old now : Machine) (command : Command) (later : List Event) where
  -- of what comes after the command, its answer is first
  replied_by : (event : Event) → (on : Onward log old (Happens (Sent command) ∷ event ∷ later) now) → event_of (shown_by event) ≡ Some event
      → items_on (event ∷ later) ≡ shown_by event ∷ items_on later → steps_on (Happens (Sent command) ∷ log) (event ∷ later) ≡ steps_on (event ∷ Happens (Sent command) ∷ log) later
      → IsReplied old command log event later now
  replied_by event on told shows same =
      let two = shows_two old on.run.middle (apdu_of command) on.run.front on.run.first in
      let behind : shown_by event ∷ items_on later ≡ two.shown ∷ on.run.back = sym shows ∙ ap tail_of (on.run.seen ∙ ap (λ front. front ++ on.run.back) two.seen) in
      let Seen_so : List TraceItem = item.Command (apdu_of command) ∷ shown_by event ∷ [] in
      let all : IsCalm (Seen_so ++ items_on later) = subst (λ items. IsCalm (item.Command (apdu_of command) ∷ items)) shows on.calm in
      record {
        told = told;
        moves = record {
          middle = on.run.middle;
          gives = subst (λ items. StepGives old (step.Apdu (apdu_of command)) items on.run.middle)
              (two.seen ∙ ap (λ shown. item.Command (apdu_of command) ∷ shown ∷ []) (sym (ap (head_or item.Cut) behind))) on.run.first;
          calm = calm_front Seen_so (items_on later) all;
          onward = record {
            follows = on.follows.1.1;
            run = subst (λ items. GoesOn on.run.middle (steps_on (event ∷ Happens (Sent command) ∷ log) later) items now) (sym (ap tail_of behind))
                (subst (λ more. GoesOn on.run.middle more on.run.back now) same on.run.rest);
            calm = calm_back Seen_so (items_on later) all;
            rests = on.rests;
          };
        };
      }

  sent_on : (event : Event) → Onward log old (Happens (Sent command) ∷ event ∷ later) now → IsReplied old command log event later now
  sent_on (Happens (Answered answer)) on = replied_by (Happens (Answered answer)) on refl refl refl
  sent_on (Happens FoundOff) on = replied_by (Happens FoundOff) on refl refl refl
  sent_on (Happens PowerCut) on = absurd (no_cut (items_on later) (calm_back (item.Command (apdu_of command) ∷ []) (item.Cut ∷ items_on later) on.calm))
  sent_on (Happens (Said line)) on = absurd (let none : Await ≡ Rest = on.follows.1.0 in cc)
  sent_on (Happens (Sent other)) on = absurd (let none : Await ≡ Transmit other = on.follows.1.0 in cc)
  sent_on (Happens (Noted note)) on = absurd (let none : Await ≡ Show note = on.follows.1.0 in cc)
  sent_on (Happens Restarted) on = absurd (let none : Await ≡ ResetCard = on.follows.1.0 in cc)
  sent_on (Plans plan) on = absurd (let none : Await ≡ Rest = on.follows.1.0 in cc)

-- a command shows more than its own line
sent_alone : (log : List Event) (old now : Machine) (command : Command) → Onward log old (Happens (Sent command) ∷ []) now → ⊥
sent_alone log old now command on =
    let two = shows_two old on.run.middle (apdu_of command) on.run.front on.run.first in
    let behind : [] ≡ two.shown ∷ on.run.back = ap tail_of (on.run.seen ∙ ap (λ front. front ++ on.run.back) two.seen) in
    cc

-- ---- an answer comes after a command alone

abbrev begins : TraceItem → Bool
begins (item.Answer body status) = false
begins item.Off = false
begins _ = true

begun_by : (shown first : TraceItem) (items behind : List TraceItem) → shown ∷ items ≡ first ∷ behind → begins first ≡ true → begins shown ≡ true
begun_by shown first items behind same begun = ap (λ (all : List TraceItem). begins (head_or item.Off all)) same ∙ begun

begins_step : (steps_so : List Step) (old now : Machine) (shown : TraceItem) (items : List TraceItem) → GoesOn old steps_so (shown ∷ items) now → begins shown ≡ true
begins_step [] old now shown items run = absurd (let none = run.seen in cc)
begins_step (step.Apdu apdu ∷ more) old now shown items run =
    let two = shows_two old run.middle apdu run.front run.first in
    begun_by shown (item.Command apdu) items (two.shown ∷ run.back) (run.seen ∙ ap (λ front. front ++ run.back) two.seen) refl
begins_step (step.Reset ∷ more) old now shown items run = by_step run.first where
  by_step : StepGives old step.Reset run.front run.middle → begins shown ≡ true
  by_step (inl gives) = begun_by shown item.Reset items run.back (run.seen ∙ ap (λ front. front ++ run.back) gives.seen) refl
  by_step (inr cut) = begun_by shown item.Cut items run.back (run.seen ∙ ap (λ front. front ++ run.back) cut.seen) refl
begins_step (step.Plan plan ∷ more) old now shown items run =
    let back : shown ∷ items ≡ run.back = run.seen ∙ ap (λ front. front ++ run.back) run.first.seen in
    begins_step more run.middle now shown items (subst (λ rest. GoesOn run.middle more rest now) (sym back) run.rest)

-- ---- what comes next

-- by what is asked for and the next line, where it is no answer
abbrev next_by : Duty → List PhoneLine → Option Event
next_by Rest (Hears line ∷ more) = Some (Happens (Said line))
next_by Rest (Arms plan ∷ more) = Some (Plans plan)
next_by Rest [] = None
next_by (Transmit command) more = Some (Happens (Sent command))
next_by (Show note) more = Some (Happens (Noted note))
next_by ResetCard more = Some (Happens Restarted)
next_by Await more = None

abbrev IsNext : Duty → Event → List PhoneLine → Type 0
IsNext duty event more = next_by duty more ≡ Some event

next_or_none : (event : Event) (later : List Event) (duty : Duty) → MayCome event duty → IsCalm (items_on (event ∷ later)) → IsNext duty event (lines_on (event ∷ later)) ⊎ (next_by duty (lines_on (event ∷ later)) ≡ None)
next_or_none (Happens (Answered answer)) later duty may calm = inr (rw may refl)
next_or_none (Happens FoundOff) later duty may calm = inr (rw may refl)
next_or_none (Happens PowerCut) later duty may calm = absurd (no_cut (items_on later) calm)
next_or_none other later duty may calm = inl (rw may refl)

said_next : (line : HandsetLine) (more : List PhoneLine) (duty : Duty) → duty ≡ Rest → IsNext duty (Happens (Said line)) (Hears line ∷ more)
said_next line more duty may = rw may refl

plan_next : (plan : Plan) (more : List PhoneLine) (duty : Duty) → duty ≡ Rest → IsNext duty (Plans plan) (Arms plan ∷ more)
plan_next plan more duty may = rw may refl

sent_next : (command : Command) (more : List PhoneLine) (duty : Duty) → duty ≡ Transmit command → IsNext duty (Happens (Sent command)) more
sent_next command more duty may = rw may refl

noted_next : (note : Note) (more : List PhoneLine) (duty : Duty) → duty ≡ Show note → IsNext duty (Happens (Noted note)) more
noted_next note more duty may = rw may refl

reset_next : (more : List PhoneLine) (duty : Duty) → duty ≡ ResetCard → IsNext duty (Happens Restarted) more
reset_next more duty may = rw may refl

some_not_none : {A : Type 0} {x : A} → Some x ≡ None → ⊥
some_not_none is = cc

same_next : (duty : Duty) (event other : Event) (more later : List PhoneLine) → IsNext duty event more → more ≡ later → IsNext duty other later ⊎ (next_by duty later ≡ None) → event ≡ other
same_next duty event other more later next same (inl there) = ap (held_or event) (sym next ∙ ap (next_by duty) same ∙ there)
same_next duty event other more later next same (inr none) = absurd (some_not_none (sym next ∙ ap (next_by duty) same ∙ none))

-- where nothing more is asked for, only a line comes
none_more : (event : Event) (later : List Event) (duty : Duty) → MayCome event duty → duty ≡ Rest → lines_on (event ∷ later) ≡ [] → ⊥
none_more (Happens PowerCut) later duty (inl may) rests none = cc
none_more (Happens PowerCut) later duty (inr may) rests none = cc
none_more other later duty may rests none = cc

same_lines : (event : Event) (f g : List Event) → lines_on (event ∷ f) ≡ lines_on (event ∷ g) → lines_on f ≡ lines_on g
same_lines (Happens (Said line)) f g same = ap tail_of same
same_lines (Plans plan) f g same = ap tail_of same
same_lines other f g same = same

-- ---- two runs

-- the same comes, and the same card stands after it
abbrev AreOne : List Event → List Event → Machine → Machine → Type 0
AreOne later others now left = (later ≡ others) × (now ≡ left)

one_before : (event other : Event) (later others : List Event) (now left : Machine) → event ≡ other → AreOne later others now left → AreOne (event ∷ later) (other ∷ others) now left
one_before event other later others now left same one = (ap (λ e. e ∷ later) same ∙ ap (λ more. other ∷ more) one.0, one.1)

module _ (runs : RunsAreOne) where
  as_run : (old new : Machine) (step : Step) (items : List TraceItem) → StepGives old step items new → IsRun old (step ∷ []) items new
  as_run old new step items gives = run_of (step ∷ []) old new items (run_one old new step items gives)

  one_step : (old new left : Machine) (step : Step) (items others : List TraceItem) → StepGives old step items new → StepGives old step others left → IsCalm items → IsCalm others → (items ≡ others) × (new ≡ left)
  one_step old new left step items others a b calm calm' = runs old new left (step ∷ []) items others (as_run old new step items a) (as_run old left step others b) calm.0 calm.1 calm'.0 calm'.1

  -- two answers to one command are one
  one_answer : (log : List Event) (old now left : Machine) (command : Command) (event other : Event) (later others : List Event) → IsReplied old command log event later now → IsReplied old command log other others left
      → (event ≡ other) × ((a : IsReplied old command log event later now) × Onward (event ∷ Happens (Sent command) ∷ log) a.moves.middle others left)
  one_answer log old now left command event other later others a b =
      let same = one_step old a.moves.middle b.moves.middle (step.Apdu (apdu_of command))
      (item.Command (apdu_of command) ∷ shown_by event ∷ []) (item.Command (apdu_of command) ∷ shown_by other ∷ []) a.moves.gives b.moves.gives a.moves.calm b.moves.calm in
      let events : event ≡ other = ap (held_or event) (sym a.told ∙ ap (λ (items : List TraceItem). event_of (head_or item.Cut (tail_of items))) same.0 ∙ b.told) in (
        events,
        (
          a,
          subst (λ e. Onward (e ∷ Happens (Sent command) ∷ log) a.moves.middle others left) (sym events)
              (subst (λ middle. Onward (other ∷ Happens (Sent command) ∷ log) middle others left) (sym same.1) b.moves.onward),
        ),
      )

  pub one_onward : (log : List Event) (old now left : Machine) (later others : List Event) → Onward log old later now → Onward log old others left → lines_on later ≡ lines_on others → AreOne later others now left
  one_onward log old now left [] [] a b same = (refl, a.run.stays ∙ sym b.run.stays)
  one_onward log old now left [] (other ∷ others) a b same = absurd (none_more other others (asked (history log)) b.follows.0 a.rests (sym same))
  one_onward log old now left (event ∷ later) [] a b same = absurd (none_more event later (asked (history log)) a.follows.0 b.rests same)
  one_onward log old now left (Happens (Said line) ∷ later) (other ∷ others) a b same =
      let event : Happens (Said line) ≡ other = same_next (asked (history log)) (Happens (Said line)) other (lines_on (Happens (Said line) ∷ later)) (lines_on (other ∷ others)) (said_next line (lines_on later) (asked (history log)) a.follows.0) same (next_or_none other others (asked (history log)) b.follows.0 b.calm) in
      let b' : Onward log old (Happens (Said line) ∷ others) left = subst (λ e. Onward log old (e ∷ others) left) (sym event) b in
      let more : lines_on later ≡ lines_on others = ap tail_of (same ∙ ap (λ e. lines_on (e ∷ others)) (sym event)) in
      one_before (Happens (Said line)) other later others now left event (one_onward (Happens (Said line) ∷ log) old now left later others (said_on log old now line later a) (said_on log old left line others b') more)
  one_onward log old now left (Plans plan ∷ later) (other ∷ others) a b same =
      let event : Plans plan ≡ other = same_next (asked (history log)) (Plans plan) other (lines_on (Plans plan ∷ later)) (lines_on (other ∷ others)) (plan_next plan (lines_on later) (asked (history log)) a.follows.0) same (next_or_none other others (asked (history log)) b.follows.0 b.calm) in
      let b' : Onward log old (Plans plan ∷ others) left = subst (λ e. Onward log old (e ∷ others) left) (sym event) b in
      let more : lines_on later ≡ lines_on others = ap tail_of (same ∙ ap (λ e. lines_on (e ∷ others)) (sym event)) in
      one_before (Plans plan) other later others now left event (one_onward (Plans plan ∷ log) old now left later others (plan_on log old now plan later a) (plan_on log old left plan others b') more)
  one_onward log old now left (Happens (Noted note) ∷ later) (other ∷ others) a b same =
      let event : Happens (Noted note) ≡ other = same_next (asked (history log)) (Happens (Noted note)) other (lines_on later) (lines_on (other ∷ others)) (noted_next note (lines_on later) (asked (history log)) a.follows.0) same (next_or_none other others (asked (history log)) b.follows.0 b.calm) in
      let b' : Onward log old (Happens (Noted note) ∷ others) left = subst (λ e. Onward log old (e ∷ others) left) (sym event) b in
      let more : lines_on later ≡ lines_on others = same ∙ ap (λ e. lines_on (e ∷ others)) (sym event) in
      one_before (Happens (Noted note)) other later others now left event (one_onward (Happens (Noted note) ∷ log) old now left later others (noted_on log old now note later a) (noted_on log old left note others b') more)
  one_onward log old now left (Happens Restarted ∷ later) (other ∷ others) a b same =
      let event : Happens Restarted ≡ other = same_next (asked (history log)) (Happens Restarted) other (lines_on later) (lines_on (other ∷ others)) (reset_next (lines_on later) (asked (history log)) a.follows.0) same (next_or_none other others (asked (history log)) b.follows.0 b.calm) in
      let b' : Onward log old (Happens Restarted ∷ others) left = subst (λ e. Onward log old (e ∷ others) left) (sym event) b in
      let more : lines_on later ≡ lines_on others = same ∙ ap (λ e. lines_on (e ∷ others)) (sym event) in
      let mine = reset_on log old now later a in
      let its = reset_on log old left others b' in
      let card = one_step old mine.middle its.middle step.Reset (item.Reset ∷ []) (item.Reset ∷ []) mine.gives its.gives mine.calm its.calm in
      one_before (Happens Restarted) other later others now left event
      (one_onward (Happens Restarted ∷ log) mine.middle now left later others mine.onward (subst (λ middle. Onward (Happens Restarted ∷ log) middle others left) (sym card.1) its.onward) more)
  one_onward log old now left (Happens (Sent command) ∷ []) (other ∷ others) a b same = absurd (sent_alone log old now command a)
  one_onward log old now left (Happens (Sent command) ∷ event ∷ later) (other ∷ []) a b same =
      let sent : Happens (Sent command) ≡ other = same_next (asked (history log)) (Happens (Sent command)) other (lines_on (event ∷ later)) (lines_on (other ∷ [])) (sent_next command (lines_on (event ∷ later)) (asked (history log)) a.follows.0) same (next_or_none other [] (asked (history log)) b.follows.0 b.calm) in
      absurd (sent_alone log old left command (subst (λ e. Onward log old (e ∷ []) left) (sym sent) b))
  one_onward log old now left (Happens (Sent command) ∷ event ∷ later) (other ∷ reply ∷ others) a b same =
      let sent : Happens (Sent command) ≡ other = same_next (asked (history log)) (Happens (Sent command)) other (lines_on (event ∷ later)) (lines_on (other ∷ reply ∷ others)) (sent_next command (lines_on (event ∷ later)) (asked (history log)) a.follows.0) same (next_or_none other (reply ∷ others) (asked (history log)) b.follows.0 b.calm) in
      let b' : Onward log old (Happens (Sent command) ∷ reply ∷ others) left = subst (λ e. Onward log old (e ∷ reply ∷ others) left) (sym sent) b in
      let replies : lines_on (event ∷ later) ≡ lines_on (reply ∷ others) = same ∙ ap (λ e. lines_on (e ∷ reply ∷ others)) (sym sent) in
      let answer = one_answer log old now left command event reply later others (sent_on log old now command later event a) (sent_on log old left command others reply b') in
      let more : lines_on later ≡ lines_on others = same_lines event later others (replies ∙ ap (λ e. lines_on (e ∷ others)) (sym answer.0)) in
      one_before (Happens (Sent command)) other (event ∷ later) (reply ∷ others) now left sent
      (one_before event reply later others now left answer.0 (one_onward (event ∷ Happens (Sent command) ∷ log) answer.1.0.moves.middle now left later others answer.1.0.moves.onward answer.1.1 more))
  one_onward log old now left (Happens (Answered answer) ∷ later) (other ∷ others) a b same =
      let begun = begins_step (steps_on (Happens (Answered answer) ∷ log) later) old now (item.Answer answer.body answer.status) (items_on later) a.run in absurd (cc)
  one_onward log old now left (Happens FoundOff ∷ later) (other ∷ others) a b same =
      let begun = begins_step (steps_on (Happens FoundOff ∷ log) later) old now item.Off (items_on later) a.run in absurd (cc)
  one_onward log old now left (Happens PowerCut ∷ later) (other ∷ others) a b same = absurd (no_cut (items_on later) a.calm)

  -- ---- whole runs

  onward : (first : Machine) (told : List PhoneLine) (log : List Event) (now : Machine) → IsPhoneUndisturbed first told log (TheCard now) → Onward [] first (reverse log) now
  onward first told log now run =
      let items : items_on (reverse log) ≡ shown log = ap items_seen (entries_onto log []) in
      record {
        follows = follows_onto log [] run.run.orderly run.run.in_turn tt;
        run = subst (λ s. GoesOn first s (items_on (reverse log)) now) (sym (steps_onto log [])) (subst (λ i. GoesOn first (steps log) i now) (sym items) run.run.run);
        calm = subst IsCalm (sym items) (run.failures, run.cuts);
        rests = subst (λ l. asked (history l) ≡ Rest) (sym (reverse-reverse log)) run.rests;
      }

  pub traces_are_one : PhoneRunsAreOne
  traces_are_one first (ItsPower on) left told log other a b = absurd a.run.run
  traces_are_one first (TheCard now) (ItsPower on) told log other a b = absurd b.run.run
  traces_are_one first (TheCard now) (TheCard left) told log other a b =
      let told_same : lines_on (reverse log) ≡ lines_on (reverse other) = lines_onto log [] ∙ a.lines_are ∙ sym b.lines_are ∙ sym (lines_onto other []) in
      let one = one_onward [] first now left (reverse log) (reverse other) (onward first told log now a) (onward first told other left b) told_same in
      let logs : log ≡ other = sym (reverse-reverse log) ∙ ap reverse one.0 ∙ reverse-reverse other in
      record { happened = logs; shows = ap trace logs; card = ap TheCard one.1 }

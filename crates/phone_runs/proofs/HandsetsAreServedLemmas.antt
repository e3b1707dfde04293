-- A run follows a handset that keeps to its rules.
use Rattle.std.proofs.Common.{◌≡◌, ℕ, Bool, true, false, List, [], ◌∷◌, ◌++◌, refl, sym, ◌∙◌, ap, subst, inl, inr, MatchBool, rules}
use Rattle.std.proofs.lemmas.Bool.{false≢true}
use Rattle.std.specs.Prelude.{⊤}
use mathlib.Core.List.{reverse_aux}
use Rattle.uicc_types.specs.declared.answers.Answer.{Answer}
use Rattle.uicc_types.specs.declared.answers.StatusWord.{StatusWord}
use Rattle.uicc_types.specs.declared.runs.Step.{Step}
use Rattle.uicc_types.specs.declared.runs.TraceItem.{TraceItem}
use Rattle.uicc_types.specs.declared.runs.Step.TheVariants as step
use Rattle.uicc_types.specs.declared.runs.TraceItem.TheVariants as item
use Rattle.script_form.specs.declared.handset.HandsetLine.{HandsetLine}
use Rattle.card_model.specs.Runs.{Commands, MeetsNoPower, StepGives, IsRun}
use Rattle.card_model.specs.States.{Machine, powered, unpowered, restarted}
use Rattle.card_laws.specs.ToolkitLaws.{EventsGoOn}
use Rattle.card_laws.specs.Staying.{OthersLeaveUnanswered}
use Rattle.handset_model.specs.History.{Happened, Said, Sent, Answered, Noted, Restarted, PowerCut, FoundOff}
use Rattle.handset_model.specs.Legal.{TraceEntry, Seen, Shown, IsOrderly, IsOf, IsHandsetStopped, entries_of, items_seen}
use Rattle.handset_model.specs.Rules.{asked}
use Rattle.handset_model.specs.Sending.{apdu_of}
use Rattle.handset_model.specs.declared.commands.Command.{Command}
use Rattle.handset_model.specs.declared.known.Duty.{Duty}
use Rattle.handset_model.specs.declared.known.Duty.TheVariants.{Rest, Transmit, Await, Show, ResetCard}
use Rattle.phone_runs.specs.Exchanges.{DetailsAreRead, CanServe, AnnouncedCommandsAreFetched, ResponsesAreTaken}
use Rattle.phone_runs.specs.HandsetServing.{IsServing, AreServed, KeepsToRules}
use Rattle.phone_runs.proofs.AgreesLemmas.{Agrees, speaks, agrees_said, agrees_noted, agrees_restarted, agrees_cut, agrees_lost, agrees_failed, failure}
use Rattle.phone_runs.proofs.HandsetServingLemmas.{served, agrees_answered}
use Rattle.phone_runs.proofs.ExchangesLemmas.{answer_to, next}

-- ---- what is seen first in a run

-- some steps show these items and lead to this machine
pub record Goes (old : Machine) (items : List TraceItem) (new : Machine) : Type 0 where
  pub steps : List Step
  pub run : IsRun old steps items new

-- a command and what came of it, and then the others
pub record Commanded (old : Machine) (bytes : List ℕ) (came : TraceItem) (rest : List TraceItem) (new : Machine) : Type 0 where
  pub middle : Machine
  pub gives : MatchBool old.on (Commands old bytes (item.Command bytes ∷ came ∷ []) middle) (MeetsNoPower old bytes (item.Command bytes ∷ came ∷ []) middle)
  pub goes : Goes middle rest new

-- how a run goes on by what is seen first: a run does not begin with an answer, and does not end with a command
abbrev First : Machine → List TraceItem → Machine → Type 0
First old [] new = ⊤
First old (item.Command bytes ∷ []) new = ⊥
First old (item.Command bytes ∷ came ∷ rest) new = Commanded old bytes came rest new
First old (item.Answer body status ∷ rest) new = ⊥
First old (item.Cut ∷ rest) new = Goes (unpowered (restarted old.card)) rest new
First old (item.Off ∷ rest) new = ⊥
First old (item.Reset ∷ rest) new = Goes (powered (restarted old.card)) rest new
First old (item.EepromFailed ∷ rest) new = ⊤

-- what a command shows
pub record ShowsOne (old : Machine) (bytes : List ℕ) (items : List TraceItem) (middle : Machine) : Type 0 where
  pub came : TraceItem
  pub is : items ≡ item.Command bytes ∷ came ∷ []

shows_one : (old : Machine) (bytes : List ℕ) (items : List TraceItem) (middle : Machine) (on : Bool) → MatchBool on (Commands old bytes items middle) (MeetsNoPower old bytes items middle) → ShowsOne old bytes items middle
shows_one old bytes items middle true (inl done) = record { came = _; is = done.seen }
shows_one old bytes items middle true (inr (inl fails)) = record { came = _; is = fails.seen }
shows_one old bytes items middle true (inr (inr lost)) = record { came = _; is = lost.seen }
shows_one old bytes items middle false none = record { came = _; is = none.seen }

goes_on : (old middle new : Machine) (more : List Step) (back : List TraceItem) → middle ≡ old → IsRun middle more back new → Goes old back new
goes_on old middle new more back is run = record { steps = more; run = subst (λ (machine : Machine). IsRun machine more back new) is run }

first_is : (old new : Machine) (items shown : List TraceItem) → items ≡ shown → First old shown new → First old items new
first_is old new items shown is first = subst (λ (each : List TraceItem). First old each new) (sym is) first

first_of : (old new : Machine) (steps : List Step) (items : List TraceItem) → IsRun old steps items new → First old items new
first_of old new [] items rests = first_is old new items [] rests.seen tt
first_of old new (step.Plan plan ∷ more) items (inl on) =
    first_is old new items on.back (on.seen ∙ ap (λ front. front ++ on.back) on.first.seen)
    (subst (λ (machine : Machine). First machine on.back new) on.first.stays (first_of on.middle new more on.back on.rest))
first_of old new (step.Plan plan ∷ more) items (inr ends) = absurd ends.1
first_of old new (step.Reset ∷ more) items (inl on) = by_reset on.first where
  by_reset : StepGives old step.Reset on.front on.middle → First old items new
  by_reset (inl again) = first_is old new items (item.Reset ∷ on.back) (on.seen ∙ ap (λ front. front ++ on.back) again.seen) (goes_on _ on.middle new more on.back again.moved on.rest)
  by_reset (inr cut) = first_is old new items (item.Cut ∷ on.back) (on.seen ∙ ap (λ front. front ++ on.back) cut.seen) (goes_on _ on.middle new more on.back cut.moved on.rest)
first_of old new (step.Reset ∷ more) items (inr ends) = first_is old new items (item.EepromFailed ∷ []) ends.1.seen tt
first_of old new (step.Apdu bytes ∷ more) items (inl on) =
    let shows : ShowsOne old bytes on.front on.middle = shows_one old bytes on.front on.middle old.on on.first in
    first_is old new items (item.Command bytes ∷ shows.came ∷ on.back) (on.seen ∙ ap (λ front. front ++ on.back) shows.is) (record {
      middle = on.middle;
      gives = subst (λ (front : List TraceItem). MatchBool old.on (Commands old bytes front on.middle) (MeetsNoPower old bytes front on.middle)) shows.is on.first;
      goes = record { steps = more; run = on.rest };
    })
first_of old new (step.Apdu bytes ∷ more) items (inr ends) = absurd ends.1

-- one answer is shown
same_answer : (bytes : List ℕ) (one two : Answer) → item.Command bytes ∷ item.Answer one.body one.status ∷ [] ≡ item.Command bytes ∷ item.Answer two.body two.status ∷ [] → one ≡ two
same_answer bytes one two same =
    let body : one.body ≡ two.body = cc in
    let status : one.status ≡ two.status = cc in
    ap (λ (each : List ℕ). let made : Answer = record { body = each; status = one.status } in made) body ∙ ap (λ (each : StatusWord). let made : Answer = record { body = two.body; status = each } in made) status

-- ---- the items of a history

-- those of the history, and then others
abbrev onto : List Happened → List TraceItem → List TraceItem
onto [] rest = rest
onto (Said heard ∷ h) rest = onto h rest
onto (Sent command ∷ h) rest = onto h (item.Command (apdu_of command) ∷ rest)
onto (Answered answer ∷ h) rest = onto h (item.Answer answer.body answer.status ∷ rest)
onto (Noted note ∷ h) rest = onto h rest
onto (Restarted ∷ h) rest = onto h (item.Reset ∷ rest)
onto (PowerCut ∷ h) rest = onto h (item.Cut ∷ rest)
onto (FoundOff ∷ h) rest = onto h (item.Off ∷ rest)

seen_onto : (h : List Happened) (later : List TraceEntry) → items_seen (reverse_aux (entries_of h) later) ≡ onto h (items_seen later)
seen_onto [] later = refl
seen_onto (Said heard ∷ h) later = seen_onto h later
seen_onto (Sent command ∷ h) later = seen_onto h (Seen (item.Command (apdu_of command)) ∷ later)
seen_onto (Answered answer ∷ h) later = seen_onto h (Seen (item.Answer answer.body answer.status) ∷ later)
seen_onto (Noted note ∷ h) later = seen_onto h (Shown note ∷ later)
seen_onto (Restarted ∷ h) later = seen_onto h (Seen item.Reset ∷ later)
seen_onto (PowerCut ∷ h) later = seen_onto h (Seen item.Cut ∷ later)
seen_onto (FoundOff ∷ h) later = seen_onto h (Seen item.Off ∷ later)

-- ---- a run and a history

-- After the history the card and the handset agree, and the run goes on from there with the rest of the items; where what is asked
-- for in those is served, it is in all.
pub record At (h : List Happened) (rest : List TraceItem) (new : Machine) (whole : List TraceItem) : Type 0 where
  pub machine : Machine
  pub agrees : Agrees h machine
  pub goes : Goes machine rest new
  pub all_served : AreServed rest → AreServed whole

-- where a command was sent, its answer is still to come
abbrev Reached : List Happened → List TraceItem → Machine → List TraceItem → Type 0
Reached (Sent command ∷ h) rest new whole = (asked h ≡ Transmit command) × At h (item.Command (apdu_of command) ∷ rest) new whole
Reached h rest new whole = At h rest new whole

-- no answer is awaited
abbrev IsSettled : List Happened → Type 0
IsSettled h = asked h ≡ Await → ⊥

at_rest : (h : List Happened) (rest : List TraceItem) (new : Machine) (whole : List TraceItem) → IsSettled h → Reached h rest new whole → At h rest new whole
at_rest (Sent command ∷ h) rest new whole settled reached = absurd (settled refl)
at_rest other rest new whole settled reached = reached

-- what is seen next
next_seen : (h : List Happened) (rest : List TraceItem) (new : Machine) (whole : List TraceItem) → (at : At h rest new whole) → First at.machine rest new
next_seen h rest new whole at = first_of at.machine new at.goes.steps rest at.goes.run

abbrev IsOther : Duty → Type 0
IsOther duty = duty ≡ Await → ⊥

other : (duty asked_for : Duty) → duty ≡ asked_for → IsOther asked_for → IsOther duty
other duty asked_for is not_await same = not_await (sym is ∙ same)

module _ (goes : EventsGoOn) (others : OthersLeaveUnanswered) (reads : DetailsAreRead) (fetches : AnnouncedCommandsAreFetched) (responds : ResponsesAreTaken) where
  -- ---- a command

  module _ (h : List Happened) (command : Command) (rest : List TraceItem) (new : Machine) (whole : List TraceItem) (sends : asked h ≡ Transmit command) where
    -- the card has power where a command is sent
    with_power : (came : TraceItem) → (at : At h (item.Command (apdu_of command) ∷ came ∷ rest) new whole)
        → (middle : Machine) × Commands at.machine (apdu_of command) (item.Command (apdu_of command) ∷ came ∷ []) middle × Goes middle rest new
    with_power came at =
        let commanded : Commanded at.machine (apdu_of command) came rest new = next_seen h _ new whole at in
        let on : at.machine.on ≡ true = at.agrees.has_power (speaks h at.machine (Transmit command) at.agrees sends (λ still. absurd still)) in (
          commanded.middle,
          subst (λ (b : Bool).
              MatchBool b (Commands at.machine (apdu_of command) (item.Command (apdu_of command) ∷ came ∷ []) commanded.middle)
              (MeetsNoPower at.machine (apdu_of command) (item.Command (apdu_of command) ∷ came ∷ []) commanded.middle)) on commanded.gives,
          commanded.goes,
        )

    on_from : (machine middle : Machine) → middle ≡ machine → Goes middle rest new → Goes machine rest new
    on_from machine middle is later = subst (λ (each : Machine). Goes each rest new) is later

    reached_answer : (came : Answer) → At h (item.Command (apdu_of command) ∷ item.Answer came.body came.status ∷ rest) new whole → At (Answered came ∷ Sent command ∷ h) rest new whole
    reached_answer came at = by_way (with_power (item.Answer came.body came.status) at) where
      by_way : (middle : Machine) × Commands at.machine (apdu_of command) (item.Command (apdu_of command) ∷ item.Answer came.body came.status ∷ []) middle × Goes middle rest new
          → At (Answered came ∷ Sent command ∷ h) rest new whole
      by_way (middle, inl done, later) =
          let is : came ≡ answer_to at.machine.card command = same_answer (apdu_of command) came (answer_to at.machine.card command) done.seen in
          record {
            machine = powered (next at.machine.card command);
            agrees = subst (λ (each : Answer). Agrees (Answered each ∷ Sent command ∷ h) (powered (next at.machine.card command))) (sym is)
                (agrees_answered goes others reads fetches responds h command at.machine at.agrees sends);
            goes = on_from (powered (next at.machine.card command)) middle done.moved later;
            all_served = λ rest_served. at.all_served (
              λ asks. subst (λ (each : Answer). IsServing each.status) (sym is) (served goes others reads fetches responds h command at.machine at.agrees sends asks),
              rest_served,
            );
          }
      by_way (middle, inr (inl fails), later) =
          let is : came ≡ failure goes = same_answer (apdu_of command) came (failure goes) fails.seen in
          record {
            machine = powered fails.card;
            agrees = subst (λ (each : Answer). Agrees (Answered each ∷ Sent command ∷ h) (powered fails.card)) (sym is) (agrees_failed goes h command at.machine fails.card at.agrees fails.left);
            goes = on_from (powered fails.card) middle fails.moved later;
            all_served = λ rest_served. at.all_served (λ asks. inr (inr (ap (λ (each : Answer). each.status) is)), rest_served);
          }
      by_way (middle, inr (inr lost), later) = let seen = lost.seen in absurd (cc)

    reached_cut : At h (item.Command (apdu_of command) ∷ item.Cut ∷ rest) new whole → At (PowerCut ∷ Sent command ∷ h) rest new whole
    reached_cut at = by_way (with_power item.Cut at) where
      by_way : (middle : Machine) × Commands at.machine (apdu_of command) (item.Command (apdu_of command) ∷ item.Cut ∷ []) middle × Goes middle rest new → At (PowerCut ∷ Sent command ∷ h) rest new whole
      by_way (middle, inl done, later) = let seen = done.seen in absurd (cc)
      by_way (middle, inr (inl fails), later) = let seen = fails.seen in absurd (cc)
      by_way (middle, inr (inr lost), later) = record {
        machine = unpowered lost.card;
        agrees = agrees_lost goes h command at.machine lost.card at.agrees lost.left;
        goes = on_from (unpowered lost.card) middle lost.moved later;
        all_served = λ rest_served. at.all_served (λ asks. tt, rest_served);
      }

    never_off : At h (item.Command (apdu_of command) ∷ item.Off ∷ rest) new whole → ⊥
    never_off at = by_way (with_power item.Off at) where
      by_way : (middle : Machine) × Commands at.machine (apdu_of command) (item.Command (apdu_of command) ∷ item.Off ∷ []) middle × Goes middle rest new → ⊥
      by_way (middle, inl done, later) = let seen = done.seen in absurd (cc)
      by_way (middle, inr (inl fails), later) = let seen = fails.seen in absurd (cc)
      by_way (middle, inr (inr lost), later) = let seen = lost.seen in absurd (cc)

  -- ---- what came, by what was sent

  answer_came : (h : List Happened) (answer : Answer) (rest : List TraceItem) (new : Machine) (whole : List TraceItem) → Reached h (item.Answer answer.body answer.status ∷ rest) new whole → At (Answered answer ∷ h) rest new whole
  answer_came (Sent command ∷ h) answer rest new whole reached = reached_answer h command rest new whole reached.0 answer reached.1
  answer_came h answer rest new whole reached = absurd (next_seen h _ new whole reached)

  reset_cut : (h : List Happened) (rest : List TraceItem) (new : Machine) (whole : List TraceItem) → At h (item.Cut ∷ rest) new whole → At (PowerCut ∷ h) rest new whole
  reset_cut h rest new whole at = search (rules, agrees_cut goes h at.machine at.agrees, next_seen h (item.Cut ∷ rest) new whole at, at)

  cut_came : (h : List Happened) (rest : List TraceItem) (new : Machine) (whole : List TraceItem) → Reached h (item.Cut ∷ rest) new whole → At (PowerCut ∷ h) rest new whole
  cut_came (Sent command ∷ h) rest new whole reached = reached_cut h command rest new whole reached.0 reached.1
  cut_came h rest new whole reached = reset_cut h rest new whole reached

  off_came : (h : List Happened) (rest : List TraceItem) (new : Machine) (whole : List TraceItem) → Reached h (item.Off ∷ rest) new whole → ⊥
  off_came (Sent command ∷ h) rest new whole reached = never_off h command rest new whole reached.0 reached.1
  off_came h rest new whole reached = next_seen h _ new whole reached

  -- ---- all of a history

  module _ (first : Machine) (ready : CanServe first.card) (on : first.on ≡ true) where
    begins : Agrees [] first
    begins = record { ready = ready; has_power = λ silent. on; holds = λ silent. tt; meets = λ silent. tt; rests = λ silent. absurd (false≢true silent) }

    reach : (h : List Happened) (rest : List TraceItem) (new : Machine) (steps : List Step) → IsOrderly h → IsRun first steps (onto h rest) new → Reached h rest new (onto h rest)
    reach [] rest new steps orderly run = record { machine = first; agrees = begins; goes = record { steps = steps; run = run }; all_served = λ rest_served. rest_served }
    reach (Said heard ∷ h) rest new steps orderly run =
        let at = at_rest h rest new (onto h rest) (other (asked h) Rest orderly.0 (λ same. absurd (cc))) (reach h rest new steps orderly.1 run) in
        record { machine = at.machine; agrees = agrees_said h heard at.machine at.agrees; goes = at.goes; all_served = at.all_served }
    reach (Noted note ∷ h) rest new steps orderly run =
        let at = at_rest h rest new (onto h rest) (other (asked h) (Show note) orderly.0 (λ same. absurd (cc))) (reach h rest new steps orderly.1 run) in
        record { machine = at.machine; agrees = agrees_noted h note at.machine at.agrees orderly.0; goes = at.goes; all_served = at.all_served }
    reach (Sent command ∷ h) rest new steps orderly run =
        (orderly.0, at_rest h _ new _ (other (asked h) (Transmit command) orderly.0 (λ same. absurd (cc))) (reach h (item.Command (apdu_of command) ∷ rest) new steps orderly.1 run))
    reach (Answered answer ∷ h) rest new steps orderly run = answer_came h answer rest new _ (reach h (item.Answer answer.body answer.status ∷ rest) new steps orderly.1 run)
    reach (Restarted ∷ h) rest new steps orderly run =
        let at = at_rest h (item.Reset ∷ rest) new (onto h (item.Reset ∷ rest)) (other (asked h) ResetCard orderly.0 (λ same. absurd (cc))) (reach h (item.Reset ∷ rest) new steps orderly.1 run) in
        search (rules, agrees_restarted goes h at.machine at.agrees, next_seen h (item.Reset ∷ rest) new (onto h (item.Reset ∷ rest)) at, at)
    reach (PowerCut ∷ h) rest new steps orderly run = cut_came h rest new _ (reach h (item.Cut ∷ rest) new steps orderly.1 run)
    reach (FoundOff ∷ h) rest new steps orderly run = absurd (off_came h rest new _ (reach h (item.Off ∷ rest) new steps orderly.1 run))

    -- at the end no command is left without an answer
    ends_served : (h : List Happened) (new : Machine) (whole : List TraceItem) → Reached h [] new whole → AreServed whole
    ends_served (Sent command ∷ h) new whole reached = absurd (next_seen h (item.Command (apdu_of command) ∷ []) new whole reached.1)
    ends_served other new whole reached = reached.all_served tt

    history_served : (h : List Happened) (new : Machine) (steps : List Step) (lines : List HandsetLine) (trace : List TraceEntry) → IsOf lines trace h → IsRun first steps (items_seen trace) new → AreServed (items_seen trace)
    history_served h new steps lines trace is run =
        let same : items_seen trace ≡ onto h [] = ap items_seen (sym is.trace_is) ∙ seen_onto h [] in
        subst AreServed (sym same) (ends_served h new (onto h []) (reach h [] new steps is.orderly (subst (λ (items : List TraceItem). IsRun first steps items new) same run)))

    seen-append : (entries others : List TraceEntry) → items_seen (entries ++ others) ≡ items_seen entries ++ items_seen others
    seen-append [] others = refl
    seen-append (Seen shown ∷ entries) others = ap (λ later. shown ∷ later) (seen-append entries others)
    seen-append (Shown note ∷ entries) others = seen-append entries others

    onto-append : (h : List Happened) (rest others : List TraceItem) → onto h rest ++ others ≡ onto h (rest ++ others)
    onto-append [] rest others = refl
    onto-append (Said heard ∷ h) rest others = onto-append h rest others
    onto-append (Sent command ∷ h) rest others = onto-append h (item.Command (apdu_of command) ∷ rest) others
    onto-append (Answered answer ∷ h) rest others = onto-append h (item.Answer answer.body answer.status ∷ rest) others
    onto-append (Noted note ∷ h) rest others = onto-append h rest others
    onto-append (Restarted ∷ h) rest others = onto-append h (item.Reset ∷ rest) others
    onto-append (PowerCut ∷ h) rest others = onto-append h (item.Cut ∷ rest) others
    onto-append (FoundOff ∷ h) rest others = onto-append h (item.Off ∷ rest) others

    stopped_served : (new : Machine) (steps : List Step) (lines : List HandsetLine) (trace : List TraceEntry) → IsHandsetStopped lines trace → IsRun first steps (items_seen trace) new → AreServed (items_seen trace)
    stopped_served new steps lines trace stopped run =
        let h : List Happened = stopped.history in
        let same : items_seen trace ≡ onto h (item.EepromFailed ∷ []) =
        ap items_seen stopped.stopped ∙ seen-append stopped.before (Seen item.EepromFailed ∷ [])
        ∙ ap (λ items. items ++ item.EepromFailed ∷ []) (ap items_seen (sym stopped.is_of.trace_is) ∙ seen_onto h []) ∙ onto-append h [] (item.EepromFailed ∷ []) in
        let at = at_rest h _ new _ (other (asked h) ResetCard stopped.resets (λ awaits. absurd (cc)))
        (reach h (item.EepromFailed ∷ []) new steps stopped.is_of.orderly (subst (λ (items : List TraceItem). IsRun first steps items new) same run)) in
        subst AreServed (sym same) (at.all_served tt)

    pub all_served : (new : Machine) (steps : List Step) (lines : List HandsetLine) (trace : List TraceEntry) → KeepsToRules lines trace → IsRun first steps (items_seen trace) new → AreServed (items_seen trace)
    all_served new steps lines trace (inl legal) run = history_served legal.history new steps lines trace legal.is_of run
    all_served new steps lines trace (inr (inl underway)) run = history_served underway.history new steps lines trace underway.is_of run
    all_served new steps lines trace (inr (inr stopped)) run = stopped_served new steps lines trace stopped run

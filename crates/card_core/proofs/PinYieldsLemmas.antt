-- What a command on PINs comes to, by what its card is known.
use Rattle.std.proofs.Common.{◌≡◌, ℕ, ◌+◌, arith, false, List, [], ◌∷◌, length, Some, None, refl, sym, ◌∙◌, ap, subst, IsSomeAnd, Contains, Result, Ok, Err}
use Rattle.std.proofs.lemmas.Bool.{false≢true}
use Rattle.std.proofs.lemmas.List.{length-map}
use Rattle.list_laws.proofs.IfSomeLemmas.{if_some_at}
use Rattle.uicc_types.specs.Counts.{raised_by}
use Rattle.uicc_types.specs.declared.answers.Answer.{Answer}
use Rattle.uicc_types.specs.declared.answers.StatusWord.{StatusWord}
use Rattle.apdu_form.specs.Model.{Apdu}
use Rattle.store_form.specs.declared.store.StoreFault.{StoreFault}
use Rattle.card_state.specs.declared.entries.Loaded.{Loaded}
use Rattle.card_state.specs.Changes.{Change}
use Rattle.card_state.specs.Persistent.{Pin, Persistent}
use Rattle.card_state.specs.States.{pins_of}
use Rattle.file_model.specs.Chains.{and_given}
use Rattle.file_model.specs.Commands.{first_fields, second_fields, pin_outcome, pin_settled}
use Rattle.file_model.specs.Files.{descriptors_in}
use Rattle.file_model.specs.Outcomes.{PinOutcome, settled_pin, last_of}
use Rattle.file_model.specs.Pins.{pins_put}
use Rattle.file_model.specs.declared.commands.PinCommand.{PinCommand}
use Rattle.card_commits.specs.Laws.{IsTold, TablesTellStates}
use Rattle.card_commits.specs.Performing.{CommitsAtMost, IsPinOutcome, PerformsPin, WritesAll, with_each}
use Rattle.pin_rules.specs.Outcomes.{IsCarriedOut, IsPinCutShort, state_after}
use Rattle.card_model.specs.Answers.{Answered, settled, carried_out, with_pins, pin_tried}
use Rattle.card_model.specs.States.{CardState}
use Rattle.card_model.specs.declared.instructions.Instruction.TheVariants.{Pin as OnPins}
use Rattle.card_model.proofs.AnswersLemmas.{last_with_pins}
use Rattle.card_laws.specs.ToolkitLaws.{CommandsLeaveRows}
use Rattle.card_core.specs.Acting.{ActsAlone}
use Rattle.card_core.specs.AnyStore.{IsDenied, RefusesByTable, MovesPins}
use Rattle.card_core.specs.Cards.{memory_of, held_by, card_with, IsRunning}
use Rattle.card_core.specs.Known.{KnownBy, ByStore, ByTable, ByMemory, IsKnown, IsAnsweredBy, IsCountedBy, IsCalmBy, MayBeBy, SaysSo, IsLeftAt}
use Rattle.card_core.specs.Laws.{TablesHaveRows}
use Rattle.card_core.specs.Moves.{StopsAt}
use Rattle.card_core.specs.Parts.{CardParts}
use Rattle.card_core.specs.Writing.{HasWritten, StopsWriting}
use Rattle.card_core.proofs.ActsOnLemmas.{acts_done, acts_stopped}
use Rattle.card_core.proofs.IsLeftLemmas.{fault_left}
use Rattle.card_core.proofs.IsRunningLemmas.{in_order}
use Rattle.card_core.proofs.IsSetLemmas.{rows_beside_pins, files_beside_pins}
use Rattle.card_core.proofs.KnownLemmas.{told_by, finished, stopped_by}
use Rattle.card_core.proofs.StopsAtLemmas.{stops_between, stands_there}
use Rattle.card_core.proofs.WritingLemmas.{written_at, stopped_at}

carried_on_pins : (command : PinCommand) (card : CardState) (apdu : Apdu) → carried_out (OnPins command) card apdu ≡ pin_tried card command apdu.p2 (pin_outcome command card.persistent.pins card.verified apdu)
unfolding carried_out
carried_on_pins command card apdu = refl

last_with : (state : Persistent) (passed : List (List Pin)) → last_of state (with_each state passed) ≡ with_pins state (last_of state.pins passed)
last_with state passed = last_with_pins state state.pins passed

-- the table tells of these PINs, where they alone are others
pins_told : (old new : Loaded) (state : Persistent) → new ≡ record old { pins = new.pins } → IsTold old state → (pins : List Pin) → pins_of new ≡ pins → IsTold new (with_pins state pins)
unfolding descriptors_in
pins_told old new state others told pins is = record {
  files = told.files ∙ sym (files_beside_pins old new others);
  pins = sym is;
  rows = told.rows ∙ sym (rows_beside_pins old new others);
  next = told.next ∙ sym (ap (λ (table : Loaded). table.next) others);
  wide = told.wide ∙ sym (ap (λ (table : Loaded). table.wide) others);
}

-- ---- once it was carried out

-- The status and the verified keys are those of the outcome, and the state after it is known so.
record IsPinAnswer (by : KnownBy) (new : CardParts) (state : Persistent) (outcome : PinOutcome) (out : Answer) : Type 0 where
  body : out.body ≡ []
  status : out.status ≡ outcome.status
  verified : new.verified ≡ outcome.verified
  known : IsKnown by new (last_of state (with_each state outcome.passed))

-- what a new card has besides what it holds
pub record HasMarks (old new : CardParts) : Type 0 where
  pub channels : new.channels ≡ old.channels
  pub session : new.session ≡ old.session
  pub boxes : new.boxes ≡ old.boxes

module _ (command : PinCommand) (apdu : Apdu) (old new : CardParts) (out : Answer) where
  pin_answers : (by : KnownBy) (state : Persistent) (tried : Result PinOutcome StatusWord) → HasMarks old new → IsPinAnswer by new state (settled_pin old.verified tried) out
      → SaysSo (settled (card_with false old state) (pin_tried (card_with false old state) command apdu.p2 tried)) out × MayBeBy by new (settled (card_with false old state) (pin_tried (card_with false old state) command apdu.p2 tried)).state
  unfolding and_given
  pin_answers by state (Ok outcome) has is = (
    record { body = is.body; status = is.status },
    record { known = subst (IsKnown by new) (last_with state outcome.passed) is.known; channels = sym has.channels; verified = sym is.verified; session = sym has.session; boxes = sym has.boxes },
  )
  pin_answers by state (Err status) has is = (
    record { body = is.body; status = is.status },
    record { known = is.known; channels = sym has.channels; verified = sym is.verified; session = sym has.session; boxes = sym has.boxes },
  )

  pin_commits : (card : CardState) (tried : Result PinOutcome StatusWord) → with_each card.persistent (settled_pin card.verified tried).passed ≡ (settled card (pin_tried card command apdu.p2 tried)).commits
  unfolding and_given
  pin_commits card (Ok outcome) = refl
  pin_commits card (Err status) = refl

  pin_changes : (card : CardState) (tried : Result PinOutcome StatusWord)
      → pins_put (first_fields command) (second_fields command) apdu.p2 (settled_pin card.verified tried).passed ≡ (settled card (pin_tried card command apdu.p2 tried)).changes
  unfolding and_given
  pin_changes card (Ok outcome) = refl
  pin_changes card (Err status) = refl

  abbrev came_on : Persistent → Answered
  came_on state = settled (card_with false old state) (carried_out (OnPins command) (card_with false old state) apdu)

  tried_is : (state : Persistent) → settled (card_with false old state) (pin_tried (card_with false old state) command apdu.p2 (pin_outcome command state.pins old.verified apdu)) ≡ came_on state
  tried_is state = ap (settled (card_with false old state)) (sym (carried_on_pins command (card_with false old state) apdu))

  abbrev outcome_by : List Pin → PinOutcome
  outcome_by pins = pin_settled command pins old.verified apdu

  -- they pass what the card commits
  passed_is : (state : Persistent) → with_each state (outcome_by state.pins).passed ≡ (came_on state).commits
  unfolding pin_settled
  passed_is state = pin_commits (card_with false old state) (pin_outcome command state.pins old.verified apdu) ∙ ap (λ (each : Answered). each.commits) (tried_is state)

  -- and change what it does
  abbrev puts : Persistent → List Change
  puts state = pins_put (first_fields command) (second_fields command) apdu.p2 (outcome_by state.pins).passed

  changes_by : (state : Persistent) → puts state ≡ (came_on state).changes
  unfolding pin_settled
  changes_by state = pin_changes (card_with false old state) (pin_outcome command state.pins old.verified apdu) ∙ ap (λ (each : Answered). each.changes) (tried_is state)

  long_is : (state : Persistent) → length (outcome_by state.pins).passed ≡ length (came_on state).commits
  long_is state = sym (length-map (outcome_by state.pins).passed (with_pins state)) ∙ ap (λ (states : List Persistent). length states) (passed_is state)

  module _ (tell : TablesTellStates) (running : IsRunning old) (table : Loaded) (same : table ≡ old.table) (moves : MovesPins old new) where
    pins_are : (by : KnownBy) (state : Persistent) → IsKnown by old state → pins_of table ≡ state.pins
    pins_are by state known = ap pins_of same ∙ sym (told_by tell old running.mounted.agrees by state known).pins

    module _ (done : Unit {0}) (has : HasMarks old new) (body : out.body ≡ [])
        (performs : PerformsPin (finished done) (record (memory_of old) { table = table }) (memory_of new) out new.verified (λ state. outcome_by state.pins))
        (comes : IsCarriedOut (outcome_by (pins_of table)) (pins_of table) out.status new.verified (pins_of new.table))
        (writes : WritesAll (finished done) (record (memory_of old) { table = table }) (memory_of new) puts) where
      held_outcome : (state : Persistent) → held_by old ≡ Some state → IsPinOutcome state (outcome_by state.pins) out new.verified (record (memory_of old) { table = table }) (memory_of new)
      held_outcome state held =
          if_some_at (held_by old) (λ each. IsPinOutcome each (outcome_by each.pins) out new.verified (record (memory_of old) { table = table }) (memory_of new)) state performs held

      answered : (by : KnownBy) (state : Persistent) → IsKnown by old state → IsAnsweredBy by (OnPins command) → IsPinAnswer by new state (outcome_by state.pins) out
      answered ByStore state known needs = (let is = held_outcome state known in record { body = body; status = is.status; verified = is.verified_is; known = is.state_is })
      answered ByTable state known needs =
          let is = subst (λ (pins : List Pin). IsCarriedOut (outcome_by pins) pins out.status new.verified (pins_of new.table)) (pins_are ByTable state known) comes in
          record {
            body = body;
            status = is.status_is;
            verified = is.verified_is;
            known = subst (IsTold new.table) (sym (last_with state (outcome_by state.pins).passed)) (pins_told old.table new.table state moves.table known (last_of state.pins (outcome_by state.pins).passed) is.pins_are);
          }
      answered ByMemory state known needs = absurd (false≢true needs)

      counted : (by : KnownBy) (state : Persistent) → IsKnown by old state → IsCountedBy by (OnPins command) → new.commits ≡ raised_by (length (came_on state).commits) old.commits
      counted ByStore state known counts = (held_outcome state known).commits ∙ ap (λ (count : ℕ). raised_by count old.commits) (long_is state)
      counted ByTable state known counts = absurd counts
      counted ByMemory state known counts = absurd (false≢true counts)

      answers_pins : (by : KnownBy) (state : Persistent) → IsKnown by old state → IsAnsweredBy by (OnPins command) → SaysSo (came_on state) out × MayBeBy by new (came_on state).state
      unfolding pin_settled
      answers_pins by state known needs =
          subst (λ (each : Answered). SaysSo each out × MayBeBy by new each.state) (tried_is state) (pin_answers by state (pin_outcome command state.pins old.verified apdu) has (answered by state known needs))

      pub pins_act : ((status : StatusWord) → RefusesByTable (OnPins command) old apdu status → IsDenied status out old new) → ActsAlone (Ok done) (OnPins command) apdu old new out
      pins_act denied =
          acts_done (OnPins command) apdu old new out moves done (λ state held. subst (λ (changes : List Change). HasWritten changes old new) (changes_by state) (written_at done old new table puts state held writes)) answers_pins counted denied

    -- ---- once a fault stopped it

    module _ (rows : TablesHaveRows) (law : CommandsLeaveRows) (fault : StoreFault) (stays_there : new.leaving ≡ None) (now : Loaded)
        (performs : PerformsPin (stopped_by fault) (record (memory_of old) { table = table }) (record (memory_of new) { table = now }) out new.verified (λ state. outcome_by state.pins))
        (stops : IsPinCutShort (outcome_by (pins_of table)) (record (memory_of old) { table = table }) (record (memory_of new) { table = now }) old.verified new.verified)
        (writes : WritesAll (stopped_by fault) (record (memory_of old) { table = table }) (record (memory_of new) { table = now }) puts) where
      left_there : (state : Persistent) → held_by old ≡ Some state → IsLeftAt old new (card_with false old state) (came_on state).commits
      left_there state held =
          let passed : List (List Pin) = (outcome_by (pins_of table)).passed in
          let long : length (with_each state passed) ≡ length passed = length-map passed (with_pins state) in
          record {
            left =
                fault_left law (OnPins command) apdu refl (card_with false old state) new stays_there moves.boxes (in_order rows old running state (told_by tell old running.mounted.agrees ByStore state held))
                (subst (λ (states : List Persistent). IsSomeAnd (held_by new) (Contains (state ∷ states))) (passed_is state)
                (if_some_at (held_by old) (λ each. IsSomeAnd (held_by new) (Contains (each ∷ with_each each (outcome_by each.pins).passed))) state performs.passes held));
            stops =
                subst (λ (states : List Persistent). StopsAt state states old.commits new.commits (held_by new))
                (ap (λ (pins : List Pin). with_each state (outcome_by pins).passed) (pins_are ByStore state held) ∙ passed_is state)
                (stops_between state (with_each state passed) old.commits new.commits (held_by new) stops.place (omega (arith, stops.one_more, long)) stops.commits
                (stands_there (state_after passed stops.place) (state_after passed (stops.place + 1)) (held_by old) (held_by new) state held stops.stands));
          }

      at_most : (by : KnownBy) (state : Persistent) → IsKnown by old state → IsCountedBy by (OnPins command) → CommitsAtMost (length (came_on state).commits) old.commits new.commits
      at_most ByStore state held counts =
          subst (λ (count : ℕ). CommitsAtMost count old.commits new.commits) (long_is state)
          (if_some_at (held_by old) (λ each. CommitsAtMost (length (outcome_by each.pins).passed) old.commits new.commits) state performs.commits held)
      at_most ByTable state known counts = absurd counts
      at_most ByMemory state known of_tree = absurd (false≢true of_tree)

      calm : (by : KnownBy) (state : Persistent) → IsKnown by old state → IsCalmBy by (OnPins command) → (came_on state).commits ≡ [] → ⊥
      calm ByStore state known is none = is
      calm ByTable state known is none = is
      calm ByMemory state known of_tree none = false≢true of_tree

      pub pins_stopped : ((status : StatusWord) → RefusesByTable (OnPins command) old apdu status → ⊥) → ActsAlone (stopped_by fault) (OnPins command) apdu old new out
      pins_stopped denied =
          acts_stopped (OnPins command) apdu old new out moves fault left_there (λ state held. subst (λ (changes : List Change). StopsWriting changes old new) (changes_by state) (stopped_at fault old new table now puts state held writes)) at_most calm
          (λ leaves. leaves) denied

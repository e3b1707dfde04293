-- What each answer does to the tries of a key.
use Rattle.std.proofs.Common.{◌≡◌, ℕ, ◌+◌, ◌-◌, ◌≤◌, Bool, true, false, List, [], ◌∷◌, map, Option, Some, None, refl, sym, ◌∙◌, ap, subst, inl, inr, ⊎_elim, arith, ◌/◌, not, ◌==◌, ◌||◌, ◌&&◌, if◌then◌else◌, All, IsSomeAnd, ◌⊎◌, bytes_eq}
use Rattle.std.proofs.lemmas.Bool.{false≢true, eqb-true, eq-eqb, cases_eq, not-true, or_parts, and_parts, and_from}
use Rattle.std.proofs.lemmas.List.Elements.{All-nil, All-cons, All-head, All-tail}
use Rattle.std.proofs.lemmas.Option.{same_Some}
use Rattle.list_laws.proofs.CondLemmas.{second_false}
use Rattle.uicc_types.specs.declared.answers.StatusWord.{StatusWord}
use Rattle.uicc_types.specs.declared.answers.TheConstants.StatusWord.{DONE}
use Rattle.uicc_types.specs.declared.runs.Step.TheVariants as step
use Rattle.apdu_form.specs.Model.{Apdu, command_in}
use Rattle.card_state.specs.Persistent.{Pin, Persistent}
use Rattle.access_rules.specs.declared.rules.Verified.{Verified}
use Rattle.access_rules.specs.Conditions.{is_satisfied}
use Rattle.apdu_form.specs.Fields.{has_data, has_no_data}
use Rattle.file_model.specs.Outcomes.{PinOutcome, last_of}
use Rattle.file_model.specs.Pins.{pin_found, with_pin, presented, value_presented, marked, tries_left}
use Rattle.file_model.specs.Guards.{Guard, OfPin, OfUnblock, tries_by, with_one_less, GivesNoTries}
use Rattle.file_model.specs.Laws.{EachStep}
use Rattle.file_model.proofs.GuardsLemmas.{key_found, less_key, less_tries}
use Rattle.file_model.specs.declared.commands.PinCommand.{PinCommand}
use Rattle.card_model.specs.Answers.{Answered, cut_answer, refused, with_pins, on_pins, told_pending, with_pending}
use Rattle.card_model.specs.States.{CardState}
use Rattle.card_model.proofs.AnswersLemmas.{last_with_pins}
use Rattle.card_laws.specs.Guesses.{presents_by, is_trial, if_command, presents, tells_tries, tries_of, IsOneLess, value_by, is_right_by, presents_right}
use Rattle.card_laws.proofs.HaveSamePinsLemmas.{HaveSamePins}
use Rattle.card_laws.proofs.MarkedLemmas.{mark_gone, mark_other}
use Rattle.card_laws.proofs.WithPinLemmas.{itself_found, other_found, tries_found, KeepsOrFills, kept_or_filled}
use Rattle.card_laws.proofs.PinOutcomeLemmas.{IsTrialOf, IsTold, Comes, TellsNone}

-- ---- what is said of a PIN

-- the same PIN with no more tries
pub record IsWorn (before after : Pin) : Type 0 where
  pub tries : after.tries ≤ before.tries
  pub unblock_tries : after.unblock_tries ≤ before.unblock_tries
  pub others : after ≡ record before { tries = after.tries; unblock_tries = after.unblock_tries }

pub same_worn : (pin : Pin) → IsWorn pin pin
same_worn pin = record { tries = omega arith; unblock_tries = omega arith; others = refl }

less_worn : (guard : Guard) (pin : Pin) → IsWorn pin (with_one_less guard pin)
less_worn OfPin pin = record { tries = omega arith; unblock_tries = omega arith; others = refl }
less_worn OfUnblock pin = record { tries = omega arith; unblock_tries = omega arith; others = refl }

-- the PIN with this key is so
abbrev pub StaysWorn : ℕ → Pin → List Pin → Type 0
StaysWorn key pin pins = IsSomeAnd (pin_found pins key) (IsWorn pin)

stays : (key : ℕ) (pin after : Pin) (pins : List Pin) → pin_found pins key ≡ Some after → IsWorn pin after → StaysWorn key pin pins
stays key pin after pins is worn = subst (λ found. IsSomeAnd found (IsWorn pin)) (sym is) worn

-- ---- what is said of an answer

abbrev pub EachKeepsOrFills : Persistent → Persistent → Type 0
EachKeepsOrFills old new = (guard : Guard) (key : ℕ) → KeepsOrFills guard key old.pins new.pins

-- The commits end in the state after the answer; each gives no tries or all of them; a guess has taken one try; and where no right
-- value was presented, each leaves the PIN worn at most.
pub record IsGuarded (card : CardState) (bytes : List ℕ) (answered : Answered) : Type 0 where
  pub ends : last_of card.persistent answered.commits ≡ answered.state.persistent
  pub steps : EachStep EachKeepsOrFills card.persistent answered.commits
  pub guess : (guard : Guard) (key : ℕ) → presents guard key bytes ≡ true → tells_tries answered.status ≡ true → IsOneLess guard key answered.status card.persistent.pins answered.state.persistent.pins
  pub wrong : (key : ℕ) (pin : Pin) → pin_found card.persistent.pins key ≡ Some pin → presents_right key pin (step.Apdu bytes) ≡ false → All (λ (state : Persistent). StaysWorn key pin state.pins) answered.commits
  pub mark : (key : ℕ) (pin : Pin) → pin_found card.persistent.pins key ≡ Some pin → presents_right key pin (step.Apdu bytes) ≡ false → is_satisfied key card.verified ≡ false → is_satisfied key answered.state.verified ≡ false

-- a refusal of a command that presents a value tells no tries
abbrev pub NoGuess : List ℕ → StatusWord → Type 0
NoGuess bytes status = (guard : Guard) (key : ℕ) → presents guard key bytes ≡ true → tells_tries status ≡ false

pub none_told : (bytes : List ℕ) (status : StatusWord) → TellsNone status → NoGuess bytes status
none_told bytes status none guard key is = none

told_not : {A : Type 0} (status : StatusWord) → tells_tries status ≡ false → tells_tries status ≡ true → A
told_not status none told = absurd (false≢true (sym none ∙ told))

pub refused_guarded : (card : CardState) (bytes : List ℕ) (status : StatusWord) → NoGuess bytes status → IsGuarded card bytes (refused card status)
refused_guarded card bytes status none = record {
  ends = refl;
  steps = tt;
  guess = λ guard key is told. told_not status (none guard key is) told;
  wrong = λ key pin found not_right. All-nil (λ (state : Persistent). StaysWorn key pin state.pins);
  mark = λ key pin found not_right unmarked. unmarked;
}

-- ---- a command that presents nothing

kept : (guard : Guard) (key : ℕ) (old new : List Pin) → new ≡ old → KeepsOrFills guard key old new
kept guard key old new same = inl (omega (arith, ap (tries_of guard key) same))

each_kept : (base state : Persistent) (passed : List Persistent) → state.pins ≡ base.pins → HaveSamePins base passed → EachStep EachKeepsOrFills state passed
each_kept base state [] is same = tt
each_kept base state (next ∷ passed) is same = (λ guard key. kept guard key state.pins next.pins (same.0 ∙ sym is), each_kept base next passed same.0 same.1)

all_worn : (base : Persistent) (passed : List Persistent) (key : ℕ) (pin : Pin) → pin_found base.pins key ≡ Some pin → HaveSamePins base passed → All (λ (state : Persistent). StaysWorn key pin state.pins) passed
all_worn base [] key pin found same = All-nil (λ (state : Persistent). StaysWorn key pin state.pins)
all_worn base (next ∷ passed) key pin found same =
    All-cons (λ (state : Persistent). StaysWorn key pin state.pins) next passed (stays key pin pin next.pins (ap (λ (pins : List Pin). pin_found pins key) same.0 ∙ found) (same_worn pin)) (all_worn base passed key pin found same.1)

-- no value is presented
abbrev pub PresentsNone : List ℕ → Type 0
PresentsNone bytes = (guard : Guard) (key : ℕ) → presents guard key bytes ≡ false

pub quiet_guarded : (card : CardState) (bytes : List ℕ) (answered : Answered) → PresentsNone bytes → last_of card.persistent answered.commits ≡ answered.state.persistent → HaveSamePins card.persistent answered.commits
    → answered.state.verified ≡ card.verified → IsGuarded card bytes answered
quiet_guarded card bytes answered none ends same marks = record {
  ends = ends;
  steps = each_kept card.persistent card.persistent answered.commits refl same;
  guess = λ guard key is told. absurd (false≢true (sym (none guard key) ∙ is));
  wrong = λ key pin found not_right. all_worn card.persistent answered.commits key pin found same;
  mark = λ key pin found not_right unmarked. ap (is_satisfied key) marks ∙ unmarked;
}

-- ---- a PIN command

each_step : (base : Persistent) (pins : List Pin) (passed : List (List Pin)) → EachStep GivesNoTries pins passed → EachStep EachKeepsOrFills (with_pins base pins) (map (with_pins base) passed)
each_step base pins [] steps = tt
each_step base pins (next ∷ passed) steps = (λ guard key. kept_or_filled guard key pins next steps.0, each_step base next passed steps.1)

all_each : (base : Persistent) (key : ℕ) (pin : Pin) (passed : List (List Pin)) → All (StaysWorn key pin) passed → All (λ (state : Persistent). StaysWorn key pin state.pins) (map (with_pins base) passed)
all_each base key pin [] all = All-nil (λ (state : Persistent). StaysWorn key pin state.pins)
all_each base key pin (next ∷ passed) all =
    All-cons (λ (state : Persistent). StaysWorn key pin state.pins) (with_pins base next) (map (with_pins base) passed) (All-head (StaysWorn key pin) next passed all) (all_each base key pin passed (All-tail (StaysWorn key pin) next passed all))

module _ (pins : List Pin) (verified : Verified) (key : ℕ) (pin : Pin) (found : pin_found pins key ≡ Some pin) (guard : Guard) (some : 1 ≤ tries_by guard pin) (restored : Pin) (marks : Verified) (named : restored.key ≡ pin.key) where
  abbrev taken : Pin
  taken = with_one_less guard pin

  abbrev after : List Pin
  after = with_pin pins taken

  pin_key : pin.key ≡ key
  pin_key = key_found pins key pin found

  taken_found : pin_found after key ≡ Some taken
  taken_found = itself_found pins taken pin key (less_key guard pin ∙ pin_key) found

  -- a wrong value takes a try, and the status tells how many are left
  presented_guess : (is_right : Bool) → tells_tries (presented pins verified is_right taken (tries_by guard pin - 1) restored marks).status ≡ true
      → IsOneLess guard key (presented pins verified is_right taken (tries_by guard pin - 1) restored marks).status pins (last_of pins (presented pins verified is_right taken (tries_by guard pin - 1) restored marks).passed)
  unfolding presented
  presented_guess true told = told_not DONE refl told
  presented_guess false told =
      let left : tries_of guard key after ≡ tries_by guard pin - 1 = tries_found guard key after taken taken_found ∙ less_tries guard pin in
      record {
        takes = record { pin = pin; found = found; some = some; changed = refl };
        one = omega (arith, some, left, tries_found guard key pins pin found);
        told = ap tries_left (sym left);
      }

  -- and leaves the PIN as it was otherwise
  presented_wrong : (is_right : Bool) → is_right ≡ false → All (StaysWorn key pin) (presented pins verified is_right taken (tries_by guard pin - 1) restored marks).passed
  unfolding presented
  presented_wrong true is = absurd (false≢true (sym is))
  presented_wrong false is = All-cons (StaysWorn key pin) after [] (stays key pin taken after taken_found (less_worn guard pin)) (All-nil (StaysWorn key pin))

  -- the mark is gone then
  presented_gone : (is_right : Bool) → is_right ≡ false → is_satisfied key (presented pins verified is_right taken (tries_by guard pin - 1) restored marks).verified ≡ false
  unfolding presented
  presented_gone true is = absurd (false≢true (sym is))
  presented_gone false is = ap (λ (k : ℕ). is_satisfied key (marked verified k false)) (less_key guard pin ∙ pin_key) ∙ mark_gone key verified

  -- and that of another key is as it was
  presented_unmarked : (is_right : Bool) (other : ℕ) → (key ≡ other → ⊥) → (marks ≡ verified) ⊎ (marks ≡ marked verified pin.key true) → is_satisfied other verified ≡ false
      → is_satisfied other (presented pins verified is_right taken (tries_by guard pin - 1) restored marks).verified ≡ false
  unfolding presented
  presented_unmarked true other differs (inl same) unmarked = ap (is_satisfied other) same ∙ unmarked
  presented_unmarked true other differs (inr set) unmarked = ap (is_satisfied other) set ∙ mark_other other pin.key true verified (λ is. differs (sym pin_key ∙ is)) ∙ unmarked
  presented_unmarked false other differs is unmarked = mark_other other taken.key false verified (λ is. differs (sym (less_key guard pin ∙ pin_key) ∙ is)) ∙ unmarked

  -- the PINs of other keys stay, whatever comes of the value
  presented_other : (is_right : Bool) (other : ℕ) (same : Pin) → (key ≡ other → ⊥) → pin_found pins other ≡ Some same
      → All (StaysWorn other same) (presented pins verified is_right taken (tries_by guard pin - 1) restored marks).passed
  unfolding presented
  presented_other is_right other same differs there =
      let one : pin_found after other ≡ Some same = other_found pins taken other (λ is. differs (sym (less_key guard pin ∙ pin_key) ∙ is)) ∙ there in
      let two : pin_found (with_pin after restored) other ≡ Some same = other_found after restored other (λ is. differs (sym (named ∙ pin_key) ∙ is)) ∙ one in
      by_right is_right one two where
        by_right : (is_right : Bool) → pin_found after other ≡ Some same → pin_found (with_pin after restored) other ≡ Some same
            → All (StaysWorn other same) (presented pins verified is_right taken (tries_by guard pin - 1) restored marks).passed
        by_right true one two =
            All-cons (StaysWorn other same) after (with_pin after restored ∷ []) (stays other same same after one (same_worn same))
            (All-cons (StaysWorn other same) (with_pin after restored) [] (stays other same same (with_pin after restored) two (same_worn same)) (All-nil (StaysWorn other same)))
        by_right false one two = All-cons (StaysWorn other same) after [] (stays other same same after one (same_worn same)) (All-nil (StaysWorn other same))

-- what is asked of an instruction byte: it presents a value against this guard and no other
abbrev pub PresentsBy : Guard → ℕ → Type 0
PresentsBy guard ins = (other : Guard) → presents_by other ins ≡ true → other ≡ guard

-- a value that is not right for this guard
not_right_by : (guard : Guard) (key : ℕ) (pin : Pin) (apdu : Apdu) → (is_right_by OfPin key pin apdu || is_right_by OfUnblock key pin apdu) ≡ false → is_right_by guard key pin apdu ≡ false
not_right_by OfPin key pin apdu is = (or_parts (is_right_by OfPin key pin apdu) (is_right_by OfUnblock key pin apdu) is).0
not_right_by OfUnblock key pin apdu is = (or_parts (is_right_by OfPin key pin apdu) (is_right_by OfUnblock key pin apdu) is).1

module _ (card : CardState) (bytes : List ℕ) (apdu : Apdu) (read : command_in bytes ≡ Some apdu) (guard : Guard) (presents_it : presents_by guard apdu.ins ≡ true) (only : PresentsBy guard apdu.ins) where
  -- what the bytes present
  pub trial_shown : (other : Guard) (key : ℕ) → presents other key bytes ≡ true → (other ≡ guard) × (key ≡ apdu.p2) × (has_no_data apdu ≡ false)
  trial_shown other key is =
      let shown : is_trial other key apdu ≡ true = sym (ap (if_command (is_trial other key)) read) ∙ is in
      let last = and_parts (presents_by other apdu.ins && apdu.p2 == key) (has_data apdu) shown in
      let first = and_parts (presents_by other apdu.ins) (apdu.p2 == key) last.0 in
      (only other first.0, sym (eqb-true apdu.p2 key first.1), not-true (has_no_data apdu) last.1)

  told_none : (command : PinCommand) (at : ℕ) (outcome : PinOutcome) → IsTold card.verified apdu outcome → IsGuarded card bytes (on_pins card command at outcome)
  told_none command at outcome is = record {
    ends = last_with_pins card.persistent card.persistent.pins outcome.passed;
    steps = each_step card.persistent card.persistent.pins outcome.passed (subst (EachStep GivesNoTries card.persistent.pins) (sym is.nothing) tt);
    guess = λ other key shown told. absurd (false≢true (sym (trial_shown other key shown).2 ∙ is.none));
    wrong = λ key pin found not_right. all_each card.persistent key pin outcome.passed (subst (All (StaysWorn key pin)) (sym is.nothing) (All-nil (StaysWorn key pin)));
    mark = λ key pin found not_right unmarked. ap (is_satisfied key) is.same ∙ unmarked;
  }

  not_right : (key : ℕ) (pin : Pin) → key ≡ apdu.p2 → has_no_data apdu ≡ false → presents_right key pin (step.Apdu bytes) ≡ false → bytes_eq (value_presented apdu) (value_by guard pin) ≡ false
  not_right key pin same there is =
      let of_apdu : (is_right_by OfPin key pin apdu || is_right_by OfUnblock key pin apdu) ≡ false =
      sym (ap (if_command (λ each. is_right_by OfPin key pin each || is_right_by OfUnblock key pin each)) read) ∙ is in
      let shown : is_trial guard key apdu ≡ true = and_from ((presents_by guard apdu.ins) && (apdu.p2 == key)) (has_data apdu) (and_from (presents_by guard apdu.ins) (apdu.p2 == key) presents_it (eq-eqb apdu.p2 key (sym same))) (ap (λ (b : Bool). not b) there) in
      second_false (is_trial guard key apdu) (bytes_eq (value_presented apdu) (value_by guard pin)) (not_right_by guard key pin apdu of_apdu) shown

  tried_wrong : (outcome : PinOutcome) (is : IsTrialOf guard card.persistent.pins card.verified apdu outcome) (key : ℕ) (pin : Pin) → pin_found card.persistent.pins key ≡ Some pin
      → presents_right key pin (step.Apdu bytes) ≡ false → All (StaysWorn key pin) outcome.passed
  tried_wrong outcome is key pin found wrong =
      subst (λ (o : PinOutcome). All (StaysWorn key pin) o.passed) (sym is.is) (
      ⊎_elim {C = All (StaysWorn key pin) (presented card.persistent.pins card.verified (bytes_eq (value_presented apdu) (value_by guard is.pin)) (with_one_less guard is.pin) (tries_by guard is.pin - 1) is.restored is.marks).passed}
      (λ same.
      let one : is.pin ≡ pin = same_Some is.pin pin (sym is.found ∙ ap (pin_found card.persistent.pins) same ∙ found) in
      subst (λ (p : Pin). All (StaysWorn key p) (presented card.persistent.pins card.verified (bytes_eq (value_presented apdu) (value_by guard is.pin)) (with_one_less guard is.pin) (tries_by guard is.pin - 1) is.restored is.marks).passed) one
      (presented_wrong card.persistent.pins card.verified key is.pin (ap (pin_found card.persistent.pins) (sym same) ∙ is.found) guard is.some is.restored is.marks is.named
      (bytes_eq (value_presented apdu) (value_by guard is.pin)) (not_right key is.pin (sym same) is.there (subst (λ (p : Pin). presents_right key p (step.Apdu bytes) ≡ false) (sym one) wrong))))
      (λ differs. presented_other card.persistent.pins card.verified apdu.p2 is.pin is.found guard is.some is.restored is.marks is.named (bytes_eq (value_presented apdu) (value_by guard is.pin)) key pin differs found)
      (cases_eq apdu.p2 key))

  tried_mark : (outcome : PinOutcome) (is : IsTrialOf guard card.persistent.pins card.verified apdu outcome) (key : ℕ) (pin : Pin) → pin_found card.persistent.pins key ≡ Some pin
      → presents_right key pin (step.Apdu bytes) ≡ false → is_satisfied key card.verified ≡ false → is_satisfied key outcome.verified ≡ false
  tried_mark outcome is key pin found wrong unmarked =
      subst (λ (o : PinOutcome). is_satisfied key o.verified ≡ false) (sym is.is) (
      ⊎_elim {C = is_satisfied key (presented card.persistent.pins card.verified (bytes_eq (value_presented apdu) (value_by guard is.pin)) (with_one_less guard is.pin) (tries_by guard is.pin - 1) is.restored is.marks).verified ≡ false}
      (λ same.
      let one : is.pin ≡ pin = same_Some is.pin pin (sym is.found ∙ ap (pin_found card.persistent.pins) same ∙ found) in
      presented_gone card.persistent.pins card.verified key is.pin (ap (pin_found card.persistent.pins) (sym same) ∙ is.found) guard is.some is.restored is.marks is.named
      (bytes_eq (value_presented apdu) (value_by guard is.pin)) (not_right key is.pin (sym same) is.there (subst (λ (p : Pin). presents_right key p (step.Apdu bytes) ≡ false) (sym one) wrong)))
      (λ differs. presented_unmarked card.persistent.pins card.verified apdu.p2 is.pin is.found guard is.some is.restored is.marks is.named (bytes_eq (value_presented apdu) (value_by guard is.pin)) key differs is.marks_are unmarked)
      (cases_eq apdu.p2 key))

  tried_guess : (outcome : PinOutcome) (is : IsTrialOf guard card.persistent.pins card.verified apdu outcome) → tells_tries outcome.status ≡ true
      → IsOneLess guard apdu.p2 outcome.status card.persistent.pins (last_of card.persistent.pins outcome.passed)
  tried_guess outcome is =
      subst (λ (o : PinOutcome). tells_tries o.status ≡ true → IsOneLess guard apdu.p2 o.status card.persistent.pins (last_of card.persistent.pins o.passed)) (sym is.is)
      (presented_guess card.persistent.pins card.verified apdu.p2 is.pin is.found guard is.some is.restored is.marks is.named (bytes_eq (value_presented apdu) (value_by guard is.pin)))

  tried_guarded : (command : PinCommand) (at : ℕ) (outcome : PinOutcome) → IsTrialOf guard card.persistent.pins card.verified apdu outcome → EachStep GivesNoTries card.persistent.pins outcome.passed → IsGuarded card bytes (on_pins card command at outcome)
  tried_guarded command at outcome is steps = record {
    ends = last_with_pins card.persistent card.persistent.pins outcome.passed;
    steps = each_step card.persistent card.persistent.pins outcome.passed steps;
    guess = λ other key shown told.
        let trial = trial_shown other key shown in
        subst (λ (g : Guard). IsOneLess g key outcome.status card.persistent.pins (last_of card.persistent.pins outcome.passed)) (sym trial.0)
        (subst (λ (k : ℕ). IsOneLess guard k outcome.status card.persistent.pins (last_of card.persistent.pins outcome.passed)) (sym trial.1) (tried_guess outcome is told));
    wrong = λ key pin found not_right. all_each card.persistent key pin outcome.passed (tried_wrong outcome is key pin found not_right);
    mark = λ key pin found not_right unmarked. tried_mark outcome is key pin found not_right unmarked;
  }

  pub pin_guarded : (command : PinCommand) (at : ℕ) (outcome : PinOutcome) → Comes guard card.persistent.pins card.verified apdu outcome → EachStep GivesNoTries card.persistent.pins outcome.passed → IsGuarded card bytes (on_pins card command at outcome)
  pin_guarded command at outcome (inl told) steps = told_none command at outcome told
  pin_guarded command at outcome (inr is) steps = tried_guarded command at outcome is steps

-- ---- whatever the data are cut to

pub cut_guarded : (card : CardState) (bytes : List ℕ) (expected : Option ℕ) (answered : Answered) → IsGuarded card bytes answered → IsGuarded card bytes (cut_answer expected answered)
cut_guarded card bytes expected answered is = record { ends = is.ends; steps = is.steps; guess = is.guess; wrong = is.wrong; mark = is.mark }

-- ---- a command of the toolkit that waits

-- it is told in place of a command that is done, and in place of no tries
pending_told : (count : Option ℕ) (status : StatusWord) (P : StatusWord → Type 0) → (tells_tries status ≡ true → P status) → tells_tries (told_pending count status) ≡ true → P (told_pending count status)
pending_told None status P holds is = holds is
pending_told (Some count) status P holds is = by_done (status.0 == DONE.0) is where
  by_done : (b : Bool) → tells_tries (if b then record { 0 = 0x9100 + count } else status) ≡ true → P (if b then record { 0 = 0x9100 + count } else status)
  by_done true is = absurd (let low : (0x9100 + count) / 16 ≡ 0x63C = eqb-true ((0x9100 + count) / 16) 0x63C is in omega (arith, low))
  by_done false is = holds is

pub pending_guarded : (card : CardState) (bytes : List ℕ) (answered : Answered) → IsGuarded card bytes answered → IsGuarded card bytes (with_pending answered)
pending_guarded card bytes answered is = record {
  ends = is.ends;
  steps = is.steps;
  guess = λ guard key shown told. pending_told _ answered.status (λ (status : StatusWord). IsOneLess guard key status card.persistent.pins answered.state.persistent.pins) (is.guess guard key shown) told;
  wrong = is.wrong;
  mark = is.mark;
}

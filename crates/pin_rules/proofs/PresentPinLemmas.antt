-- A value is presented: what the two commits leave.
use Rattle.std.proofs.Common.{◌≡◌, ℕ, ◌<◌, Bool, true, false, List, ◌∷◌, length, Option, Some, None, refl, sym, ap, ◌∙◌, subst, inl, inr, arith, ◌≢◌, ◌⊎◌, [], ◌+◌, slice_get, slice_index_or, slice_set, option_map, IsSomeAnd, IfSome, All, get_or-set_same, length-set}
use Rattle.std.proofs.lemmas.Bool.{false≢true}
use Rattle.std.proofs.lemmas.Option.{get_or_from_slice_get, slice_get_within, slice_get-get_or}
use Rattle.std.proofs.lemmas.List.Elements.{All-contains}
use Rattle.uicc_types.specs.Counts.{raised}
use Rattle.uicc_types.specs.declared.answers.StatusWord.{StatusWord}
use Rattle.uicc_types.specs.declared.answers.TheConstants.StatusWord.{DONE}
use Rattle.uicc_types.specs.declared.identifiers.Pin8.{Pin8}
use Rattle.card_state.specs.declared.entries.PinSlot.{PinSlot}
use Rattle.card_state.specs.declared.entries.Loaded.{Loaded}
use Rattle.card_state.specs.Blank.{absent_pin}
use Rattle.card_state.specs.Persistent.{Pin, Persistent}
use Rattle.card_state.specs.Memory.{Memory, held, IsMounted}
use Rattle.card_state.specs.Soundness.{IsSoundPin}
use Rattle.card_state.specs.Standing.{Agrees}
use Rattle.card_state.specs.States.{pins_of, pin_state}
use Rattle.card_state.specs.Used.{HasPin}
use Rattle.access_rules.specs.declared.rules.Verified.{Verified}
use Rattle.file_model.specs.Outcomes.{PinOutcome}
use Rattle.file_model.specs.Pins.{with_pin, marked, tries_left, presented}
use Rattle.layout_laws.specs.Known.{StandingIsCard, SlotsArePins}
use Rattle.card_commits.specs.declared.pins.PinChange.{PinChange}
use Rattle.card_commits.specs.declared.pins.PinChange.TheVariants.{Tries, UnblockTries, Value, Enabled, Unblocked}
use Rattle.card_commits.specs.Entries.{HasPinIn, pin_at, with_pin_at}
use Rattle.card_commits.specs.Pins.{changed_pin, with_pin_changed}
use Rattle.pin_rules.specs.Outcomes.{IsCarriedOut, StandsLast, state_after, IsPinCutShort}
use Rattle.pin_rules.specs.Trials.{GivesTries}

-- ---- the slot

pub is_at : (table : Loaded) (slot : ℕ) (pin : PinSlot) → HasPin table slot pin → pin_at table slot ≡ pin
is_at table slot pin has = get_or_from_slice_get table.pins slot pin absent_pin has.there

-- the PIN of a sound card has few tries
pub sound_pin : StandingIsCard → SlotsArePins → (mark : ℕ) (told : Option (List ℕ)) (table : Loaded) (slot : ℕ) (pin : PinSlot) → HasPin table slot pin → Agrees mark told table → IsSoundPin (pin_state pin)
sound_pin is_card slots mark told table slot pin has agrees =
    let card = is_card mark agrees.content table agrees.state agrees.stands in
    All-contains IsSoundPin agrees.state.pins (pin_state pin) (subst (λ (state : Persistent). All IsSoundPin state.pins) (sym card.1) card.0.sound.pins)
    (slots mark agrees.content table agrees.state slot pin agrees.stands has).there

module _ (table mid : Loaded) (slot : ℕ) (pin new : PinSlot) (has : HasPin table slot pin) (is : mid ≡ with_pin_at table slot new) where
  pub new_at : pin_at mid slot ≡ new
  new_at = ap (λ (t : Loaded). pin_at t slot) is ∙ get_or-set_same table.pins slot new absent_pin (slice_get_within table.pins slot pin has.there)

  pub new_there : new.key ≢ 0 → HasPinIn mid slot
  new_there key =
      let low : slot < length (slice_set table.pins slot new) = omega (arith, slice_get_within table.pins slot pin has.there, length-set table.pins slot new) in
      let found : slice_get mid.pins slot ≡ Some new = ap (λ (t : Loaded). slice_get t.pins slot) is ∙ slice_get-get_or (slice_set table.pins slot new) slot absent_pin low ∙ ap (λ (p : PinSlot). Some p) (get_or-set_same table.pins slot new absent_pin (slice_get_within table.pins slot pin has.there)) in
      subst (λ (o : Option PinSlot). IsSomeAnd o (λ p. p.key ≢ 0)) (sym found) key

-- ---- the changes

-- a change after a try was taken gives all tries
pub restored_pin : (change : PinChange) (pin : PinSlot) (tries : ℕ) → GivesTries change
    → ◌≡◌ {A = Pin} (pin_state (changed_pin change (changed_pin (Tries tries) pin))) (record (pin_state (changed_pin change pin)) { tries = 3 })
unfolding changed_pin
restored_pin (Tries t) pin tries gives = ap (λ (n : ℕ). record (pin_state pin) { tries = n }) gives
restored_pin (UnblockTries t) pin tries gives = absurd gives
restored_pin (Value value) pin tries gives = refl
restored_pin (Enabled enabled) pin tries gives = refl
restored_pin (Unblocked value) pin tries gives = absurd gives

-- ---- the states

abbrev with_pins : List Pin → Persistent → Persistent
with_pins pins state = record state { pins = pins }

-- where a state stood, it stands with these PINs
abbrev pub Becomes : Option Persistent → List Pin → Option Persistent → Type 0
Becomes before pins after = after ≡ option_map (with_pins pins) before

becomes_some : (before after : Option Persistent) (pins : List Pin) → Becomes before pins after → IfSome before (λ state. after ≡ Some (record state { pins = pins }))
becomes_some None after pins becomes = cc
becomes_some (Some state) after pins becomes = becomes

pub moved_first : (before after : Option Persistent) (pins : List Pin) (change : PinChange) (pin : PinSlot) (new : Pin) → ((state : Persistent) → before ≡ Some state → state.pins ≡ pins) → pin_state (changed_pin change pin) ≡ new
    → after ≡ option_map (with_pin_changed change pin) before → Becomes before (with_pin pins new) after
moved_first None after pins change pin new same shown is = is
moved_first (Some state) after pins change pin new same shown is =
    is ∙ ap (λ (p : Pin). Some (record state { pins = with_pin state.pins p })) shown ∙ ap (λ (q : List Pin). Some (record state { pins = with_pin q new })) (same state refl)

pub moved_next : (before mid after : Option Persistent) (pins : List Pin) (change : PinChange) (pin : PinSlot) (new : Pin) → Becomes before pins mid → pin_state (changed_pin change pin) ≡ new
    → after ≡ option_map (with_pin_changed change pin) mid → Becomes before (with_pin pins new) after
moved_next None mid after pins change pin new becomes shown is = is ∙ ap (option_map (with_pin_changed change pin)) becomes
moved_next (Some state) mid after pins change pin new becomes shown is =
    is ∙ ap (option_map (with_pin_changed change pin)) becomes ∙ ap (λ (p : Pin). Some (record state { pins = with_pin pins p })) shown

-- a commit that was stopped between these states left the one before it, or the one after it
abbrev pub IsOneOf : List (List Pin) → ℕ → Option Persistent → Option Persistent → Type 0
IsOneOf passed place before after = (after ≡ option_map (state_after passed place) before) ⊎ (after ≡ option_map (state_after passed (place + 1)) before)

-- ---- what came

-- the table of a store is that of one which tells nothing
untold : {mark : ℕ} {told : Option (List ℕ)} {table : Loaded} → Agrees mark told table → Agrees mark None table
untold agrees = record { content = agrees.content; state = agrees.state; told_is = tt; stands = agrees.stands }

module _ (pins : List Pin) (verified right : Verified) (taken restored : Pin) (left : ℕ) where
  abbrev pub outcome : Bool → PinOutcome
  outcome b = presented pins verified b taken left restored right

  abbrev after_first : List Pin
  after_first = with_pin pins taken

  pub wrong_comes : (b : Bool) → b ≡ false → (status : StatusWord) (marks : Verified) (after : List Pin) → status ≡ tries_left left → marks ≡ marked verified taken.key false → after ≡ after_first → IsCarriedOut (outcome b) pins status marks after
  unfolding presented
  wrong_comes b is status marks after first second third = subst (λ b. IsCarriedOut (outcome b) pins status marks after) (sym is) (record { status_is = first; verified_is = second; pins_are = third })

  pub right_comes : (b : Bool) → b ≡ true → (marks : Verified) (after : List Pin) → marks ≡ right → after ≡ with_pin after_first restored → IsCarriedOut (outcome b) pins DONE marks after
  unfolding presented
  right_comes b is marks after second third = subst (λ b. IsCarriedOut (outcome b) pins DONE marks after) (sym is) (record { status_is = refl; verified_is = second; pins_are = third })

  pub wrong_stands : (b : Bool) → b ≡ false → (old new : Memory) → Becomes (held old) after_first (held new) → new.commits ≡ raised old.commits → StandsLast old new (outcome b).passed
  unfolding presented
  wrong_stands b is old new becomes counted = subst (λ b. StandsLast old new (outcome b).passed) (sym is) (record { stands = becomes_some (held old) (held new) after_first becomes; commits = counted })

  pub right_stands : (b : Bool) → b ≡ true → (old mid new : Memory) → Becomes (held old) (with_pin after_first restored) (held new) → mid.commits ≡ raised old.commits → new.commits ≡ raised mid.commits
      → StandsLast old new (outcome b).passed
  unfolding presented
  right_stands b is old mid new becomes first second = subst (λ b. StandsLast old new (outcome b).passed) (sym is) (record { stands = becomes_some (held old) (held new) (with_pin after_first restored) becomes; commits = second ∙ ap raised first })

  -- the states and the PINs after none, one and both of the commits
  none_done : (b : Bool) (before : Option Persistent) → before ≡ option_map (state_after (outcome b).passed 0) before
  none_done b None = refl
  none_done b (Some state) = refl

  first_done : (b : Bool) (before : Option Persistent) → option_map (with_pins after_first) before ≡ option_map (state_after (outcome b).passed 1) before
  unfolding presented
  first_done b None = refl
  first_done true (Some state) = refl
  first_done false (Some state) = refl

  second_done : (b : Bool) → b ≡ true → (before : Option Persistent) → option_map (with_pins (with_pin after_first restored)) before ≡ option_map (state_after (outcome b).passed 2) before
  unfolding presented
  second_done b is None = refl
  second_done true is (Some state) = refl
  second_done false is (Some state) = absurd (false≢true is)

  pins_after_first : (b : Bool) (before : List Pin) → after_first ≡ slice_index_or (before ∷ (outcome b).passed) 1 []
  unfolding presented
  pins_after_first true before = refl
  pins_after_first false before = refl

  some_passed : (b : Bool) → 0 < length (outcome b).passed
  unfolding presented
  some_passed true = omega arith
  some_passed false = omega arith

  two_passed : (b : Bool) → b ≡ true → 1 < length (outcome b).passed
  unfolding presented
  two_passed true is = omega arith
  two_passed false is = absurd (false≢true is)

  -- where a commit stopped
  pub first_fault : (b : Bool) (before after : Option Persistent) (change : PinChange) (pin : PinSlot) → ((state : Persistent) → before ≡ Some state → state.pins ≡ pins) → pin_state (changed_pin change pin) ≡ taken
      → (after ≡ before) ⊎ (after ≡ option_map (with_pin_changed change pin) before) → IsOneOf (outcome b).passed 0 before after
  first_fault b before after change pin same shown (inl none) = inl (none ∙ none_done b before)
  first_fault b before after change pin same shown (inr all) = inr (moved_first before after pins change pin taken same shown all ∙ first_done b before)

  pub second_fault : (b : Bool) → b ≡ true → (before mid after : Option Persistent) (change : PinChange) (pin : PinSlot) → Becomes before after_first mid → pin_state (changed_pin change pin) ≡ restored
      → (after ≡ mid) ⊎ (after ≡ option_map (with_pin_changed change pin) mid) → IsOneOf (outcome b).passed 1 before after
  second_fault b is before mid after change pin becomes shown (inl none) = inl (none ∙ becomes ∙ first_done b before)
  second_fault b is before mid after change pin becomes shown (inr all) = inr (moved_next before mid after after_first change pin restored becomes shown all ∙ second_done b is before)

  -- what a fault leaves in the first commit, and in the second
  pub cut_first : (b : Bool) (old new : Memory) → IsMounted old → new.table ≡ old.table → new.mark ≡ old.mark → new.commits ≡ old.commits → IsOneOf (outcome b).passed 0 (held old) (held new)
      → IsPinCutShort (outcome b) old new verified verified
  cut_first b old new mounted table mark commits stands = record {
    place = 0;
    one_more = some_passed b;
    table = ap pins_of table;
    stands = stands;
    commits = commits;
    kept = subst (λ (t : Loaded). Agrees new.mark None t) (sym table) (subst (λ (m : ℕ). Agrees m None old.table) (sym mark) (untold mounted.agrees));
    unmoved = refl;
  }

  pub cut_second : (b : Bool) → b ≡ true → (old mid new : Memory) → IsMounted mid → pins_of mid.table ≡ after_first → new.table ≡ mid.table → new.mark ≡ mid.mark → mid.commits ≡ raised old.commits → new.commits ≡ mid.commits
      → IsOneOf (outcome b).passed 1 (held old) (held new) → IsPinCutShort (outcome b) old new verified verified
  cut_second b is old mid new mounted taken_are table mark first second stands = record {
    place = 1;
    one_more = two_passed b is;
    table = ap pins_of table ∙ taken_are ∙ pins_after_first b (pins_of old.table);
    stands = stands;
    commits = second ∙ first;
    kept = subst (λ (t : Loaded). Agrees new.mark None t) (sym table) (subst (λ (m : ℕ). Agrees m None mid.table) (sym mark) (untold mounted.agrees));
    unmoved = refl;
  }

-- ---- the PINs that the two commits set

module _ (table mid : Loaded) (slot tries : ℕ) (pin : PinSlot) (has : HasPin table slot pin) where
  pub tries_shown : ◌≡◌ {A = Pin} (pin_state (changed_pin (Tries tries) (pin_at table slot))) (record (pin_state pin) { tries = tries })
  unfolding changed_pin
  tries_shown = ap (λ (p : PinSlot). record (pin_state p) { tries = tries }) (is_at table slot pin has)

  pub unblock_shown : ◌≡◌ {A = Pin} (pin_state (changed_pin (UnblockTries tries) (pin_at table slot))) (record (pin_state pin) { unblock_tries = tries })
  unfolding changed_pin
  unblock_shown = ap (λ (p : PinSlot). record (pin_state p) { unblock_tries = tries }) (is_at table slot pin has)

  key_stays : (pin_at table slot).key ≢ 0
  key_stays = λ none. has.key (sym (ap (λ (p : PinSlot). p.key) (is_at table slot pin has)) ∙ none)

  pub tries_there : mid ≡ with_pin_at table slot (changed_pin (Tries tries) (pin_at table slot)) → HasPinIn mid slot
  unfolding changed_pin
  tries_there is = new_there table mid slot pin (changed_pin (Tries tries) (pin_at table slot)) has is key_stays

  pub unblock_there : mid ≡ with_pin_at table slot (changed_pin (UnblockTries tries) (pin_at table slot)) → HasPinIn mid slot
  unfolding changed_pin
  unblock_there is = new_there table mid slot pin (changed_pin (UnblockTries tries) (pin_at table slot)) has is key_stays

  pub restored_shown : (change : PinChange) → GivesTries change → mid ≡ with_pin_at table slot (changed_pin (Tries tries) (pin_at table slot))
      → ◌≡◌ {A = Pin} (pin_state (changed_pin change (pin_at mid slot))) (record (pin_state (changed_pin change pin)) { tries = 3 })
  restored_shown change gives is =
      ap (λ (p : PinSlot). pin_state (changed_pin change p)) (new_at table mid slot pin (changed_pin (Tries tries) (pin_at table slot)) has is)
      ∙ ap (λ (p : PinSlot). pin_state (changed_pin change (changed_pin (Tries tries) p))) (is_at table slot pin has)
      ∙ restored_pin change pin tries gives

  pub unblocked_shown : (value : Pin8) → mid ≡ with_pin_at table slot (changed_pin (UnblockTries tries) (pin_at table slot))
      → ◌≡◌ {A = Pin} (pin_state (changed_pin (Unblocked value) (pin_at mid slot))) (record (pin_state (changed_pin (Unblocked value) pin)) { tries = 3; unblock_tries = 10 })
  unfolding changed_pin
  unblocked_shown value is =
      ap (λ (p : PinSlot). pin_state (changed_pin (Unblocked value) p)) (new_at table mid slot pin (changed_pin (UnblockTries tries) (pin_at table slot)) has is)
      ∙ ap (λ (p : PinSlot). pin_state (changed_pin (Unblocked value) (changed_pin (UnblockTries tries) p))) (is_at table slot pin has)

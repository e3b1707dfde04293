-- What a PIN command comes to, where it was refused, carried out or stopped.
use Rattle.std.proofs.Common.{◌≡◌, ℕ, ◌+◌, ◌<◌, ◌≤◌, Bool, true, false, List, [], ◌∷◌, length, Option, Some, None, refl, sym, ap, ◌∙◌, subst, inl, inr, arith, IfErr, IfOk, IfSome, IsSomeAnd, Contains, Result, Ok, Err, IsErr, bytes_eq, true≢false}
use Rattle.std.proofs.lemmas.List.{length-map}
use Rattle.std.proofs.lemmas.List.Elements.{Contains-get_or}
use Rattle.list_laws.proofs.IfSomeLemmas.{if_some, if_some_at}
use Rattle.uicc_types.specs.declared.answers.Answer.{Answer}
use Rattle.uicc_types.specs.declared.answers.StatusWord.{StatusWord}
use Rattle.apdu_form.specs.Model.{Apdu}
use Rattle.card_state.specs.declared.entries.Loaded.{Loaded}
use Rattle.card_state.specs.Persistent.{Pin, Persistent}
use Rattle.card_state.specs.Memory.{Memory, held}
use Rattle.access_rules.specs.declared.rules.Verified.{Verified}
use Rattle.apdu_form.specs.Fields.{has_no_data}
use Rattle.file_model.specs.Outcomes.{PinOutcome, last_of, settled_pin}
use Rattle.file_model.specs.Pins.{pin_found, with_pin, value_presented, tries_left, presented, pin_presented, unblock_presented}
use Rattle.file_model.specs.declared.commands.PinCommand.{PinCommand}
use Rattle.file_model.specs.Commands.{pin_outcome, pin_settled}
use Rattle.file_model.specs.Guards.{guard_of, tries_by, TakesATry, BeginsWith, IsGuarded}
use Rattle.card_commits.specs.Performing.{PassesOne, CommitsAtMost, with_each, IsPinOutcome, IsPinStopped, PerformsPin}
use Rattle.pin_rules.specs.declared.trials.Trial.{Trial}
use Rattle.pin_rules.specs.declared.trials.Trial.TheVariants.{Tell, Present, Unblock}
use Rattle.pin_rules.specs.Outcomes.{IsCarriedOut, StandsLast, state_after, IsPinCutShort, LeavesOneLess}
use Rattle.pin_rules.specs.Trials.{outcome_of, meaning_of, comes_to, IsTrial, OnlyTells}
use Rattle.pin_rules.proofs.GuardedLemmas.{guarded}
use Rattle.pin_rules.proofs.PresentPinLemmas.{IsOneOf}

-- a state after so many of the commits is one that is passed
passed_there : (passed : List (List Pin)) (count : ℕ) (state : Persistent) → count ≤ length passed → Contains (state ∷ with_each state passed) (state_after passed count state)
passed_there passed count state few =
    Contains-get_or (state ∷ with_each state passed) count state (omega (arith, few, length-map passed (λ (pins : List Pin). record state { pins = pins })))

one_passes : (passed : List (List Pin)) (place : ℕ) → place < length passed → (before after : Option Persistent) → IsOneOf passed place before after → PassesOne before after (λ state. with_each state passed)
one_passes passed place low None after one = cc
one_passes passed place low (Some state) after (inl is) =
    subst (λ (o : Option Persistent). IsSomeAnd o (Contains (state ∷ with_each state passed))) (sym is) (passed_there passed place state (omega (arith, low)))
one_passes passed place low (Some state) after (inr is) =
    subst (λ (o : Option Persistent). IsSomeAnd o (Contains (state ∷ with_each state passed))) (sym is) (passed_there passed (place + 1) state (omega (arith, low)))

module _ (command : PinCommand) (pins : List Pin) (verified : Verified) (apdu : Apdu) (tried : Result Trial StatusWord) (means : pin_outcome command pins verified apdu ≡ meaning_of pins verified apdu tried) where
  abbrev outcome : PinOutcome
  outcome = comes_to pins verified apdu tried

  -- what it comes to, from what its tests came to
  pub settled : pin_settled command pins verified apdu ≡ outcome
  unfolding pin_settled
  settled = ap (settled_pin verified) means

  module _ (old new : Memory) (same : (state : Persistent) → held old ≡ Some state → state.pins ≡ pins) where
    -- the same over a store that tells its state
    pub told_same : (state : Persistent) → held old ≡ Some state → outcome ≡ pin_settled command state.pins verified apdu
    told_same state there = sym (ap (λ (p : List Pin). pin_settled command p verified apdu) (same state there) ∙ settled)

    passes_same : (before : Option Persistent) → before ≡ held old → PassesOne before (held new) (λ state. with_each state outcome.passed) → PassesOne before (held new) (λ state. with_each state (pin_settled command state.pins verified apdu).passed)
    passes_same None is passes = cc
    passes_same (Some state) is passes = subst (λ (o : PinOutcome). IsSomeAnd (held new) (Contains (state ∷ with_each state o.passed))) (told_same state (sym is)) passes

    pub stopped_same : (before after : Verified) → IsPinCutShort outcome old new before after → IsPinStopped old new (λ state. pin_settled command state.pins verified apdu)
    stopped_same before after stops = record {
      passes = passes_same (held old) refl (one_passes outcome.passed stops.place stops.one_more (held old) (held new) stops.stands);
      commits = if_some (held old) _ (λ state there.
          subst (λ (o : PinOutcome). CommitsAtMost (length o.passed) old.commits new.commits) (told_same state there) (stops.place, (omega (arith, stops.one_more), stops.commits)));
    }

    pub performs : (answer : Answer) (marks : Verified) (after : List Pin) → answer.body ≡ [] → IsCarriedOut outcome pins answer.status marks after → StandsLast old new outcome.passed
        → IfSome (held old) (λ state. IsPinOutcome state (pin_settled command state.pins verified apdu) answer marks old new)
    performs answer marks after body come last =
        if_some (held old) _ (λ state there.
        subst (λ (o : PinOutcome). IsPinOutcome state o answer marks old new) (told_same state there)
        (record { body = body; status = come.status_is; verified_is = come.verified_is; state_is = if_some_at (held old) _ state last.stands there; commits = last.commits }))

-- stopped by a fault
pub stopped : {E : Type 0} (r : Result Unit E) (old new : Memory) (answer : Answer) (marks : Verified) (outcome : Persistent → PinOutcome) → IsErr r
    → IsPinStopped old new outcome → PerformsPin r old new answer marks outcome
stopped (Ok x) old new answer marks outcome err how = absurd (subst (λ (b : Bool). is_false b) err cc)
  where
    is_false : Bool → Type 0
    is_false false = Unit {0}
    is_false true = ⊥
stopped (Err e) old new answer marks outcome err how = how

-- ---- refusals, and where nothing is committed

abbrev has_first : {X : Type 0} → List X → Type 0
has_first [] = ⊥
has_first (x ∷ xs) = Unit {0}

module _ (pins : List Pin) (verified : Verified) (apdu : Apdu) where
  commits_some : (b : Bool) (taken restored : Pin) (left : ℕ) (right : Verified) → (presented pins verified b taken left restored right).passed ≡ [] → ⊥
  unfolding presented
  commits_some true taken restored left right is = subst (λ (list : List (List Pin)). has_first list) is cc
  commits_some false taken restored left right is = subst (λ (list : List (List Pin)). has_first list) is cc

  -- what commits nothing presents no value
  pub only_tells : (tried : Result Trial StatusWord) → (comes_to pins verified apdu tried).passed ≡ [] → IfOk tried OnlyTells
  unfolding pin_presented unblock_presented
  only_tells (Err status) is = cc
  only_tells (Ok (Tell tries)) is = cc
  only_tells (Ok (Present held change verifies)) is = absurd (commits_some (bytes_eq (value_presented apdu) held.pin.value.0) _ _ _ _ is)
  only_tells (Ok (Unblock held value)) is = absurd (commits_some (bytes_eq (value_presented apdu) held.pin.unblock.0) _ _ _ _ is)

  -- ---- guesses

  presented_once : (b : Bool) (taken restored : Pin) (left tries : ℕ) (right : Verified) → tries ≤ 10 → (presented pins verified b taken left restored right).status ≡ tries_left tries
      → (first : List Pin) × ((presented pins verified b taken left restored right).passed ≡ first ∷ [])
  unfolding presented
  presented_once true taken restored left tries right few is = absurd (omega (arith, few, ap (λ (s : StatusWord). s.0) is))
  presented_once false taken restored left tries right few is = (with_pin pins taken, refl)

  -- where a value was presented and tries are told, there was one commit
  commits_once : (table : Loaded) (trial : Trial) (tries : ℕ) → IsTrial table apdu trial → tries ≤ 10 → has_no_data apdu ≡ false → (outcome_of pins verified apdu trial).status ≡ tries_left tries
      → (first : List Pin) × ((outcome_of pins verified apdu trial).passed ≡ first ∷ [])
  unfolding pin_presented unblock_presented
  commits_once table (Tell left) tries lawful few some is = absurd (true≢false (sym lawful ∙ some))
  commits_once table (Present held change verifies) tries lawful few some is = presented_once (bytes_eq (value_presented apdu) held.pin.value.0) _ _ _ tries _ few is
  commits_once table (Unblock held value) tries lawful few some is = presented_once (bytes_eq (value_presented apdu) held.pin.unblock.0) _ _ _ tries _ few is

  pub one_less : (command : PinCommand) (table : Loaded) (tried : Result Trial StatusWord) (status : StatusWord) (marks : Verified) (after : List Pin)
      → pin_outcome command pins verified apdu ≡ meaning_of pins verified apdu tried → IfOk tried (IsTrial table apdu) → IfErr tried (λ s. 0x6700 ≤ s.0)
      → IsCarriedOut (comes_to pins verified apdu tried) pins status marks after → LeavesOneLess command apdu status pins after
  one_less command table (Err refused) status marks after means lawful usual come tries few some tells = absurd (omega (arith, few, usual, ap (λ (s : StatusWord). s.0) (sym come.status_is ∙ tells)))
  one_less command table (Ok trial) status marks after means lawful usual come tries few some tells =
      let outcome : PinOutcome = outcome_of pins verified apdu trial in
      let guards = subst (λ (r : Result PinOutcome StatusWord). IfOk r (IsGuarded (guard_of command) pins apdu.p2)) means (guarded command pins verified apdu) in
      let told : outcome.status ≡ tries_left tries = sym come.status_is ∙ tells in
      let once = commits_once table trial tries lawful few some told in
      let last : last_of pins outcome.passed ≡ once.0 = ap (last_of pins) once.1 in (
        subst (TakesATry (guard_of command) apdu.p2 pins) (sym last ∙ sym come.pins_are) (subst (BeginsWith (TakesATry (guard_of command) apdu.p2 pins)) once.1 guards.first),
        subst (λ (p : List Pin). IsSomeAnd (pin_found p apdu.p2) (λ pin. tries_by (guard_of command) pin ≡ tries)) (sym come.pins_are) (guards.left tries few told),
      )

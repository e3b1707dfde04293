-- What came of a value that was presented, from what the two commits came to.
use Rattle.std.proofs.Common.{◌≡◌, ℕ, Bool, true, false, List, Some, ap, ◌∙◌, arith, ◌≢◌, Result, Ok, Err, IsErr}
use Rattle.std.proofs.lemmas.Bool.{false≢true}
use Rattle.uicc_types.specs.declared.answers.StatusWord.{StatusWord}
use Rattle.uicc_types.specs.declared.answers.TheConstants.StatusWord.{DONE, MEMORY_PROBLEM}
use Rattle.store_form.specs.declared.store.StoreFault.{StoreFault}
use Rattle.card_state.specs.declared.entries.PinSlot.{PinSlot}
use Rattle.card_state.specs.Memory.{Memory, held, IsMounted, Committed}
use Rattle.card_state.specs.Persistent.{Pin, Persistent}
use Rattle.card_state.specs.States.{pins_of, pin_state}
use Rattle.access_rules.specs.declared.rules.Verified.{Verified}
use Rattle.file_model.specs.Outcomes.{PinOutcome}
use Rattle.file_model.specs.Pins.{with_pin, marked, tries_left, presented}
use Rattle.card_commits.specs.declared.pins.PinChange.{PinChange}
use Rattle.card_commits.specs.Laws.{TablesTellStates}
use Rattle.card_commits.specs.Pins.{changed_pin, with_pin_changed}
use Rattle.pin_rules.specs.Outcomes.{IsPinCutShort, IsTried}
use Rattle.pin_rules.proofs.PresentPinLemmas.{Becomes, moved_first, moved_next, wrong_comes, right_comes, wrong_stands, right_stands, cut_first, cut_second, first_fault, second_fault}

-- a fault stopped it
stopped_so : (outcome : PinOutcome) (old new : Memory) (before after : Verified) (result : Result StatusWord StoreFault) → IsErr result → IsPinCutShort outcome old new before after
    → IsTried outcome old new before after result
stopped_so outcome old new before after (Ok status) err stops = absurd (false≢true err)
stopped_so outcome old new before after (Err fault) err stops = record { comes = tt; stands = tt; usual = tt; stops = stops }

-- A try is taken by the first commit, of a PIN that is `taken` then. A right value brings the second, of the PIN that is restored.
module _ (tell : TablesTellStates) (old : Memory) (mounted : IsMounted old) (verified right : Verified) (taken restored : Pin) (left : ℕ) (is_right : Bool)
    (first : PinChange) (slot : PinSlot) (shown : ◌≡◌ {A = Pin} (pin_state (changed_pin first slot)) taken) where
  abbrev pins : List Pin
  pins = pins_of old.table

  abbrev outcome : PinOutcome
  outcome = presented pins verified is_right taken left restored right

  same : (state : Persistent) → held old ≡ Some state → state.pins ≡ pins
  same state is = (tell old.mark old.told old.table state mounted.agrees is).pins

  pub first_failed : (mid : Memory) (fault : StoreFault) → Committed {T = Unit} old mid (Err fault) (with_pin_changed first slot) → mid.table ≡ old.table → (result : Result StatusWord StoreFault) → IsErr result
      → IsTried outcome old mid verified verified result
  first_failed mid fault failed table result err =
      stopped_so outcome old mid verified verified result err
      (cut_first pins verified right taken restored left is_right old mid mounted table failed.keeps.mark failed.commits
      (first_fault pins verified right taken restored left is_right (held old) (held mid) first slot same shown failed.whole))

  module _ (mid : Memory) (done : Committed {T = Unit} old mid (Ok tt) (with_pin_changed first slot)) (pins_are : pins_of mid.table ≡ with_pin pins (pin_state (changed_pin first slot))) where
    taken_are : pins_of mid.table ≡ with_pin pins taken
    taken_are = pins_are ∙ ap (with_pin pins) shown

    becomes : Becomes (held old) (with_pin pins taken) (held mid)
    becomes = moved_first (held old) (held mid) pins first slot taken same shown done.ok

    pub was_wrong : is_right ≡ false → (status : StatusWord) (marks : Verified) → status ≡ tries_left left → status.0 ≢ MEMORY_PROBLEM.0 → marks ≡ marked verified taken.key false
        → IsTried outcome old mid verified marks (Ok status)
    was_wrong is status marks tells usual marks_are = record {
      comes = wrong_comes pins verified right taken restored left is_right is status marks (pins_of mid.table) tells marks_are taken_are;
      stands = wrong_stands pins verified right taken restored left is_right is old mid becomes done.commits;
      usual = usual;
      stops = tt;
    }

    module _ (is : is_right ≡ true) (second : PinChange) (other : PinSlot) (shows : ◌≡◌ {A = Pin} (pin_state (changed_pin second other)) restored) where
      pub second_failed : (new : Memory) (fault : StoreFault) → Committed {T = Unit} mid new (Err fault) (with_pin_changed second other) → new.table ≡ mid.table → (result : Result StatusWord StoreFault) → IsErr result
          → IsTried outcome old new verified verified result
      second_failed new fault failed table result err =
          stopped_so outcome old new verified verified result err
          (cut_second pins verified right taken restored left is_right is old mid new done.keeps.mounted taken_are table failed.keeps.mark done.commits failed.commits
          (second_fault pins verified right taken restored left is_right is (held old) (held mid) (held new) second other becomes shows failed.whole))

      pub was_right : (new : Memory) → Committed {T = Unit} mid new (Ok tt) (with_pin_changed second other) → pins_of new.table ≡ with_pin (pins_of mid.table) (pin_state (changed_pin second other)) → (marks : Verified) → marks ≡ right
          → IsTried outcome old new verified marks (Ok DONE)
      was_right new last pins_last marks marks_are = record {
        comes = right_comes pins verified right taken restored left is_right is marks (pins_of new.table) marks_are
            (pins_last ∙ ap (λ (known : List Pin). with_pin known (pin_state (changed_pin second other))) taken_are ∙ ap (with_pin (with_pin pins taken)) shows);
        stands = right_stands pins verified right taken restored left is_right is old mid new
            (moved_next (held old) (held mid) (held new) (with_pin pins taken) second other restored becomes shows last.ok) done.commits last.commits;
        usual = λ same. omega (arith, same);
        stops = tt;
      }

-- What the two commits of a value that is presented have written.
use Rattle.std.proofs.Common.{◌≡◌, ◌⊎◌, ℕ, Bool, true, false, List, [], ◌∷◌, take, Some, option_map, Result, Ok, Err, IfOk, IsErr, refl, sym, ◌∙◌, ap, inl, inr, ⊎_elim, arith}
use Rattle.list_laws.proofs.IfSomeLemmas.{if_some}
use Rattle.uicc_types.specs.Counts.{raised}
use Rattle.uicc_types.specs.declared.answers.StatusWord.{StatusWord}
use Rattle.apdu_form.specs.Model.{Apdu}
use Rattle.store_form.specs.declared.store.StoreFault.{StoreFault}
use Rattle.card_state.specs.declared.entries.PinSlot.{PinSlot}
use Rattle.card_state.specs.declared.entries.Loaded.{Loaded}
use Rattle.card_state.specs.Changes.{PinFields, Change, PutPin}
use Rattle.card_state.specs.Memory.{Memory, held}
use Rattle.card_state.specs.Persistent.{Pin, Persistent}
use Rattle.card_state.specs.States.{pins_of, pin_state}
use Rattle.card_state.specs.Used.{HasPin}
use Rattle.access_rules.specs.declared.rules.Verified.{Verified}
use Rattle.file_model.specs.declared.commands.PinCommand.{PinCommand}
use Rattle.file_model.specs.Commands.{first_fields, second_fields, pin_outcome, pin_settled}
use Rattle.file_model.specs.Outcomes.{PinOutcome}
use Rattle.file_model.specs.Pins.{with_pin, presented, pins_put}
use Rattle.card_commits.specs.declared.pins.PinChange.{PinChange}
use Rattle.card_commits.specs.declared.pins.PinChange.TheVariants.{Tries, UnblockTries}
use Rattle.card_commits.specs.Entries.{pin_at, with_pin_at}
use Rattle.card_commits.specs.Performing.{WritesAll}
use Rattle.card_commits.specs.Pins.{changed_pin, fields_of, put_pin}
use Rattle.card_commits.specs.Writing.{written, all_written, WritesChange}
use Rattle.card_commits.proofs.WritesAllLemmas.{Told, none_written, one_written, two_written, writes_alike, stopped_writes}
use Rattle.pin_rules.specs.declared.trials.Trial.{Trial}
use Rattle.pin_rules.specs.declared.trials.Trial.TheVariants.{Tell, Present, Unblock}
use Rattle.pin_rules.specs.Trials.{comes_to, meaning_of, SetsFields, trial_puts}
use Rattle.pin_rules.proofs.OutcomesLemmas.{told_same}
use Rattle.pin_rules.proofs.PresentPinLemmas.{is_at, new_at}

-- ---- the key stays

module _ (table mid : Loaded) (slot tries : ℕ) (pin : PinSlot) (has : HasPin table slot pin) where
  pub key_before : (pin_at table slot).key ≡ pin.key
  key_before = ap (λ (p : PinSlot). p.key) (is_at table slot pin has)

  pub key_after_tries : mid ≡ with_pin_at table slot (changed_pin (Tries tries) (pin_at table slot)) → (pin_at mid slot).key ≡ pin.key
  unfolding changed_pin
  key_after_tries is = ap (λ (p : PinSlot). p.key) (new_at table mid slot pin (changed_pin (Tries tries) (pin_at table slot)) has is) ∙ key_before

  pub key_after_unblock : mid ≡ with_pin_at table slot (changed_pin (UnblockTries tries) (pin_at table slot)) → (pin_at mid slot).key ≡ pin.key
  unfolding changed_pin
  key_after_unblock is = ap (λ (p : PinSlot). p.key) (new_at table mid slot pin (changed_pin (UnblockTries tries) (pin_at table slot)) has is) ∙ key_before

-- ---- the two commits

module _ (old : Memory) (verified right : Verified) (taken restored : Pin) (left : ℕ) (is_right : Bool) (fields : PinFields) (key : ℕ)
    (first : PinChange) (slot : PinSlot) (named : slot.key ≡ key) (shown : ◌≡◌ {A = Pin} (pin_state (changed_pin first slot)) taken) where
  abbrev pins : List Pin
  pins = pins_of old.table

  abbrev taken_first : Change
  taken_first = PutPin (fields_of first) key (with_pin pins taken)

  abbrev restored_then : Change
  restored_then = PutPin fields key (with_pin (with_pin pins taken) restored)

  abbrev puts : List Change
  puts = pins_put (fields_of first) fields key (presented pins verified is_right taken left restored right).passed

  -- the changes, of a wrong value and of a right one
  wrong_puts : is_right ≡ false → puts ≡ taken_first ∷ []
  unfolding presented
  wrong_puts is = ap (λ (b : Bool). pins_put (fields_of first) fields key (presented pins verified b taken left restored right).passed) is

  right_puts : is_right ≡ true → puts ≡ taken_first ∷ restored_then ∷ []
  unfolding presented
  right_puts is = ap (λ (b : Bool). pins_put (fields_of first) fields key (presented pins verified b taken left restored right).passed) is

  first_puts : (b : Bool) → take 1 (pins_put (fields_of first) fields key (presented pins verified b taken left restored right).passed) ≡ taken_first ∷ []
  unfolding presented
  first_puts true = refl
  first_puts false = refl

  first_change : put_pin first pins slot ≡ taken_first
  first_change = λ i. PutPin (fields_of first) (named i) (with_pin pins (shown i))

  first_written : (mid : Memory) → mid.told ≡ option_map (written (put_pin first pins slot)) old.told → mid.told ≡ option_map (written taken_first) old.told
  first_written mid put = put ∙ ap (λ (change : Change). option_map (written change) old.told) first_change

  -- a fault stopped the first
  pub first_stops : (mid : Memory) (fault : StoreFault) → WritesChange {T = Unit} old mid (Err fault) (put_pin first pins slot) → mid.commits ≡ old.commits → (result : Result StatusWord StoreFault) → IsErr result → WritesAll result old mid (λ state. puts)
  first_stops mid fault writes counted result err =
      stopped_writes result old mid (λ state. puts) err (if_some (held old) _ (λ state is. record {
        done = 0;
        few = omega arith;
        commits = counted;
        told =
            ⊎_elim {C = (mid.told ≡ option_map (all_written []) old.told) ⊎ (mid.told ≡ option_map (all_written (take 1 puts)) old.told)}
            (λ kept. inl (kept ∙ none_written old.told))
            (λ put. inr (first_written mid put ∙ one_written taken_first old.told ∙ ap (λ (list : List Change). option_map (all_written list) old.told) (sym (first_puts is_right)))) writes.whole;
      }))

  module _ (mid : Memory) (done : WritesChange {T = Unit} old mid (Ok tt) (put_pin first pins slot)) where
    pub wrong_writes : is_right ≡ false → (status : StatusWord) → WritesAll {E = StoreFault} (Ok status) old mid (λ state. puts)
    wrong_writes is status = if_some (held old) _ (λ state there. first_written mid done.ok ∙ one_written taken_first old.told ∙ ap (λ (list : List Change). option_map (all_written list) old.told) (sym (wrong_puts is)))

    module _ (is : is_right ≡ true) (pins_are : pins_of mid.table ≡ with_pin pins (pin_state (changed_pin first slot))) (second : PinChange) (sets : fields ≡ fields_of second) (other : PinSlot) (also : other.key ≡ key)
        (shows : ◌≡◌ {A = Pin} (pin_state (changed_pin second other)) restored) where
      second_change : put_pin second (pins_of mid.table) other ≡ restored_then
      second_change = λ i. PutPin (sym sets i) (also i) (with_pin ((pins_are ∙ ap (with_pin pins) shown) i) (shows i))

      both_written : (new : Memory) → new.told ≡ option_map (written (put_pin second (pins_of mid.table) other)) mid.told → new.told ≡ option_map (all_written (taken_first ∷ restored_then ∷ [])) old.told
      both_written new put =
          put ∙ ap (λ (change : Change). option_map (written change) mid.told) second_change ∙ ap (λ (told : Told). option_map (written restored_then) told) (first_written mid done.ok)
          ∙ two_written taken_first restored_then old.told

      -- a fault stopped the second
      pub second_stops : (new : Memory) (fault : StoreFault) → WritesChange {T = Unit} mid new (Err fault) (put_pin second (pins_of mid.table) other) → mid.commits ≡ raised old.commits → new.commits ≡ mid.commits
          → (result : Result StatusWord StoreFault) → IsErr result → WritesAll result old new (λ state. puts)
      second_stops new fault writes once counted result err =
          writes_alike result old new (λ state. puts) (λ state. taken_first ∷ restored_then ∷ []) (λ state there. right_puts is)
          (stopped_writes result old new (λ state. taken_first ∷ restored_then ∷ []) err (if_some (held old) _ (λ state there. record {
            done = 1;
            few = omega arith;
            commits = counted ∙ once;
            told =
                ⊎_elim {C = (new.told ≡ option_map (all_written (taken_first ∷ [])) old.told) ⊎ (new.told ≡ option_map (all_written (taken_first ∷ restored_then ∷ [])) old.told)}
                (λ kept. inl (kept ∙ first_written mid done.ok ∙ one_written taken_first old.told)) (λ put. inr (both_written new put)) writes.whole;
          })))

      pub right_writes : (new : Memory) → WritesChange {T = Unit} mid new (Ok tt) (put_pin second (pins_of mid.table) other) → (status : StatusWord) → WritesAll {E = StoreFault} (Ok status) old new (λ state. puts)
      right_writes new writes status =
          if_some (held old) _ (λ state there. both_written new writes.ok ∙ ap (λ (list : List Change). option_map (all_written list) old.told) (sym (right_puts is)))

-- ---- a command

module _ (command : PinCommand) (pins : List Pin) (verified : Verified) (apdu : Apdu) (tried : Result Trial StatusWord) (means : pin_outcome command pins verified apdu ≡ meaning_of pins verified apdu tried)
    (sets : IfOk tried (SetsFields command apdu.p2)) where
  abbrev of_command : List (List Pin) → List Change
  of_command passed = pins_put (first_fields command) (second_fields command) apdu.p2 passed

  same_puts : (t : Result Trial StatusWord) → IfOk t (SetsFields command apdu.p2) → of_command (comes_to pins verified apdu t).passed ≡ trial_puts t (comes_to pins verified apdu t).passed
  same_puts (Err status) known = refl
  same_puts (Ok (Tell tries)) known = refl
  same_puts (Ok (Present held change verifies)) known = λ i. pins_put (known.1 i) (known.2 i) (sym known.0 i) (comes_to pins verified apdu (Ok (Present held change verifies))).passed
  same_puts (Ok (Unblock held value)) known = λ i. pins_put (known.1 i) (known.2 i) (sym known.0 i) (comes_to pins verified apdu (Ok (Unblock held value))).passed

  pub command_writes : {X E : Type 0} (result : Result X E) (old new : Memory) → ((state : Persistent) → held old ≡ Some state → state.pins ≡ pins) → WritesAll result old new (λ state. trial_puts tried (comes_to pins verified apdu tried).passed)
      → WritesAll result old new (λ state. of_command (pin_settled command state.pins verified apdu).passed)
  command_writes result old new same writes =
      writes_alike result old new (λ state. of_command (pin_settled command state.pins verified apdu).passed) (λ state. trial_puts tried (comes_to pins verified apdu tried).passed)
      (λ state is. ap (λ (o : PinOutcome). of_command o.passed) (sym (told_same command pins verified apdu tried means old new same state is)) ∙ same_puts tried sets) writes

-- The timer that is due first.
use Rattle.std.proofs.Common.{◌≡◌, ℕ, ◌+◌, ◌-◌, ◌<◌, ◌≤◌, List, [], ◌∷◌, Option, Some, None, Bool, true, false, refl, arith, suc, zero, nat_le, slice_index_or, if◌then◌else◌, subst}
use Rattle.std.proofs.lemmas.Grind.{common_steps}
use Rattle.handset_model.specs.declared.known.Due.{Due}
use Rattle.handset_model.specs.declared.known.Running.{Running}
use Rattle.handset_model.specs.Timers.{due_of, sooner, soonest, IsSoonest, DueNever}

abbrev at : List (Option Running) → ℕ → Option Running
at timers place = slice_index_or timers place None

record IsFirst (number : ℕ) (timers : List (Option Running)) (due : Due) : Type 0 where
  from : number ≤ due.timer
  runs : at timers (due.timer - number) ≡ Some (record { due = due.due; value = due.value })
  earliest : (place : ℕ) (running : Running) → at timers place ≡ Some running → due.due ≤ running.due
  lowest : (place : ℕ) (running : Running) → at timers place ≡ Some running → running.due ≡ due.due → due.timer ≤ number + place

-- what is known of the first of some timers, or that none runs
abbrev Tells : ℕ → List (Option Running) → Option Due → Type 0
Tells number timers None = (place : ℕ) → at timers place ≡ None
Tells number timers (Some due) = IsFirst number timers due

no_slot : (number : ℕ) (others : List (Option Running)) (first : Option Due) → Tells (suc number) others first → Tells number (None ∷ others) first
no_slot number others None none = none_at
  where
    none_at : (place : ℕ) → at (None ∷ others) place ≡ None
    none_at zero = refl
    none_at (suc place) = none place
no_slot number others (Some due) is =
    let place : ℕ = due.timer - suc number in
    let here : due.timer - number ≡ suc place = omega (arith, is.from) in
    record {
      from = omega (arith, is.from);
      runs = rw here is.runs;
      earliest = λ k running runs. grind (arith, common_steps, is.earliest);
      lowest = λ k running runs same. grind (arith, common_steps, is.lowest);
    }

alone : (number : ℕ) (running : Running) (others : List (Option Running)) → Tells (suc number) others None
    → IsFirst number (Some running ∷ others) (record { timer = number; due = running.due; value = running.value })
alone number running others none =
    let zero_place : number - number ≡ 0 = omega arith in
    record {
      from = omega arith;
      runs = rw zero_place refl;
      earliest = λ k other runs. grind (arith, common_steps, none);
      lowest = λ k other runs same. omega arith;
    }

before_others : (number : ℕ) (running : Running) (others : List (Option Running)) (due : Due) → running.due ≤ due.due → IsFirst (suc number) others due
    → IsFirst number (Some running ∷ others) (record { timer = number; due = running.due; value = running.value })
before_others number running others due soon is =
    let zero_place : number - number ≡ 0 = omega arith in
    record {
      from = omega arith;
      runs = rw zero_place refl;
      earliest = λ k other runs. grind (arith, common_steps, is.earliest, soon);
      lowest = λ k other runs same. omega arith;
    }

after_others : (number : ℕ) (running : Running) (others : List (Option Running)) (due : Due) → due.due < running.due → IsFirst (suc number) others due
    → IsFirst number (Some running ∷ others) due
after_others number running others due late is =
    let place : ℕ = due.timer - suc number in
    let there : due.timer - number ≡ suc place = omega (arith, is.from) in
    record {
      from = omega (arith, is.from);
      runs = rw there is.runs;
      earliest = λ k other runs. grind (arith, common_steps, is.earliest, late);
      lowest = λ k other runs same. grind (arith, common_steps, is.lowest, late);
    }

by_test : (test : Bool) (number : ℕ) (running : Running) (others : List (Option Running)) (due : Due) → nat_le running.due due.due ≡ test → IsFirst (suc number) others due
    → Tells number (Some running ∷ others) (if test then Some (record { timer = number; due = running.due; value = running.value }) else Some due)
by_test true number running others due is first = before_others number running others due (grind (arith, common_steps, is)) first
by_test false number running others due is first = after_others number running others due (grind (arith, common_steps, is)) first

some_slot : (number : ℕ) (running : Running) (others : List (Option Running)) (first : Option Due) → Tells (suc number) others first
    → Tells number (Some running ∷ others) (sooner (due_of number (Some running)) first)
some_slot number running others None none = alone number running others none
some_slot number running others (Some due) is = by_test (nat_le running.due due.due) number running others due refl is

told : (number : ℕ) (timers : List (Option Running)) → Tells number timers (soonest number timers)
told number [] = λ place. refl
told number (None ∷ others) = no_slot number others (soonest (suc number) others) (told (suc number) others)
told number (Some running ∷ others) = some_slot number running others (soonest (suc number) others) (told (suc number) others)

pub first : (timers : List (Option Running)) (due : Due) → soonest 1 timers ≡ Some due → IsSoonest timers due
first timers due is =
    let tells : IsFirst 1 timers due = subst (λ (found : Option Due). Tells 1 timers found) is (told 1 timers) in
    record {
      runs = grind (arith, common_steps, tells.runs, tells.from);
      earliest = λ other running runs. grind (arith, common_steps, tells.earliest (other - 1) running);
      lowest = λ other running runs same. grind (arith, common_steps, tells.lowest (other - 1) running);
    }

pub none : (timers : List (Option Running)) → soonest 1 timers ≡ None → DueNever timers
none timers is = λ timer.
    let tells : ((place : ℕ) → at timers place ≡ None) = subst (λ (found : Option Due). Tells 1 timers found) is (told 1 timers) in
    grind (arith, common_steps, tells (timer - 1))

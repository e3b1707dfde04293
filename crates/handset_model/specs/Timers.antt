-- The timers of a handset: which is due first, and what is left of one (ETSI TS 102 223, 8.37 and 8.38).
use Rattle.std.specs.Prelude.{◌≡◌, ℕ, suc, ◌+◌, ◌-◌, ◌*◌, ◌/◌, ◌%◌, ◌≤◌, ◌==◌, nat_le, List, [], ◌∷◌, Option, Some, None, slice_index_or, if◌then◌else◌}
use Rattle.toolkit_commands.specs.declared.commands.TimeValue.{TimeValue}
use Rattle.handset_model.specs.declared.known.Due.{Due}
use Rattle.handset_model.specs.declared.known.Running.{Running}

-- a time in seconds
abbrev pub seconds_of : TimeValue → ℕ
seconds_of value = 3600 * value.hours + 60 * value.minutes + value.seconds

-- so many seconds as a time, with minutes and seconds below 60; 99:59:59 where it is more than that
abbrev pub time_of : ℕ → TimeValue
time_of seconds =
    if nat_le 360000 seconds then record { hours = 99; minutes = 59; seconds = 59 }
    else record { hours = seconds / 3600; minutes = seconds / 60 % 60; seconds = seconds % 60 }

-- the timer of this number, of those from 1 on
abbrev pub timer_in : List (Option Running) → ℕ → Option Running
timer_in timers timer = if timer == 0 then None else slice_index_or timers (timer - 1) None

-- the earlier one; of two at one moment the first
abbrev pub sooner : Option Due → Option Due → Option Due
sooner None second = second
sooner (Some first) None = Some first
sooner (Some first) (Some second) = if nat_le first.due second.due then Some first else Some second

-- the timer with the moment at which it is due, if it runs
abbrev pub due_of : ℕ → Option Running → Option Due
due_of timer None = None
due_of timer (Some running) = Some (record { timer = timer; due = running.due; value = running.value })

-- the timer that is due first, of those from this number on
abbrev pub soonest : ℕ → List (Option Running) → Option Due
soonest timer [] = None
soonest timer (slot ∷ others) = sooner (due_of timer slot) (soonest (suc timer) others)

-- the timer runs to the end that is said, no other is due earlier, and none with a lower number at that moment
pub record IsSoonest (timers : List (Option Running)) (due : Due) : Type 0 where
  pub runs : timer_in timers due.timer ≡ Some (record { due = due.due; value = due.value })
  pub earliest : (other : ℕ) (running : Running) → timer_in timers other ≡ Some running → due.due ≤ running.due
  pub lowest : (other : ℕ) (running : Running) → timer_in timers other ≡ Some running → running.due ≡ due.due → due.timer ≤ other

-- no timer runs
abbrev pub DueNever : List (Option Running) → Type 0
DueNever timers = (timer : ℕ) → timer_in timers timer ≡ None

-- The events that the handset is to report, found by an index of the rows (ETSI TS 102 223, 8.25).
use Rattle.std.specs.Prelude.{ℕ, Bool, not, ◌&&◌, ◌==◌, List, length, filter}
use Rattle.terminal_profile.specs.Profiles.{allowed_event}
use Rattle.toolkit_model.specs.Driving.{download_codes}
use Rattle.event_dispatch.specs.Indexes.{targets_in}

-- the index has a shelf under the code
abbrev pub is_heard : List (List ℕ) → ℕ → Bool
is_heard lists code = not (length (targets_in lists code) == 0)

-- and the handset can report the event
abbrev pub is_asked_for : List ℕ → List (List ℕ) → ℕ → Bool
is_asked_for profile lists code = is_heard lists code && allowed_event profile code

-- the events that an index asks the handset for, by its profile
abbrev pub events_in : List ℕ → List (List ℕ) → List ℕ
events_in profile lists = filter (is_asked_for profile lists) download_codes

-- How a late trigger lies in a frame of bytes: the shelf, the code of the event, and the body.
use Rattle.std.specs.Prelude.{ℕ, ◌≤◌, List, length, drop, slice_index_or}
use Rattle.toolkit_model.specs.Sessions.{LateTrigger}
use Rattle.event_dispatch.specs.declared.late.KeptTrigger.{KeptTrigger}

-- a frame has a shelf, a code and a body of at most 255 bytes
pub record IsTriggerFrame (part : List ℕ) : Type 0 where
  pub begins : 2 ≤ length part
  pub ends : length part ≤ 257

-- the trigger of a frame
abbrev pub trigger_in : List ℕ → LateTrigger
trigger_in part = record { shelf = slice_index_or part 0 0; code = slice_index_or part 1 0; body = drop 2 part }

-- a trigger as the session keeps it
abbrev pub kept : KeptTrigger → LateTrigger
kept trigger = record { shelf = trigger.shelf.0; code = trigger.code; body = trigger.body }

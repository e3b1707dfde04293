-- What an envelope triggers, as it is found.
use Rattle.std.specs.Prelude.{◌≡◌, ◌≢◌, ◌≤◌, length, All, AllPairs}
use Rattle.card_state.specs.declared.entries.Loaded.{Loaded}
use Rattle.card_commits.specs.Entries.{HasRowOn}
use Rattle.toolkit_model.specs.Commands.{Trigger as Event}
use Rattle.cat_commands.specs.declared.triggers.Trigger.{Trigger}

-- it is this event for these shelves, which are different ones with rows
pub record IsTriggerOf (table : Loaded) (event : Event) (trigger : Trigger) : Type 0 where
  pub shelves : trigger.shelves ≡ event.shelves
  pub code : trigger.code ≡ event.code
  pub body : trigger.body.now ≡ event.body
  pub short : length trigger.body.now ≤ 255
  pub rows : All (HasRowOn table) trigger.shelves
  pub apart : AllPairs (λ a b. a ≢ b) trigger.shelves

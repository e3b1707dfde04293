-- What a commit of the toolkit changes of what the card holds.
use Rattle.std.specs.Prelude.{ℕ, true, List, []}
use Rattle.std.specs.Option.{option_map_or}
use Rattle.card_state.specs.declared.entries.Row.{Row}
use Rattle.card_state.specs.Changes.{Change, PutEvents, PutKept}
use Rattle.card_state.specs.Events.{bits_for}
use Rattle.card_state.specs.Kinds.{known_codes}
use Rattle.card_state.specs.Persistent.{Registration}
use Rattle.applet_trait.specs.declared.stimuli.Act.{Act}
use Rattle.applet_trait.specs.declared.stimuli.Act.TheVariants.{Keep}
use Rattle.toolkit_model.specs.Registry.{row_on}

-- the bits of the events that have these codes
abbrev pub events_of : List ℕ → ℕ
events_of codes = bits_for known_codes codes

-- the entry of a row
abbrev pub entry_of : Registration → Row
entry_of row = record {
  used = true;
  kind = row.kind;
  priority = row.priority;
  sequence = row.sequence;
  events = events_of row.codes;
  text = row.text;
  kept = row.kept;
}

-- the event codes of the row of a shelf; none where there is no row
abbrev pub codes_on : List Registration → ℕ → List ℕ
codes_on rows shelf = option_map_or (λ row. row.codes) (row_on rows shelf) []

-- What is changed by the commit of an act of the applet on this shelf, after which the rows are these: for Keep the bytes that the row keeps, for
-- Register and Deregister its events. No other act commits.
abbrev pub change_by : ℕ → Act → List Registration → Change
change_by shelf (Keep bytes) rows = PutKept shelf bytes
change_by shelf _ rows = PutEvents shelf (events_of (codes_on rows shelf))

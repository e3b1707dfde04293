-- Which applets were told of an event, in order.
use Rattle.std.specs.Prelude.{ℕ, List, Option, Some, None}
use Rattle.std.specs.List.{filter_map}
use Rattle.applet_trait.specs.declared.stimuli.Stimulus.{Stimulus}
use Rattle.applet_trait.specs.declared.stimuli.Stimulus.TheVariants.{Event}
use Rattle.toolkit_model.specs.Passing.{Happening, Turned}

-- the shelf of a turn that is told of an event
abbrev pub shelf_if : ℕ → Stimulus → Option ℕ
shelf_if shelf (Event code body) = Some shelf
shelf_if shelf _ = None

-- the shelf of the applet that was told of the event in this turn
abbrev pub begun_in : Happening → Option ℕ
begun_in (Turned turn) = shelf_if turn.shelf turn.stimulus
begun_in _ = None

-- the shelves of the applets that were told of the event, in their order
abbrev pub begun : List Happening → List ℕ
begun log = filter_map begun_in log

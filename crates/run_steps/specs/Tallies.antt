-- What is counted at the two ends of a run, over any memory and any sink.
use Rattle.std.specs.Prelude.{◌≡◌, ◌≤◌, ℕ, List, Option, is_some}
use Rattle.byte_streams.specs.Streams.{CountsEach}
use Rattle.byte_streams.specs.declared.streams.Sink.{Ghosts as SinkWords}
use Rattle.run_steps.specs.Ends.{End}

-- how often the device of the card's memory has failed, how often the sink of the trace has, and what the sink has taken, where it tells that
pub record Tally : Type 0 where
  pub memory : ℕ
  pub sink : ℕ
  pub taken : Option (List ℕ)

-- what is counted at a card and a sink
abbrev pub tally : {W : Type 0} → SinkWords W → End → W → Tally
tally words end trace = record { memory = end.parts.meter.faults; sink = words.faults trace; taken = words.taken trace }

-- The count of the memory's faults doesn't fall, the sink has counted one failure where it failed in this, and else none, and a sink that tells what
-- it has taken goes on telling it.
pub record Tallies (old new : Tally) (IsSinkFailed : Type 0) : Type 0 where
  pub kept : old.memory ≤ new.memory
  pub sink : CountsEach old.sink new.sink IsSinkFailed
  pub tells : is_some new.taken ≡ is_some old.taken

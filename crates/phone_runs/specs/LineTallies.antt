-- What is counted of memory, source and sink while lines of a script are carried out.
use Rattle.std.specs.Prelude.{ℕ}
use Rattle.uicc_types.specs.Counts.{Rose}
use Rattle.byte_streams.specs.Streams.{CountsEach}
use Rattle.script_reader.specs.declared.behind.PlayEnd.{PlayEnd}
use Rattle.script_reader.specs.declared.behind.PlayEnd.TheVariants.{ReadFailed, SinkFailed, ResetFailed}
use Rattle.run_steps.specs.Tallies.{Tally, Tallies}

-- What the steps of the lines count; the count of the source's failures rises where it failed, and only there; and where a
-- reset failed the count of the memory's faults rose.
pub record TalliesLines (old new : Tally) (source_before source_now : ℕ) (EndsBy : PlayEnd → Type 0) : Type 0 where
  pub steps : Tallies old new (EndsBy SinkFailed)
  pub source_cause : CountsEach source_before source_now (EndsBy ReadFailed)
  pub reset : EndsBy ResetFailed → Rose old.memory new.memory

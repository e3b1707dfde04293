-- What the adapters of standard input and output are made of.
use Rattle.std.specs.Prelude.{ℕ}
use Rattle.byte_streams.specs.declared.standard.InputSource.{InputSource}
use Rattle.byte_streams.specs.declared.standard.OutputSink.{OutputSink}

-- the reader that a source hands on from
abbrev pub reader_of : {I : Type 0} → InputSource I → I
reader_of source = source.input

-- the writer that a sink writes to
abbrev pub writer_of : {O : Type 0} → OutputSink O → O
writer_of sink = sink.output

-- how often it has failed
abbrev pub source_faults : {I : Type 0} → InputSource I → ℕ
source_faults source = source.faults

-- the faults that an adapter of standard output counted
abbrev pub sink_faults : {O : Type 0} → OutputSink O → ℕ
sink_faults sink = sink.faults

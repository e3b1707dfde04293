-- What the counts that are taken from bytes mean.
use Rattle.std.specs.List.{flat_map}
use Rattle.std.specs.Prelude.{◌≡◌, List}
use Rattle.script_form.specs.Traces.{trace_text}
use Rattle.script_form.specs.declared.trace.TraceLine.{TraceLine}
use Rattle.long_runs.specs.Counts.{counts_of}
use Rattle.long_runs.specs.Walks.{counted_in}

-- they are those of the lines that the text is of
abbrev pub CountsAreThoseOfTheLines : Type 0
CountsAreThoseOfTheLines = (lines : List TraceLine) → counted_in (flat_map trace_text lines) ≡ counts_of lines

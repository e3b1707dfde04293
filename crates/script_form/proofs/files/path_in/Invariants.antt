-- The bytes are those of the path so far, and what is left of them.
use Rattle.std.proofs.Common.{◌≡◌, ◌<◌, ◌++◌, length, All}
use Rattle.script_form.specs.Values.{IsFree, path_bytes}
use Rattle.script_form.proofs.files.path_in.Given as goal

abbrev pub invariant-loop-rest : goal.invariant-loop-rest
invariant-loop-rest l = record {
  so_far : l.bytes ≡ path_bytes l.path ++ l.rest;
  some : 0 < length l.path;
  free : All IsFree l.path;
}

abbrev pub decreases-loop-rest : goal.decreases-loop-rest
decreases-loop-rest l = length l.rest

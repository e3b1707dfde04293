-- The counts of a trace, taken from its bytes one after the other: a line's first bytes tell its kind. This is the walk of the code
-- once more; what it means is the law over it, `CountsAreThoseOfTheLines`.
use Rattle.std.specs.List.{starts_with}
use Rattle.std.specs.Prelude.{ℕ, ◌+◌, ◌-◌, ◌^◌, min, Bool, ◌==◌, nat_eq, nat_lt, List, [], ◌∷◌, ◌++◌, codes, fold, length, if◌then◌else◌}
use Rattle.long_runs.specs.declared.counts.Counts.{Counts}
use Rattle.long_runs.specs.declared.walk.TheConstants.{HEAD}
use Rattle.long_runs.specs.declared.walk.Walk.{Walk}

-- one more, or no more
abbrev pub more : Bool → ℕ → ℕ
more is_more count = if is_more then min (count + 1) (2 ^ 64 - 1) else count

-- the counts with a line that begins so
abbrev pub counts_with : List ℕ → Counts → Counts
counts_with head counts = record {
  commands = more (starts_with nat_eq head (codes "> ")) counts.commands;
  fetches = more (starts_with nat_eq head (codes "> 8012")) counts.fetches;
  responses = more (starts_with nat_eq head (codes "> 8014")) counts.responses;
  envelopes = more (starts_with nat_eq head (codes "> 80C2")) counts.envelopes;
  busy = more (starts_with nat_eq head (codes "* busy")) counts.busy;
}

-- the counts with a command of the toolkit's class whose instruction has these digits, by its kind alone
abbrev pub with_instruction : ℕ → ℕ → Counts → Counts
with_instruction high low counts = record {
  commands = counts.commands;
  fetches = more (starts_with nat_eq (high ∷ low ∷ []) (codes "12")) counts.fetches;
  responses = more (starts_with nat_eq (high ∷ low ∷ []) (codes "14")) counts.responses;
  envelopes = more (starts_with nat_eq (high ∷ low ∷ []) (codes "C2")) counts.envelopes;
  busy = counts.busy;
}

-- the first bytes of a line with one more, if there is room
abbrev pub grown : List ℕ → ℕ → List ℕ
grown head byte = if nat_lt (length head) HEAD then head ++ byte ∷ [] else head

-- a byte further; the byte 0A ends a line
abbrev pub step : Walk → ℕ → Walk
step walk byte =
    if byte == 10 then record { head = []; counts = counts_with walk.head walk.counts }
    else record { head = grown walk.head byte; counts = walk.counts }

-- before the first byte of a trace
abbrev pub start : Walk
start = record { head = []; counts = record { commands = 0; fetches = 0; responses = 0; envelopes = 0; busy = 0 } }

-- what is counted in a text
unfoldable pub counted_in : List ℕ → Counts
counted_in text = (fold step start text).counts

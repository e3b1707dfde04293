-- The counts of lines, added up one after the other.
use Rattle.std.proofs.Common.{◌≡◌, ℕ, ◌+◌, ◌-◌, ◌^◌, ◌≤◌, Bool, true, false, cond, List, [], ◌∷◌, refl, sym, ap, ◌∙◌, arith, fold, count_by}
use Rattle.std.proofs.lemmas.List.Sums.{sum_by-cons}
use Rattle.script_form.specs.declared.trace.TraceLine.{TraceLine}
use Rattle.long_runs.specs.Counts.{capped, counts_of, envelope, fetch, is_busy, is_command, is_toolkit_command, terminal_response}
use Rattle.long_runs.specs.CountLaws.{CountsAreThoseOfTheLines}
use Rattle.long_runs.specs.Walks.{counted_in, more, start}
use Rattle.long_runs.specs.declared.counts.Counts.{Counts}
use Rattle.long_runs.specs.declared.walk.Walk.{Walk}
use Rattle.long_runs.proofs.CountsWithLemmas.{with}
use Rattle.long_runs.proofs.WalkLemmas.{all_lines}

-- one line more, and then the others
capped_more : (is_more : Bool) (count others : ℕ) → capped (more is_more count + others) ≡ capped (count + (cond is_more 1 0 + others))
capped_more true count others = omega arith
capped_more false count others = omega arith

-- the counts of these lines, on top of others
abbrev added : Counts → List TraceLine → Counts
added from lines = record {
  commands = capped (from.commands + count_by is_command lines);
  fetches = capped (from.fetches + count_by (is_toolkit_command fetch) lines);
  responses = capped (from.responses + count_by (is_toolkit_command terminal_response) lines);
  envelopes = capped (from.envelopes + count_by (is_toolkit_command envelope) lines);
  busy = capped (from.busy + count_by is_busy lines);
}

all_five : (a b c d e a_then b_then c_then d_then e_then : ℕ) → a ≡ a_then → b ≡ b_then → c ≡ c_then → d ≡ d_then → e ≡ e_then
    → (let made : Counts = record { commands = a; fetches = b; responses = c; envelopes = d; busy = e } in made)
    ≡ record { commands = a_then; fetches = b_then; responses = c_then; envelopes = d_then; busy = e_then }
all_five a b c d e a_then b_then c_then d_then e_then is_a is_b is_c is_d is_e = rw (is_a, is_b, is_c, is_d, is_e) refl

added_more : (from : Counts) (said : TraceLine) (lines : List TraceLine) → added (with said from) lines ≡ added from (said ∷ lines)
added_more from said lines =
    all_five _ _ _ _ _ _ _ _ _ _ (one_more is_command from.commands) (one_more (is_toolkit_command fetch) from.fetches) (one_more (is_toolkit_command terminal_response) from.responses)
    (one_more (is_toolkit_command envelope) from.envelopes) (one_more is_busy from.busy)
  where
    one_more : (counts_for : TraceLine → Bool) (count : ℕ) → capped (more (counts_for said) count + count_by counts_for lines) ≡ capped (count + count_by counts_for (said ∷ lines))
    one_more counts_for count =
        capped_more (counts_for said) count (count_by counts_for lines) ∙ ap (λ (n : ℕ). capped (count + n)) (sym (sum_by-cons (λ (l : TraceLine). cond (counts_for l) 1 0) said lines))

-- the counts are capped
record IsCapped (counts : Counts) : Type 0 where
  commands : counts.commands ≤ 2 ^ 64 - 1
  fetches : counts.fetches ≤ 2 ^ 64 - 1
  responses : counts.responses ≤ 2 ^ 64 - 1
  envelopes : counts.envelopes ≤ 2 ^ 64 - 1
  busy : counts.busy ≤ 2 ^ 64 - 1

more_is_capped : (is_more : Bool) (count : ℕ) → count ≤ 2 ^ 64 - 1 → more is_more count ≤ 2 ^ 64 - 1
more_is_capped true count fits = omega arith
more_is_capped false count fits = fits

with_is_capped : (said : TraceLine) (counts : Counts) → IsCapped counts → IsCapped (with said counts)
with_is_capped said counts c = record {
  commands = more_is_capped (is_command said) counts.commands c.commands;
  fetches = more_is_capped (is_toolkit_command fetch said) counts.fetches c.fetches;
  responses = more_is_capped (is_toolkit_command terminal_response said) counts.responses c.responses;
  envelopes = more_is_capped (is_toolkit_command envelope said) counts.envelopes c.envelopes;
  busy = more_is_capped (is_busy said) counts.busy c.busy;
}

capped_none : (count : ℕ) → count ≤ 2 ^ 64 - 1 → count ≡ capped (count + 0)
capped_none count fits = omega arith

all_added : (lines : List TraceLine) (counts : Counts) → IsCapped counts → fold (λ (c : Counts) (said : TraceLine). with said c) counts lines ≡ added counts lines
all_added [] counts c = all_five _ _ _ _ _ _ _ _ _ _ (capped_none counts.commands c.commands) (capped_none counts.fetches c.fetches) (capped_none counts.responses c.responses) (capped_none counts.envelopes c.envelopes) (capped_none counts.busy c.busy)
all_added (said ∷ lines) counts c = all_added lines (with said counts) (with_is_capped said counts c) ∙ added_more counts said lines

from_none : (count : ℕ) → capped (0 + count) ≡ capped count
from_none count = omega arith

pub counts_are_those : CountsAreThoseOfTheLines
unfolding counted_in counts_of
counts_are_those lines =
    ap (λ (walk : Walk). walk.counts) (all_lines lines start.counts)
    ∙ all_added lines start.counts (record { commands = omega arith; fetches = omega arith; responses = omega arith; envelopes = omega arith; busy = omega arith })
    ∙ all_five _ _ _ _ _ _ _ _ _ _ (from_none _) (from_none _) (from_none _) (from_none _) (from_none _)

use Rattle.std.proofs.Common.{List, ℕ, length, subst, rules}
use Rattle.byte_streams.specs.Search.{NoEndBelow}
use Rattle.byte_streams.proofs.WindowLemmas.{stays_small, takes_more}
use Rattle.byte_streams.proofs.window.Window.fill_on.Goals as goal

pub returns-in-Ok-eq0-clause-taken : goal.returns-in-Ok-eq0-clause-taken
returns-in-Ok-eq0-clause-taken g c =
    let taken = c.in-Ok-eq0.ensures.ok in
    takes_more _ _ _ _ _ _ taken.0 c.pieces.invariant.taken taken.2 taken.3

pub returns-in-Some-clause-taken : goal.returns-in-Some-clause-taken
returns-in-Some-clause-taken g c =
    let taken = c.in-Ok.ensures.ok in
    takes_more _ _ _ _ _ _ taken.0 c.pieces.invariant.taken taken.2 taken.3

pub pieces-preserved : goal.pieces-preserved
pieces-preserved g c =
    let taken = c.in-Ok.ensures.ok in
    record {
      taken = takes_more _ _ _ _ _ _ taken.0 c.pieces.invariant.taken taken.2 taken.3;
      idle = search rules;
      small = stays_small _ _ _ _ _ _ taken.2 taken.1 c.as_slice-searched.ensures.value c.if-searched-most.false c.in-Ok.ensures.within;
      none = subst (λ (bytes : List ℕ). NoEndBelow bytes (length bytes)) c.as_slice.ensures.value c.in_default.ensures;
      no_failure = search rules;
    }

use Rattle.std.proofs.Common.{◌≡◌, ℕ, List, [], take, ap, sym, ◌∙◌, arith}
use Rattle.std.proofs.lemmas.Grind.{common_steps}
use Rattle.long_runs.specs.Walks.{counts_with}
use Rattle.long_runs.proofs.WalkLemmas.{at, whole_line}
use Rattle.long_runs.proofs.IsWholeLineLemmas.{first_six}
use Rattle.long_runs.proofs.walk.Walk.follow.Goals as goal

pub returns-in-Some : goal.returns-in-Some
returns-in-Some c =
    let walk = c.args.self.now in let line = c.in-Some.line.now in
    let fresh : walk.head ≡ [] = grind (arith, common_steps, c.as_slice.ensures.value, c.is_empty.ensures, c.if-is_empty.true) in
    let first : take c.min.result line ≡ take 6 line = ap (λ (count : ℕ). take count line) c.min.ensures ∙ first_six line in
    let counted : c.count_line.new.counts ≡ counts_with (take 6 line) walk.counts = c.count_line.ensures ∙ ap (λ (head : List ℕ). counts_with head walk.counts) first in
    ap (λ (head : List ℕ). at head c.count_line.new.counts) fresh ∙ ap (at []) counted ∙ sym (whole_line walk c.args.part.now line fresh c.in-Some.ensures)

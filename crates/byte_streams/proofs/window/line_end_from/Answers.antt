use Rattle.std.proofs.Common.{ℕ, ◌+◌, ◌≡◌, List, length, drop, subst, arith}
use Rattle.std.proofs.lemmas.List.{length-drop, take_rest}
use Rattle.byte_streams.specs.Search.{IsFirstEnd, NoEndBelow}
use Rattle.byte_streams.proofs.WindowLemmas.{first_joined, none_joined}
use Rattle.byte_streams.proofs.window.line_end_from.Goals as goal

pub returns-in-Some : goal.returns-in-Some
returns-in-Some c =
    let held = c.args.held.now in
    let found = subst (λ (bytes : List ℕ). IsFirstEnd bytes c.in-Some.place) (take_rest held c.args.from) c.in-Some.ensures in
    first_joined held c.args.from c.in-Some.place c.requires.before found

pub returns-in-None : goal.returns-in-None
returns-in-None c =
    let held = c.args.held.now in
    let from = c.args.from in
    let all : from + length (drop from held) ≡ length held = omega (arith, length-drop from held, c.requires.within) in
    let none = subst (λ (bytes : List ℕ). NoEndBelow bytes (length bytes)) (take_rest held from) c.in-None.ensures in
    subst (λ (n : ℕ). NoEndBelow held n) all (none_joined held from (length (drop from held)) c.requires.before none)

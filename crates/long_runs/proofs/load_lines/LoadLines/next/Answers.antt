use Rattle.std.proofs.Common.{sym, ◌∙◌}
use Rattle.long_runs.proofs.LoadLinesLemmas.{none_left, one_more}
use Rattle.long_runs.proofs.load_lines.LoadLines.next.Goals as goal

pub returns-then-self-eq0-clause-taken : goal.returns-then-self-eq0-clause-taken
returns-then-self-eq0-clause-taken c =
    let none = sym c.self.view_is ∙ none_left c.self.inside.left c.self.inside.words c.if-self-eq0.true in
    (none, none)

pub returns-clause-taken : goal.returns-clause-taken
returns-clause-taken c =
    sym c.self.view_is
    ∙ one_more c.self.inside.left c.self.inside.words c.next_word.new.self c.next_word.result c.line_of.result c.if-self-eq0.false c.next_word.ensures c.line_of.ensures.line

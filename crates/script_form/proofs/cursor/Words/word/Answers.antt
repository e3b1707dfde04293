-- The next word ends at the first space, or with the line.
use Rattle.std.proofs.Common.{sym, ap, ◌∙◌}
use Rattle.script_form.specs.Words.{words_left}
use Rattle.script_form.proofs.WordsLemmas.{words_at, words_alone}
use Rattle.script_form.proofs.cursor.Words.word.Goals as goal

pub returns-in-Some : goal.returns-in-Some
returns-in-Some c =
    sym c.self.view_is ∙ ap words_left c.in_ok-line.was
    ∙ words_at c.in_ok-line.line.now c.in-Some.space (sym c.first_space.ensures ∙ c.in-Some.is)

pub returns-in-None : goal.returns-in-None
returns-in-None c =
    sym c.self.view_is ∙ ap words_left c.in_ok-line.was
    ∙ words_alone c.in_ok-line.line.now (sym c.first_space.ensures ∙ c.in-None.is)

-- A line that is left has a word.
use Rattle.std.proofs.Common.{◌≡◌, true, false, ◌∙◌}
use Rattle.script_form.proofs.WordsLemmas.{words_left_some}
use Rattle.script_form.proofs.cursor.Words.end.Goals as goal

pub returns-in-Some : goal.returns-in-Some
returns-in-Some c = (
  λ none. absurd (let e : false ≡ true = none in cc),
  λ none. absurd (words_left_some c.self.inside.rest c.in-Some.field-0 c.in-Some.is (c.self.view_is ∙ none)),
)

use Rattle.std.proofs.Common.{List, ℕ, ◌∷◌, string_bytes, subst, codes}
use Rattle.script_form.specs.Reads.{Reads}
use Rattle.command_line.specs.Model.{IsRequest}
use Rattle.command_line.proofs.WordListLemmas.{two_and_rest}
use Rattle.command_line.proofs.words.load_of.Goals as goal

pub returns-in-len2-up : goal.returns-in-len2-up
returns-in-len2-up c =
    subst (λ (l : List (List ℕ)). Reads (IsRequest (codes "load" ∷ l)) c.load_by.result)
    (two_and_rest string_bytes c.args.others.now _ _ _ _ c.in-len2-up.len_at_least (c.as_str.ensures.value, c.start-item.is) (c.as_str-in-len2-up.ensures.value, c.count-item.is)) c.load_by.ensures

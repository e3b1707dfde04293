use Rattle.std.proofs.Common.{List, ℕ, string_bytes, subst}
use Rattle.script_form.specs.Reads.{Reads}
use Rattle.command_line.specs.Model.{IsRequest}
use Rattle.command_line.proofs.WordListLemmas.{first_and_rest}
use Rattle.command_line.proofs.words.asked_for.Goals as goal

pub returns-in-len1-up : goal.returns-in-len1-up
returns-in-len1-up c =
    subst (λ (l : List (List ℕ)). Reads (IsRequest l) c.request_of.result)
    (first_and_rest string_bytes c.args.words.now _ _ c.in-len1-up.len_at_least (c.as_str.ensures.value, c.first-item.is)) c.request_of.ensures

use Rattle.std.proofs.Common.{List, ℕ, ◌++◌, take, ap, ◌∙◌, ◌*◌, length}
use Rattle.script_form.proofs.EncodeWithLemmas.{front_raised}
use Rattle.script_form.proofs.trace.put_few.Goals as goal

pub returns-clause-items : goal.returns-clause-items
returns-clause-items g c =
    let bytes = c.args.bytes.now in
    c.put_text.ensures.items
    ∙ ap (λ (part : List ℕ). c.args.text.now.items ++ part)
    (ap (take (2 * length bytes)) c.make_ascii_uppercase.ensures.after ∙ front_raised bytes c.put_digits.new.digits _ c.put_digits.ensures)
